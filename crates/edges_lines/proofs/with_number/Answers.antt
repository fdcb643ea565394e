-- The number's four octets are laid down, and then taken into the sum. Assumes nothing.
use Rattle.std.proofs.Common.{refl, ap, ◌∙◌, replicate}
use Rattle.edges_lines.specs.Sum.{sum_from}
use Rattle.edges_lines.proofs.SumLaws.{four_octets}
use Rattle.edges_lines.proofs.with_number.Goals as goal

pub returns : goal.returns
returns c = c.sum_from.ensures ∙ ap (sum_from c.args.s) (c.write4.ensures ∙ four_octets (replicate 4 0) c.args.number refl)
