-- The library's octets of a number are ours. Assumes nothing.
use Rattle.std.proofs.Common.{◌∙◌, ap}
use Rattle.octets.specs.Run.{laid}
use Rattle.octets.proofs.NumberLaws.{be_octets}
use Rattle.octets.proofs.write2.Goals as goal

pub returns : goal.returns
returns c = c.lay.ensures ∙ ap (laid _ _) (c.to_be_bytes.ensures ∙ be_octets 2 _)
