-- A blank and the digits, laid down behind the text. Assumes nothing.
use borrow.Author.Rules.{rules}
use native.Mathlib.Omega.{arith}
use Rattle.octets.specs.Split.{mapped_length}
use Rattle.capture_lines.proofs.LineLaws.{word_added, digits_room}
use Rattle.capture_lines.proofs.word.Goals as goal

pub overflow_add-result-2 : goal.overflow_add-result-2
overflow_add-result-2 c = omega (arith, digits_room _ _ (search rules) c.decimal-k.ensures.len)

pub returns : goal.returns
returns c =
    rw (c.lay-2.ensures, c.lay.ensures) (word_added c.args.t c.args.n c.decimal-k.result _ c.requires (search (rules, mapped_length)) (search rules) c.decimal-k.ensures.len c.decimal-k.ensures.digits)
