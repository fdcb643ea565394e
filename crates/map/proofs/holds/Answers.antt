-- No bit past the 64th is set. Assumes nothing.
use mathlib.Core.Path.{sym, ◌∙◌}
use native.Mathlib.Omega.{arith}
use Rattle.map.proofs.MapLaws.{holds_above}
use Rattle.map.proofs.holds.Goals as goal

pub returns-then-c-gt-MOST_PIECES : goal.returns-then-c-gt-MOST_PIECES
returns-then-c-gt-MOST_PIECES c = let a = c.args in sym (holds_above a.map a.c (omega arith) c.if-c-gt-MOST_PIECES.true)

pub returns : goal.returns
returns c = c.bit_of.ensures ∙ rw c.shift_of.ensures
