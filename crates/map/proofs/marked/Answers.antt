-- A piece that is not held is marked. Assumes nothing.
use mathlib.Core.Path.{sym, ◌∙◌}
use native.Mathlib.Omega.{arith}
use borrow.Author.Tests.{le-leb, lt-leb}
use Rattle.map.specs.Map.{marked}
use Rattle.map.proofs.MapLaws.{holds_not}
use Rattle.map.proofs.marked.Goals as goal

pub returns-then-c-gt-MOST_PIECES : goal.returns-then-c-gt-MOST_PIECES
unfolding marked
returns-then-c-gt-MOST_PIECES c = rw (lt-leb _ _ c.if-c-gt-MOST_PIECES.true)

pub returns-then-holds : goal.returns-then-holds
unfolding marked
returns-then-holds c = rw (le-leb _ _ c.if-c-gt-MOST_PIECES.false, sym c.holds.ensures ∙ c.if-holds.true)

pub set_bit-requires : goal.set_bit-requires
set_bit-requires c =
    let a = c.args in (
      omega (arith, c.shift_of.ensures),
      rw c.shift_of.ensures (holds_not a.map a.c (sym c.holds.ensures ∙ c.if-holds.false)),
    )

pub returns : goal.returns
unfolding marked
returns c =
    c.set_bit.ensures
    ∙ rw (c.shift_of.ensures, le-leb _ _ c.if-c-gt-MOST_PIECES.false, sym c.holds.ensures ∙ c.if-holds.false)
