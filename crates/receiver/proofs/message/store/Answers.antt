-- A place is within what 64 bits hold, whatever the cut says. Assumes nothing.
use mathlib.Core.Path.{◌∙◌}
use native.Mathlib.Omega.{arith}
use borrow.Author.Tests.{eq-eqb, ne_eqb}
use Rattle.cut.proofs.PossibleLaws.{place_most}
use Rattle.rules.specs.calls.Message.{storage_after}
use Rattle.receiver.proofs.message.store.Goals as goal

pub overflow_add-start : goal.overflow_add-start
overflow_add-start c =
    omega (arith, c.own_place.ensures, place_most c.args.h.cut (omega arith) (omega arith) (omega arith))

pub returns-then-cut-ne1 : goal.returns-then-cut-ne1
unfolding storage_after
returns-then-cut-ne1 c =
    c.lay.ensures ∙ rw (ne_eqb _ _ c.if-cut-ne1.true, c.run.ensures, c.own_length.ensures, c.own_place.ensures)

pub returns-else-cut-ne1 : goal.returns-else-cut-ne1
unfolding storage_after
returns-else-cut-ne1 c = rw (eq-eqb _ _ c.if-cut-ne1.false)
