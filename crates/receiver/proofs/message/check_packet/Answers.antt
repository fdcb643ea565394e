-- Each return is the refusal of the first row that applies. Assumes nothing.
use mathlib.Core.Path.{sym, ◌∙◌}
use borrow.Author.Tests.{eq-eqb, ne_eqb, le-leb, lt-leb}
use Rattle.rules.specs.calls.First.{checked}
use Rattle.receiver.proofs.message.check_packet.Goals as goal

pub returns-then-not-valid : goal.returns-then-not-valid
unfolding checked
returns-then-not-valid c = rw c.if-not-valid.true

pub returns-then-room-count : goal.returns-then-room-count
unfolding checked
returns-then-room-count c = simp (c.if-not-valid.false, ne_eqb _ _ c.if-room-count.true)

pub returns-then-length_outside : goal.returns-then-length_outside
unfolding checked
returns-then-length_outside c = simp (c.if-not-valid.false, eq-eqb _ _ c.if-room-count.false, sym c.length_outside.ensures ∙ c.if-length_outside.true)

pub returns-then-not-head_within : goal.returns-then-not-head_within
unfolding checked
returns-then-not-head_within c = simp (c.if-not-valid.false, eq-eqb _ _ c.if-room-count.false, sym c.length_outside.ensures ∙ c.if-length_outside.false, sym c.head_within.ensures ∙ c.if-not-head_within.true)

pub returns-then-count-at : goal.returns-then-count-at
unfolding checked
returns-then-count-at c = simp (c.if-not-valid.false, eq-eqb _ _ c.if-room-count.false, sym c.length_outside.ensures ∙ c.if-length_outside.false, sym c.head_within.ensures ∙ c.if-not-head_within.false, le-leb _ _ c.if-count-at.true)

pub returns-else-count-at : goal.returns-else-count-at
unfolding checked
returns-else-count-at c = simp (c.if-not-valid.false, eq-eqb _ _ c.if-room-count.false, sym c.length_outside.ensures ∙ c.if-length_outside.false, sym c.head_within.ensures ∙ c.if-not-head_within.false, lt-leb _ _ c.if-count-at.false)
