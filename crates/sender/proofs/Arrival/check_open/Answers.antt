-- Each return is the first row that applies, as far as the tests before it decide the rows. Assumes nothing.
use mathlib.Core.Path.{sym, ◌∙◌}
use Rattle.rules.specs.calls.First.{checked}
use Rattle.rules.specs.calls.Admit.{rejoins}
use Rattle.sender.proofs.Arrival.check_open.Goals as goal

pub returns-then-not-self-eq : goal.returns-then-not-self-eq
unfolding checked rejoins
returns-then-not-self-eq c = simp (rw c.eq.ensures at c.if-not-self-eq.true)

pub returns-then-newer : goal.returns-then-newer
unfolding checked
returns-then-newer c = simp (rw c.eq.ensures at c.if-not-self-eq.false, sym c.newer.ensures ∙ c.if-newer.true)

pub returns-then-not-rejoins : goal.returns-then-not-rejoins
unfolding checked
returns-then-not-rejoins c = simp (rw c.eq.ensures at c.if-not-self-eq.false, sym c.newer.ensures ∙ c.if-newer.false, sym c.rejoins.ensures ∙ c.if-not-rejoins.true)

pub returns-then-not-same_cut : goal.returns-then-not-same_cut
unfolding checked
returns-then-not-same_cut c = simp (sym c.newer.ensures ∙ c.if-newer.false, sym c.rejoins.ensures ∙ c.if-not-rejoins.false, rw c.eq.ensures at c.if-not-self-eq.false, sym c.same_cut.ensures ∙ c.if-not-same_cut.true)

pub returns-then-holds : goal.returns-then-holds
unfolding checked
returns-then-holds c = simp (sym c.newer.ensures ∙ c.if-newer.false, sym c.rejoins.ensures ∙ c.if-not-rejoins.false, rw c.eq.ensures at c.if-not-self-eq.false, sym c.same_cut.ensures ∙ c.if-not-same_cut.false, sym c.holds.ensures ∙ c.if-holds.true)

pub returns : goal.returns
unfolding checked
returns c = simp (sym c.newer.ensures ∙ c.if-newer.false, sym c.rejoins.ensures ∙ c.if-not-rejoins.false, rw c.eq.ensures at c.if-not-self-eq.false, sym c.same_cut.ensures ∙ c.if-not-same_cut.false, sym c.holds.ensures ∙ c.if-holds.false)
