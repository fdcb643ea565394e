-- Each return is the first row that applies, as far as the tests before it decide the rows. Assumes nothing.
use mathlib.Core.Path.{sym, ap, ◌∙◌}
use Rattle.ring.specs.Check.{is_repeat}
use Rattle.rules.specs.calls.Admit.{sender_rows}
use Rattle.rules.specs.calls.First.{checked}
use Rattle.sender.proofs.Arrival.check.Goals as goal

pub returns-then-self-test : goal.returns-then-self-test
unfolding checked sender_rows
returns-then-self-test c = simp c.if-self-test.true

pub returns-then-not-possible : goal.returns-then-not-possible
unfolding checked sender_rows
returns-then-not-possible c = simp (c.if-self-test.false, sym c.possible.ensures ∙ c.if-not-possible.true)

pub returns-then-is_repeat : goal.returns-then-is_repeat
unfolding checked sender_rows
returns-then-is_repeat c =
    simp (
      c.if-self-test.false,
      sym c.possible.ensures ∙ c.if-not-possible.false,
      sym (ap is_repeat c.verdict.ensures) ∙ sym c.is_repeat.ensures ∙ c.if-is_repeat.true,
    )

pub returns : goal.returns
unfolding checked sender_rows
returns c =
    c.check_open.ensures ∙ simp (
      c.if-self-test.false,
      sym c.possible.ensures ∙ c.if-not-possible.false,
      sym (ap is_repeat c.verdict.ensures) ∙ sym c.is_repeat.ensures ∙ c.if-is_repeat.false,
    )
