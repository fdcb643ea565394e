-- Each return is the refusal of the first row that applies, and where none does the verdict. Assumes nothing.
use mathlib.Core.Path.{sym, ap, ◌∙◌}
use Rattle.ring.specs.Check.{is_repeat}
use Rattle.multicast.proofs.LentLaws.{early_refused, late_mode, late_cut, late_repeat, late_none}
use Rattle.multicast.proofs.Cast.outcome.Goals as goal

pub returns-in-Err : goal.returns-in-Err
returns-in-Err c = c.refused.ensures ∙ early_refused _ _ _ _ _ _ (sym c.check_early.ensures ∙ c.in-Err.is)

pub returns-then-self : goal.returns-then-self
returns-then-self c =
    c.refused-then-self.ensures ∙ late_mode _ _ _ _ _ (sym c.check_early.ensures ∙ c.in_default.is) c.if-self.true

pub returns-then-not-one_piece : goal.returns-then-not-one_piece
returns-then-not-one_piece c =
    c.refused-then-not-one_piece.ensures
    ∙ late_cut _ _ _ _ _ (sym c.check_early.ensures ∙ c.in_default.is) c.if-self.false (sym c.one_piece.ensures ∙ c.if-not-one_piece.true)

pub returns-then-is_repeat : goal.returns-then-is_repeat
returns-then-is_repeat c =
    rw (c.age.ensures, c.verdict-verdict.ensures) (late_repeat _ _ _ _ _ (sym c.check_early.ensures ∙ c.in_default.is) c.if-self.false (sym c.one_piece.ensures ∙ c.if-not-one_piece.false)
    (sym (ap is_repeat c.verdict-verdict.ensures) ∙ sym c.is_repeat.ensures ∙ c.if-is_repeat.true))

pub returns : goal.returns
returns c =
    rw c.verdict-verdict.ensures (late_none _ _ _ _ _ (sym c.check_early.ensures ∙ c.in_default.is) c.if-self.false (sym c.one_piece.ensures ∙ c.if-not-one_piece.false)
    (sym (ap is_repeat c.verdict-verdict.ensures) ∙ sym c.is_repeat.ensures ∙ c.if-is_repeat.false))
