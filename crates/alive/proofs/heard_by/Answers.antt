-- Each mode leaves what the definition says. Assumes nothing.
use mathlib.Core.Path.{◌∙◌}
use borrow.Author.Tests.{eq-eqb, ne_eqb}
use Rattle.alive.specs.Heard.{heard_in}
use Rattle.alive.proofs.heard_by.Goals as goal

pub returns-then-body-eq1 : goal.returns-then-body-eq1
unfolding heard_in
returns-then-body-eq1 g c = c.with_heard.ensures ∙ rw (eq-eqb _ _ c.if-body-eq1.true)

pub returns : goal.returns
unfolding heard_in
returns g c = c.with_heard-2.ensures ∙ rw (ne_eqb _ _ c.if-body-eq1.false)
