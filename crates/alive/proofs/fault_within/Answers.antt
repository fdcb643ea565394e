-- The test is that of the definition. Assumes nothing.
use mathlib.Core.Path.{◌∙◌}
use borrow.Author.Tests.{eq-eqb, ne_eqb}
use Rattle.rules.specs.calls.Alive.{fault_within}
use Rattle.alive.proofs.fault_within.Goals as goal

pub returns-then-packet-eq-SIZE : goal.returns-then-packet-eq-SIZE
unfolding fault_within
returns-then-packet-eq-SIZE c = rw (eq-eqb _ 128 c.if-packet-eq-SIZE.true)

pub returns : goal.returns
unfolding fault_within
returns c = c.is_section.ensures ∙ rw (c.from.ensures, ne_eqb _ 128 c.if-packet-eq-SIZE.false)
