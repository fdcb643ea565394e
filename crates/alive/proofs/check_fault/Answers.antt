-- The row applies where the test fails. Assumes nothing.
use Rattle.rules.specs.calls.First.{checked}
use Rattle.alive.proofs.check_fault.Goals as goal

pub returns-then-fault_within : goal.returns-then-fault_within
unfolding checked
returns-then-fault_within c = rw (← c.fault_within.ensures, c.if-fault_within.true)

pub returns-else-fault_within : goal.returns-else-fault_within
unfolding checked
returns-else-fault_within c = rw (← c.fault_within.ensures, c.if-fault_within.false)
