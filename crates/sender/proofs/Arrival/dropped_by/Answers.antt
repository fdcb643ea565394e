-- The test is that of the definition. Assumes nothing.
use Rattle.rules.specs.calls.Admit.{dropped_by}
use Rattle.sender.proofs.Arrival.dropped_by.Goals as goal

pub returns-then-self-same_version : goal.returns-then-self-same_version
unfolding dropped_by
returns-then-self-same_version c = rw (← c.newer.ensures, ← c.eq-same_version.ensures, c.if-self-same_version.true)

pub returns : goal.returns
unfolding dropped_by
returns c = rw (← c.newer.ensures, ← c.eq-same_version.ensures, c.if-self-same_version.false)
