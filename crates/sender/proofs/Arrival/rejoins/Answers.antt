-- The test is that of the definition. Assumes nothing.
use Rattle.rules.specs.calls.Admit.{rejoins}
use Rattle.sender.proofs.Arrival.rejoins.Goals as goal

pub returns : goal.returns
unfolding rejoins
returns c = rw (c.eq.ensures, c.eq-2.ensures)
