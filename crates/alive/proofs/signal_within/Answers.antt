-- Each test is that of the definition. Assumes nothing.
use Rattle.rules.specs.calls.Alive.{alive_within}
use Rattle.alive.proofs.signal_within.Goals as goal

pub returns : goal.returns
unfolding alive_within
returns c = simp (c.group.ensures, c.within.ensures)
