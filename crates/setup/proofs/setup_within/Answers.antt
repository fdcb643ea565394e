-- Each test is that of the definition. Assumes nothing.
use Rattle.rules.specs.calls.Setup.{setup_within}
use Rattle.setup.proofs.setup_within.Goals as goal

pub returns : goal.returns
unfolding setup_within
returns c = rw (c.all_within.ensures, c.within.ensures)
