-- The test is that of the definition. Assumes nothing.
use Rattle.state.specs.Limits.{settings_of}
use Rattle.state.proofs.Receiver.settings_within.Goals as goal

pub returns : goal.returns
unfolding settings_of
returns c = rw c.within.ensures
