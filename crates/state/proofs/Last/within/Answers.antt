-- The test is that of the definition. Assumes nothing.
use mathlib.Core.Path.{refl}
use Rattle.state.specs.Limits.{last_within}
use Rattle.state.proofs.Last.within.Goals as goal

pub returns : goal.returns
unfolding last_within
returns c = refl
