-- The first numbers have been compared. Assumes nothing.
use Rattle.std.proofs.Common.{refl, add-one}
use Rattle.state.specs.Key.{new_key}
use Rattle.state.proofs.fresh.Goals as goal

pub loop-other-init : goal.loop-other-init
unfolding new_key
loop-other-init c = refl

pub loop-other-preserved : goal.loop-other-preserved
unfolding new_key
loop-other-preserved c = rw (add-one c.loop-other.other-index, c.loop-other.invariant)
