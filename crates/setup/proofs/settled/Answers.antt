-- The empty state, or its table under the settings. Assumes nothing.
use Rattle.setup.specs.private.Settled.{settled}
use Rattle.setup.proofs.settled.Goals as goal

pub returns-then-not-within : goal.returns-then-not-within
unfolding settled
returns-then-not-within c = rw (c.empty-state.ensures, c.if-not-within.true)

pub returns : goal.returns
unfolding settled
returns c =
    rw (c.empty-state.ensures, c.kept-kept.ensures, c.if-not-within.false)
