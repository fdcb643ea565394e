-- Registered, or 25. Assumes nothing.
use mathlib.Core.Path.{sym}
use borrow.Author.Tests.{le-leb, lt-leb}
use Rattle.rules.specs.calls.First.{checked}
use Rattle.multicast.proofs.check_group.Goals as goal

pub returns-then-groups-place : goal.returns-then-groups-place
unfolding checked
returns-then-groups-place c = simp (sym c.place.ensures, le-leb _ _ c.if-groups-place.true)

pub returns-else-groups-place : goal.returns-else-groups-place
unfolding checked
returns-else-groups-place c = simp (sym c.place.ensures, lt-leb _ _ c.if-groups-place.false)
