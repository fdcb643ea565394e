-- Every turn reads at most one field, and there are turns enough. No contract of a program says what it read or wrote,
-- but what it holds between turns is known: after so many turns it is what a run of so many whole fields left
-- (`OfRun`), and so the state and the storage that is lent to it are those that a past left (`run_past`). Assumes
-- nothing.
use Rattle.std.proofs.Common.{◌≡◌, length}
use Rattle.capture_run.specs.Run.{OfRun}
use Rattle.capture.proofs.main.Given as goal

abbrev pub invariant-loop-turn : goal.invariant-loop-turn
invariant-loop-turn l = (length l.storage ≡ 65536) × OfRun l.initial.storage l._turn (record { state = l.state; room = l.storage })
