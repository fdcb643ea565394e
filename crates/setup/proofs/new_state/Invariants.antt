-- After i turns the first i senders stand in the table. Assumes nothing.
use Prim.Native.Nat.{◌≤◌}
use mathlib.Core.Path.{◌≡◌}
use lib.ListN.{length}
use Rattle.state.specs.State.{senders_most}
use Rattle.setup.specs.private.Settled.{seated}
use Rattle.setup.proofs.new_state.Given as goal

abbrev pub invariant-loop-i : goal.invariant-loop-i
invariant-loop-i l =
    (l.count ≤ senders_most) × (length l.state.senders ≡ senders_most) × (l.state ≡ seated l.initial.state l.addresses l.i)
