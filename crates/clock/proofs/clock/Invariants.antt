-- After i turns the first i senders have aged. Assumes nothing.
use Prim.Native.Nat.{◌≤◌}
use mathlib.Core.Path.{◌≡◌}
use Rattle.rules.specs.calls.Clock.{drops, dies, aged_senders, map_where}
use Rattle.state.specs.State.{senders_most, with_senders}
use Rattle.clock.proofs.clock.Given as goal

abbrev pub invariant-loop-i : goal.invariant-loop-i
invariant-loop-i l =
    (l.count ≤ senders_most) × (l.dropped ≡ map_where (drops l.t l.ms) l.initial.state.senders l.i) × (l.dead ≡ map_where (dies l.ms) l.initial.state.senders l.i)
    × (l.state ≡ with_senders l.initial.state (aged_senders l.t l.ms l.initial.state.senders l.i))
