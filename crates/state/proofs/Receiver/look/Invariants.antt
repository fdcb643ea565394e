-- After i turns the first i senders have been judged, found and seen. Assumes nothing.
use Prim.Native.Nat.{◌≤◌}
use mathlib.Core.Path.{◌≡◌}
use mathlib.Core.Bool.{◌&&◌}
use lib.ListN.{length}
use Rattle.state.specs.Limits.{senders_within, address_at}
use Rattle.state.proofs.KeyLaws.{Seen}
use Rattle.state.specs.Table.{find}
use Rattle.state.specs.State.{senders_most}
use Rattle.state.proofs.Receiver.look.Given as goal

abbrev pub invariant-loop-i : goal.invariant-loop-i
invariant-loop-i l =
    (l.count ≤ senders_most) × (length l.seen ≡ senders_most) × Seen l.seen (address_at l.fn.self.senders) l.i
    × (l.valid ≡ l.initial.valid && senders_within l.clock l.fn.self.senders l.i) × (l.at ≡ find l.fn.self.senders l.a l.i)
