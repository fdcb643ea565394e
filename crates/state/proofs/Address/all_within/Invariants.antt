-- After i turns the first i addresses have been judged. Assumes nothing.
use Prim.Native.Nat.{◌≤◌}
use mathlib.Core.Path.{◌≡◌}
use lib.ListN.{length}
use Rattle.state.specs.Limits.{given, addresses_within}
use Rattle.state.specs.State.{senders_most}
use Rattle.state.proofs.KeyLaws.{Seen}
use Rattle.state.proofs.Address.all_within.Given as goal

abbrev pub invariant-loop-i : goal.invariant-loop-i
invariant-loop-i l =
    (l.count ≤ senders_most) × (length l.seen ≡ senders_most) × Seen l.seen (given l.fn.senders) l.i × (l.within ≡ addresses_within l.fn.senders l.i)
