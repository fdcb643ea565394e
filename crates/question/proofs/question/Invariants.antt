-- The walk to the first missing piece: senders before it have nothing open, pieces before it are held. Assumes nothing.
use Rattle.std.proofs.Common.{◌≡◌, ℕ, ◌+◌, ◌<◌, ◌≤◌, true, false, None}
use Rattle.map.specs.Map.{holds}
use Rattle.state.specs.State.{senders_most, sender_at}
use Rattle.question.proofs.question.Given as goal

abbrev pub invariant-loop-k : goal.invariant-loop-k
invariant-loop-k l = ((j : ℕ) → j < l.k → holds l.s.message.map (j + 1) ≡ true) × (l.missing ≡ None)

abbrev pub invariant-senders : goal.invariant-senders
invariant-senders l = (l.count ≤ senders_most) × ((j : ℕ) → j < l.i → (sender_at l.state j).«open» ≡ false) × (l.missing ≡ None)
