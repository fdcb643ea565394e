-- How many pieces are held for a sender, as the maintenance page asks. 02, Item 1: "Keep the number in the open message's
-- record."
use Rattle.std.specs.Prelude.{ℕ, cond, ◌&&◌, ltb}
use Rattle.state.specs.declared.Receiver.{Receiver}
use Rattle.state.specs.State.{sender_at}

-- The number kept of the sender at a place: 0 past the senders, and where nothing is open.
unfoldable pub held_at : Receiver → ℕ → ℕ
held_at w i = cond (ltb i w.count && (sender_at w i).«open») (sender_at w i).message.held 0
