-- The table of senders: which place a PDU's sender stands at.
use Rattle.std.specs.Prelude.{ℕ, cond, List}
use Rattle.header.specs.declared.Head.{Head}
use Rattle.state.specs.declared.Address.{Address}
use Rattle.state.specs.declared.Look.{Look}
use Rattle.state.specs.declared.Sender.{Sender}
use Rattle.state.specs.declared.Receiver.{Receiver}
use Rattle.state.specs.Limits.{valid, same_address}
use Rattle.state.specs.State.{first_where}

-- Where a PDU comes from.
abbrev pub source : Head → Address
source h = record { field = h.given.field; node = h.given.node }

-- The first of the first k senders with this address; k where none has it.
abbrev pub find : List Sender → Address → ℕ → ℕ
find l a k = first_where (λ s. same_address s.address a) l k

abbrev pub found : Receiver → Head → ℕ
found w h = find w.senders (source h) w.count

-- What one pass over the table finds: whether the state is within its limits, and the place, which is looked for where
-- it is.
unfoldable pub look_at : Receiver → Address → Look
look_at w a = record { valid = valid w; at = cond (valid w) (find w.senders a w.count) 0 }
