-- The state at its start: what is not there is 0. And a state, and a sender's record, with a part of it changed.
use Rattle.std.specs.Prelude.{ℕ, zero, suc, Bool, false, cond, List, ltb, get_or, replicate}
use Rattle.groups.specs.declared.Groups.{Groups}
use Rattle.groups.specs.Groups.{no_groups}
use Rattle.state.specs.declared.Last.{Last}
use Rattle.state.specs.declared.Message.{Message}
use Rattle.state.specs.declared.Heard.{Heard}
use Rattle.state.specs.declared.Address.{Address}
use Rattle.state.specs.declared.Sender.{Sender}
use Rattle.state.specs.declared.Receiver.{Receiver}

-- "1 to 16 senders"
abbrev pub senders_most : ℕ
senders_most = 16

-- "every last version and number is 0"
abbrev pub no_last : Last
no_last = record { version = record { 0 = 0 }; number = record { 0 = 0 } }

-- "The record of a message not open, the stamp and al_tm_out of a sender not alive, and places past the senders are
-- written 0"
abbrev pub no_message : Message
no_message = record { version = record { 0 = 0 }; number = record { 0 = 0 }; tcd = 0; n = 0; tbn = 0; held = 0; u = 0; map = 0; stamp = 0 }

abbrev pub no_heard : Heard
no_heard = record { stamp = 0; timeout = 0 }

abbrev pub no_address : Address
no_address = record { field = record { 0 = 0 }; node = record { 0 = 0 } }

-- "nobody is heard, nothing is open"
abbrev pub new_sender : Address → Sender
new_sender a = record { address = a; last = no_last; «open» = false; message = no_message; alive = false; heard = no_heard }

abbrev pub no_sender : Sender
no_sender = new_sender no_address

-- The sender at a place of the table.
abbrev pub sender_at : Receiver → ℕ → Sender
sender_at w i = get_or w.senders i no_sender

-- "in table order": the first of the first k senders of which something holds; k where it holds of none.
unfoldable pub first_where : (Sender → Bool) → List Sender → ℕ → ℕ
first_where f l zero = 0
first_where f l (suc k) = cond (ltb (first_where f l k) k) (first_where f l k) (cond (f (get_or l k no_sender)) k (suc k))

-- What setup gives, and no other call changes.
pub record Settings : Type 0 where
  pub test : Bool
  pub n1 : ℕ
  pub t : ℕ
  pub count : ℕ
  -- 02, Item 5: "0 to 8 registered groups"
  pub groups : Groups

abbrev pub settings_from : Receiver → Settings
settings_from w = record { test = w.test; n1 = w.n1; t = w.t; count = w.count; groups = w.groups }

-- A state: its settings, the time and the senders.
abbrev pub state_of : Settings → ℕ → List Sender → Receiver
state_of g clock senders = record { test = g.test; n1 = g.n1; t = g.t; clock = clock; count = g.count; groups = g.groups; senders = senders }

-- "An empty state, with no senders, is what a refused setup returns (online, N1 1, T 1)"
abbrev pub empty_receiver : Receiver
empty_receiver = state_of (record { test = false; n1 = 1; t = 1; count = 0; groups = no_groups }) 0 (replicate senders_most no_sender)

-- ---- with a part changed

-- Settings with other groups.
abbrev pub with_groups : Settings → Groups → Settings
with_groups g groups = record { test = g.test; n1 = g.n1; t = g.t; count = g.count; groups = groups }

-- A state with other senders.
abbrev pub with_senders : Receiver → List Sender → Receiver
with_senders w l = state_of (settings_from w) w.clock l

-- A sender's record with another message, open or not; heard at another time, alive or not; with another last version
-- and number.
abbrev pub with_message : Sender → Bool → Message → Sender
with_message s now-open m = record { address = s.address; last = s.last; «open» = now-open; message = m; alive = s.alive; heard = s.heard }

abbrev pub with_heard : Sender → Bool → Heard → Sender
with_heard s now-alive h = record { address = s.address; last = s.last; «open» = s.«open»; message = s.message; alive = now-alive; heard = h }

abbrev pub with_last : Sender → Last → Sender
with_last s l = record { address = s.address; last = l; «open» = s.«open»; message = s.message; alive = s.alive; heard = s.heard }
