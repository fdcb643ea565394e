-- What stands in the fields of docs/EDGES.md, "The calls as fields": an address, groups, and the values of damage.
use Rattle.std.specs.Prelude.{ℕ, ◌%◌, List, [], ◌∷◌, eqb, drop, set}
use Rattle.octets.specs.Number.{number}
use Rattle.groups.specs.declared.Group.{Group}
use Rattle.groups.specs.declared.Groups.{Groups}
use Rattle.state.specs.declared.Address.{Address}
use Rattle.state.specs.declared.Message.{Message}
use Rattle.state.specs.declared.Receiver.{Receiver}
use Rattle.state.specs.declared.Sender.{Sender}
use Rattle.state.specs.State.{senders_most, with_senders}

-- "data field (1) and node (2)"
abbrev pub address_in : List ℕ → Address
address_in s = record { field = record { 0 = number 1 s 0 }; node = record { 0 = number 2 s 1 } }

abbrev pub group_at : List ℕ → ℕ → Group
group_at s at = record { 0 = number 1 s at }

-- "number of groups (1), the eight group places (1 each)"
abbrev pub groups_in : List ℕ → Groups
groups_in s = record {
  count = number 1 s 0;
  list = group_at s 1 ∷ group_at s 2 ∷ group_at s 3 ∷ group_at s 4 ∷ group_at s 5 ∷ group_at s 6 ∷ group_at s 7 ∷ group_at s 8 ∷ [];
}

-- "test (1), n1 (2), t (4), clock (8), count (1), number of groups (1), the eight group places (1 each) of the state in use become
-- these"
abbrev pub with_settings : Receiver → List ℕ → Receiver
with_settings w s = record {
  test = eqb (number 1 s 0) 1;
  n1 = number 2 s 1;
  t = number 4 s 3;
  clock = number 8 s 7;
  count = number 1 s 15;
  senders = w.senders;
  groups = groups_in (drop 16 s);
}

-- "place (1), field (1), node (2), rv (4), r (4), open (1), version (4), number (4), tcd (2), n (2), tbn (1), u (2), map (8), held (1),
-- stamp (8), alive (1), heard-stamp (8), al_tm_out (4)"
abbrev pub message_in : List ℕ → Message
message_in s = record {
  version = record { 0 = number 4 s 13 };
  number = record { 0 = number 4 s 17 };
  tcd = number 2 s 21;
  n = number 2 s 23;
  tbn = number 1 s 25;
  u = number 2 s 26;
  map = number 8 s 28;
  held = number 1 s 36;
  stamp = number 8 s 37;
}

abbrev pub sender_in : List ℕ → Sender
sender_in s = record {
  address = address_in (drop 1 s);
  last = record { version = record { 0 = number 4 s 4 }; number = record { 0 = number 4 s 8 } };
  «open» = eqb (number 1 s 12) 1;
  message = message_in s;
  alive = eqb (number 1 s 45) 1;
  heard = record { stamp = number 8 s 46; timeout = number 4 s 54 };
}

-- "the record at a place becomes this one": a state has 16 places.
abbrev pub damaged_sender : Receiver → List ℕ → Receiver
damaged_sender w s = with_senders w (set w.senders (number 1 s 0 % senders_most) (sender_in s))
