-- One pass over the table. Assumes nothing.
use Rattle.std.specs.Prelude.{◌≡◌, Bool, true, false, cond, ◌&&◌, List, ℕ, ◌+◌, ltb}
use Rattle.std.proofs.Math.Path.{sym}
use Rattle.std.proofs.Common.{◌∙◌, add-one}
use Rattle.header.specs.declared.Head.{Head}
use Rattle.state.specs.declared.Address.{Address}
use Rattle.state.specs.declared.Look.{Look}
use Rattle.state.specs.declared.Sender.{Sender}
use Rattle.state.specs.declared.Receiver.{Receiver}
use Rattle.state.specs.Limits.{same_address, address_at, settings_within, senders_within, valid}
use Rattle.state.specs.State.{first_where}
use Rattle.state.specs.Table.{source, find, found, look_at}

-- One sender more.
pub find_more : (l : List Sender) (a : Address) (i at next : ℕ) (here : Bool) → at ≡ find l a i → here ≡ same_address (address_at l i) a
    → next ≡ cond (ltb at i) at (cond here i (i + 1)) → next ≡ find l a (i + 1)
unfolding first_where
find_more l a i at next here e f g = rw (g, e, f, add-one i)

pub look_outside : (w : Receiver) (a : Address) → valid w ≡ false → record { valid = false; at = 0 } ≡ look_at w a
unfolding look_at
look_outside w a e = rw e

-- The whole pass has judged the state, and found the place where it is within its limits.
module _ (w : Receiver) (a : Address) (settings all : Bool) (i at : ℕ) (e : i ≡ w.count) (s : settings ≡ settings_within w)
    (v : all ≡ settings && senders_within w.clock w.senders i) where
  judged : all ≡ valid w
  unfolding valid
  judged = rw (v, s, e)

  pub passed_outside : all ≡ false → record { valid = false; at = 0 } ≡ look_at w a
  passed_outside n = look_outside w a (sym judged ∙ n)

  pub passed_within : all ≡ true → at ≡ find w.senders a i → record { valid = all; at = at } ≡ look_at w a
  unfolding look_at
  passed_within y f = rw (y, sym judged ∙ y, f, e)

pub look_valid : (w : Receiver) (a : Address) (l : Look) → l ≡ look_at w a → l.valid ≡ valid w
unfolding look_at
look_valid w a l e = rw e

-- The pass finds the sender's place in every state that is within its limits, and in no other is it asked for.
pub look_place : (w : Receiver) (h : Head) (l : Look) → l ≡ look_at w (source h) → l.valid ≡ true → l.at ≡ found w h
unfolding look_at
look_place w h l e v =
    let ok : valid w ≡ true = rw e at v in
    rw (e, ok)
