-- Laws of the limits: what one pass over the table needs, and what a valid state says of each sender. Assumes nothing.
use Rattle.std.specs.Prelude.{◌≡◌, refl, Bool, true, false, not, ◌&&◌, List, ℕ, zero, suc, ◌+◌, ◌≤◌, ◌<◌, length, get_or}
use Rattle.std.proofs.Common.{ap₂, ⊎_elim, add-one, arith}
use Rattle.std.proofs.Math.Bool.{and_assoc, and-false}
use Rattle.std.proofs.Math.ListN.{get_or-eq_default}
use Rattle.std.proofs.lemmas.Bool.{lt-leb}
use Rattle.octets.specs.Split.{lt_or_le, never_both, and_left}
use Rattle.state.specs.declared.Address.{Address}
use Rattle.state.specs.declared.Sender.{Sender}
use Rattle.state.specs.declared.Receiver.{Receiver}
use Rattle.state.specs.Limits.{is_address, same_address, sender_within, new_among, given, addresses_within, address_at, senders_within, settings_of, valid}
use Rattle.state.specs.State.{senders_most, no_address, no_sender}

pub new_ext : (f g : ℕ → Address) (k : ℕ) (a : Address) → ((j : ℕ) → j < k → f j ≡ g j) → new_among f k a ≡ new_among g k a
unfolding new_among
new_ext f g zero a h = refl
new_ext f g (suc k) a h =
    ap₂ (λ (x : Bool) (b : Address). x && not (same_address b a)) (new_ext f g k a (λ j q. h j (omega arith))) (h k (omega arith))

-- What is asked of a sender within its limits alone.
and_if : (a b c : Bool) → (a ≡ true → b ≡ c) → a && b ≡ a && c
and_if true b c f = f refl
and_if false b c f = refl

pub within_address : (clock : ℕ) (s : Sender) → sender_within clock s ≡ true → is_address s.address ≡ true
unfolding sender_within
within_address clock s e = and_left (is_address s.address) _ (and_left _ _ (and_left _ _ e))

-- One sender more.
pub senders_more : (clock : ℕ) (l : List Sender) (i : ℕ) (so_far settings within new : Bool)
    → so_far ≡ settings && senders_within clock l i → within ≡ sender_within clock (get_or l i no_sender) → (within ≡ true → new ≡ new_among (address_at l) i (address_at l i))
    → so_far && (within && new) ≡ settings && senders_within clock l (i + 1)
unfolding senders_within
senders_more clock l i so_far settings within new e f g =
    rw (add-one i, e, and_if within new (new_among (address_at l) i (address_at l i)) g, f)
    (and_assoc settings (senders_within clock l i) (sender_within clock (get_or l i no_sender) && new_among (address_at l) i (address_at l i)))

-- A state with more than 16 senders is outside its limits.
pub valid_few : (w : Receiver) → senders_most < w.count → valid w ≡ false
unfolding valid settings_of
valid_few w h = simp (lt-leb w.count senders_most h, and-false)

pub valid_count : (w : Receiver) → valid w ≡ true → w.count ≤ senders_most
valid_count w e = ⊎_elim
    (λ (h : senders_most < w.count). absurd (never_both e (valid_few w h)))
    (λ (h : w.count ≤ senders_most). h)
    (lt_or_le senders_most w.count)

-- One address more.
pub addresses_more : (l : List Address) (i : ℕ) (so_far within new : Bool)
    → so_far ≡ addresses_within l i → within ≡ is_address (given l i) → (within ≡ true → new ≡ new_among (given l) i (given l i))
    → so_far && (within && new) ≡ addresses_within l (i + 1)
unfolding addresses_within
addresses_more l i so_far within new e f g = rw (add-one i, e, and_if within new (new_among (given l) i (given l i)) g, f)

-- More addresses than were given are not within their limits.
pub addresses_few : (l : List Address) (k : ℕ) → length l < k → addresses_within l k ≡ false
unfolding addresses_within
addresses_few l zero h = absurd (omega arith)
addresses_few l (suc k) h =
    let past : get_or l k no_address ≡ no_address = get_or-eq_default l no_address (omega arith) in
    rw past (and-false (addresses_within l k))
