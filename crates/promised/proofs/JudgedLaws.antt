-- The calls judge a PDU as 01's words do. Assumes nothing.
use Rattle.std.specs.Prelude.{ℕ, ◌%◌, ◌≡◌, refl, Bool, true, false, not, ◌&&◌, ◌||◌, List, eqb, leb, ltb, length}
use Rattle.std.proofs.Common.{⊎_elim, le-leb, le-ltb, lt-ltb}
use Rattle.std.proofs.lemmas.Bool.{lt-leb}
use Rattle.octets.specs.Split.{lt_or_le}
use Rattle.header.specs.Codes.{within}
use Rattle.header.proofs.CodesLaws.{user_within, alive_only}
use Rattle.header.specs.Head.{head_of, length_outside}
use Rattle.signal.specs.Alive.{body_of, is_body}
use Rattle.rules.specs.calls.Alive.{alive_length_wrong, alive_head_within, alive_within, fault_within}
use Rattle.rules.specs.calls.Message.{length_wrong, head_within}
use Rattle.promised.specs.Judged.{has_length, is_message, in_order, is_alive, has_body, has_section}

not_below : (a b : ℕ) → ltb a b ≡ not (leb b a)
not_below a b = ⊎_elim (λ h. rw (lt-ltb a b h, lt-leb b a h)) (λ h. rw (le-ltb a b h, le-leb b a h)) (lt_or_le a b)

turned : (a b c : Bool) → not a || not b || not c ≡ not (a && b && c)
turned true true c = refl
turned true false c = refl
turned false b c = refl

outside_is : (least most : ℕ) (packet : List ℕ) → length_outside least most (length packet) (head_of packet) ≡ not (has_length least most packet)
outside_is least most packet =
    let k = length packet in
    rw (not_below k least, not_below most k) (turned (leb least k) (leb k most) (eqb k (head_of packet).cut.bsize))

pub message_length_lem : (packet : List ℕ) → length_wrong (length packet) (head_of packet) ≡ not (has_length 64 1460 packet)
message_length_lem packet = outside_is 64 1460 packet

pub cast_length : (packet : List ℕ) → length_outside 64 1472 (length packet) (head_of packet) ≡ not (has_length 64 1472 packet)
cast_length packet = outside_is 64 1472 packet

pub alive_length : (packet : List ℕ) → alive_length_wrong (length packet) (head_of packet) ≡ not (has_length 128 1472 packet)
alive_length packet = outside_is 128 1472 packet

pub message_head : (packet : List ℕ) → head_within packet (head_of packet) ≡ is_message packet
unfolding head_within
message_head packet = rw (user_within (head_of packet).given.tcd)

-- A packet in order meets neither 12 nor 13.
pub in_order_is : (packet : List ℕ) → in_order packet ≡ not (length_wrong (length packet) (head_of packet)) && head_within packet (head_of packet)
unfolding in_order
in_order_is packet = rw (message_length_lem packet, message_head packet) (twice (has_length 64 1460 packet))
  where
    twice : (b : Bool) → b && is_message packet ≡ not (not b) && is_message packet
    twice true = refl
    twice false = refl

pub alive_head : (packet : List ℕ) → alive_head_within packet (head_of packet) ≡ is_alive packet
unfolding alive_head_within
alive_head packet = rw (alive_only (head_of packet).given.tcd)

apart : (a b c d : Bool) → a && (b && c && d) ≡ a && b && c && d
apart true b c d = refl
apart false b c d = refl

pub alive_body : (packet : List ℕ) → alive_within (length packet) (head_of packet) (body_of packet) ≡ has_body packet
unfolding alive_within is_body
alive_body packet =
    let h = head_of packet in
    apart (eqb h.cut.ml (length packet) && eqb h.cut.cbn 1 && eqb h.cut.tbn 1 && eqb (h.given.da % 65536) 0)
    (eqb (body_of packet).protocol 4) (eqb (body_of packet).ver 1) (within 1 3 (body_of packet).mode)

pub alive_section : (packet : List ℕ) → fault_within packet ≡ has_section packet
unfolding fault_within
alive_section packet = refl
