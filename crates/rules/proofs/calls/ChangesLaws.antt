-- What a message call changes: "A piece of several changes exactly its p octets in its sender's area.", "A message of
-- one piece is delivered at once and storage is untouched.", and of the state no other sender's record. Assumes
-- nothing.
use Rattle.std.specs.Prelude.{◌≡◌, refl, ◌≢◌, ◌⊎◌, List, ℕ, ◌+◌, ◌*◌, ◌≤◌, ◌<◌, length}
use Rattle.std.proofs.Common.{◌∙◌, inl, inr, ⊎_elim, arith, get_or-set_other, eq-eqb, ne_eqb}
use Rattle.octets.specs.Number.{octet}
use Rattle.octets.specs.Run.{run, laid}
use Rattle.octets.proofs.RunLaws.{laid_in, laid_out, length_run, octet_run}
use Rattle.octets.specs.Split.{lt_or_le, eq_or_ne}
use Rattle.header.specs.declared.Head.{Head}
use Rattle.header.specs.Head.{head_of}
use Rattle.header.specs.Places.{header_size}
use Rattle.cut.specs.Possible.{own_place, own_length}
use Rattle.cut.proofs.PossibleLaws.{possible_facts, possible_within}
use Rattle.state.specs.declared.Sender.{Sender}
use Rattle.state.specs.declared.Receiver.{Receiver}
use Rattle.answers.specs.declared.Answer.{Answer}
use Rattle.answers.specs.declared.Noted.{Noted}
use Rattle.rules.specs.calls.Alive.{alive_rows, alive_answer}
use Rattle.rules.proofs.calls.FirstLaws.{checked_none, check_case}
use Rattle.rules.specs.calls.Message.{area, message_rows, message_number, storage_after, with_sender, taken, refused, message_answer, message_storage}
use Rattle.state.specs.Table.{found}
use Rattle.rules.proofs.calls.MessageLaws.{taken_facts}
use Rattle.state.specs.State.{no_sender, sender_at, settings_from}

-- ---- storage

-- Areas lie one behind the other.
areas : (i k : ℕ) → i < k → i * area + area ≤ k * area
areas i k h = omega arith

-- What a PDU to which no number applies does to the storage.
module _ (w : Receiver) (storage packet : List ℕ) (none : message_number w (length storage) packet ≡ 0) where
  -- The PDU's header, its sender's place in the table, and where its piece starts in the storage.
  abbrev h : Head
  h = head_of packet

  abbrev i : ℕ
  i = found w h

  abbrev start : ℕ
  start = i * area + own_place h.cut

  after_is : message_storage w storage packet ≡ storage_after storage i h packet
  unfolding message_storage
  after_is = rw (checked_none (message_rows w (length storage) packet) none)

  -- "A message of one piece is delivered at once and storage is untouched."
  pub one_untouched : h.cut.tbn ≡ 1 → message_storage w storage packet ≡ storage
  unfolding storage_after
  one_untouched e = after_is ∙ rw (eq-eqb h.cut.tbn 1 e)

  -- The piece lies within its sender's area, and the area within the storage.
  pub own_area : start + own_length h.cut ≤ i * area + area
  own_area =
      let p = (taken_facts w (length storage) packet none).1.cut_possible in
      omega (arith, possible_within h.cut p, (possible_facts h.cut p).big)

  pub area_there : i * area + area ≤ length storage
  area_there =
      let f = (taken_facts w (length storage) packet none).0 in
      omega (arith, f.room_right, areas i w.count f.registered)

  piece_length_lem : length (run header_size (own_length h.cut) packet) ≡ own_length h.cut
  piece_length_lem =
      let f = taken_facts w (length storage) packet none in
      length_run header_size (own_length h.cut) packet (omega (arith, f.0.size, (possible_facts h.cut f.1.cut_possible).own_room))

  module _ (several : h.cut.tbn ≢ 1) where
    laid_is : message_storage w storage packet ≡ laid storage start (run header_size (own_length h.cut) packet)
    unfolding storage_after
    laid_is = after_is ∙ rw (ne_eqb h.cut.tbn 1 several)

    fits : start + length (run header_size (own_length h.cut) packet) ≤ length storage
    fits = omega (arith, piece_length_lem, own_area, area_there)

    -- "A piece of several changes … its p octets": they are those behind the header,
    pub piece_in : (j : ℕ) → j < own_length h.cut → octet (message_storage w storage packet) (start + j) ≡ octet packet (header_size + j)
    piece_in j q =
        rw laid_is
        (laid_in storage start (run header_size (own_length h.cut) packet) fits j (omega (arith, piece_length_lem))
        ∙ octet_run header_size (own_length h.cut) packet j q)

    -- and "exactly" them.
    pub piece_out : (j : ℕ) → (j < start) ⊎ (start + own_length h.cut ≤ j) → octet (message_storage w storage packet) j ≡ octet storage j
    piece_out j q = rw laid_is (laid_out storage start (run header_size (own_length h.cut) packet) fits j (rw piece_length_lem q))

  -- No octet of another sender's area changes.
  pub other_area : (k j : ℕ) → k ≢ i → j < area → octet (message_storage w storage packet) (k * area + j) ≡ octet storage (k * area + j)
  other_area k j ne q = ⊎_elim
      (λ (e : h.cut.tbn ≡ 1). rw (one_untouched e))
      (λ (several : h.cut.tbn ≢ 1). piece_out several (k * area + j) (⊎_elim
      (λ (x : k < i). inl (omega (arith, areas k i x)))
      (λ (x : i ≤ k). inr (omega (arith, own_area, areas i k (omega arith))))
      (lt_or_le k i)))
      (eq_or_ne h.cut.tbn 1)

-- ---- the state

-- Two states that differ at most in one sender's record.
pub record OnlySender (i : ℕ) (w v : Receiver) : Type 0 where
  pub same_settings : settings_from v ≡ settings_from w
  pub same_clock : v.clock ≡ w.clock
  pub same_others : (k : ℕ) → k ≢ i → sender_at v k ≡ sender_at w k

only_none : (i : ℕ) (w : Receiver) → OnlySender i w w
only_none i w = record { same_settings = refl; same_clock = refl; same_others = λ k ne. refl }

only_one : (i : ℕ) (w : Receiver) (s : Sender) → OnlySender i w (with_sender w i s)
unfolding with_sender
only_one i w s = record { same_settings = refl; same_clock = refl; same_others = λ k ne. get_or-set_other w.senders i k s no_sender ne }

-- A message call, whatever it answers, changes nothing of another sender's record,
pub message_only : (w : Receiver) (room : ℕ) (packet : List ℕ) → OnlySender (found w (head_of packet)) w (message_answer w room packet).state
unfolding message_answer taken refused
message_only w room packet =
    let i = found w (head_of packet) in
    check_case (λ (a : Answer). OnlySender i w a.state) (message_rows w room packet) _ _ (λ e. only_one i w _) (λ r e. only_none i w)

-- nor does an alive call.
pub alive_only : (w : Receiver) (packet : List ℕ) → OnlySender (found w (head_of packet)) w (alive_answer w packet).state
unfolding alive_answer
alive_only w packet =
    let i = found w (head_of packet) in
    check_case (λ (a : Noted). OnlySender i w a.state) (alive_rows w packet) _ _ (λ e. only_one i w _) (λ r e. only_none i w)
