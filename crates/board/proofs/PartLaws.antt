-- Where the delivered octets lie, in numbers, is the part that `part` hands over, within what was lent. Assumes nothing.
use Rattle.std.specs.Prelude.{ℕ, ◌+◌, ◌-◌, ◌*◌, ◌≤◌, ◌<◌, ◌≡◌, refl, ◌≢◌, eqb, take, drop}
use Rattle.std.proofs.Math.Path.{sym}
use Rattle.std.proofs.Common.{ap, ◌∙◌, length-take, length-drop, take_all, length-take-le, eq-eqb, ne_eqb, le-leb}
use Rattle.std.proofs.Math.Logic.{⊎_elim}
use mathlib.Core.List.{List, [], ◌∷◌}
use native.Mathlib.Omega.{arith}
use Rattle.std.proofs.Math.ListN.{length}
use Rattle.std.proofs.Math.Seq.{take-length}
use Rattle.octets.specs.Run.{run}
use Rattle.octets.proofs.RunLaws.{length_laid}
use Rattle.octets.specs.Split.{lt_or_le, eq_or_ne, cond_case}
use Rattle.header.specs.declared.Head.{Head}
use Rattle.header.specs.Head.{head_of}
use Rattle.header.specs.Places.{header_size}
use Rattle.cut.specs.Possible.{message_length}
use Rattle.cut.proofs.PossibleLaws.{possible_facts}
use Rattle.state.specs.declared.Receiver.{Receiver}
use Rattle.state.specs.State.{sender_at}
use Rattle.state.specs.Table.{found}
use Rattle.answers.specs.declared.Outcome.{Outcome}
use Rattle.answers.specs.declared.Outcome.TheVariants.{Refused, Stored, Delivered}
use Rattle.answers.specs.declared.Where.{Where}
use Rattle.answers.specs.declared.Where.TheVariants.{Nothing, Packet, Storage}
use Rattle.rules.specs.calls.Admit.{admitted}
use Rattle.rules.specs.calls.Message.{area, message_rows, message_number, message_answer, message_storage, storage_after, lies_at, where_by, taken, refused}
use Rattle.rules.proofs.calls.FirstLaws.{checked_none, refusal_given, check_case}
use Rattle.rules.proofs.calls.MessageLaws.{taken_facts}
use Rattle.rules.specs.calls.Part.{part_of, stored_part}
use Rattle.fault.specs.Places.{count_at, options_in}
use Rattle.fault.specs.Reading.{options_of}
use Rattle.board.specs.Calls.{part_start, part_length, options_for}

-- A part of octets that were lent: from a place on, so many, and all of them there.
pub record Lies (octets : List ℕ) (start n : ℕ) (part : List ℕ) : Type 0 where
  pub is : part ≡ run start n octets
  pub within : start + n ≤ length octets

-- Where the answer says that the octets lie they do.
abbrev pub LiesIn : Where → List ℕ → List ℕ → Type 0
LiesIn Nothing packet storage = part_of Nothing packet storage ≡ []
LiesIn Packet packet storage = Lies packet (part_start Packet) (part_length Packet (length packet)) (part_of Packet packet storage)
LiesIn (Storage start n) packet storage = Lies storage start n (part_of (Storage start n) packet storage)

in_packet : (packet storage : List ℕ) → header_size ≤ length packet → LiesIn Packet packet storage
unfolding run
in_packet packet storage h = record {
  is = sym (take_all (length packet - header_size) (drop header_size packet) (omega (arith, length-drop header_size packet)));
  within = omega arith;
}

in_storage : (packet storage : List ℕ) (start n : ℕ) → start + n ≤ length storage → LiesIn (Storage start n) packet storage
unfolding stored_part
in_storage packet storage start n h = record { is = rw (le-leb (start + n) (length storage) h); within = h }

-- Any other outcome than a delivery hands over nothing.
where_lies : (packet storage : List ℕ) (i : ℕ) (h : Head) (o : Outcome) → LiesIn (lies_at i h) packet storage → LiesIn (where_by o i h) packet storage
where_lies packet storage i h (Refused r age) lie = refl
where_lies packet storage i h Stored lie = refl
where_lies packet storage i h (Delivered v) lie = lie

module _ (w : Receiver) (storage packet : List ℕ) where
  same_room : length (message_storage w storage packet) ≡ length storage
  unfolding message_storage storage_after
  same_room = check_case (λ (s : List ℕ). length s ≡ length storage) (message_rows w (length storage) packet) _ (λ r. storage)
      (λ _. cond_case (λ (s : List ℕ). length s ≡ length storage) (eqb (head_of packet).cut.tbn 1) storage _ (λ _. refl) (λ _. length_laid storage _ _))
      (λ r _. refl)

  -- What the message call answers lies so.
  pub message_lies : LiesIn (message_answer w (length storage) packet).lies packet (message_storage w storage packet)
  unfolding message_answer taken refused
  message_lies = ⊎_elim
      (λ (none : message_number w (length storage) packet ≡ 0).
      let h = head_of packet in
      let i = found w h in
      let facts = taken_facts w (length storage) packet none in
      let cut = possible_facts h.cut facts.1.cut_possible in
      let lie = cond_case (λ (p : Where). LiesIn p packet (message_storage w storage packet)) (eqb h.cut.tbn 1) Packet (Storage (i * area) (message_length h.cut))
      (λ _. in_packet packet (message_storage w storage packet) facts.0.size_least)
      (λ _. in_storage packet (message_storage w storage packet) (i * area) (message_length h.cut) (omega (arith, same_room, facts.0.room_right, facts.0.registered, cut.big))) in
      rw (checked_none (message_rows w (length storage) packet) none) (where_lies packet (message_storage w storage packet) i h (admitted w.n1 w.clock (sender_at w i) h).outcome lie))
      (λ (ne : message_number w (length storage) packet ≢ 0).
      let given = refusal_given (message_rows w (length storage) packet) ne in
      rw given.1.0)
      (eq_or_ne (message_number w (length storage) packet) 0)

-- ---- the options of a fault section

-- A run of so many octets as it has.
run_own : (at n : ℕ) (s : List ℕ) → run at (length (run at n s)) s ≡ run at n s
unfolding run
run_own at n s = ⊎_elim
    (λ (h : n < length (drop at s)). ap (λ (k : ℕ). take k (drop at s)) (length-take-le n (drop at s) (omega arith)))
    (λ (h : length (drop at s) ≤ n).
    let all : take n (drop at s) ≡ drop at s = take_all n (drop at s) h in
    rw all (take-length (drop at s)))
    (lt_or_le n (length (drop at s)))

run_ends : (at n : ℕ) (s : List ℕ) → length (run at n s) ≢ 0 → at + length (run at n s) ≤ length s
unfolding run
run_ends at n s some = omega (arith, some, length-take n (drop at s), length-drop at s)

none_there : (l : List ℕ) → length l ≡ 0 → l ≡ []
none_there [] e = refl
none_there (x ∷ l) e = absurd (omega arith)

-- Where C is told that they lie they do.
pub options_lie : (s : List ℕ) → Lies s (options_for s).start (options_for s).length (options_of s)
unfolding options_for
options_lie s = ⊎_elim
    (λ (e : length (options_of s) ≡ 0). rw (eq-eqb (length (options_of s)) 0 e) (record { is = none_there (options_of s) e ∙ unfold run in refl; within = omega arith }))
    (λ (e : length (options_of s) ≢ 0).
    rw (ne_eqb (length (options_of s)) 0 e)
    (unfold options_of in record { is = sym (run_own (count_at s + 4) (options_in s) s); within = run_ends (count_at s + 4) (options_in s) s e }))
    (eq_or_ne (length (options_of s)) 0)
