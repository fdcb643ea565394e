-- Laws of the message call: what is answered by what the judges found. Assumes nothing.
use Rattle.std.specs.Prelude.{◌≡◌, refl, ◌≢◌, Bool, true, false, not, ◌&&◌, ◌||◌, List, ℕ, ◌*◌, ◌≤◌, ◌<◌, eqb, leb, ltb, length, Result, Ok, Err}
use Rattle.std.specs.Option.{is_some}
use Rattle.std.specs.Result.{result_err}
use Rattle.std.proofs.Math.Path.{sym}
use Rattle.std.proofs.Common.{ap, subst, ◌∙◌, arith}
use Rattle.std.proofs.Math.Logic.{⊎_elim}
use borrow.Author.Tests.{leb-true, leb-false, ltb-false, eqb-true, not-false}
use Rattle.octets.specs.Split.{true_or_false, never_both, and_left, and_right}
use Rattle.refusal.specs.declared.Refusal.{Refusal}
use Rattle.refusal.specs.declared.Refusal.TheVariants as refusals
use Rattle.refusal.specs.Numbers.{number_of}
use Rattle.ring.specs.Ring.{is_number}
use Rattle.header.specs.declared.Head.{Head}
use Rattle.header.specs.Codes.{is_user, is_pri, is_mode}
use Rattle.header.specs.Head.{head_of, is_fixed}
use Rattle.header.specs.Places.{header_size}
use Rattle.state.specs.declared.Address.{Address}
use Rattle.state.specs.declared.Look.{Look}
use Rattle.state.specs.declared.Receiver.{Receiver}
use Rattle.answers.specs.declared.Admission.{Admission}
use Rattle.answers.specs.declared.Answer.{Answer}
use Rattle.answers.specs.declared.Where.{Where}
use Rattle.answers.specs.declared.Outcome.{Outcome}
use Rattle.answers.specs.declared.Outcome.TheVariants.{Refused}
use Rattle.answers.specs.Told.{refused_by, refusal}
use Rattle.answers.proofs.ToldLaws.{refusal_plain}
use Rattle.rules.specs.calls.Admit.{verdict_of, sender_rows, admission, admitted}
use Rattle.rules.proofs.calls.AdmitLaws.{Admitted, admitted_facts, admission_yes, admission_by, admission_refused}
use Rattle.rules.specs.calls.First.{Row, checked, first, by_check}
use Rattle.rules.proofs.calls.FirstLaws.{none_checked, given_checked, err_some, err_none, checked_here, first_none, checked_append, first_neither, without, first_without}
use Rattle.state.specs.Limits.{valid}
use Rattle.state.proofs.LimitsLaws.{valid_count}
use Rattle.rules.specs.calls.Message.{area, most_pdu, length_wrong, head_within, packet_rows, message_rows, message_number, storage_after, where_by, taken, refused, verdict_at, message_answer, message_storage, answer_of}
use Rattle.state.specs.Table.{source, found, look_at}
use Rattle.state.specs.State.{senders_most, sender_at}
use Rattle.state.proofs.TableLaws.{look_valid, look_place}

-- ---- the numbers before the sender's

-- What is known where none of 9 and 11 to 14 applies.
pub record Passed (ok : Bool) (count i room : ℕ) (packet : List ℕ) (h : Head) : Type 0 where
  pub is_valid : ok ≡ true
  pub room_right : room ≡ count * area
  pub size : length packet ≡ h.cut.bsize
  pub size_least : header_size ≤ length packet
  pub length_right : length_wrong (length packet) h ≡ false
  pub head_within_lem : head_within packet h ≡ true
  pub registered : i < count

pub or_false : (a b : Bool) → a || b ≡ false → (a ≡ false) × (b ≡ false)
or_false true b e = absurd (never_both refl e)
or_false false b e = (refl, e)

pub passed_facts : (ok : Bool) (count i room : ℕ) (packet : List ℕ) (h : Head) → first (packet_rows ok count i room packet h) ≡ 0 → Passed ok count i room packet h
passed_facts ok count i room packet h e =
    let r9 = first_none _ (not ok) _ e in
    let r11 = first_none _ (not (eqb room (count * area))) _ r9.1 in
    let r12 = first_none _ (length_wrong (length packet) h) _ r11.1 in
    let r13 = first_none _ (not (head_within packet h)) _ r12.1 in
    let r14 = first_none _ (leb count i) _ r13.1 in
    let long = or_false (ltb (length packet) header_size || ltb most_pdu (length packet)) (not (eqb (length packet) h.cut.bsize)) r12.0 in
    let short = or_false (ltb (length packet) header_size) (ltb most_pdu (length packet)) long.0 in
    record {
      is_valid = not-false ok r9.0;
      room_right = eqb-true room (count * area) (not-false (eqb room (count * area)) r11.0);
      size = eqb-true (length packet) h.cut.bsize (not-false (eqb (length packet) h.cut.bsize) long.1);
      size_least = ltb-false (length packet) header_size short.0;
      length_right = r12.0;
      head_within_lem = not-false (head_within packet h) r13.0;
      registered = leb-false count i r14.0;
    }

-- "PRI is 0 to 7", and SEQ 1 to M, where 13 does not apply.
pub head_pri : (packet : List ℕ) (h : Head) → head_within packet h ≡ true → h.given.pri < 8
unfolding head_within
head_pri packet h e =
    let fixed = is_fixed packet in
    let pri = is_pri h.given.pri in
    let mode = is_mode h.given.mode in
    let common = and_left (fixed && pri && mode) (is_user h.given.tcd) (and_left (fixed && pri && mode && is_user h.given.tcd) (is_number h.given.number.0) e) in
    omega (arith, leb-true h.given.pri 7 (and_right fixed pri (and_left (fixed && pri) mode common)))

pub head_number : (packet : List ℕ) (h : Head) → head_within packet h ≡ true → is_number h.given.number.0 ≡ true
unfolding head_within
head_number packet h e =
    and_right (is_fixed packet && is_pri h.given.pri && is_mode h.given.mode && is_user h.given.tcd) (is_number h.given.number.0) e

-- What is known of a PDU to which no number applies.
pub taken_facts : (w : Receiver) (room : ℕ) (packet : List ℕ) → message_number w room packet ≡ 0
    → Passed (valid w) w.count (found w (head_of packet)) room packet (head_of packet) × Admitted w.n1 (sender_at w (found w (head_of packet))) (head_of packet)
unfolding message_rows
taken_facts w room packet e =
    let h = head_of packet in
    let i = found w h in
    let none = first_neither (packet_rows (valid w) w.count i room packet h) (sender_rows w.test w.n1 (sender_at w i) h) e in
    (passed_facts (valid w) w.count i room packet h none.0, admitted_facts w.test w.n1 (sender_at w i) h none.1)

-- ---- the call, by what one pass over the table and the two judges found

module _ (w : Receiver) (storage packet : List ℕ) where
  -- 9 and 11 to 14
  unfoldable pub early_check : Result (Unit {0}) Refusal
  early_check = checked (packet_rows (valid w) w.count (found w (head_of packet)) (length storage) packet (head_of packet))

  -- 15 to 20
  unfoldable pub late_check : Result (Unit {0}) Refusal
  late_check = checked (sender_rows w.test w.n1 (sender_at w (found w (head_of packet))) (head_of packet))

  check_is : checked (message_rows w (length storage) packet) ≡ by_check early_check late_check Err
  unfolding message_rows early_check late_check
  check_is = checked_append (packet_rows (valid w) w.count (found w (head_of packet)) (length storage) packet (head_of packet)) (sender_rows w.test w.n1 (sender_at w (found w (head_of packet))) (head_of packet))

  pub early_is : (l : Look) → l ≡ look_at w (source (head_of packet)) → checked (packet_rows l.valid w.count l.at (length storage) packet (head_of packet)) ≡ early_check
  unfolding early_check
  early_is l e = ⊎_elim
      (λ (v : l.valid ≡ true). rw (look_place w (head_of packet) l e v, look_valid w (source (head_of packet)) l e))
      (λ (v : l.valid ≡ false).
      checked_here refusals.State (not l.valid) _ (rw v)
      ∙ sym (checked_here refusals.State (not (valid w)) _ (rw (sym (look_valid w (source (head_of packet)) l e) ∙ v))))
      (true_or_false l.valid)

  abbrev pub Answered : Answer → List ℕ → Type 0
  Answered a s = (a ≡ message_answer w (length storage) packet) × (s ≡ message_storage w storage packet)

  answered_by : (r : Refusal) → checked (message_rows w (length storage) packet) ≡ Err r → Answered (refused w (refusal r (verdict_at w (head_of packet)))) storage
  unfolding message_answer message_storage
  answered_by r n = (rw n, rw n)

  -- None of 9 and 11 to 14 is 17.
  early_plain : (r : Refusal) → early_check ≡ Err r → number_of r ≢ 17
  unfolding early_check
  early_plain r e f =
      let rows = packet_rows (valid w) w.count (found w (head_of packet)) (length storage) packet (head_of packet) in
      first_without 17 rows (λ z. omega (arith, z)) (unfold without in refl) (given_checked rows r e ∙ f)

  pub answered_early : (r : Refusal) → early_check ≡ Err r → Answered (refused w (Refused r 0)) storage
  answered_early r e =
      subst (λ (o : Outcome). Answered (refused w o) storage) (refusal_plain r (verdict_at w (head_of packet)) (early_plain r e)) (answered_by r (check_is ∙ rw e))

  pub answered_late : (r : Refusal) → early_check ≡ Ok tt → late_check ≡ Err r → Answered (refused w (refusal r (verdict_at w (head_of packet)))) storage
  answered_late r z e = answered_by r (check_is ∙ rw (z, e))

  pub answered_taken : early_check ≡ Ok tt → late_check ≡ Ok tt
      → Answered (taken w (found w (head_of packet)) (sender_at w (found w (head_of packet))) (head_of packet)) (storage_after storage (found w (head_of packet)) (head_of packet) packet)
  unfolding message_answer message_storage
  answered_taken z y =
      let n : checked (message_rows w (length storage) packet) ≡ Ok tt = check_is ∙ rw (z, y) in
      (rw n, rw n)

-- The same by what the code has in its locals: the header h, its source a, and what the pass found, l.
module _ (w : Receiver) (storage packet : List ℕ) (h : Head) (a : Address) (l : Look) (eh : h ≡ head_of packet) (ea : a ≡ source h) (el : l ≡ look_at w a) where
  look_is : l ≡ look_at w (source (head_of packet))
  look_is = el ∙ ap (look_at w) (ea ∙ ap source eh)

  abbrev Rows : List Row
  Rows = packet_rows l.valid w.count l.at (length storage) packet h

  early_of : checked Rows ≡ early_check w storage packet
  early_of = rw eh (early_is w storage packet l look_is)

  pub pass_refused : (r : Refusal) → checked Rows ≡ Err r → Answered w storage packet (refused w (Refused r 0)) storage
  pass_refused r e = answered_early w storage packet r (sym early_of ∙ e)

  -- Nothing is refused before the sender's record is looked at.
  module _ (early-none : checked Rows ≡ Ok tt) where
    pub pass_facts : Passed l.valid w.count l.at (length storage) packet h
    pass_facts = passed_facts l.valid w.count l.at (length storage) packet h (none_checked Rows early-none)

    -- The place is one of the table's.
    pub pass_place : l.at < senders_most
    pass_place =
        let v : valid w ≡ true = sym (look_valid w a l el) ∙ pass_facts.is_valid in
        omega (arith, valid_count w v, pass_facts.registered)

    place_is : l.at ≡ found w (head_of packet)
    place_is = look_place w (head_of packet) l look_is pass_facts.is_valid

    late_is : late_check w storage packet ≡ checked (sender_rows w.test w.n1 (sender_at w l.at) h)
    unfolding late_check
    late_is = rw (eh, place_is)

    early_none : early_check w storage packet ≡ Ok tt
    early_none = sym early_of ∙ early-none

    module _ (o : Admission) (eo : o ≡ admission w.test w.n1 w.clock (sender_at w l.at) h) where
      refused_is : refused_by o.outcome ≡ result_err (checked (sender_rows w.test w.n1 (sender_at w l.at) h))
      refused_is = rw eo (admission_by w.test w.n1 w.clock (sender_at w l.at) h)

      -- What the sender's record refuses is refused as it says.
      late_given : (r : Refusal) → checked (sender_rows w.test w.n1 (sender_at w l.at) h) ≡ Err r → Answered w storage packet (refused w o.outcome) storage
      late_given r given =
          let same : verdict_at w (head_of packet) ≡ verdict_of w.n1 (sender_at w l.at) h = rw (eh, place_is) in
          let outcome : refusal r (verdict_at w (head_of packet)) ≡ o.outcome
          = ap (refusal r) same ∙ rw eo (sym (admission_refused w.test w.n1 w.clock (sender_at w l.at) h r given)) in
          subst (λ (x : Outcome). Answered w storage packet (refused w x) storage) outcome (answered_late w storage packet r early_none (late_is ∙ given))

      pub pass_late : is_some (refused_by o.outcome) ≡ true → Answered w storage packet (refused w o.outcome) storage
      pass_late e =
          let some = err_some (checked (sender_rows w.test w.n1 (sender_at w l.at) h)) (ap is_some (sym refused_is) ∙ e) in
          late_given some.0 some.1

      -- And so is the sender's.
      module _ (late_none : is_some (refused_by o.outcome) ≡ false) where
        rows_none : checked (sender_rows w.test w.n1 (sender_at w l.at) h) ≡ Ok tt
        rows_none = err_none (checked (sender_rows w.test w.n1 (sender_at w l.at) h)) (ap is_some (sym refused_is) ∙ late_none)

        pub pass_admitted : Admitted w.n1 (sender_at w l.at) h
        pass_admitted = admitted_facts w.test w.n1 (sender_at w l.at) h (none_checked (sender_rows w.test w.n1 (sender_at w l.at) h) rows_none)

        pub pass_taken : (p : Where) (s : List ℕ) → p ≡ where_by o.outcome l.at h → s ≡ storage_after storage l.at h packet
            → Answered w storage packet (answer_of w l.at o p) s
        unfolding taken
        pass_taken p s ep es =
            let yes : o ≡ admitted w.n1 w.clock (sender_at w l.at) h
            = eo ∙ admission_yes w.test w.n1 w.clock (sender_at w l.at) h rows_none in
            let said = answered_taken w storage packet early_none (late_is ∙ rows_none) in
            (rw (ep, yes, eh, place_is) said.0, es ∙ rw (eh, place_is) said.1)
