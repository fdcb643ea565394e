-- What is delivered after a past is a join of packets accepted since their message opened. Assumes nothing.
use Rattle.std.specs.Prelude.{ℕ, suc, ◌+◌, ◌*◌, ◌≤◌, ◌<◌, ◌≡◌, ◌≢◌, false, List, [], ◌∷◌, drop, Err}
use Rattle.std.proofs.Math.Path.{sym, ap, subst}
use Rattle.std.proofs.Common.{◌∙◌, mul-le-mul_right, suc-mul, take_all, eqb-true, le-leb}
use Rattle.std.proofs.Math.Logic.{⊎_elim}
use Rattle.std.proofs.Math.Bool.{true, cond}
use native.Mathlib.Omega.{arith}
use Rattle.std.proofs.Math.Dec.{eqb}
use Rattle.std.proofs.Math.ListN.{length, length-drop}
use Rattle.octets.specs.Run.{run}
use Rattle.octets.proofs.RunLaws.{length_run, run_run}
use Rattle.octets.specs.Split.{true_or_false, never_both, both, and_left, and_right, eq_or_ne}
use Rattle.ring.specs.declared.Verdict.{Verdict}
use Rattle.header.specs.Codes.{within}
use Rattle.header.specs.declared.Head.{Head}
use Rattle.header.specs.Head.{head_of}
use Rattle.header.specs.Places.{header_size}
use Rattle.cut.specs.Possible.{possible, message_length, own_length}
use Rattle.cut.proofs.PossibleLaws.{possible_facts}
use Rattle.state.specs.declared.Address.{Address}
use Rattle.state.specs.declared.Sender.{Sender}
use Rattle.state.specs.Limits.{same_address, valid}
use Rattle.state.specs.State.{sender_at, Settings}
use Rattle.state.specs.Table.{source, found}
use Rattle.answers.specs.declared.Answer.{Answer}
use Rattle.answers.specs.declared.Outcome.TheVariants.{Refused, Stored, Delivered}
use Rattle.refusal.specs.declared.Refusal.{Refusal}
use Rattle.answers.specs.Told.{refusal}
use Rattle.rules.specs.calls.First.{Row, checked}
use Rattle.rules.proofs.calls.FirstLaws.{checked_none, refusal_given}
use Rattle.promised.specs.Judged.{has_length, is_message, in_order, is_from}
use Rattle.rules.specs.calls.Admit.{rejoins, fills, admitted}
use Rattle.rules.proofs.calls.AdmitLaws.{admitted_facts}
use Rattle.promised.specs.Join.{Joined, behind}
use Rattle.promised.proofs.JoinLaws.{Inv, part_view, delivered_joined}
use Rattle.rules.specs.calls.Message.{area, message_rows, message_number, verdict_at, message_answer, message_storage, storage_after, lies_at, taken, refused}
use Rattle.rules.proofs.calls.MessageLaws.{Passed, taken_facts}
use Rattle.rules.specs.calls.Part.{part_of, stored_part}
use Rattle.rules.specs.pasts.Past.{World, answer_to, part_to, Start}
use Rattle.rules.proofs.pasts.PastLaws.{Sound, length_after, start_sound, start_sender}
use Rattle.promised.specs.View.{view, number_of}
use Rattle.promised.proofs.ViewLaws.{out_of_order, own_octets, fills_joining, Registered, registered_number, registered_place}

module _ (w : World) (sound : Sound w) (p : List ℕ) (vd : Verdict) (gave : (message_answer w.state (length w.storage) p).outcome ≡ Delivered vd) where
  abbrev h : Head
  h = head_of p

  abbrev i : ℕ
  i = found w.state h

  abbrev answer : Answer
  answer = message_answer w.state (length w.storage) p

  abbrev rows : List Row
  rows = message_rows w.state (length w.storage) p

  -- What is delivered met no number, and its piece fills the map.
  none : message_number w.state (length w.storage) p ≡ 0
  none = ⊎_elim
      (λ z. z)
      (λ (z : message_number w.state (length w.storage) p ≢ 0).
      let given = refusal_given rows z in
      absurd (not_refused _ _ (sym (refused_is given.0 given.1.0) ∙ gave)))
      (eq_or_ne (message_number w.state (length w.storage) p) 0)
    where
      refused_is : (r : Refusal) → checked rows ≡ Err r → answer.outcome ≡ refusal r (verdict_at w.state h)
      refused_is r e = unfold message_answer refused in rw e

      not_refused : (r : Refusal) (age : ℕ) → Refused r age ≡ Delivered vd → ⊥
      not_refused r age e = let z : ◌≡◌ {A = ℕ} 0 1 = cc in omega arith

  passed : Passed (valid w.state) w.state.count i (length w.storage) p h
  passed = (taken_facts w.state (length w.storage) p none).0

  full : fills (sender_at w.state i) h ≡ true
  full = ⊎_elim
      (λ z. z)
      (λ (z : fills (sender_at w.state i) h ≡ false). absurd (not_stored (sym (stored_is z) ∙ gave)))
      (true_or_false (fills (sender_at w.state i) h))
    where
      stored_is : fills (sender_at w.state i) h ≡ false → answer.outcome ≡ Stored
      stored_is z = unfold message_answer taken admitted in rw (checked_none rows none, z)

      not_stored : Stored ≡ Delivered vd → ⊥
      not_stored e = let z : ◌≡◌ {A = ℕ} 0 1 = cc in omega arith

  -- ---- the octets that are handed over

  there : i * area + area ≤ length w.storage
  there = omega (arith, sound.room, mul-le-mul_right {m = suc i} {n = w.state.count} area passed.registered, suc-mul i area)

  cut_possible : possible h.cut ≡ true
  cut_possible = (taken_facts w.state (length w.storage) p none).1.cut_possible

  lies_is : answer.lies ≡ lies_at i h
  unfolding message_answer taken admitted
  lies_is = rw (checked_none rows none, full)

  storage_is : message_storage w.state w.storage p ≡ storage_after w.storage i h p
  unfolding message_storage
  storage_is = rw (checked_none rows none)

  behind_all : drop header_size p ≡ behind p
  unfolding run
  behind_all = sym (take_all (own_length h.cut) (drop header_size p) (simp length-drop (omega (arith, passed.size))))

  part_stored : stored_part (storage_after w.storage i h p) (i * area) (message_length h.cut) ≡ run 0 (message_length h.cut) (storage_after (view w i).octets 0 h p)
  unfolding stored_part view
  part_stored =
      let n = message_length h.cut in
      let st = storage_after w.storage i h p in
      let big : n ≤ area = (possible_facts h.cut cut_possible).big in
      let z : i * area + 0 ≡ i * area = omega arith in
      let fits : i * area + n ≤ length st = omega (arith, length_after w.storage i p, there) in
      rw (le-leb (i * area + n) (length st) fits, ← own_octets w sound i passed.registered p cut_possible passed.size)
      (sym (run_run (i * area) area 0 n st (omega arith) (omega (arith, length_after w.storage i p, there)) ∙ ap (λ (x : ℕ). run x n st) z))

  pub part_is : part_of answer.lies p (message_storage w.state w.storage p) ≡ part_view (view w i) p
  unfolding part_view
  part_is = rw (lies_is, storage_is) (⊎_elim
      (λ (e : eqb h.cut.tbn 1 ≡ true). rw e behind_all)
      (λ (e : eqb h.cut.tbn 1 ≡ false). rw e part_stored)
      (true_or_false (eqb h.cut.tbn 1)))

-- ---- packets of a sender's own

-- A packet in order is as long as it says.
pub in_order_size : (packet : List ℕ) → in_order packet ≡ true → length packet ≡ (head_of packet).cut.bsize
unfolding in_order
in_order_size p e = eqb-true (length p) (head_of p).cut.bsize
    (and_right (within 64 1460 (length p)) (eqb (length p) (head_of p).cut.bsize) (and_left (has_length 64 1460 p) (is_message p) e))

module _ (g : Settings) (a : Address) (i : ℕ) (w : World) (r : Registered g a i w) (p : List ℕ) where
  abbrev number : ℕ
  number = message_number w.state (length w.storage) p

  -- A packet from its address that is not in order is not accepted.
  pub from_accepted : same_address a (source (head_of p)) ≡ true → number ≡ 0 → is_from a p ≡ true
  unfolding is_from
  from_accepted t none = both (in_order p) (same_address a (source (head_of p))) ordered t
    where
      ordered : in_order p ≡ true
      ordered = ⊎_elim
          (λ o. o)
          (λ (f : in_order p ≡ false). absurd (out_of_order w.state (length w.storage) p r.sound.is_valid r.sound.room f none))
          (true_or_false (in_order p))

-- ---- what is delivered

module _ (g : Settings) (a : Address) (i : ℕ) where
  -- What is delivered is a join of the packets accepted since.
  module _ (w : World) (r : Registered g a i w) (packets : List (List ℕ)) (inv : Inv packets (view w i)) (p : List ℕ) (mine : is_from a p ≡ true) (vd : Verdict)
      (gave : (answer_to w p).outcome ≡ Delivered vd) where
    pub no_number : number_of g (view w i) p ≡ 0
    no_number = sym (registered_number g a i w r p mine) ∙ none w r.sound p vd gave

    pub joined_part : Joined (p ∷ cond (rejoins (view w i).sender (head_of p)) packets []) p (part_to w p)
    joined_part =
        let s = sender_at w.state i in
        let at = registered_place g a i w r p mine in
        let fill : fills (view w i).sender (head_of p) ≡ true
        = unfold view in (fills_joining s (head_of p) ∙ subst (λ (x : ℕ). fills (sender_at w.state x) (head_of p) ≡ true) at (full w r.sound p vd gave)) in
        let part : part_to w p ≡ part_view (view w i) p = part_is w r.sound p vd gave ∙ ap (λ (x : ℕ). part_view (view w x) p) at in
        subst (Joined (p ∷ cond (rejoins (view w i).sender (head_of p)) packets []) p) (sym part)
        (delivered_joined packets g (view w i) p inv (admitted_facts g.test g.n1 (view w i).sender (head_of p) no_number) (passed w r.sound p vd gave).size fill)

-- Nothing is open at setup, so nothing was accepted for it.
pub start_inv : (w : World) → Start w → (i : ℕ) → i < w.state.count → Inv [] (view w i)
unfolding view
start_inv w s i here =
    let room = (start_sound w s).room in
    record {
      room = length_run (i * area) area w.storage (omega (arith, room, mul-le-mul_right {m = suc i} {n = w.state.count} area here, suc-mul i area));
      good = λ o. absurd (never_both o (ap (λ (x : Sender). x.«open») (start_sender w s i here)));
    }
