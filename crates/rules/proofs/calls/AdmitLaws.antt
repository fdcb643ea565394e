-- Laws of admission: what is known where no number of 15 to 20 applies. Assumes nothing.
use Rattle.std.specs.Prelude.{◌≡◌, refl, ◌≢◌, Bool, true, false, not, cond, ◌&&◌, ◌||◌, ℕ, suc, ◌+◌, ◌-◌, ◌^◌, ◌≤◌, ◌<◌, eqb, None, Result, Ok, Err}
use Rattle.std.proofs.Common.{sym, ap, ◌∙◌, ⊎_elim, arith, eq-eqb, ne_eqb, lt-ltb, le-ltb}
use Rattle.std.specs.Int.Count.{ones}
use Rattle.std.proofs.lemmas.Nat.{ones-le}
use Rattle.std.proofs.lemmas.Bool.{not-false}
use Rattle.octets.specs.Split.{lt_or_le, cond_case, never_both, and_left}
use Rattle.ring.specs.Check.{is_repeat}
use Rattle.ring.specs.Ring.{OnRing, newer}
use Rattle.ring.proofs.RingLaws.{Order, one_order}
use Rattle.ring.proofs.RingLaws.Order.{same, is_newer, is_older}
use Rattle.header.specs.declared.Head.{Head}
use Rattle.cut.specs.Possible.{possible}
use Rattle.cut.proofs.PossibleLaws.{possible_facts, possible_most}
use Rattle.map.specs.Map.{holds, piece_bit, full_map}
use Rattle.map.proofs.MapLaws.{bit_zero, ones_set, marked_adds, holds_not, holds_zero, full_is}
use Rattle.state.specs.declared.Sender.{Sender}
use Rattle.answers.specs.declared.Admission.{Admission}
use Rattle.answers.specs.declared.Dropped.{Dropped}
use Rattle.answers.specs.declared.Outcome.{Outcome}
use Rattle.rules.specs.calls.Admit.{same_version, rejoins, same_cut, verdict_of, sender_rows, map_before, map_after, one_more, kept_after, fills, none_dropped, dropped_by, admitted, not_admitted, admission}
use Rattle.std.specs.Result.{result_err}
use Rattle.refusal.specs.declared.Refusal.{Refusal}
use Rattle.refusal.specs.Numbers.{number_in}
use Rattle.answers.specs.Told.{refused_by, refused_number, refusal}
use Rattle.rules.specs.calls.First.{checked, first, by_check}
use Rattle.rules.proofs.calls.FirstLaws.{first_is, first_none}

-- An admitted PDU has a possible cut, is no repeat, is not older than the open message, has its cut if it belongs to
-- it, and is a new piece of it.
pub record Admitted (n1 : ℕ) (s : Sender) (h : Head) : Type 0 where
  pub cut_possible : possible h.cut ≡ true
  pub no_repeat : is_repeat (verdict_of n1 s h) ≡ false
  pub not_older : s.«open» && same_version s h && newer s.message.number h.given.number ≡ false
  pub same_cut_lem : rejoins s h ≡ true → same_cut s.message h ≡ true
  pub new_piece : rejoins s h ≡ true → holds s.message.map h.cut.cbn ≡ false

if_and : (a b : Bool) → a && b ≡ false → a ≡ true → b ≡ false
if_and true b e f = e
if_and false b e f = absurd (never_both f refl)

pub admitted_facts : (test : Bool) (n1 : ℕ) (s : Sender) (h : Head) → first (sender_rows test n1 s h) ≡ 0 → Admitted n1 s h
unfolding sender_rows
admitted_facts test n1 s h e =
    let r15 = first_none _ (eqb h.given.mode 1 && not test) _ e in
    let r16 = first_none _ (not (possible h.cut)) _ r15.1 in
    let r17 = first_none _ (is_repeat (verdict_of n1 s h)) _ r16.1 in
    let r18 = first_none _ _ _ r17.1 in
    let r19 = first_none _ (rejoins s h && not (same_cut s.message h)) _ r18.1 in
    let r20 = first_none _ (rejoins s h && holds s.message.map h.cut.cbn) _ r19.1 in
    record {
      cut_possible = not-false (possible h.cut) r16.0;
      no_repeat = r17.0;
      not_older = r18.0;
      same_cut_lem = λ f. not-false (same_cut s.message h) (if_and (rejoins s h) (not (same_cut s.message h)) r19.0 f);
      new_piece = if_and (rejoins s h) (holds s.message.map h.cut.cbn) r20.0;
    }

-- What belongs to the open message finds one open.
pub rejoins_open : (s : Sender) (h : Head) → rejoins s h ≡ true → s.«open» ≡ true
unfolding rejoins
rejoins_open s h e =
    let version = eqb s.message.version.0 h.given.version.0 in
    let number = eqb s.message.number.0 h.given.number.0 in
    and_left s.«open» version (and_left (s.«open» && version) number e)

-- The piece of an admitted PDU is added to those held.
pub map_adds : (n1 : ℕ) (s : Sender) (h : Head) → Admitted n1 s h → map_after s h ≡ map_before s h + piece_bit h.cut.cbn
unfolding map_after
map_adds n1 s h a =
    let c = h.cut.cbn in
    let f = possible_facts h.cut a.cut_possible in
    marked_adds (map_before s h) c (omega (arith, possible_most h.cut a.cut_possible))
    (cond_case (λ (m : ℕ). holds m c ≡ false) (rejoins s h) s.message.map 0 a.new_piece (λ _. holds_zero c))

-- So the map has one more.
pub map_one_more : (n1 : ℕ) (s : Sender) (h : Head) → Admitted n1 s h → ones (map_after s h) ≡ suc (ones (map_before s h))
map_one_more n1 s h a =
    let c = h.cut.cbn in
    rw (map_adds n1 s h a) (cond_case (λ (m : ℕ). ones (m + piece_bit c) ≡ suc (ones m)) (rejoins s h) s.message.map 0
    (λ r. ones_set (c - 1) s.message.map (holds_not s.message.map c (a.new_piece r)))
    (λ _. ones_set (c - 1) 0 (bit_zero (c - 1))))

-- A number kept that is wrong is not set right by a piece more: a map of 64 pieces has too few ones for 255.
pub kept_wrong : (n1 : ℕ) (s : Sender) (h : Head) → Admitted n1 s h → rejoins s h ≡ true → s.message.map < 2 ^ 64
    → s.message.held ≢ ones s.message.map → kept_after s h ≢ ones (map_after s h)
unfolding kept_after
kept_wrong n1 s h a r short wrong right =
    let k = s.message.held in
    let more : one_more k ≡ suc (ones s.message.map) = rw r at (right ∙ map_one_more n1 s h a) in
    ⊎_elim
    (λ (room : k < 255). wrong (omega (arith, rw (lt-ltb k 255 room) at more)))
    (λ (most : 255 ≤ k). omega (arith, rw (le-ltb k 255 most) at more, most, ones-le 64 s.message.map short))
    (lt_or_le k 255)

pub fills_full : (s : Sender) (h : Head) → fills s h ≡ eqb (map_after s h) (full_map h.cut.tbn)
unfolding fills
fills_full s h = full_is (map_after s h) h.cut.tbn

-- An admitted PDU drops the open message exactly if it does not belong to it.
pub drops_or_joins : (n1 : ℕ) (s : Sender) (h : Head) → Admitted n1 s h → OnRing s.message.number.0 → OnRing h.given.number.0
    → dropped_by s h ≡ cond (s.«open» && not (rejoins s h)) (record { version = s.message.version; number = s.message.number }) none_dropped
unfolding dropped_by rejoins
drops_or_joins n1 s h a mine its = by s.«open» (same_version s h) a.not_older (one_order h.given.number s.message.number its mine)
  where
    comes_newer : Bool
    comes_newer = newer h.given.number s.message.number

    equal : Bool
    equal = eqb s.message.number.0 h.given.number.0

    dropped : Dropped
    dropped = record { version = s.message.version; number = s.message.number }

    by : (o v : Bool) → o && v && newer s.message.number h.given.number ≡ false → Order h.given.number s.message.number
        → cond (o && (not v || (v && comes_newer))) dropped none_dropped ≡ cond (o && not (o && v && equal)) dropped none_dropped
    by false v e order = refl
    by true false e order = refl
    by true true e (same q f g) = rw (f, eq-eqb s.message.number.0 h.given.number.0 (sym q))
    by true true e (is_newer n f g) = rw (f, ne_eqb s.message.number.0 h.given.number.0 (λ z. n (sym z)))
    by true true e (is_older n f g) = absurd (never_both g e)

-- ---- the admission, by what is refused

pub admission_yes : (test : Bool) (n1 clock : ℕ) (s : Sender) (h : Head) → checked (sender_rows test n1 s h) ≡ Ok tt → admission test n1 clock s h ≡ admitted n1 clock s h
unfolding admission
admission_yes test n1 clock s h e = rw e

pub admission_no : (test : Bool) (n1 clock : ℕ) (s : Sender) (h : Head) (r : Refusal) → checked (sender_rows test n1 s h) ≡ Err r
    → not_admitted s (refusal r (verdict_of n1 s h)) ≡ admission test n1 clock s h
unfolding admission
admission_no test n1 clock s h r e = rw e

-- The outcome is refused as the first row that applies says.
admitted_none : (n1 clock : ℕ) (s : Sender) (h : Head) → refused_by (admitted n1 clock s h).outcome ≡ None
unfolding admitted
admitted_none n1 clock s h = cond_case (λ (o : Outcome). refused_by o ≡ None) (fills s h) _ _ (λ e. refl) (λ e. refl)

pub admission_by : (test : Bool) (n1 clock : ℕ) (s : Sender) (h : Head)
    → refused_by (admission test n1 clock s h).outcome ≡ result_err (checked (sender_rows test n1 s h))
unfolding admission not_admitted
admission_by test n1 clock s h = by (checked (sender_rows test n1 s h))
  where
    by : (x : Result (Unit {0}) Refusal)
        → refused_by (by_check {A = Admission} x (admitted n1 clock s h) (λ r. not_admitted s (refusal r (verdict_of n1 s h)))).outcome ≡ result_err x
    by (Ok y) = admitted_none n1 clock s h
    by (Err r) = refl

pub admitted_zero : (n1 clock : ℕ) (s : Sender) (h : Head) → refused_number (admitted n1 clock s h).outcome ≡ 0
unfolding admitted
admitted_zero n1 clock s h = cond_case (λ (o : Outcome). refused_number o ≡ 0) (fills s h) _ _ (λ e. refl) (λ e. refl)

-- Its number is that of the first row that applies.
pub admission_number : (test : Bool) (n1 clock : ℕ) (s : Sender) (h : Head)
    → refused_number (admission test n1 clock s h).outcome ≡ first (sender_rows test n1 s h)
unfolding admission not_admitted
admission_number test n1 clock s h = by (checked (sender_rows test n1 s h)) ∙ sym (first_is (sender_rows test n1 s h))
  where
    by : (x : Result (Unit {0}) Refusal)
        → refused_number (by_check {A = Admission} x (admitted n1 clock s h) (λ r. not_admitted s (refusal r (verdict_of n1 s h)))).outcome ≡ number_in x
    by (Ok y) = admitted_zero n1 clock s h
    by (Err r) = refl

-- With a refusal the outcome is that refusal.
pub admission_refused : (test : Bool) (n1 clock : ℕ) (s : Sender) (h : Head) (r : Refusal) → checked (sender_rows test n1 s h) ≡ Err r
    → (admission test n1 clock s h).outcome ≡ refusal r (verdict_of n1 s h)
unfolding not_admitted
admission_refused test n1 clock s h r e = sym (ap (λ (a : Admission). a.outcome) (admission_no test n1 clock s h r e))
