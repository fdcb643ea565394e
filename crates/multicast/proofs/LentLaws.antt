-- Laws of the lent tables and of the numbers, by what the code has found: no place in the tables is past what a machine word
-- counts, a table of another size is outside 26's limits, and the first refusal that applies where those before it do not.
-- Assumes nothing.
use Rattle.std.specs.Prelude.{ℕ, ◌*◌, ◌≤◌, ◌<◌, ◌≡◌, refl, ◌≢◌, Bool, not, ◌&&◌, List, [], ◌∷◌, eqb, length, set, Ok, Err}
use Rattle.refusal.specs.declared.Refusal.{Refusal}
use Rattle.refusal.specs.declared.Refusal.TheVariants as refusals
use Rattle.std.proofs.Math.Path.{sym, ap}
use Rattle.std.proofs.Common.{◌∙◌, mul-le-mul_right, arith}
use Rattle.std.proofs.Math.Logic.{⊎_elim}
use Rattle.std.proofs.Math.Bool.{true, false, and-false}
use borrow.Author.Tests.{ne_eqb}
use Rattle.octets.specs.Split.{true_or_false}
use Rattle.ring.specs.Check.{verdict_age, is_repeat}
use Rattle.header.specs.declared.Head.{Head}
use Rattle.header.specs.Head.{head_of}
use Rattle.state.specs.declared.Look.{Look}
use Rattle.state.specs.declared.Receiver.{Receiver}
use Rattle.state.specs.Limits.{valid}
use Rattle.state.specs.Table.{source, look_at}
use Rattle.state.proofs.TableLaws.{look_valid, look_place}
use Rattle.answers.specs.declared.Listener.{Listener}
use Rattle.answers.specs.declared.Outcome.{Outcome}
use Rattle.answers.specs.declared.Outcome.TheVariants.{Refused, Delivered}
use Rattle.answers.specs.declared.Where.{Where}
use Rattle.answers.specs.Told.{refusal}
use Rattle.answers.proofs.ToldLaws.{refusal_plain}
use Rattle.rules.specs.calls.First.{row, checked, by_check}
use Rattle.rules.proofs.calls.FirstLaws.{given_checked, checked_here, checked_later, checked_append, without, first_without}
use Rattle.rules.specs.calls.Multicast.{Tables, tables_within, one_piece, verdict_in, early_cast_rows, late_cast_rows, cast_rows, place_for, cast_outcome, is_kept, kept_by, cast_tables, handed_by, group_answer, listening, multicast_answer, multicast_tables}
use Rattle.rules.proofs.calls.MulticastLaws.{listening_nine}

-- The product of two octets.
pub octets_product : (a b : ℕ) → a < 256 → b < 256 → a * b < 65536
octets_product a b few less =
    let most : a * b ≤ 255 * b = mul-le-mul_right b (omega arith) in
    omega (arith, most)

module _ (n : ℕ) (t : Tables) where
  pub versions_wrong : length t.versions ≢ n → false ≡ tables_within n t
  unfolding tables_within
  versions_wrong ne = rw (ne_eqb (length t.versions) n ne)

  pub numbers_wrong : length t.numbers ≢ n → false ≡ tables_within n t
  unfolding tables_within
  numbers_wrong ne = simp (ne_eqb (length t.numbers) n ne, and-false)

-- ---- what is refused, by what was found before

module _ (s : Listener) (t : Tables) (g : ℕ) (packet : List ℕ) (h : Head) where
  check_is : checked (cast_rows s t g packet h) ≡ by_check (checked (early_cast_rows s t g packet h)) (checked (late_cast_rows s t g h)) Err
  unfolding cast_rows
  check_is = checked_append (early_cast_rows s t g packet h) (late_cast_rows s t g h)

  -- One of 9, 26, 12 to 14 and 25.
  pub early_refused : (r : Refusal) → checked (early_cast_rows s t g packet h) ≡ Err r → Refused r 0 ≡ cast_outcome s t g packet h
  unfolding cast_outcome
  early_refused r e =
      let told : checked (cast_rows s t g packet h) ≡ Err r = check_is ∙ rw e in
      let plain = first_without 17 (early_cast_rows s t g packet h) (λ z. omega (arith, z)) (unfold without in refl) in
      rw told (sym (refusal_plain r (verdict_in s t g h) (λ z. plain (given_checked (early_cast_rows s t g packet h) r e ∙ z))))

  module _ (none : checked (early_cast_rows s t g packet h) ≡ Ok tt) where
    late : (r : Refusal) → checked (late_cast_rows s t g h) ≡ Err r → refusal r (verdict_in s t g h) ≡ cast_outcome s t g packet h
    unfolding cast_outcome
    late r e = rw (check_is, none, e)

    abbrev ModeWrong : Bool
    ModeWrong = eqb h.given.mode 1 && not s.test

    pub late_mode : ModeWrong ≡ true → Refused refusals.Test 0 ≡ cast_outcome s t g packet h
    late_mode e = late refusals.Test (checked_here refusals.Test ModeWrong _ e)

    module _ (mode : ModeWrong ≡ false) where
      pub late_cut : one_piece h.cut ≡ false → Refused refusals.Cut 0 ≡ cast_outcome s t g packet h
      late_cut e = late refusals.Cut (checked_later refusals.Test ModeWrong _ mode ∙ checked_here refusals.Cut (not (one_piece h.cut)) _ (ap not e))

      module _ (cut : one_piece h.cut ≡ true) where
        passed : checked (late_cast_rows s t g h) ≡ checked (row refusals.Repeat (is_repeat (verdict_in s t g h)) ∷ [])
        passed = checked_later refusals.Test ModeWrong _ mode ∙ checked_later refusals.Cut (not (one_piece h.cut)) _ (ap not cut)

        pub late_repeat : is_repeat (verdict_in s t g h) ≡ true → Refused refusals.Repeat (verdict_age (verdict_in s t g h)) ≡ cast_outcome s t g packet h
        late_repeat e = late refusals.Repeat (passed ∙ checked_here refusals.Repeat (is_repeat (verdict_in s t g h)) _ e)

        pub late_none : is_repeat (verdict_in s t g h) ≡ false → Delivered (verdict_in s t g h) ≡ cast_outcome s t g packet h
        unfolding cast_outcome checked
        late_none e =
            let none_late : checked (late_cast_rows s t g h) ≡ Ok tt = passed ∙ rw e in
            rw (check_is, none, none_late)

-- ---- what is left of the tables

-- What was answered, and the tables that were left.
abbrev pub Left : Listener → Tables → ℕ → List ℕ → Head → Outcome → (versions numbers : List ℕ) → Type 0
Left s t g packet h o versions numbers =
    (o ≡ cast_outcome s t g packet h) × ((versions ≡ (cast_tables s t g packet h).versions) × (numbers ≡ (cast_tables s t g packet h).numbers))

module _ (s : Listener) (t : Tables) (g : ℕ) (packet : List ℕ) (h : Head) (o : Outcome) (is : o ≡ cast_outcome s t g packet h) (kept : Bool) (so : kept ≡ is_kept o) where
  pub left_written : kept ≡ true → (k : ℕ) → k ≡ place_for s g h → (versions numbers : List ℕ)
      → versions ≡ set t.versions k h.given.version.0 → numbers ≡ set t.numbers k h.given.number.0 → Left s t g packet h o versions numbers
  unfolding kept_by
  left_written written k place versions numbers e f =
      let write : is_kept (cast_outcome s t g packet h) ≡ true = ap is_kept (sym is) ∙ sym so ∙ written in
      (is, (e ∙ rw (place, write), f ∙ rw (place, write)))

  pub left_same : kept ≡ false → Left s t g packet h o t.versions t.numbers
  unfolding kept_by
  left_same not_so =
      let stay : is_kept (cast_outcome s t g packet h) ≡ false = ap is_kept (sym is) ∙ sym so ∙ not_so in
      (is, (rw stay, rw stay))

-- ---- the call, by what one pass over the table found

module _ (w : Receiver) (t : Tables) (g : ℕ) (packet : List ℕ) (h : Head) (l : Look) (eh : h ≡ head_of packet) (el : l ≡ look_at w (source h)) where
  -- What the code has of the state in its locals.
  abbrev pub found_by : Listener
  found_by = record { valid = l.valid; test = w.test; n1 = w.n1; count = w.count; at = l.at; groups = w.groups }

  look_same : l.valid ≡ true → found_by ≡ listening w (head_of packet)
  look_same v =
      let is : l ≡ look_at w (source (head_of packet)) = el ∙ ap (λ (x : Head). look_at w (source x)) eh in
      rw (look_place w (head_of packet) l is v, look_valid w (source h) l el)

  same_outcome : cast_outcome found_by t g packet h ≡ cast_outcome (listening w (head_of packet)) t g packet (head_of packet)
  unfolding cast_outcome
  same_outcome = ⊎_elim
      (λ (v : l.valid ≡ true).
      ap (λ (x : Listener). cast_outcome x t g packet h) (look_same v)
      ∙ ap (λ (x : Head). cast_outcome (listening w (head_of packet)) t g packet x) eh)
      (λ (v : l.valid ≡ false).
      let outside : valid w ≡ false = sym (look_valid w (source h) l el) ∙ v in
      rw (listening_nine found_by t g packet h v, listening_nine (listening w (head_of packet)) t g packet (head_of packet) outside))
      (true_or_false l.valid)

  same_tables : cast_tables found_by t g packet h ≡ cast_tables (listening w (head_of packet)) t g packet (head_of packet)
  unfolding cast_outcome kept_by
  same_tables = ⊎_elim
      (λ (v : l.valid ≡ true).
      ap (λ (x : Listener). cast_tables x t g packet h) (look_same v)
      ∙ ap (λ (x : Head). cast_tables (listening w (head_of packet)) t g packet x) eh)
      (λ (v : l.valid ≡ false).
      let outside : valid w ≡ false = sym (look_valid w (source h) l el) ∙ v in
      rw (listening_nine found_by t g packet h v, listening_nine (listening w (head_of packet)) t g packet (head_of packet) outside))
      (true_or_false l.valid)

  pub call_left : (o : Outcome) (p : Where) (versions numbers : List ℕ) → Left found_by t g packet h o versions numbers → p ≡ handed_by o
      → (record { outcome = o; lies = p } ≡ multicast_answer w t g packet)
      × ((versions ≡ (multicast_tables w t g packet).versions) × (numbers ≡ (multicast_tables w t g packet).numbers))
  unfolding multicast_answer multicast_tables
  call_left o p versions numbers left handed = (
    rw handed (ap group_answer (left.0 ∙ same_outcome)),
    (left.1.0 ∙ ap (λ (x : Tables). x.versions) same_tables, left.1.1 ∙ ap (λ (x : Tables). x.numbers) same_tables),
  )

-- Of a state outside its limits nothing is looked at, and nothing changes.
pub left_outside : (s : Listener) (t : Tables) (g : ℕ) (packet : List ℕ) (h : Head) → s.valid ≡ false → (o : Outcome) (versions numbers : List ℕ)
    → Left s t g packet h o versions numbers → (o ≡ Refused refusals.State 0) × (versions ≡ t.versions) × (numbers ≡ t.numbers)
unfolding cast_outcome kept_by
left_outside s t g packet h outside o versions numbers left =
    let nine = listening_nine s t g packet h outside in
    (left.0 ∙ rw nine, left.1.0 ∙ rw nine, left.1.1 ∙ rw nine)
