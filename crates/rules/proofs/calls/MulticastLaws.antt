-- Laws of the multicast call: what is known where no number applies, the entries that stay, and that tables within 26's limits
-- stay within them. Assumes nothing.
use Rattle.std.specs.Prelude.{ℕ, zero, suc, ◌+◌, ◌*◌, ◌≤◌, ◌<◌, ◌≡◌, refl, ◌≢◌, Bool, true, false, not, cond, ◌&&◌, ◌||◌, List, eqb, leb, length, Err}
use Rattle.std.proofs.Common.{sym, ap, ◌∙◌, ⊎_elim, mul-le-mul_right, arith, length-set, get_or-set_same, get_or-set_other, leb-true, leb-false, lt-ltb, eqb-true, eq-eqb}
use Rattle.std.proofs.lemmas.Bool.{not-false}
use Rattle.octets.specs.Split.{lt_or_le, eq_or_ne, cond_case, both, and_left, and_right}
use Rattle.refusal.specs.declared.Refusal.TheVariants as refusals
use Rattle.ring.specs.Ring.{M, is_number}
use Rattle.ring.specs.Check.{is_repeat, is_unchecked}
use Rattle.header.specs.declared.Head.{Head}
use Rattle.header.specs.Head.{head_of, length_outside}
use Rattle.header.specs.Places.{header_size}
use Rattle.groups.specs.Groups.{place_of}
use Rattle.state.specs.declared.Receiver.{Receiver}
use Rattle.state.specs.Limits.{last_within, valid}
use Rattle.answers.specs.declared.Listener.{Listener}
use Rattle.answers.specs.declared.Outcome.{Outcome}
use Rattle.answers.specs.declared.Outcome.TheVariants.{Refused, Delivered}
use Rattle.answers.specs.Told.{refusal}
use Rattle.rules.specs.calls.First.{checked, first}
use Rattle.rules.proofs.calls.FirstLaws.{check_case, checked_here, first_none}
use Rattle.rules.specs.calls.Message.{head_within}
use Rattle.rules.proofs.calls.MessageLaws.{head_number}
use Rattle.rules.specs.calls.Multicast.{Tables, priorities, entries_of, entry_place, entry_at, with_entry, each_entry, tables_within, most_cast, one_piece, place_for, verdict_in, cast_rows, listening, cast_outcome, is_kept, kept_by, cast_tables, group_answer, multicast_answer, multicast_tables}

-- ---- what is known where no number applies

pub record Cast (s : Listener) (t : Tables) (g : ℕ) (packet : List ℕ) (h : Head) : Type 0 where
  pub is_valid : s.valid ≡ true
  pub tables_within_lem : tables_within (entries_of s.count s.groups.count) t ≡ true
  pub length_right : length_outside header_size most_cast (length packet) h ≡ false
  pub head_within_lem : head_within packet h ≡ true
  pub registered : s.at < s.count
  pub in_group : place_of s.groups g < s.groups.count
  pub mode_right : eqb h.given.mode 1 && not s.test ≡ false
  pub one_piece_lem : one_piece h.cut ≡ true
  pub no_repeat : is_repeat (verdict_in s t g h) ≡ false

pub cast_facts : (s : Listener) (t : Tables) (g : ℕ) (packet : List ℕ) (h : Head) → first (cast_rows s t g packet h) ≡ 0 → Cast s t g packet h
unfolding cast_rows
cast_facts s t g packet h e =
    let r9 = first_none _ (not s.valid) _ e in
    let r26 = first_none _ (not (tables_within (entries_of s.count s.groups.count) t)) _ r9.1 in
    let r12 = first_none _ (length_outside header_size most_cast (length packet) h) _ r26.1 in
    let r13 = first_none _ (not (head_within packet h)) _ r12.1 in
    let r14 = first_none _ (leb s.count s.at) _ r13.1 in
    let r25 = first_none _ (leb s.groups.count (place_of s.groups g)) _ r14.1 in
    let r15 = first_none _ (eqb h.given.mode 1 && not s.test) _ r25.1 in
    let r16 = first_none _ (not (one_piece h.cut)) _ r15.1 in
    let r17 = first_none _ (is_repeat (verdict_in s t g h)) _ r16.1 in
    record {
      is_valid = not-false s.valid r9.0;
      tables_within_lem = not-false (tables_within (entries_of s.count s.groups.count) t) r26.0;
      length_right = r12.0;
      head_within_lem = not-false (head_within packet h) r13.0;
      registered = leb-false s.count s.at r14.0;
      in_group = leb-false s.groups.count (place_of s.groups g) r25.0;
      mode_right = r15.0;
      one_piece_lem = not-false (one_piece h.cut) r16.0;
      no_repeat = r17.0;
    }

-- ---- places

-- Of fewer places than n in each of fewer rows than m.
row_place : (m n i j : ℕ) → i < m → j < n → i * n + j < m * n
row_place m n i j less below =
    let rows : suc i * n ≤ m * n = mul-le-mul_right n less in
    omega (arith, rows)

-- Every sender, group and priority has an entry,
pub place_below : (senders groups i j pri : ℕ) → i < senders → j < groups → pri < priorities → entry_place groups i j pri < entries_of senders groups
unfolding entry_place
place_below senders groups i j pri s g p = omega (arith, row_place senders groups i j s g)

-- and no two have the same.
row_apart : (n i j k l : ℕ) → j < n → l < n → i * n + j ≡ k * n + l → (i ≡ k) × (j ≡ l)
row_apart n i j k l a b e = ⊎_elim
    (λ (less : i < k).
    let rows : suc i * n ≤ k * n = mul-le-mul_right n less in
    absurd (omega (arith, rows, e)))
    (λ (more : k ≤ i). ⊎_elim
    (λ (less : k < i).
    let rows : suc k * n ≤ i * n = mul-le-mul_right n less in
    absurd (omega (arith, rows, e)))
    (λ (same : i ≤ k).
    let z : i ≡ k = omega arith in
    let f : i * n + j ≡ i * n + l = e ∙ ap (λ (x : ℕ). x * n + l) (sym z) in
    (z, omega (arith, f)))
    (lt_or_le k i))
    (lt_or_le i k)

pub place_apart : (groups i j p k l q : ℕ) → j < groups → l < groups → p < priorities → q < priorities
    → entry_place groups i j p ≡ entry_place groups k l q → (i ≡ k) × (j ≡ l) × (p ≡ q)
unfolding entry_place
place_apart groups i j p k l q a b c d e =
    let rows : i * groups + j ≡ k * groups + l = omega (arith, e) in
    let both = row_apart groups i j k l a b rows in
    (both.0, both.1, omega (arith, e, rows))

-- ---- tables within 26's limits

pub record TablesWithin (n : ℕ) (t : Tables) : Type 0 where
  pub versions_long : length t.versions ≡ n
  pub numbers_long : length t.numbers ≡ n
  pub each : (k : ℕ) → k < n → last_within (entry_at t k) ≡ true

each_at : (t : Tables) (n : ℕ) → each_entry t n ≡ true → (k : ℕ) → k < n → last_within (entry_at t k) ≡ true
unfolding each_entry
each_at t zero e k less = absurd (omega arith)
each_at t (suc n) e k less = ⊎_elim
    (λ (q : k < n). each_at t n (and_left (each_entry t n) (last_within (entry_at t n)) e) k q)
    (λ (q : n ≤ k).
    let z : k ≡ n = omega arith in
    rw z (and_right (each_entry t n) (last_within (entry_at t n)) e))
    (lt_or_le k n)

each_of : (t : Tables) (n : ℕ) → ((k : ℕ) → k < n → last_within (entry_at t k) ≡ true) → each_entry t n ≡ true
unfolding each_entry
each_of t zero f = refl
each_of t (suc n) f = rw (each_of t n (λ k less. f k (omega arith)), f n (omega arith))

pub tables_facts : (n : ℕ) (t : Tables) → tables_within n t ≡ true → TablesWithin n t
unfolding tables_within
tables_facts n t e =
    let a = eqb (length t.versions) n in
    let b = eqb (length t.numbers) n in
    let sizes = and_left (a && b) (each_entry t n) e in
    record {
      versions_long = eqb-true (length t.versions) n (and_left a b sizes);
      numbers_long = eqb-true (length t.numbers) n (and_right a b sizes);
      each = each_at t n (and_right (a && b) (each_entry t n) e);
    }

pub tables_of : (n : ℕ) (t : Tables) → TablesWithin n t → tables_within n t ≡ true
unfolding tables_within
tables_of n t f = rw (eq-eqb (length t.versions) n f.versions_long, eq-eqb (length t.numbers) n f.numbers_long, each_of t n f.each)

-- One entry more, as a pass over the tables judges them.
pub entries_more : (t : Tables) (i : ℕ) (so_far within : Bool) → so_far ≡ each_entry t i → within ≡ last_within (entry_at t i) → so_far && within ≡ each_entry t (suc i)
unfolding each_entry
entries_more t i so_far within e f = rw (e, f)

-- ---- what is kept

-- The entry that is written, and the others.
pub entry_same : (t : Tables) (k : ℕ) (h : Head) → k < length t.versions → k < length t.numbers
    → entry_at (with_entry t k h.given.version h.given.number) k ≡ record { version = h.given.version; number = h.given.number }
entry_same t k h a b = rw (get_or-set_same t.versions k h.given.version.0 0 a, get_or-set_same t.numbers k h.given.number.0 0 b)

pub entry_other : (t : Tables) (k j : ℕ) (h : Head) → j ≢ k → entry_at (with_entry t k h.given.version h.given.number) j ≡ entry_at t j
entry_other t k j h n = rw (get_or-set_other t.versions k j h.given.version.0 0 n, get_or-set_other t.numbers k j h.given.number.0 0 n)

-- "a delivery changes at most its own entry".
pub kept_other : (t : Tables) (k j : ℕ) (o : Outcome) (h : Head) → j ≢ k → entry_at (kept_by t k o h) j ≡ entry_at t j
unfolding kept_by
kept_other t k j o h n = cond_case (λ (x : Tables). entry_at x j ≡ entry_at t j) (is_kept o) _ _ (λ _. entry_other t k j h n) (λ _. refl)

-- A number of a packet in order is within the limits of a last number.
written_within : (h : Head) → is_number h.given.number.0 ≡ true → last_within (record { version = h.given.version; number = h.given.number }) ≡ true
unfolding last_within
written_within h e =
    let s = h.given.number.0 in
    let some = lt-ltb 0 s (leb-true 1 s (and_left (leb 1 s) (leb s M) e)) in
    rw (and_right (leb 1 s) (leb s M) e, some) (or_true (eqb h.given.version.0 0))
  where
    or_true : (b : Bool) → b || true ≡ true
    or_true true = refl
    or_true false = refl

kept_within : (n : ℕ) (t : Tables) (k : ℕ) (h : Head) → is_number h.given.number.0 ≡ true → TablesWithin n t → TablesWithin n (with_entry t k h.given.version h.given.number)
kept_within n t k h e f = record {
  versions_long = length-set t.versions k h.given.version.0 ∙ f.versions_long;
  numbers_long = length-set t.numbers k h.given.number.0 ∙ f.numbers_long;
  each = λ j less. ⊎_elim
      (λ (z : j ≡ k). rw (z, entry_same t k h (omega (arith, f.versions_long, z)) (omega (arith, f.numbers_long, z))) (written_within h e))
      (λ (z : j ≢ k). rw (entry_other t k j h z) (f.each j less))
      (eq_or_ne j k);
}

-- Whatever the packet, tables within their limits stay within them.
pub cast_within : (n : ℕ) (s : Listener) (t : Tables) (g : ℕ) (packet : List ℕ) (h : Head) → tables_within n t ≡ true → tables_within n (cast_tables s t g packet h) ≡ true
unfolding cast_outcome kept_by
cast_within n s t g packet h ok =
    check_case (λ (o : Outcome). tables_within n (cond (is_kept o) (with_entry t (place_for s g h) h.given.version h.given.number) t) ≡ true)
    (cast_rows s t g packet h) (Delivered (verdict_in s t g h)) (λ r. refusal r (verdict_in s t g h))
    (λ e. cond_case (λ (x : Tables). tables_within n x ≡ true) (not (is_unchecked (verdict_in s t g h))) _ _
    (λ _.
    let number = head_number packet h (cast_facts s t g packet h e).head_within_lem in
    tables_of n _ (kept_within n t (place_for s g h) h number (tables_facts n t ok)))
    (λ _. ok))
    (λ r e. ok)

-- ---- a state outside its limits

-- Of a state outside its limits nothing else is looked at.
pub listening_nine : (s : Listener) (t : Tables) (g : ℕ) (packet : List ℕ) (h : Head) → s.valid ≡ false → checked (cast_rows s t g packet h) ≡ Err refusals.State
unfolding cast_rows
listening_nine s t g packet h outside = checked_here refusals.State (not s.valid) _ (rw outside)

pub multicast_nine : (w : Receiver) (t : Tables) (g : ℕ) (packet : List ℕ) → valid w ≡ false
    → (multicast_answer w t g packet ≡ group_answer (Refused refusals.State 0)) × (multicast_tables w t g packet ≡ t)
unfolding multicast_answer multicast_tables cast_outcome kept_by
multicast_nine w t g packet outside =
    let nine = listening_nine (listening w (head_of packet)) t g packet (head_of packet) outside in
    (rw nine, rw nine)
