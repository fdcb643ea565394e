-- Laws of the groups: what 9 and 10 say of each, and what is kept. Assumes nothing.
use Rattle.std.specs.Prelude.{ℕ, zero, suc, ◌≤◌, ◌<◌, ◌≡◌, refl, ◌≢◌, Bool, true, false, ◌&&◌, List, eqb, length, get_or, MatchBool}
use Rattle.std.proofs.Common.{sym, ap, ◌∙◌, zero-add, arith, length-set, get_or-set_same, get_or-set_other}
use Rattle.std.proofs.Math.Logic.{⊎_elim}
use Rattle.std.proofs.Math.Dec.{leb}
use Rattle.std.proofs.Math.ListN.{get_or-eq_default}
use borrow.Author.Tests.{leb-true, lt-ltb, le-ltb, eqb-true, eq-eqb}
use Rattle.std.specs.List.{range_with_len, AllWithin, HoldsAt}
use Rattle.std.proofs.lemmas.List.FromFn.{length-range_with_len, get_or-range_with_len}
use Rattle.octets.proofs.FirstPlaceLaws.{place_same, place_holds, place_here}
use Rattle.octets.specs.Split.{lt_or_le, eq_or_ne, true_or_false, both, not_both, never_both, and_left, and_right}
use Rattle.groups.specs.declared.Group.{Group}
use Rattle.groups.specs.declared.Groups.{Groups}
use Rattle.groups.specs.Groups.{groups_most, no_group, no_groups, is_group, number_at, place_among, place_of, each_group, groups_within, kept_at, kept_list, kept}

-- Whether the group at a place passes: it is within its limits, and none before it has its number.
abbrev pub passes : (ℕ → ℕ) → ℕ → Bool
passes f i = is_group (f i) && eqb (place_among f i (f i)) i

each_pass : (f : ℕ → ℕ) (k : ℕ) → ((i : ℕ) → i < k → passes f i ≡ true) → each_group f k ≡ true
unfolding each_group
each_pass f zero h = refl
each_pass f (suc k) h = both (each_group f k) (passes f k) (each_pass f k (λ i less. h i (omega arith))) (h k (omega arith))

one_fails : (f : ℕ → ℕ) (k i : ℕ) → i < k → passes f i ≡ false → each_group f k ≡ false
unfolding each_group
one_fails f zero i less e = absurd (omega arith)
one_fails f (suc k) i less e = ⊎_elim
    (λ (q : i < k). rw (one_fails f k i q e))
    (λ (q : k ≤ i).
    let z : i ≡ k = omega arith in
    not_both (each_group f k) (passes f k) (λ x y. never_both y (rw z at e)))
    (lt_or_le i k)

-- What the library's `all` over a range says of the groups there.
pub each_of : (f : ℕ → ℕ) (k : ℕ) (r : Bool)
    → MatchBool r (AllWithin (λ i. passes f i ≡ true) (range_with_len 0 k) 0 (length (range_with_len 0 k))) ((j : ℕ) × (j < length (range_with_len 0 k)) × HoldsAt (λ i. passes f i ≡ false) (range_with_len 0 k) j)
    → r ≡ each_group f k
each_of f k true h =
    sym (each_pass f k (λ i less. rw (get_or-range_with_len 0 k i 0 less ∙ zero-add i) at (h i 0 (omega arith) (omega (arith, length-range_with_len 0 k)))))
each_of f k false (j, less, fails) =
    let here : j < k = omega (arith, length-range_with_len 0 k) in
    sym (one_fails f k j here (rw (get_or-range_with_len 0 k j 0 here ∙ zero-add j) at (fails 0)))

-- ---- what is kept

pub kept_length : (g : Groups) (k : ℕ) → length (kept_list g k) ≡ groups_most
unfolding kept_list
kept_length g zero = refl
kept_length g (suc k) = length-set (kept_list g k) k (kept_at g k) ∙ kept_length g k

-- Each of the eight places is as it is kept,
pub kept_place_at : (g : Groups) (k j : ℕ) → j < k → j < groups_most → get_or (kept_list g k) j no_group ≡ kept_at g j
unfolding kept_list
kept_place_at g zero j less few = absurd (omega arith)
kept_place_at g (suc k) j less few = ⊎_elim
    (λ (e : j ≡ k). rw e (get_or-set_same (kept_list g k) k (kept_at g k) no_group (omega (arith, kept_length g k))))
    (λ (n : j ≢ k). get_or-set_other (kept_list g k) k j (kept_at g k) no_group n ∙ kept_place_at g k j (omega arith) few)
    (eq_or_ne j k)

-- as given up to the count,
pub kept_number : (g : Groups) (j : ℕ) → j < g.count → j < groups_most → number_at (kept g) j ≡ number_at g j
unfolding kept_at
kept_number g j here few = ap (λ (x : Group). x.0) (kept_place_at g groups_most j few few ∙ rw (lt-ltb j g.count here))

-- and 0 past it.
pub kept_past : (g : Groups) (j : ℕ) → g.count ≤ j → get_or (kept g).list j no_group ≡ no_group
unfolding kept_at
kept_past g j past = ⊎_elim
    (λ (few : j < groups_most). kept_place_at g groups_most j few few ∙ rw (le-ltb j g.count past))
    (λ (many : groups_most ≤ j). get_or-eq_default (kept g).list no_group (omega (arith, kept_length g groups_most)))
    (lt_or_le j groups_most)

-- What is kept is kept as it is.
pub kept_twice : (g : Groups) → kept (kept g) ≡ kept g
unfolding kept_list
kept_twice g = ap (λ (l : List Group). record { count = g.count; list = l }) (lists groups_most (omega arith))
  where
    same : (k : ℕ) → k < groups_most → kept_at (kept g) k ≡ kept_at g k
    same k few = unfold kept_at in ⊎_elim
        (λ (here : k < g.count). rw (kept_place_at g groups_most k few few, lt-ltb k g.count here))
        (λ (past : g.count ≤ k). rw (le-ltb k g.count past))
        (lt_or_le k g.count)

    lists : (k : ℕ) → k ≤ groups_most → kept_list (kept g) k ≡ kept_list g k
    lists zero few = refl
    lists (suc k) few = rw (lists k (omega arith), same k (omega arith))

pub kept_none : kept no_groups ≡ no_groups
unfolding kept_list kept_at
kept_none = refl

-- What is asked of the first k depends on these alone.
each_same : (f h : ℕ → ℕ) (k : ℕ) → ((j : ℕ) → j < k → f j ≡ h j) → each_group f k ≡ each_group h k
unfolding each_group
each_same f h zero same = refl
each_same f h (suc k) same =
    let place = place_same (λ j. eqb (f j) (h k)) (λ j. eqb (h j) (h k)) k (λ j less. ap (λ (x : ℕ). eqb x (h k)) (same j (omega arith))) in
    rw (each_same f h k (λ j less. same j (omega arith)), same k (omega arith), place)

-- So places past the count have no part in 9 and 10, nor in where a group stands.
module _ (g h : Groups) (counts : g.count ≡ h.count) (same : (j : ℕ) → j < h.count → j < groups_most → number_at g j ≡ number_at h j) where
  pub same_within : groups_within g ≡ groups_within h
  unfolding groups_within
  same_within = rw counts (⊎_elim
      (λ (few : leb h.count groups_most ≡ true).
      rw few (each_same (number_at g) (number_at h) h.count (λ j less. same j less (omega (arith, leb-true h.count groups_most few)))))
      (λ (many : leb h.count groups_most ≡ false). rw many)
      (true_or_false (leb h.count groups_most)))

  pub same_place : h.count ≤ groups_most → (x : ℕ) → place_of g x ≡ place_of h x
  same_place few x = rw counts (place_same (λ j. eqb (number_at g j) x) (λ j. eqb (number_at h j) x) h.count
      (λ j less. ap (λ (y : ℕ). eqb y x) (same j less (omega arith))))

pub kept_within : (g : Groups) → groups_within (kept g) ≡ groups_within g
kept_within g = same_within (kept g) g refl (kept_number g)

pub kept_place : (g : Groups) → g.count ≤ groups_most → (x : ℕ) → place_of (kept g) x ≡ place_of g x
kept_place g = same_place (kept g) g refl (kept_number g)

pub within_few : (g : Groups) → groups_within g ≡ true → g.count ≤ groups_most
unfolding groups_within
within_few g e = leb-true g.count groups_most (and_left (leb g.count groups_most) (each_group (number_at g) g.count) e)

-- Each registered group is within its limits.
each_at : (f : ℕ → ℕ) (k : ℕ) → each_group f k ≡ true → (j : ℕ) → j < k → is_group (f j) ≡ true
unfolding each_group
each_at f zero e j less = absurd (omega arith)
each_at f (suc k) e j less =
    let here = is_group (f k) && eqb (place_among f k (f k)) k in
    ⊎_elim
    (λ (q : j < k). each_at f k (and_left (each_group f k) here e) j q)
    (λ (q : k ≤ j).
    let z : j ≡ k = omega arith in
    rw z (and_left (is_group (f k)) (eqb (place_among f k (f k)) k) (and_right (each_group f k) here e)))
    (lt_or_le j k)

pub within_each : (g : Groups) → groups_within g ≡ true → (j : ℕ) → j < g.count → is_group (number_at g j) ≡ true
unfolding groups_within
within_each g e = each_at (number_at g) g.count (and_right (leb g.count groups_most) (each_group (number_at g) g.count) e)

-- A registered group stands at its own place alone: none is named twice.
each_new : (f : ℕ → ℕ) (k : ℕ) → each_group f k ≡ true → (j : ℕ) → j < k → place_among f j (f j) ≡ j
unfolding each_group
each_new f zero e j less = absurd (omega arith)
each_new f (suc k) e j less =
    let new = eqb (place_among f k (f k)) k in
    ⊎_elim
    (λ (q : j < k). each_new f k (and_left (each_group f k) (is_group (f k) && new) e) j q)
    (λ (q : k ≤ j).
    let z : j ≡ k = omega arith in
    rw z (eqb-true (place_among f k (f k)) k (and_right (is_group (f k)) new (and_right (each_group f k) (is_group (f k) && new) e))))
    (lt_or_le j k)

pub place_own : (g : Groups) → groups_within g ≡ true → (j : ℕ) → j < g.count → place_of g (number_at g j) ≡ j
unfolding groups_within
place_own g e j here =
    let each = and_right (leb g.count groups_most) (each_group (number_at g) g.count) e in
    place_here (λ i. eqb (number_at g i) (number_at g j)) j (each_new (number_at g) g.count each j here) (eq-eqb (number_at g j) (number_at g j) refl) g.count here

-- What stands at the place that is found is the group.
pub place_number : (g : Groups) (x : ℕ) → place_of g x < g.count → number_at g (place_of g x) ≡ x
place_number g x here = eqb-true (number_at g (place_of g x)) x (place_holds (λ i. eqb (number_at g i) x) g.count here)

-- Two groups that keep the same stand at the same places, and are judged alike.
module _ (g h : Groups) (same : kept g ≡ kept h) where
  counts : g.count ≡ h.count
  counts = ap (λ (x : Groups). x.count) same

  numbers : (j : ℕ) → j < h.count → j < groups_most → number_at g j ≡ number_at h j
  numbers j less few = sym (kept_number g j (omega (arith, counts)) few) ∙ ap (λ (x : Groups). number_at x j) same ∙ kept_number h j less few

  pub alike_within : groups_within g ≡ groups_within h
  alike_within = same_within g h counts numbers

  pub alike_place : h.count ≤ groups_most → (x : ℕ) → place_of g x ≡ place_of h x
  alike_place = same_place g h counts numbers
