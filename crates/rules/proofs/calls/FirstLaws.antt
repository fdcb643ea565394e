-- Laws of "the first that applies". Assumes nothing.
use Rattle.std.specs.Prelude.{◌≡◌, refl, ◌≢◌, ◌⊎◌, Bool, true, false, not, cond, ◌&&◌, List, [], ◌∷◌, ◌++◌, ℕ, ◌≤◌, ◌<◌, eqb, ltb, Result, Ok, Err}
use Rattle.std.specs.Option.{is_some}
use Rattle.std.specs.Result.{result_err}
use Rattle.std.proofs.Common.{sym, ap, ◌∙◌, inl, inr, ⊎_elim, arith, ltb-true, ne_eqb, eqb-true}
use Rattle.std.proofs.lemmas.Bool.{eqb-false, not-true, false≢true}
use Rattle.octets.specs.Split.{true_or_false, cond_case, and_left, and_right}
use Rattle.refusal.specs.declared.Refusal.{Refusal}
use Rattle.refusal.specs.Numbers.{number_of, number_in}
use Rattle.refusal.proofs.NumbersLaws.{nine_or_more, one_number}
use Rattle.rules.specs.calls.First.{Row, row, checked, first, Given, by_check}

-- The number of a refusal is none of 0.
pub some_number : (r : Refusal) → number_of r ≢ 0
some_number r z = omega (arith, z, nine_or_more r)

-- ---- the first that applies, and its number

pub first_is : (rs : List Row) → first rs ≡ number_in (checked rs)
unfolding first checked
first_is [] = refl
first_is (r ∷ rs) = by r.applies (first_is rs)
  where
    by : (b : Bool) → first rs ≡ number_in (checked rs) → cond b (number_of r.refusal) (first rs) ≡ number_in (cond b (Err r.refusal) (checked rs))
    by true e = refl
    by false e = e

none_in : (x : Result (Unit {0}) Refusal) → number_in x ≡ 0 → x ≡ Ok tt
none_in (Ok y) e = refl
none_in (Err r) e = absurd (some_number r e)

given_in : (x : Result (Unit {0}) Refusal) (r : Refusal) → number_in x ≡ number_of r → x ≡ Err r
given_in (Ok y) r e = absurd (some_number r (sym e))
given_in (Err q) r e = ap Err (one_number q r e)

-- Where no number is given, nothing is refused, and the other way round;
pub checked_none : (rs : List Row) → first rs ≡ 0 → checked rs ≡ Ok tt
checked_none rs e = none_in (checked rs) (sym (first_is rs) ∙ e)

pub none_checked : (rs : List Row) → checked rs ≡ Ok tt → first rs ≡ 0
none_checked rs e = first_is rs ∙ ap number_in e

-- and where one is, its refusal.
pub checked_given : (rs : List Row) (r : Refusal) → first rs ≡ number_of r → checked rs ≡ Err r
checked_given rs r e = given_in (checked rs) r (sym (first_is rs) ∙ e)

pub given_checked : (rs : List Row) (r : Refusal) → checked rs ≡ Err r → first rs ≡ number_of r
given_checked rs r e = first_is rs ∙ ap number_in e

pub ok_or_err : (x : Result (Unit {0}) Refusal) → (x ≡ Ok tt) ⊎ ((r : Refusal) × (x ≡ Err r))
ok_or_err (Ok y) = inl refl
ok_or_err (Err r) = inr (r, refl)

-- A number that is given is a refusal's,
pub refusal_given : (rs : List Row) → first rs ≢ 0 → (r : Refusal) × ((checked rs ≡ Err r) × (first rs ≡ number_of r))
refusal_given rs some = by (checked rs) refl
  where
    by : (x : Result (Unit {0}) Refusal) → checked rs ≡ x → (r : Refusal) × ((checked rs ≡ Err r) × (first rs ≡ number_of r))
    by (Ok y) e = absurd (some (none_checked rs e))
    by (Err r) e = (r, (e, given_checked rs r e))

-- so it is 9 or more.
pub given_number : (rs : List Row) → first rs ≢ 0 → 9 ≤ first rs
given_number rs some =
    let given = refusal_given rs some in
    omega (arith, given.1.1, nine_or_more given.0)

-- The same by whether something is refused.
pub err_none : (x : Result (Unit {0}) Refusal) → is_some (result_err x) ≡ false → x ≡ Ok tt
err_none (Ok y) e = refl
err_none (Err r) e = absurd (false≢true (sym e))

pub err_some : (x : Result (Unit {0}) Refusal) → is_some (result_err x) ≡ true → (r : Refusal) × (x ≡ Err r)
err_some (Ok y) e = absurd (false≢true e)
err_some (Err r) e = (r, refl)

-- What holds where nothing is refused and of each refusal holds of what is answered by the rows.
pub check_case : {A : Type 0} (P : A → Type 0) (rs : List Row) (a : A) (f : Refusal → A) → (first rs ≡ 0 → P a)
    → ((r : Refusal) → first rs ≡ number_of r → P (f r)) → P (by_check (checked rs) a f)
check_case P rs a f done refuses = by (checked rs) (first_is rs)
  where
    by : (x : Result (Unit {0}) Refusal) → first rs ≡ number_in x → P (by_check x a f)
    by (Ok y) e = done e
    by (Err r) e = refuses r e

-- So it is with two that are answered by the same rows.
pub check_two : {A : Type 0} (R : A → A → Type 0) (rs : List Row) (a b : A) (f g : Refusal → A) → (first rs ≡ 0 → R a b)
    → ((r : Refusal) → first rs ≡ number_of r → R (f r) (g r)) → R (by_check (checked rs) a f) (by_check (checked rs) b g)
check_two R rs a b f g done refuses = by (checked rs) (first_is rs)
  where
    by : (x : Result (Unit {0}) Refusal) → first rs ≡ number_in x → R (by_check x a f) (by_check x b g)
    by (Ok y) e = done e
    by (Err r) e = refuses r e

pub check_ap : {A B : Type 0} (g : A → B) (x : Result (Unit {0}) Refusal) (a : A) (f : Refusal → A) → g (by_check x a f) ≡ by_check x (g a) (λ r. g (f r))
check_ap g (Ok y) a f = refl
check_ap g (Err r) a f = refl

-- ---- row by row

pub first_here : (r : Refusal) (b : Bool) (rs : List Row) → b ≡ true → first (row r b ∷ rs) ≡ number_of r
unfolding first
first_here r b rs e = rw e

pub first_later : (r : Refusal) (b : Bool) (rs : List Row) → b ≡ false → first (row r b ∷ rs) ≡ first rs
unfolding first
first_later r b rs e = rw e

pub checked_here : (r : Refusal) (b : Bool) (rs : List Row) → b ≡ true → checked (row r b ∷ rs) ≡ Err r
unfolding checked
checked_here r b rs e = rw e

pub checked_later : (r : Refusal) (b : Bool) (rs : List Row) → b ≡ false → checked (row r b ∷ rs) ≡ checked rs
unfolding checked
checked_later r b rs e = rw e

-- Where no number is given, no row applies.
pub first_none : (r : Refusal) (b : Bool) (rs : List Row) → first (row r b ∷ rs) ≡ 0 → (b ≡ false) × (first rs ≡ 0)
unfolding first
first_none r true rs e = absurd (some_number r e)
first_none r false rs e = (refl, e)

-- Rows behind others are tried where none of those applies.
pub checked_append : (rs qs : List Row) → checked (rs ++ qs) ≡ by_check (checked rs) (checked qs) Err
unfolding checked
checked_append [] qs = refl
checked_append (r ∷ rs) qs = by r.applies (checked_append rs qs)
  where
    by : (b : Bool) → checked (rs ++ qs) ≡ by_check (checked rs) (checked qs) Err
        → cond b (Err r.refusal) (checked (rs ++ qs)) ≡ by_check (cond b (Err r.refusal) (checked rs)) (checked qs) Err
    by true rest = refl
    by false rest = rest

pub first_append : (rs qs : List Row) → first (rs ++ qs) ≡ cond (eqb (first rs) 0) (first qs) (first rs)
first_append rs qs =
    first_is (rs ++ qs) ∙ ap number_in (checked_append rs qs) ∙ rw (first_is rs, first_is qs) (by (checked rs) (checked qs))
  where
    by : (x y : Result (Unit {0}) Refusal) → number_in (by_check x y Err) ≡ cond (eqb (number_in x) 0) (number_in y) (number_in x)
    by (Ok z) y = refl
    by (Err r) y = rw (ne_eqb (number_of r) 0 (some_number r))

-- Where no number is given, none is given by the rows in front or by those behind.
pub first_neither : (rs qs : List Row) → first (rs ++ qs) ≡ 0 → (first rs ≡ 0) × (first qs ≡ 0)
first_neither rs qs e =
    cond_case (λ (x : ℕ). x ≡ 0 → (first rs ≡ 0) × (first qs ≡ 0)) (eqb (first rs) 0) (first qs) (first rs)
    (λ z f. (eqb-true (first rs) 0 z, f))
    (λ z f. absurd (eqb-false (first rs) 0 z f))
    (sym (first_append rs qs) ∙ e)

-- Rows are tried behind others only where none of those applies: what they say elsewhere is not asked.
pub checked_behind : (rs qs ps : List Row) → (first rs ≡ 0 → qs ≡ ps) → checked (rs ++ qs) ≡ checked (rs ++ ps)
checked_behind rs qs ps same = rw (checked_append rs qs, checked_append rs ps) (by (checked rs) (first_is rs))
  where
    by : (x : Result (Unit {0}) Refusal) → first rs ≡ number_in x → by_check x (checked qs) Err ≡ by_check x (checked ps) Err
    by (Ok y) e = ap checked (same e)
    by (Err r) e = refl

-- ---- "given exactly when"

pub given_first : (rs : List Row) (k : ℕ) → Given rs k → first rs ≡ k
unfolding Given first
given_first [] k g = absurd g
given_first (r ∷ rs) k (inl g) = rw g.0 g.1
given_first (r ∷ rs) k (inr g) = rw g.0 (given_first rs k g.1)

pub first_given : (rs : List Row) (k : ℕ) → first rs ≡ k → k ≢ 0 → Given rs k
unfolding Given first
first_given [] k e ne = ne (sym e)
first_given (r ∷ rs) k e ne = ⊎_elim
    (λ (y : r.applies ≡ true). inl (y, rw y at e))
    (λ (n : r.applies ≡ false). inr (n, first_given rs k (rw n at e) ne))
    (true_or_false r.applies)

-- A number that is given is a refusal's.
pub given_refusal : (rs : List Row) (k : ℕ) → Given rs k → (r : Refusal) × (number_of r ≡ k)
unfolding Given
given_refusal [] k g = absurd g
given_refusal (r ∷ rs) k (inl g) = (r.refusal, g.1)
given_refusal (r ∷ rs) k (inr g) = given_refusal rs k g.1

-- No row of the list has the number k, so that it is not given.
unfoldable pub without : ℕ → List Row → Bool
without k [] = true
without k (r ∷ rs) = not (eqb (number_of r.refusal) k) && without k rs

pub first_without : (k : ℕ) (rs : List Row) → k ≢ 0 → without k rs ≡ true → first rs ≢ k
unfolding first without
first_without k [] some none = λ e. some (sym e)
first_without k (r ∷ rs) some none = cond_case (λ (x : ℕ). x ≢ k) r.applies (number_of r.refusal) (first rs)
    (λ _. eqb-false (number_of r.refusal) k (not-true (eqb (number_of r.refusal) k) (and_left (not (eqb (number_of r.refusal) k)) (without k rs) none)))
    (λ _. first_without k rs some (and_right (not (eqb (number_of r.refusal) k)) (without k rs) none))

-- Where k is given behind rows without it, none of those applies.
pub behind_without : (k : ℕ) (rs qs : List Row) → k ≢ 0 → without k rs ≡ true → first (rs ++ qs) ≡ k → first rs ≡ 0
behind_without k rs qs some none e =
    cond_case (λ (x : ℕ). x ≡ k → first rs ≡ 0) (eqb (first rs) 0) (first qs) (first rs)
    (λ z _. eqb-true (first rs) 0 z)
    (λ _ f. absurd (first_without k rs some none f))
    (sym (first_append rs qs) ∙ e)

-- A number that one row alone has is given only where that row applies.
pub first_own : (r : Refusal) (b : Bool) (rs qs : List Row) → without (number_of r) rs ≡ true → without (number_of r) qs ≡ true
    → first (rs ++ (row r b ∷ qs)) ≡ number_of r → b ≡ true
first_own r b rs qs front back e = ⊎_elim
    (λ yes. yes)
    (λ (no : b ≡ false).
    let none = behind_without (number_of r) rs (row r b ∷ qs) (some_number r) front e in
    let own : first (row r b ∷ qs) ≡ number_of r = rw none at (sym (first_append rs (row r b ∷ qs)) ∙ e) in
    absurd (first_without (number_of r) qs (some_number r) back (sym (first_later r b qs no) ∙ own)))
    (true_or_false b)

-- ---- "The lowest number that applies is given."

-- Every number of the list is above k.
unfoldable pub above : ℕ → List Row → Bool
above k [] = true
above k (r ∷ rs) = ltb k (number_of r.refusal) && above k rs

-- The numbers rise: the first that applies is then the lowest.
unfoldable pub rises : List Row → Bool
rises [] = true
rises (r ∷ rs) = above (number_of r.refusal) rs && rises rs

pub given_above : (j : ℕ) (rs : List Row) (k : ℕ) → above j rs ≡ true → Given rs k → j < k
unfolding above Given
given_above j [] k a g = absurd g
given_above j (r ∷ rs) k a (inl g) = omega (arith, g.1, ltb-true j (number_of r.refusal) (and_left (ltb j (number_of r.refusal)) (above j rs) a))
given_above j (r ∷ rs) k a (inr g) = given_above j rs k (and_right (ltb j (number_of r.refusal)) (above j rs) a) g.1
