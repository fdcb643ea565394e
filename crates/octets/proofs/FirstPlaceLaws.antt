-- Laws of the first place at which something holds. Assumes nothing.
use Rattle.std.specs.Prelude.{ℕ, zero, suc, ◌≤◌, ◌<◌, ◌≡◌, refl, ◌≢◌, Bool, true, false, cond, ltb, Option, None, Some, MatchOption}
use Rattle.std.proofs.Common.{sym, ap, ◌∙◌, ⊎_elim, arith, ltb-true, ltb-false, lt-ltb, le-ltb}
use Rattle.std.specs.Option.{unwrap_or}
use Rattle.octets.specs.FirstPlace.{first_place}
use Rattle.octets.specs.Split.{eq_or_ne, lt_or_le}

-- It depends on the places below alone.
pub place_same : (f g : ℕ → Bool) (k : ℕ) → ((j : ℕ) → j < k → f j ≡ g j) → first_place f k ≡ first_place g k
unfolding first_place
place_same f g zero same = refl
place_same f g (suc k) same = rw (place_same f g k (λ j less. same j (omega arith)), same k (omega arith))

-- It holds at the first place, and at none before.
pub place_holds : (g : ℕ → Bool) (k : ℕ) → first_place g k < k → g (first_place g k) ≡ true
unfolding first_place
place_holds g zero less = absurd (omega arith)
place_holds g (suc k) less = by (first_place g k) (ltb (first_place g k) k) refl (g k) refl (place_holds g k) less
  where
    by : (i : ℕ) (b : Bool) → ltb i k ≡ b → (c : Bool) → g k ≡ c → (i < k → g i ≡ true) → cond b i (cond c k (suc k)) < suc k → g (cond b i (cond c k (suc k))) ≡ true
    by i true e c f earlier less = earlier (ltb-true i k e)
    by i false e true f earlier less = f
    by i false e false f earlier less = absurd (omega arith)

pub place_before : (g : ℕ → Bool) (k j : ℕ) → j < first_place g k → j < k → g j ≡ false
unfolding first_place
place_before g zero j less below = absurd (omega arith)
place_before g (suc k) j less below = by (first_place g k) (ltb (first_place g k) k) refl (g k) refl (place_before g k j) less
  where
    by : (i : ℕ) (b : Bool) → ltb i k ≡ b → (c : Bool) → g k ≡ c → (j < i → j < k → g j ≡ false) → j < cond b i (cond c k (suc k)) → g j ≡ false
    by i true e c f earlier less = earlier less (omega (arith, ltb-true i k e))
    by i false e true f earlier less = earlier (omega (arith, ltb-false i k e)) less
    by i false e false f earlier less = ⊎_elim
        (λ (z : j ≡ k). ap g z ∙ f)
        (λ (z : j ≢ k). earlier (omega (arith, ltb-false i k e)) (omega (arith, z)))
        (eq_or_ne j k)

-- As a search finds it: where it holds at none of the first i places, but at place i, that is the first of any more;
pub place_here : (g : ℕ → Bool) (i : ℕ) → first_place g i ≡ i → g i ≡ true → (k : ℕ) → i < k → first_place g k ≡ i
unfolding first_place
place_here g i none here zero less = absurd (omega arith)
place_here g i none here (suc k) less = ⊎_elim
    (λ (q : i < k). rw (place_here g i none here k q, lt-ltb i k q))
    (λ (q : k ≤ i).
    let z : k ≡ i = omega arith in
    rw (z, none, le-ltb i i (omega arith), here))
    (lt_or_le i k)

-- where it does not hold at place i either, it holds at none of one more.
pub place_none : (g : ℕ → Bool) (i : ℕ) → first_place g i ≡ i → g i ≡ false → first_place g (suc i) ≡ suc i
unfolding first_place
place_none g i none not_here = rw (none, le-ltb i i (omega arith), not_here)

-- It is no further than the places looked at.
pub place_most : (g : ℕ → Bool) (k : ℕ) → first_place g k ≤ k
unfolding first_place
place_most g zero = omega arith
place_most g (suc k) = by (first_place g k) (ltb (first_place g k) k) refl (g k)
  where
    by : (i : ℕ) (b : Bool) → ltb i k ≡ b → (c : Bool) → cond b i (cond c k (suc k)) ≤ suc k
    by i true e c = omega (arith, ltb-true i k e)
    by i false e true = omega arith
    by i false e false = omega arith

-- Where it holds at none of the first k places, there is none,
pub place_past : (g : ℕ → Bool) (k : ℕ) → ((j : ℕ) → j < k → g j ≡ false) → first_place g k ≡ k
unfolding first_place
place_past g zero none = refl
place_past g (suc k) none = place_none g k (place_past g k (λ j less. none j (omega arith))) (none k (omega arith))

-- so that the library's `find` over a range finds it.
pub place_found : (g : ℕ → Bool) (k : ℕ) (r : Option ℕ)
    → MatchOption r ((j : ℕ) → 0 ≤ j → j < k → g j ≡ false) (λ i. (0 ≤ i) × (i < k) × (g i ≡ true) × ((j : ℕ) → 0 ≤ j → j < i → g j ≡ false))
    → unwrap_or r k ≡ first_place g k
place_found g k None none = sym (place_past g k (λ j less. none j (omega arith) less))
place_found g k (Some i) (low, high, here, before) = sym (place_here g i (place_past g i (λ j less. before j (omega arith) less)) here k high)
