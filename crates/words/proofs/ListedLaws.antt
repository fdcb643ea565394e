-- Laws of a list that is written place by place. Assumes nothing.
use Prim.Native.Nat.{ℕ, zero, suc, ◌≤◌, ◌<◌}
use Rattle.std.specs.Prelude.{◌≡◌, ◌≢◌, get_or, set}
use Rattle.std.proofs.Math.Path.{refl, ap}
use Rattle.std.proofs.Common.{sym, ◌∙◌, length-set, get_or-set_same, get_or-set_other, ext_get_or}
use Rattle.std.proofs.Math.Logic.{⊎_elim}
use mathlib.Core.List.{List, [], ◌∷◌}
use Rattle.std.proofs.Math.Numerals.{unary_clauses}
use native.Mathlib.Omega.{arith}
use Rattle.std.proofs.Math.ListN.{length, length-append, get_or-append}
use Rattle.std.proofs.Math.Seq.{get_or-append_seam}
use Rattle.octets.specs.Split.{lt_or_le, eq_or_ne}
use Rattle.words.specs.Words.{listed}

module _ {A : Type 0} (d : A) where
  pub length_listed : (f : ℕ → A) (k : ℕ) → length (listed f k) ≡ k
  unfolding listed
  length_listed f zero = refl
  length_listed f (suc k) = length-append (listed f k) (f k ∷ []) ∙ simp (length_listed f k, unary_clauses)

  pub listed_at : (f : ℕ → A) (k i : ℕ) → i < k → get_or (listed f k) i d ≡ f i
  unfolding listed
  listed_at f zero i h = absurd (omega arith)
  listed_at f (suc k) i h = ⊎_elim
      (λ (q : i < k). get_or-append (listed f k) (f k ∷ []) d i (omega (arith, length_listed f k)) ∙ listed_at f k i q)
      (λ (q : k ≤ i).
      let e : i ≡ length (listed f k) = omega (arith, length_listed f k) in
      let z : i ≡ k = omega arith in
      rw e (get_or-append_seam (listed f k) (f k) [] d) ∙ ap f (sym z))
      (lt_or_le i k)

  -- Two lists with the same at each place.
  pub listed_same : (f : ℕ → A) (k : ℕ) (l : List A) → length l ≡ k → ((i : ℕ) → i < k → get_or l i d ≡ f i) → listed f k ≡ l
  listed_same f k l e same = ext_get_or d (listed f k) l (length_listed f k ∙ sym e)
      (λ i h.
      let below : i < k = omega (arith, length_listed f k) in
      listed_at f k i below ∙ sym (same i below))

  -- One place changed.
  pub listed_set : (f g : ℕ → A) (k i : ℕ) → ((j : ℕ) → j < k → j ≢ i → g j ≡ f j) → i < k → listed g k ≡ set (listed f k) i (g i)
  listed_set f g k i others h =
      listed_same g k (set (listed f k) i (g i)) (length-set (listed f k) i (g i) ∙ length_listed f k)
      (λ j q. ⊎_elim
      (λ (z : j ≡ i). rw z (get_or-set_same (listed f k) i (g i) d (omega (arith, length_listed f k))))
      (λ (n : j ≢ i). get_or-set_other (listed f k) i j (g i) d n ∙ listed_at f k j q ∙ sym (others j q n))
      (eq_or_ne j i))
