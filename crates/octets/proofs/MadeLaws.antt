-- What is made of calls at each place in turn, by the library's `from_fn` of arrays. Assumes nothing.
use Rattle.std.specs.Prelude.{◌≡◌, List, ℕ, zero, suc, ◌+◌, ◌-◌, ◌≤◌, ◌<◌, get_or}
use Rattle.std.proofs.Common.{sym, ap, ◌∙◌, ⊎_elim, zero-add, arith}
use Rattle.std.specs.Array.{IsFromFnResult, IsFromFnResultFrom}
use Rattle.std.specs.Fn.{Mut, Called}
use Rattle.octets.specs.Split.{lt_or_le}

module _ {F B : Type 0} (g : Mut F (ℕ × Unit {0}) B) (f : F) (h : ℕ → B) (made : List B) (gives : (i : ℕ) (y : B) (q : F) → Called g f (i, tt) y q → (q ≡ f) × (y ≡ h i)) where
  made_from : (d : B) (n i : ℕ) → IsFromFnResultFrom g f made i n → (k : ℕ) → k < n → get_or made (i + k) d ≡ h (i + k)
  made_from d zero i e k less = absurd (omega arith)
  made_from d (suc n) i (q, y, here, called, rest) k less =
      let e = gives i y q called in
      ⊎_elim
      (λ (first : k < 1).
      let z : i + k ≡ i = omega arith in
      rw z (here.1 d ∙ e.1))
      (λ (more : 1 ≤ k).
      let z : i + k ≡ i + 1 + (k - 1) = omega arith in
      rw z (made_from d n (i + 1) (rw e.0 at rest) (k - 1) (omega arith)))
      (lt_or_le k 1)

  -- Where each call answers what h says of its place, so does the element there.
  pub made_each : (d : B) (n : ℕ) → IsFromFnResult g f made n → (k : ℕ) → k < n → get_or made k d ≡ h k
  made_each d n e k less = ap (λ (j : ℕ). get_or made j d) (sym (zero-add k)) ∙ made_from d n 0 e.each k less ∙ ap h (zero-add k)
