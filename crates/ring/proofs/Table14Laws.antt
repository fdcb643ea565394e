-- Rule 4 is Table 14 for R and SEQ 1 to M and N1 1 to 1,024. Assumes nothing.
use Rattle.std.specs.Prelude.{◌≡◌, ◌≢◌, Bool, true, cond, not, ◌&&◌, ◌||◌, ℕ, ◌+◌, ◌-◌, ◌≤◌, ◌<◌, ltb, leb}
use Rattle.std.proofs.Math.Logic.{⊎_elim}
use Rattle.std.proofs.Math.Bool.{false}
use Rattle.std.proofs.Common.{arith}
use Rattle.std.proofs.Math.Dec.{eqb}
use borrow.Author.Tests.{eqb-true, eq-eqb, ne_eqb, lt-ltb, le-ltb, le-leb, ltb-true, leb-true}
use Rattle.octets.specs.Split.{lt_or_le, eq_or_ne, same_test, both, and_left, and_right, or_left, or_right, either, not_both}
use Rattle.ring.specs.declared.Number.{Number}
use Rattle.ring.specs.declared.Verdict.TheVariants.{Repeat, Next, Gap}
use Rattle.ring.specs.Ring.{M, OnRing, remainder, skipped}
use Rattle.ring.proofs.RingLaws.{remainder_below, remainder_above}
use Rattle.ring.specs.Check.{rule4}
use Rattle.ring.specs.Table14.{row1, row2, row3, row4, table14, result}

module _ (n1 r s : ℕ) (hr : OnRing r) (hs : OnRing s) (low : 1 ≤ n1) (high : n1 ≤ 1024) where
  d : ℕ
  d = remainder r s

  below : s ≤ r → d ≡ r - s
  unfolding d
  below = remainder_below r s hr hs

  above : r < s → d ≡ r + M - s
  unfolding d
  above = remainder_above r s hr hs

  normal_next : row1 r s || row2 r s ≡ true → d ≡ M - 1
  normal_next e = ⊎_elim
      (λ (a : row1 r s ≡ true).
      let f : r + 1 ≡ s = eqb-true (r + 1) s (and_right (not (eqb r M)) (eqb (r + 1) s) a) in
      omega (arith, above (omega arith)))
      (λ (a : row2 r s ≡ true).
      let f : r ≡ M = eqb-true r M (and_left (eqb r M) (eqb s 1) a) in
      let g : s ≡ 1 = eqb-true s 1 (and_right (eqb r M) (eqb s 1) a) in
      omega (arith, below (omega arith)))
      (either (row1 r s) (row2 r s) e)

  next_normal : d ≡ M - 1 → row1 r s || row2 r s ≡ true
  next_normal e = ⊎_elim
      (λ (h : r < s).
      let f : eqb r M ≡ false = ne_eqb r M (λ q. omega (arith, hs.last)) in
      or_left (row1 r s) (row2 r s)
      (both (not (eqb r M)) (eqb (r + 1) s) (rw f) (eq-eqb (r + 1) s (omega (arith, above h, hs.last)))))
      (λ (h : s ≤ r).
      or_right (row1 r s) (row2 r s)
      (both (eqb r M) (eqb s 1) (eq-eqb r M (omega (arith, below h, hr.last, hs.first))) (eq-eqb s 1 (omega (arith, below h, hr.last, hs.first)))))
      (lt_or_le r s)

  twice_repeat : row3 n1 r s || row4 n1 r s ≡ true → d < n1
  twice_repeat e = ⊎_elim
      (λ (a : row3 n1 r s ≡ true).
      let x = and_right (ltb n1 r) (ltb (r - n1) s && leb s r) a in
      let f : r - n1 < s = ltb-true (r - n1) s (and_left (ltb (r - n1) s) (leb s r) x) in
      let g : s ≤ r = leb-true s r (and_right (ltb (r - n1) s) (leb s r) x) in
      omega (arith, below g))
      (λ (a : row4 n1 r s ≡ true).
      let y : r ≤ n1 = leb-true r n1 (and_left (leb r n1) (near || far) a) in
      ⊎_elim
      (λ (b : near ≡ true). let g : s ≤ r = leb-true s r (and_right (ltb 0 s) (leb s r) b) in omega (arith, below g, hs.first))
      (λ (b : far ≡ true).
      let f : M - (n1 - r) < s = ltb-true (M - (n1 - r)) s (and_left (ltb (M - (n1 - r)) s) (leb s M) b) in
      let z : r < s = omega (arith, hr.last) in
      omega (arith, above z))
      (either near far (and_right (leb r n1) (near || far) a)))
      (either (row3 n1 r s) (row4 n1 r s) e)
    where
      near : Bool
      near = ltb 0 s && leb s r

      far : Bool
      far = ltb (M - (n1 - r)) s && leb s M

  repeat_twice : d < n1 → row3 n1 r s || row4 n1 r s ≡ true
  repeat_twice e = ⊎_elim
      (λ (h : r < s).
      let y : r ≤ n1 = omega (arith, above h, hs.last) in
      let far : ltb (M - (n1 - r)) s && leb s M ≡ true
      = both (ltb (M - (n1 - r)) s) (leb s M) (lt-ltb (M - (n1 - r)) s (omega (arith, above h, hs.last))) (le-leb s M hs.last) in
      or_right (row3 n1 r s) (row4 n1 r s)
      (both (leb r n1) _ (le-leb r n1 y) (or_right (ltb 0 s && leb s r) (ltb (M - (n1 - r)) s && leb s M) far)))
      (λ (h : s ≤ r). ⊎_elim
      (λ (y : n1 < r).
      or_left (row3 n1 r s) (row4 n1 r s)
      (both (ltb n1 r) (ltb (r - n1) s && leb s r) (lt-ltb n1 r y)
      (both (ltb (r - n1) s) (leb s r) (lt-ltb (r - n1) s (omega (arith, below h))) (le-leb s r h))))
      (λ (y : r ≤ n1).
      or_right (row3 n1 r s) (row4 n1 r s)
      (both (leb r n1) _ (le-leb r n1 y)
      (or_left (ltb 0 s && leb s r) (ltb (M - (n1 - r)) s && leb s M) (both (ltb 0 s) (leb s r) (lt-ltb 0 s hs.first) (le-leb s r h)))))
      (lt_or_le n1 r))
      (lt_or_le r s)

  normal_is : row1 r s || row2 r s ≡ eqb d (M - 1)
  normal_is = same_test (row1 r s || row2 r s) (eqb d (M - 1))
      (λ e. eq-eqb d (M - 1) (normal_next e)) (λ e. next_normal (eqb-true d (M - 1) e))

  duplicated_is : row3 n1 r s || row4 n1 r s ≡ ltb d n1
  duplicated_is = same_test (row3 n1 r s || row4 n1 r s) (ltb d n1)
      (λ e. lt-ltb d n1 (twice_repeat e)) (λ e. repeat_twice (ltb-true d n1 e))

  -- No message is both normal and duplicated, so the order of the rows is no matter.
  pub rows_apart : (row1 r s || row2 r s) && (row3 n1 r s || row4 n1 r s) ≡ false
  rows_apart = not_both (row1 r s || row2 r s) (row3 n1 r s || row4 n1 r s)
      (λ e f. omega (arith, normal_next e, twice_repeat f))

  -- Rule 4's tests, whatever is said of a repeat and of a gap.
  tests_are : (j k : ℕ) → result (cond (ltb d n1) (Repeat j) (cond (eqb d (M - 1)) Next (Gap k))) ≡ table14 n1 r s
  unfolding table14
  tests_are j k = ⊎_elim
      (λ (h : d < n1).
      let x : eqb d (M - 1) ≡ false = ne_eqb d (M - 1) (λ e. omega arith) in
      simp (normal_is, duplicated_is, lt-ltb d n1 h, x))
      (λ (h : n1 ≤ d). ⊎_elim
      (λ (e : d ≡ M - 1). simp (normal_is, duplicated_is, le-ltb d n1 h, eq-eqb d (M - 1) e))
      (λ (e : d ≢ M - 1). simp (normal_is, duplicated_is, le-ltb d n1 h, ne_eqb d (M - 1) e))
      (eq_or_ne d (M - 1)))
      (lt_or_le d n1)

pub rule4_is_table14 : (n1 : ℕ) (r s : Number) → OnRing r.0 → OnRing s.0 → 1 ≤ n1 → n1 ≤ 1024
    → result (rule4 n1 r s) ≡ table14 n1 r.0 s.0
unfolding rule4 d
rule4_is_table14 n1 r s hr hs low high = tests_are n1 r.0 s.0 hr hs low high (remainder r.0 s.0) (skipped r s)
