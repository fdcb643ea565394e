-- Laws of pieces: there are at most 64, they lie side by side, and in order they are the message. Assumes nothing.
use Rattle.std.specs.Prelude.{◌≡◌, refl, ◌⊎◌, cond, ltb, length}
use Rattle.std.proofs.Math.Path.{sym, ap}
use Rattle.std.proofs.Common.{◌∙◌, inl, inr, ⊎_elim, suc-mul, mul-le-mul, mul-le-mul_right, lt_of_le_of_lt, div-mul-le_self, le-leb, lt-ltb, le-ltb}
use mathlib.Core.List.{List, ◌++◌}
use Prim.Native.Nat.{ℕ, zero, suc, ◌+◌, ◌-◌, ◌*◌, ◌/◌, ◌%◌, ◌≤◌, ◌<◌, min}
use Rattle.std.proofs.Math.Nat.{lt-div-mul-add, zero-mul, div-add-mod, mul-add-div, div-eq_of_lt, mod-lt}
use native.Mathlib.Omega.{arith}
use Rattle.std.proofs.Math.ListN.{take}
use Rattle.std.proofs.Math.Seq.{take_all}
use Rattle.std.proofs.lemmas.Bool.{lt-leb}
use Rattle.octets.specs.Split.{lt_or_le}
use Rattle.octets.proofs.RunLaws.{take_run}
use Rattle.cut.specs.Pieces.{most_octets, least_unit, pieces, piece_place, piece_length, piece, joined}

pub times : (t u : ℕ) → 1 ≤ t → t * u ≡ (t - 1) * u + u
times zero u h = omega arith
times (suc t) u h = let z : suc t - 1 ≡ t = omega arith in rw (z, suc-mul t u)

-- A product of bounded numbers is bounded.
pub product_below : (a b k l : ℕ) {m : ℕ} → a ≤ k → b ≤ l → k * l < m → a * b < m
product_below a b k l h g f = lt_of_le_of_lt (mul-le-mul {n₁ = a} {m₁ = b} {n₂ = k} {m₂ = l} h g) f

-- ---- how many

-- A quotient rounded up is one more than the quotient where something is left.
pub rounded_up : (n u : ℕ) → 1 ≤ u → (n + (u - 1)) / u ≡ n / u + min 1 (n % u)
rounded_up n u pos = ⊎_elim
    (λ (none : n % u < 1).
    let e : n + (u - 1) ≡ u * (n / u) + (u - 1) = omega (arith, div-add-mod n u) in
    let less : (u - 1) / u ≡ 0 = div-eq_of_lt (omega arith) in
    rw (e, mul-add-div pos (n / u) (u - 1), less) (omega arith))
    (λ (some : 1 ≤ n % u).
    let e : n + (u - 1) ≡ u * (n / u + 1) + (n % u - 1) = omega (arith, div-add-mod n u) in
    let less : (n % u - 1) / u ≡ 0 = div-eq_of_lt (omega (arith, mod-lt n pos)) in
    rw (e, mul-add-div pos (n / u + 1) (n % u - 1), less) (omega arith))
    (lt_or_le (n % u) 1)

pub pieces_one : (n u : ℕ) → n ≤ u → pieces n u ≡ 1
unfolding pieces
pieces_one n u h = rw (le-leb n u h)

module _ (n u : ℕ) (more : u < n) (pos : 1 ≤ u) where
  pieces_div : pieces n u ≡ (n + (u - 1)) / u
  unfolding pieces
  pieces_div = rw (lt-leb n u more)

  pub pieces_cover : n ≤ pieces n u * u
  pieces_cover = rw pieces_div (omega (arith, lt-div-mul-add {a = n + (u - 1)} {b = u} pos))

  pub pieces_two : 2 ≤ pieces n u
  pieces_two = ⊎_elim
      (λ (l : pieces n u < 2). absurd (omega (arith, pieces_cover, mul-le-mul_right {m = pieces n u} {n = 1} u (omega arith))))
      (λ l. l)
      (lt_or_le (pieces n u) 2)

  pub pieces_below : (pieces n u - 1) * u < n
  pieces_below =
      let d : pieces n u * u ≤ n + (u - 1) = rw pieces_div (div-mul-le_self (n + (u - 1)) u) in
      omega (arith, times (pieces n u) u (omega (arith, pieces_two)))

-- No other count cuts n octets into pieces of u.
pub pieces_only : (n u t : ℕ) → 2 ≤ t → (t - 1) * u < n → n ≤ t * u → 1 ≤ u → pieces n u ≡ t
pieces_only n u t two low high pos = ⊎_elim
    (λ (l : pieces n u < t). absurd (omega (arith, pieces_cover n u more pos, mul-le-mul_right {m = pieces n u} {n = t - 1} u (omega arith))))
    (λ (l : t ≤ pieces n u). ⊎_elim
    (λ (k : t < pieces n u). absurd (omega (arith, pieces_below n u more pos, mul-le-mul_right {m = t} {n = pieces n u - 1} u (omega arith))))
    (λ (k : pieces n u ≤ t). omega arith)
    (lt_or_le t (pieces n u)))
    (lt_or_le (pieces n u) t)
  where
    more : u < n
    more = omega (arith, mul-le-mul_right {m = 1} {n = t - 1} u (omega arith))

pub pieces_some : (n u : ℕ) → 1 ≤ u → 1 ≤ pieces n u
pieces_some n u pos = ⊎_elim
    (λ (h : u < n). omega (arith, pieces_two n u h pos))
    (λ (h : n ≤ u). omega (arith, pieces_one n u h))
    (lt_or_le u n)

-- "at most 64"
pub pieces_most : (n u : ℕ) → n ≤ most_octets → least_unit ≤ u → pieces n u ≤ 64
pieces_most n u top low = ⊎_elim
    (λ (h : u < n). ⊎_elim
    (λ (l : 64 < pieces n u).
    absurd (omega (arith, pieces_below n u h (omega arith), mul-le-mul_right {m = 64} {n = pieces n u - 1} u (omega arith))))
    (λ (l : pieces n u ≤ 64). l)
    (lt_or_le 64 (pieces n u)))
    (λ (h : n ≤ u). omega (arith, pieces_one n u h))
    (lt_or_le u n)

-- ---- where they lie

module _ (n u c : ℕ) (pos : 1 ≤ u) (first : 1 ≤ c) where
  pub length_front : c < pieces n u → piece_length n u c ≡ u
  unfolding piece_length
  length_front h = rw (lt-ltb c (pieces n u) h)

  pub length_last : pieces n u ≤ c → piece_length n u c ≡ n - piece_place u c
  unfolding piece_length
  length_last h = rw (le-ltb c (pieces n u) h)

  -- A piece starts within the message,
  pub place_within : c ≤ pieces n u → piece_place u c ≤ n
  place_within h = ⊎_elim
      (λ (l : u < n). omega (arith, pieces_below n u l pos, mul-le-mul_right {m = c - 1} {n = pieces n u - 1} u (omega arith)))
      (λ (l : n ≤ u). let z : c - 1 ≡ 0 = omega (arith, pieces_one n u l) in rw z (omega arith))
      (lt_or_le u n)

  -- ends where the next one starts, or with the message,
  pub piece_end : c ≤ pieces n u → piece_place u c + piece_length n u c ≡ min n (c * u)
  piece_end h = ⊎_elim
      (λ (l : c < pieces n u).
      let many : u < n = several (lt_or_le u n) l in
      omega (arith, length_front l, times c u first, pieces_below n u many pos, mul-le-mul_right {m = c} {n = pieces n u - 1} u (omega arith)))
      (λ (l : pieces n u ≤ c).
      let e : c ≡ pieces n u = omega arith in
      omega (arith, length_last l, place_within h, reach e (lt_or_le u n)))
      (lt_or_le c (pieces n u))
    where
      several : (u < n) ⊎ (n ≤ u) → c < pieces n u → u < n
      several (inl a) l = a
      several (inr a) l = absurd (omega (arith, pieces_one n u a))

      reach : c ≡ pieces n u → (u < n) ⊎ (n ≤ u) → n ≤ c * u
      reach e (inl a) = rw e (pieces_cover n u a pos)
      reach e (inr a) = omega (arith, mul-le-mul_right {m = 1} {n = c} u first)

  -- and is at most u octets long.
  pub length_most : c ≤ pieces n u → piece_length n u c ≤ u
  length_most h = omega (arith, piece_end h, times c u first)

-- A piece's length is found by the number of pieces, wherever that was counted.
pub length_counted : (n u c : ℕ) {t r : ℕ} → t ≡ pieces n u → r ≡ cond (ltb c t) u (n - piece_place u c) → r ≡ piece_length n u c
unfolding piece_length
length_counted n u c e f = f ∙ rw e

-- The only piece is the whole message.
pub length_only : (n u c : ℕ) → 1 ≤ c → c ≤ 1 → pieces n u ≡ 1 → piece_length n u c ≡ n
unfolding piece_length
length_only n u c low high e =
    let z : c - 1 ≡ 0 = omega arith in
    rw (le-ltb c (pieces n u) (omega arith), z, zero-mul u) (omega arith)

-- ---- in order they are the message

module _ (m : List ℕ) (u : ℕ) (pos : 1 ≤ u) where
  n : ℕ
  n = length m

  one_more : (t : ℕ) → suc t ≤ pieces n u → take (piece_place u (suc t)) m ++ piece m u (suc t) ≡ take (min n (suc t * u)) m
  unfolding piece n
  one_more t h =
      sym (take_run (piece_place u (suc t)) (piece_length n u (suc t)) m)
      ∙ ap (λ (k : ℕ). take k m) (piece_end n u (suc t) pos (omega arith) h)

  front : (t : ℕ) → t ≤ pieces n u → joined t (piece m u) ≡ take (min n (t * u)) m
  unfolding joined
  front zero h = let z : min n (0 * u) ≡ 0 = omega (arith, zero-mul u) in rw z
  front (suc t) h =
      let e : suc t - 1 ≡ t = omega arith in
      let w : t * u ≤ n = rw e at (place_within n u (suc t) pos (omega arith) h) in
      let x : min n (t * u) ≡ piece_place u (suc t) = rw e (omega arith) in
      ap (λ (l : List ℕ). l ++ piece m u (suc t)) (front t (omega arith) ∙ ap (λ (k : ℕ). take k m) x) ∙ one_more t h

  reach_all : n ≤ pieces n u * u
  reach_all = ⊎_elim
      (λ (h : u < n). pieces_cover n u h pos)
      (λ (h : n ≤ u). omega (arith, ap (λ (k : ℕ). k * u) (pieces_one n u h)))
      (lt_or_le u n)

  pub pieces_join : joined (pieces (length m) u) (piece m u) ≡ m
  unfolding n
  pieces_join =
      let e : min n (pieces n u * u) ≡ n = omega (arith, reach_all) in
      front (pieces n u) (omega arith) ∙ ap (λ (k : ℕ). take k m) e ∙ take_all n m (omega arith)

-- Pieces that are the same join to the same.
pub joined_same : (t : ℕ) (f g : ℕ → List ℕ) → ((c : ℕ) → 1 ≤ c → c ≤ t → f c ≡ g c) → joined t f ≡ joined t g
unfolding joined
joined_same zero f g same = refl
joined_same (suc t) f g same = rw (joined_same t f g (λ c low top. same c low (omega arith)), same (suc t) (omega arith) (omega arith))
