-- Laws of the map, and what the code's shifts say of its bits. Assumes nothing.
use Rattle.std.specs.Prelude.{◌≡◌, refl, ◌≢◌, Bool, true, false, not, ◌&&◌, ◌||◌, ℕ, zero, suc, ◌+◌, ◌-◌, ◌*◌, ◌/◌, ◌%◌, ◌^◌, ◌≤◌, ◌<◌, eqb, leb, ltb}
use Rattle.std.proofs.Common.{sym, ap, subst, ◌∙◌, ⊎_elim, div-one, mod-eq_of_lt, mod-lt, one-mul, one-add, arith, pow_pos, pow_mono, shr-shr, eqb-true, eq-eqb, ne_eqb, le-leb, leb-false, lt-ltb, le-ltb}
use Rattle.std.proofs.Math.Nat.{div-eq_of_lt, min-zero}
use Rattle.std.specs.Int.Bits.{bit_and, bit_or, and_step, and_zero_r}
use Rattle.std.proofs.lemmas.Nat.{and_mask, or_disjoint, ones-le}
use Rattle.std.specs.Int.Count.{ones, ones_step, ones-ones, count_trailing_zeros}
use Rattle.std.proofs.Math.Pow.{pow-lt, split, high, ones_split, ones_lt}
use Rattle.std.proofs.lemmas.Bool.{eqb-false, lt-leb, not-true}
use Rattle.octets.specs.Split.{lt_or_le, eq_or_ne, cond_case, same_test, both, and_left, and_right}
use Rattle.map.specs.Map.{bit, holds, piece_bit, full_map, holds_all, is_empty, marked_past, is_full, marked, lowest}

-- ---- bits

pub bit_shift : (k m : ℕ) → bit k m ≡ m / 2 ^ k % 2
unfolding bit
bit_shift zero m = rw div-one
bit_shift (suc k) m = bit_shift k (m / 2) ∙ ap (λ (x : ℕ). x % 2) (shr-shr m 1 k ∙ rw one-add)

pub bit_most : (k m : ℕ) → bit k m ≤ 1
unfolding bit
bit_most zero m = omega arith
bit_most (suc k) m = bit_most k (m / 2)

half_add : (m k : ℕ) → (m + 2 ^ suc k) / 2 ≡ m / 2 + 2 ^ k
half_add m k = omega arith

-- A clear bit is set by adding its power,
pub bit_set : (k m : ℕ) → bit k m ≡ 0 → bit k (m + 2 ^ k) ≡ 1
unfolding bit
bit_set zero m e = omega arith
bit_set (suc k) m e = rw (half_add m k) (bit_set k (m / 2) e)

-- and no other changes.
pub bit_keep : (j k m : ℕ) → bit k m ≡ 0 → j ≢ k → bit j (m + 2 ^ k) ≡ bit j m
unfolding bit
bit_keep zero zero m e ne = absurd (ne refl)
bit_keep zero (suc k) m e ne = omega arith
bit_keep (suc j) zero m e ne =
    let h : (m + 1) / 2 ≡ m / 2 = omega arith in
    rw h
bit_keep (suc j) (suc k) m e ne = rw (half_add m k) (bit_keep j k (m / 2) e (λ q. ne (ap suc q)))

pub set_below : (n k m : ℕ) → k < n → m < 2 ^ n → bit k m ≡ 0 → m + 2 ^ k < 2 ^ n
unfolding bit
set_below zero k m h l e = omega arith
set_below (suc n) zero m h l e = omega arith
set_below (suc n) (suc k) m h l e =
    let ih = set_below n k (m / 2) (omega arith) (omega arith) e in
    omega arith

pub bit_zero : (k : ℕ) → bit k 0 ≡ 0
unfolding bit
bit_zero zero = refl
bit_zero (suc k) = bit_zero k

pub bit_above : (n k m : ℕ) → m < 2 ^ n → n ≤ k → bit k m ≡ 0
unfolding bit
bit_above zero k m l h =
    let z : m ≡ 0 = omega arith in
    rw z (bit_zero k)
bit_above (suc n) zero m l h = omega arith
bit_above (suc n) (suc k) m l h = bit_above n k (m / 2) (omega arith) (omega arith)

half_ones : (n : ℕ) → (2 ^ suc n - 1) / 2 ≡ 2 ^ n - 1
half_ones n = omega (arith, pow_pos n)

-- The full map has every bit,
pub full_bit : (n k : ℕ) → k < n → bit k (2 ^ n - 1) ≡ 1
unfolding bit
full_bit zero k h = omega arith
full_bit (suc n) zero h = omega (arith, pow_pos n)
full_bit (suc n) (suc k) h = rw (half_ones n) (full_bit n k (omega arith))

-- and is the only one that has.
pub full_only : (n m : ℕ) → m < 2 ^ n → ((k : ℕ) → k < n → bit k m ≡ 1) → m ≡ 2 ^ n - 1
unfolding bit
full_only zero m l h = omega arith
full_only (suc n) m l h =
    let ih = full_only n (m / 2) (omega arith) (λ k q. h (suc k) (omega arith)) in
    omega (arith, pow_pos n, h 0 (omega arith))

-- A piece more is a one more.
pub ones_set : (k m : ℕ) → bit k m ≡ 0 → ones (m + 2 ^ k) ≡ suc (ones m)
unfolding bit
ones_set zero m e =
    let h : (m + 1) / 2 ≡ m / 2 = omega arith in
    omega (arith, ones_step (m + 1), ones_step m, ap ones h)
ones_set (suc k) m e =
    omega (arith, ones_step (m + 2 ^ suc k), ones_step m, ap ones (half_add m k), ones_set k (m / 2) e)

-- A map that is not empty holds a piece.
pub ones_some : (n m : ℕ) → m < 2 ^ n → 0 < m → 1 ≤ ones m
ones_some zero m h some = absurd (omega arith)
ones_some (suc n) m h some = ⊎_elim
    (λ (e : m % 2 ≡ 0). omega (arith, ones_step m, ones_some n (m / 2) (omega arith) (omega arith)))
    (λ (e : m % 2 ≢ 0). omega (arith, ones_step m))
    (eq_or_ne (m % 2) 0)

pub piece_some : (n m : ℕ) → m < 2 ^ n → 0 < m → (k : ℕ) × (k < n) × (bit k m ≡ 1)
unfolding bit
piece_some zero m h some = absurd (omega arith)
piece_some (suc n) m h some = ⊎_elim
    (λ (e : m % 2 ≡ 0). let r = piece_some n (m / 2) (omega arith) (omega arith) in (suc r.0, omega (arith, r.1), r.2))
    (λ (e : m % 2 ≢ 0). (0, omega arith, omega arith))
    (eq_or_ne (m % 2) 0)

-- A map of t pieces is full exactly if it has t ones.
all_ones : (t m : ℕ) → m < 2 ^ t → ones m ≡ t → m ≡ 2 ^ t - 1
all_ones zero m less e = omega (arith, less)
all_ones (suc t) m less e =
    let half : m / 2 < 2 ^ t = omega (arith, less) in
    let most = ones-le t (m / 2) half in
    let step = ones_step m in
    let rest = all_ones t (m / 2) half (omega (arith, e, most, step)) in
    omega (arith, e, most, step, rest, pow_pos t)

pub full_ones : (t m : ℕ) → m < 2 ^ t → eqb m (full_map t) ≡ eqb (ones m) t
full_ones t m less = same_test (eqb m (full_map t)) (eqb (ones m) t)
    (λ e. eq-eqb (ones m) t (ap ones (eqb-true m (full_map t) e) ∙ ones-ones t))
    (λ e. eq-eqb m (full_map t) (all_ones t m less (eqb-true (ones m) t e)))

-- ---- empty, full or marked past

grows : (m : ℕ) → m < 2 ^ m
grows zero = omega arith
grows (suc m) = omega (arith, grows m)

-- An empty map has no bit, and is the only one that has none.
pub empty_none : (m : ℕ) → is_empty m ≡ true → (k : ℕ) → bit k m ≡ 0
empty_none m e k = rw (eqb-true m 0 e) (bit_zero k)

pub none_empty : (m : ℕ) → ((k : ℕ) → bit k m ≡ 0) → is_empty m ≡ true
none_empty m f = ⊎_elim
    (λ (e : m ≡ 0). eq-eqb m 0 e)
    (λ (e : m ≢ 0). let r = piece_some m m (grows m) (omega arith) in absurd (omega (arith, r.2, f r.0)))
    (eq_or_ne m 0)

-- A mark past t makes the map larger than any of t pieces,
pub past_is : (m t : ℕ) → marked_past m t ≡ leb (2 ^ t) m
past_is m t = ⊎_elim
    (λ (h : m < 2 ^ t). rw (div-eq_of_lt h, lt-leb (2 ^ t) m h))
    (λ (h : 2 ^ t ≤ m).
    let some : m / 2 ^ t ≢ 0 = λ e. omega (arith, rw e at (split m t), mod-lt m (pow_pos t)) in
    rw (ne_eqb (m / 2 ^ t) 0 some, le-leb (2 ^ t) m h))
    (lt_or_le m (2 ^ t))

-- and is a bit from t on.
pub past_bit : (m t : ℕ) → marked_past m t ≡ true → (k : ℕ) × (t ≤ k) × (bit k m ≡ 1)
past_bit m t e =
    let rest = m / 2 ^ t in
    let some : rest ≢ 0 = eqb-false rest 0 (not-true (is_empty rest) e) in
    let r = piece_some rest rest (grows rest) (omega arith) in
    let k = r.0 in
    let same : bit k rest ≡ bit (t + k) m = bit_shift k rest ∙ ap (λ (x : ℕ). x % 2) (shr-shr m t k) ∙ sym (bit_shift (t + k) m) in
    (t + k, omega arith, sym same ∙ r.2)

pub bit_past : (m t k : ℕ) → t ≤ k → bit k m ≡ 1 → marked_past m t ≡ true
bit_past m t k h e = past_is m t ∙ ⊎_elim
    (λ (l : m < 2 ^ t). absurd (omega (arith, bit_above t k m l h)))
    (λ (l : 2 ^ t ≤ m). le-leb (2 ^ t) m l)
    (lt_or_le m (2 ^ t))

pub all_held : (m t : ℕ) → holds_all m t ≡ true → (k : ℕ) → k < t → bit k m ≡ 1
unfolding holds_all
all_held m zero e k h = absurd (omega arith)
all_held m (suc t) e k h = ⊎_elim
    (λ (l : k < t). all_held m t (and_left (holds_all m t) (holds m (suc t)) e) k l)
    (λ (l : t ≤ k). subst (λ (x : ℕ). bit x m ≡ 1) (omega arith) (eqb-true (bit (suc t - 1) m) 1 (and_right (holds_all m t) (holds m (suc t)) e)))
    (lt_or_le k t)

pub held_all : (m t : ℕ) → ((k : ℕ) → k < t → bit k m ≡ 1) → holds_all m t ≡ true
unfolding holds_all
held_all m zero f = refl
held_all m (suc t) f =
    both (holds_all m t) (holds m (suc t)) (held_all m t (λ k h. f k (omega arith))) (eq-eqb (bit (suc t - 1) m) 1 (f (suc t - 1) (omega arith)))

-- One map is full.
pub full_is : (m t : ℕ) → is_full m t ≡ eqb m (full_map t)
full_is m t = same_test (is_full m t) (eqb m (full_map t))
    (λ e.
    let past : marked_past m t ≡ false = not-true (marked_past m t) (and_right (holds_all m t) (not (marked_past m t)) e) in
    let less : m < 2 ^ t = leb-false (2 ^ t) m (sym (past_is m t) ∙ past) in
    eq-eqb m (full_map t) (full_only t m less (all_held m t (and_left (holds_all m t) (not (marked_past m t)) e))))
    (λ e.
    let z : m ≡ full_map t = eqb-true m (full_map t) e in
    both (holds_all m t) (not (marked_past m t))
    (held_all m t (λ k h. ap (bit k) z ∙ full_bit t k h))
    (rw (past_is m t, lt-leb (2 ^ t) m (omega (arith, pow_pos t)))))

-- A map of t pieces is neither empty nor full nor marked past t exactly if it lies between 0 and the full one.
pub partial_is : (m t : ℕ) → not (is_empty m || is_full m t || marked_past m t) ≡ ltb 0 m && ltb m (full_map t)
partial_is m t = ap (λ (x : Bool). not (is_empty m || x || marked_past m t)) (full_is m t)
    ∙ ap (λ (x : Bool). not (is_empty m || eqb m (full_map t) || x)) (past_is m t) ∙ ⊎_elim
    (λ (e : m ≡ 0). rw (eq-eqb m 0 e, le-ltb 0 m (omega arith)))
    (λ (e : m ≢ 0). ⊎_elim
    (λ (h : m < full_map t).
    rw (ne_eqb m 0 e, ne_eqb m (full_map t) (λ z. omega arith), lt-leb (2 ^ t) m (omega arith), lt-ltb 0 m (omega arith), lt-ltb m (full_map t) h))
    (λ (h : full_map t ≤ m). rw (ne_eqb m 0 e, lt-ltb 0 m (omega arith), le-ltb m (full_map t) h) (⊎_elim
    (λ (f : m ≡ full_map t). rw (eq-eqb m (full_map t) f))
    (λ (f : m ≢ full_map t). rw (ne_eqb m (full_map t) f, le-leb (2 ^ t) m (omega (arith, pow_pos t))))
    (eq_or_ne m (full_map t))))
    (lt_or_le m (full_map t)))
    (eq_or_ne m 0)

-- ---- the code's words

pub code_bit : (k m : ℕ) → bit_and (m / 2 ^ k) 1 ≡ bit k m
code_bit k m = and_mask (m / 2 ^ k) 1 ∙ sym (bit_shift k m)

and_clear : (k m : ℕ) → bit k m ≡ 0 → bit_and m (2 ^ k) ≡ 0
unfolding bit
and_clear zero m e =
    let z : bit_and (m / 2) 0 ≡ 0 = and_zero_r (m / 2) in
    and_step m 1 ∙ rw (z, e)
and_clear (suc k) m e =
    let h : 2 ^ suc k / 2 ≡ 2 ^ k = omega arith in
    let o : 2 ^ suc k % 2 ≡ 0 = omega arith in
    let z : bit_and (m / 2) (2 ^ k) ≡ 0 = and_clear k (m / 2) e in
    and_step m (2 ^ suc k) ∙ rw (h, o, z, min-zero (m % 2))

pub code_mark : (k m : ℕ) → k < 64 → bit k m ≡ 0 → bit_or m ((1 * 2 ^ k) % 2 ^ 64) ≡ m + 2 ^ k
code_mark k m h e =
    let l : 1 * 2 ^ k < 2 ^ 64 = rw one-mul (pow-lt h) in
    rw (mod-eq_of_lt l, one-mul) (or_disjoint m (2 ^ k) (and_clear k m e))

pub code_full : (t : ℕ) → t ≤ 64 → (2 ^ 64 - 1) / 2 ^ (64 - t) ≡ full_map t
code_full t h =
    let z : 64 ≡ t + (64 - t) = omega arith in
    ap (λ (x : ℕ). (2 ^ x - 1) / 2 ^ (64 - t)) z ∙ rw (ones_split t (64 - t)) (high (2 ^ t - 1) (64 - t) (ones_lt (64 - t)))

-- Trailing ones are the trailing zeros of the complement.
pub code_lowest : (n m : ℕ) → m < 2 ^ n → count_trailing_zeros n (2 ^ n - 1 - m) ≡ lowest n m
unfolding count_trailing_zeros lowest
code_lowest zero m h = refl
code_lowest (suc n) m h = ⊎_elim
    (λ (e : m % 2 ≡ 0).
    let o : (2 ^ suc n - 1 - m) % 2 ≡ 1 = omega (arith, pow_pos n) in
    rw (o, e))
    (λ (e : m % 2 ≢ 0).
    let o : (2 ^ suc n - 1 - m) % 2 ≡ 0 = omega (arith, pow_pos n) in
    let d : m % 2 ≡ 1 = omega arith in
    let z : (2 ^ suc n - 1 - m) / 2 ≡ 2 ^ n - 1 - m / 2 = omega (arith, pow_pos n) in
    rw (o, d, z) (ap suc (code_lowest n (m / 2) (omega arith))))
    (eq_or_ne (m % 2) 0)

pub lowest_most : (n m : ℕ) → lowest n m ≤ n
unfolding lowest
lowest_most zero m = omega arith
lowest_most (suc n) m = cond_case (λ (k : ℕ). k ≤ suc n) (eqb (m % 2) 0) 0 (suc (lowest n (m / 2))) (λ _. omega arith) (λ _. omega (arith, lowest_most n (m / 2)))

-- The lowest clear bit is the first that is found in their order.
pub lowest_first_lem : (n k m : ℕ) → k < n → ((j : ℕ) → j < k → bit j m ≡ 1) → bit k m ≡ 0 → lowest n m ≡ k
unfolding bit lowest
lowest_first_lem zero k m q h e = absurd (omega arith)
lowest_first_lem (suc n) zero m q h e = rw e
lowest_first_lem (suc n) (suc k) m q h e =
    let low : m % 2 ≡ 1 = h 0 (omega arith) in
    rw low (ap suc (lowest_first_lem n k (m / 2) (omega arith) (λ j r. h (suc j) (omega arith)) e))

-- ---- pieces

pub holds_above : (m c : ℕ) → m < 2 ^ 64 → 64 < c → holds m c ≡ false
holds_above m c l h =
    let z : bit (c - 1) m ≡ 0 = bit_above 64 (c - 1) m l (omega arith) in
    ne_eqb (bit (c - 1) m) 1 (λ e. omega arith)

pub holds_not : (m c : ℕ) → holds m c ≡ false → bit (c - 1) m ≡ 0
holds_not m c e = omega (arith, bit_most (c - 1) m, eqb-false (bit (c - 1) m) 1 e)

pub full_above : (m t : ℕ) → m < 2 ^ 64 → 64 < t → m < full_map t
full_above m t l h = omega (arith, pow_mono {i = 65} {j = t} h)

pub holds_zero : (c : ℕ) → holds 0 c ≡ false
holds_zero c =
    let z : bit (c - 1) 0 ≡ 0 = bit_zero (c - 1) in
    ne_eqb (bit (c - 1) 0) 1 (λ e. omega arith)

pub marked_adds : (m c : ℕ) → c ≤ 64 → holds m c ≡ false → marked m c ≡ m + piece_bit c
unfolding marked
marked_adds m c h e = rw (le-leb c 64 h, e)
