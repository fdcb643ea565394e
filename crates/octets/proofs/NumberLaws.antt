-- Laws of numbers in octets, each once over the width. Assumes nothing.
use Rattle.std.specs.Prelude.{◌≡◌, refl, ◌⊎◌, List, [], ◌∷◌, ◌++◌, ℕ, zero, suc, ◌+◌, ◌-◌, ◌*◌, ◌/◌, ◌%◌, ◌^◌, ◌≤◌, ◌<◌, true, ◌&&◌, eqb, ltb, length, take, drop, set}
use Rattle.std.proofs.Common.{sym, ap, ap₂, ◌∙◌, inl, inr, ⊎_elim, append_assoc, add-zero, add-suc, zero-add, mul_assoc, pow-suc, add-mul, mul_comm, mod-eq_of_lt, mul-le-mul_right, arith, length-append, drop_of_length-le, ext_get_or, get_or-take, get_or-drop, drop_at, length-take-le, eqb-true, eq-eqb, ltb-true, lt-ltb}
use Rattle.std.proofs.Math.Nat.{mod-one, pow-succ', div-div-eq-div-mul}
use Rattle.std.proofs.Math.Arith.{mod-mul, digits_lt}
use Rattle.std.proofs.Math.ListN.{get_or-append}
use Rattle.std.proofs.Math.Pow.{are_bytes}
use Rattle.std.proofs.lemmas.List.{get_or_at, drop-append-le, set_split}
use Rattle.std.specs.Int.{byte_at as lib_octet, byte_worth, bytes_high_first, sum_through}
use Rattle.octets.specs.Number.{octet, number, octets, Octets}
use Rattle.octets.specs.Run.{laid}
use Rattle.octets.proofs.RunLaws.{laid_in, laid_out}
use Rattle.octets.specs.Split.{lt_or_le, same_test, both, and_left, and_right}

-- ---- reading

-- A number is what its octets make it.
pub number_ext : (w : ℕ) (s t : List ℕ) (a b : ℕ) → ((k : ℕ) → k < w → octet s (a + k) ≡ octet t (b + k)) → number w s a ≡ number w t b
unfolding number
number_ext zero s t a b h = refl
number_ext (suc w) s t a b h =
    ap₂ (λ (x y : ℕ). x * 256 + y) (number_ext w s t a b (λ k q. h k (omega arith))) (h w (omega arith))

pub number_alike : (w : ℕ) (s t : List ℕ) → ((k : ℕ) → k < w → octet s k ≡ octet t k) → number w s 0 ≡ number w t 0
number_alike w s t h = number_ext w s t 0 0 (λ k q. ap (octet s) (zero-add k) ∙ h k q ∙ sym (ap (octet t) (zero-add k)))

-- Read from the part that starts at k, a place counts from k on.
pub number_drop : (w k : ℕ) (s : List ℕ) (at : ℕ) → number w (drop k s) at ≡ number w s (k + at)
number_drop w k s at = number_ext w (drop k s) s at (k + at) (λ j q. get_or-drop k s (at + j) 0 ∙ ap (octet s) (omega arith))

-- Read from the part that starts at its place it stands at the front,
pub number_rest : (w : ℕ) (s : List ℕ) (at : ℕ) (t : List ℕ) → t ≡ drop at s → number w t 0 ≡ number w s at
number_rest w s at t e = rw e (number_drop w at s 0 ∙ ap (number w s) (add-zero at))

-- and is made of the first octets alone.
pub number_take : (w : ℕ) (s t : List ℕ) → t ≡ take w s → number w t 0 ≡ number w s 0
number_take w s t e = number_alike w t s (λ k q. rw e (get_or-take w s k 0 q))

-- Two numbers side by side are one.
pub number_cat : (a b : ℕ) (s : List ℕ) (at : ℕ) → number (a + b) s at ≡ number a s at * 256 ^ b + number b s (at + a)
unfolding number
number_cat a zero s at = rw (add-zero a) (omega arith)
number_cat a (suc b) s at =
    let e : at + (a + b) ≡ at + a + b = omega arith in
    rw (add-suc a b, number_cat a b s at, e, pow-suc 256 b)
    (omega (arith, add-mul (number a s at * 256 ^ b) (number b s (at + a)) 256, mul_assoc (number a s at) (256 ^ b) 256))

pub number_one : (s : List ℕ) (at : ℕ) → number 1 s at ≡ octet s at
unfolding number
number_one s at = zero-add (octet s (at + 0)) ∙ ap (octet s) (add-zero at)

pub number_bound : (w : ℕ) (s : List ℕ) (at : ℕ) → Octets s → number w s at < 256 ^ w
unfolding number
number_bound zero s at o = omega arith
number_bound (suc w) s at o = rw (pow-suc 256 w) (digits_lt (number_bound w s at o) (o.small (at + w)))

-- The number that the library makes of octets is ours: m is how many more of them follow.
worth : (m b : ℕ) → byte_worth m b ≡ b * 256 ^ m
worth zero b = omega arith
worth (suc m) b = refl

number_more : (w : ℕ) (s : List ℕ) → number (suc w) s 0 ≡ number w s 0 * 256 + octet s w
unfolding number
number_more w s = ap (λ (j : ℕ). number w s 0 * 256 + octet s j) (zero-add w)

be_number_from : (m k : ℕ) (s : List ℕ) → sum_through (λ i. byte_worth (m + k - i) (octet s i)) k ≡ number (suc k) s 0 * 256 ^ m
be_number_from m zero s =
    let e : m + 0 - 0 ≡ m = omega arith in
    rw (e, number_one s 0) (worth m (octet s 0))
be_number_from m (suc k) s =
    let here : m + suc k - suc k ≡ m = omega arith in
    let more : m + suc k ≡ suc m + k = omega arith in
    let front = number (suc k) s 0 in
    let high : sum_through (λ i. byte_worth (m + suc k - i) (octet s i)) k ≡ front * 256 ^ suc m
    = ap (λ (j : ℕ). sum_through (λ i. byte_worth (j - i) (octet s i)) k) more ∙ be_number_from (suc m) k s in
    let low : byte_worth (m + suc k - suc k) (octet s (suc k)) ≡ octet s (suc k) * 256 ^ m
    = ap (λ (j : ℕ). byte_worth j (octet s (suc k))) here ∙ worth m (octet s (suc k)) in
    ap₂ (λ (x y : ℕ). x + y) high low
    ∙ rw (number_more (suc k) s, pow-suc 256 m) (omega (arith, add-mul (front * 256) (octet s (suc k)) (256 ^ m), mul_assoc front (256 ^ m) 256, mul_assoc front 256 (256 ^ m), mul_comm 256 (256 ^ m)))

pub be_number : (k : ℕ) (s : List ℕ) → sum_through (λ i. byte_worth (k - i) (octet s i)) k ≡ number (suc k) s 0
be_number k s = ap (λ (j : ℕ). sum_through (λ i. byte_worth (j - i) (octet s i)) k) (sym (zero-add k)) ∙ be_number_from 0 k s ∙ omega arith

-- ---- writing

power : (k : ℕ) → zero < 256 ^ k
power zero = omega arith
power (suc k) = rw (pow-suc 256 k) (omega (arith, power k))

pub length_octets : (w x : ℕ) → length (octets w x) ≡ w
unfolding octets
length_octets zero x = refl
length_octets (suc w) x = rw (length-append (octets w (x / 256)) (x % 256 ∷ []), length_octets w (x / 256)) (omega arith)

-- The octets that the library makes of a number are ours.
at_more : (k x : ℕ) → lib_octet (suc k) x ≡ lib_octet k (x / 256)
at_more zero x = refl
at_more (suc k) x = ap (λ (p : ℕ). x / p % 256) (pow-succ' 256 (suc k)) ∙ ap (λ (q : ℕ). q % 256) (sym (div-div-eq-div-mul x 256 (256 ^ suc k)))

be_octets_more : (k x : ℕ) → bytes_high_first (suc k) x ≡ bytes_high_first k (x / 256) ++ (x % 256 ∷ [])
be_octets_more zero x = refl
be_octets_more (suc k) x = ap₂ (λ (b : ℕ) (l : List ℕ). b ∷ l) (at_more k x) (be_octets_more k x)

pub be_octets : (w x : ℕ) → bytes_high_first w x ≡ octets w x
unfolding octets
be_octets zero x = refl
be_octets (suc w) x = be_octets_more w x ∙ ap (λ (l : List ℕ). l ++ (x % 256 ∷ [])) (be_octets w (x / 256))

pub octets_one : (x : ℕ) → x < 256 → x ∷ [] ≡ octets 1 x
unfolding octets
octets_one x h = ap (λ (y : ℕ). y ∷ []) (sym (mod-eq_of_lt h))

octets_last : (k w x : ℕ) → drop k (octets (k + w) x) ≡ octets w x
unfolding octets
octets_last k zero x = rw (add-zero k) (drop_of_length-le (octets k x) {i = k} (omega (arith, length_octets k x)))
octets_last k (suc w) x =
    rw (add-suc k w)
    (drop-append-le k (octets (k + w) (x / 256)) (x % 256 ∷ []) (omega (arith, length_octets (k + w) (x / 256)))
    ∙ ap (λ (l : List ℕ). l ++ (x % 256 ∷ [])) (octets_last k w (x / 256)))

-- The w low octets of a number are the last of n.
pub octets_low : (n w x : ℕ) → w ≤ n → drop (n - w) (octets n x) ≡ octets w x
octets_low n w x h =
    let e : n ≡ n - w + w = omega arith in
    ap (λ (m : ℕ). drop (n - w) (octets m x)) e ∙ octets_last (n - w) w x

-- The low octet is taken off a number and laid down behind the i octets that are left: all of them together stay.
pub octets_off : (i x : ℕ) (l all : List ℕ) → i < length l → octets (suc i) x ++ drop (suc i) l ≡ all → octets i (x / 256) ++ drop i (set l i (x % 256)) ≡ all
unfolding octets
octets_off i x l all h e =
    rw (set_split l i (x % 256) h, drop_at (take i l) (x % 256 ∷ drop (suc i) l) i (length-take-le i l (omega arith)))
    (sym (append_assoc (octets i (x / 256)) (x % 256 ∷ []) (drop (suc i) l)) ∙ e)

-- The octets of a number make it again, as far as they reach.
pub number_octets : (w x : ℕ) → number w (octets w x) 0 ≡ x % 256 ^ w
unfolding number octets
number_octets zero x = sym (mod-one x)
number_octets (suc w) x =
    let front = octets w (x / 256) in
    let last : octet (front ++ (x % 256 ∷ [])) (0 + w) ≡ x % 256
    = ap (octet (front ++ (x % 256 ∷ []))) (zero-add w) ∙ get_or_at front (x % 256) [] 0 w (length_octets w (x / 256)) in
    let rest : number w (front ++ (x % 256 ∷ [])) 0 ≡ number w front 0
    = number_ext w (front ++ (x % 256 ∷ [])) front 0 0 (λ k q. get_or-append front (x % 256 ∷ []) 0 (0 + k) (omega (arith, length_octets w (x / 256)))) in
    let e : number w (front ++ (x % 256 ∷ [])) 0 * 256 + octet (front ++ (x % 256 ∷ [])) (0 + w) ≡ (x / 256 % 256 ^ w) * 256 + x % 256
    = ap₂ (λ (a b : ℕ). a * 256 + b) (rest ∙ number_octets w (x / 256)) last in
    e ∙ sym (ap (λ (m : ℕ). x % m) (pow-suc 256 w) ∙ mod-mul x (power w) (omega arith))

pub number_octets_fits : (w x : ℕ) → x < 256 ^ w → number w (octets w x) 0 ≡ x
number_octets_fits w x h = number_octets w x ∙ mod-eq_of_lt h

-- What was written is read back.
pub number_laid : (w : ℕ) (s : List ℕ) (at x : ℕ) → at + w ≤ length s → x < 256 ^ w → number w (laid s at (octets w x)) at ≡ x
number_laid w s at x fits h =
    let l = length_octets w x in
    number_ext w (laid s at (octets w x)) (octets w x) at 0
    (λ k q. laid_in s at (octets w x) (omega arith) k (omega arith) ∙ ap (octet (octets w x)) (omega arith))
    ∙ number_octets_fits w x h

-- A number that stands beside what was laid down stays.
pub number_beside : (w : ℕ) (s : List ℕ) (a b : ℕ) (p : List ℕ) → b + length p ≤ length s → (a + w ≤ b) ⊎ (b + length p ≤ a)
    → number w (laid s b p) a ≡ number w s a
number_beside w s a b p fits = ⊎_elim
    (λ (h : a + w ≤ b). number_ext w (laid s b p) s a a (λ k q. laid_out s b p fits (a + k) (inl (omega arith))))
    (λ (h : b + length p ≤ a). number_ext w (laid s b p) s a a (λ k q. laid_out s b p fits (a + k) (inr (omega arith))))

-- The octets of a number that was read are those that it was read from.
pub octets_number : (w : ℕ) (s : List ℕ) (at k : ℕ) → Octets s → k < w → octet (octets w (number w s at)) k ≡ octet s (at + k)
unfolding octets number
octets_number zero s at k o h = absurd (omega arith)
octets_number (suc w) s at k o h =
    let small : octet s (at + w) < 256 = o.small (at + w) in
    let high : (number w s at * 256 + octet s (at + w)) / 256 ≡ number w s at = omega arith in
    let low : (number w s at * 256 + octet s (at + w)) % 256 ≡ octet s (at + w) = omega arith in
    rw (high, low) (⊎_elim
    (λ (l : k < w).
    get_or-append (octets w (number w s at)) (octet s (at + w) ∷ []) 0 k (omega (arith, length_octets w (number w s at)))
    ∙ octets_number w s at k o l)
    (λ (l : w ≤ k).
    let e : k ≡ w = omega arith in
    rw e (get_or_at (octets w (number w s at)) (octet s (at + w)) [] 0 w (length_octets w (number w s at))))
    (lt_or_le k w))

pub octets_run : (w : ℕ) (s : List ℕ) → Octets s → w ≤ length s → octets w (number w s 0) ≡ take w s
octets_run w s o room = ext_get_or 0 (octets w (number w s 0)) (take w s) (length_octets w (number w s 0) ∙ sym (length-take-le w s room))
    (λ i h.
    let l : i < w = omega (arith, length_octets w (number w s 0)) in
    octets_number w s 0 i o l ∙ ap (octet s) (zero-add i) ∙ sym (get_or-take w s i 0 l))

-- A number reads back from what begins with its octets.
pub number_front : (w x : ℕ) (t : List ℕ) → x < 256 ^ w → number w (octets w x ++ t) 0 ≡ x
number_front w x t h =
    number_ext w (octets w x ++ t) (octets w x) 0 0 (λ k q. get_or-append (octets w x) t 0 (0 + k) (omega (arith, length_octets w x)))
    ∙ number_octets_fits w x h

-- ---- lists of octets, by the library's test

byte_at : (s : List ℕ) (i : ℕ) → are_bytes s ≡ true → octet s i < 256
byte_at [] i e = omega arith
byte_at (x ∷ s) zero e = ltb-true x 256 (and_left (ltb x 256) (are_bytes s) e)
byte_at (x ∷ s) (suc i) e = byte_at s i (and_right (ltb x 256) (are_bytes s) e)

pub bytes_octets : (s : List ℕ) → are_bytes s ≡ true → Octets s
bytes_octets s e = record { small = λ i. byte_at s i e }

pub octets_bytes : (s : List ℕ) → Octets s → are_bytes s ≡ true
octets_bytes [] o = refl
octets_bytes (x ∷ s) o = both (ltb x 256) (are_bytes s) (lt-ltb x 256 (o.small 0)) (octets_bytes s (record { small = λ i. o.small (suc i) }))

pub bytes_append : (s t : List ℕ) → are_bytes s ≡ true → are_bytes t ≡ true → are_bytes (s ++ t) ≡ true
bytes_append [] t e f = f
bytes_append (x ∷ s) t e f =
    both (ltb x 256) (are_bytes (s ++ t)) (and_left (ltb x 256) (are_bytes s) e) (bytes_append s t (and_right (ltb x 256) (are_bytes s) e) f)

pub octets_small : (w x : ℕ) → are_bytes (octets w x) ≡ true
unfolding octets
octets_small zero x = refl
octets_small (suc w) x =
    bytes_append (octets w (x / 256)) (x % 256 ∷ []) (octets_small w (x / 256)) (both (ltb (x % 256) 256) true (lt-ltb (x % 256) 256 (omega arith)) refl)

-- ---- nought

-- A number is 0 where both of its parts are.
pub number_zero : (a b : ℕ) (s : List ℕ) (at : ℕ) → eqb (number a s at) 0 && eqb (number b s (at + a)) 0 ≡ eqb (number (a + b) s at) 0
number_zero a b s at = same_test (eqb high 0 && eqb low 0) (eqb (number (a + b) s at) 0)
    (λ e.
    let x : high ≡ 0 = eqb-true high 0 (and_left (eqb high 0) (eqb low 0) e) in
    let y : low ≡ 0 = eqb-true low 0 (and_right (eqb high 0) (eqb low 0) e) in
    eq-eqb (number (a + b) s at) 0 (number_cat a b s at ∙ rw (x, y) (omega arith)))
    (λ e.
    let z : high * 256 ^ b + low ≡ 0 = sym (number_cat a b s at) ∙ eqb-true (number (a + b) s at) 0 e in
    both (eqb high 0) (eqb low 0) (eq-eqb high 0 (none (omega arith))) (eq-eqb low 0 (omega arith)))
  where
    high : ℕ
    high = number a s at

    low : ℕ
    low = number b s (at + a)

    none : high * 256 ^ b ≡ 0 → high ≡ 0
    none e = ⊎_elim
        (λ (h : high < 1). omega arith)
        (λ (h : 1 ≤ high). absurd (omega (arith, mul-le-mul_right {m = 1} {n = high} (256 ^ b) h, power b)))
        (lt_or_le high 1)
