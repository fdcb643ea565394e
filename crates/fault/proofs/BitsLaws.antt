-- Laws of the modules' bits: what was packed is unpacked again, and what is unpacked is packed to the same octets if no bit
-- stands above the count. Assumes nothing.
use Rattle.std.specs.Prelude.{ℕ, zero, suc, ◌+◌, ◌-◌, ◌*◌, ◌/◌, ◌%◌, ◌^◌, ◌≤◌, ◌<◌, ◌≡◌, Bool, true, false, cond, ◌&&◌, List, [], ◌∷◌, ◌++◌, eqb, ltb, length, take, drop, get_or}
use Rattle.std.proofs.Math.Path.{refl}
use Rattle.std.proofs.Common.{sym, ap, ap₂, ◌∙◌, ⊎_elim, div-one, pow-suc, arith, length-append, length-take, length-drop, take-append-drop, drop_of_length-le, pow_mono, pow_pos, shr-shr, take_all, take-take, take_at, drop_at, get_or-append-add, length-take-le, eqb-true, eq-eqb, ne_eqb, ltb-true, lt-ltb}
use Rattle.std.proofs.Math.Nat.{div-eq_of_lt}
use Rattle.std.proofs.Math.ListN.{get_or-append}
use Rattle.std.specs.List.{list_all}
use Rattle.std.proofs.Math.Pow.{are_bytes}
use Rattle.std.proofs.Math.Seq.{take-nil, drop-nil, take-append-add}
use Rattle.std.proofs.lemmas.List.{take-append-le}
use Rattle.octets.specs.Split.{lt_or_le, both, and_left, and_right}
use Rattle.octets.specs.Number.{octet}
use Rattle.octets.proofs.NumberLaws.{octets_bytes}
use Rattle.map.specs.Map.{bit}
use Rattle.map.proofs.MapLaws.{bit_zero}
use Rattle.fault.specs.Section.{lowest_first, packed}
use Rattle.fault.specs.Bits.{low_bits, unpacked, dead_in, none_above}

-- ---- the bits of one octet

low_bit : (b : Bool) (n : ℕ) → eqb ((cond b 1 0 + n * 2) % 2) 1 ≡ b
low_bit true n = eq-eqb ((1 + n * 2) % 2) 1 (omega arith)
low_bit false n = ne_eqb ((0 + n * 2) % 2) 1 (λ e. omega arith)

high_bits : (b : Bool) (n : ℕ) → (cond b 1 0 + n * 2) / 2 ≡ n
high_bits true n = omega arith
high_bits false n = omega arith

pub length_low : (k o : ℕ) → length (low_bits k o) ≡ k
unfolding low_bits
length_low zero o = refl
length_low (suc k) o = ap suc (length_low k (o / 2))

pub lowest_less : (bits : List Bool) → lowest_first bits < 2 ^ length bits
unfolding lowest_first
lowest_less [] = omega arith
lowest_less (true ∷ bits) = omega (arith, lowest_less bits, pow-suc 2 (length bits))
lowest_less (false ∷ bits) = omega (arith, lowest_less bits, pow-suc 2 (length bits))

-- A number's lowest bits are those that it was made of,
low_lowest : (k : ℕ) (bits : List Bool) → length bits ≤ k → take (length bits) (low_bits k (lowest_first bits)) ≡ bits
unfolding low_bits lowest_first
low_lowest k [] h = refl
low_lowest zero (b ∷ bits) h = absurd (omega arith)
low_lowest (suc k) (b ∷ bits) h =
    ap₂ (λ (x : Bool) (xs : List Bool). x ∷ xs) (low_bit b (lowest_first bits))
    (ap (λ (n : ℕ). take (length bits) (low_bits k n)) (high_bits b (lowest_first bits)) ∙ low_lowest k bits (omega arith))

-- and make it, if it has no others.
whole : (o : ℕ) → cond (eqb (o % 2) 1) 1 0 + o / 2 * 2 ≡ o
whole o = ⊎_elim
    (λ (h : o % 2 < 1). rw (ne_eqb (o % 2) 1 (λ e. omega arith)) (omega arith))
    (λ (h : 1 ≤ o % 2). rw (eq-eqb (o % 2) 1 (omega arith)) (omega arith))
    (lt_or_le (o % 2) 1)

lowest_low : (k m o : ℕ) → o < 2 ^ k → o / 2 ^ m ≡ 0 → lowest_first (take m (low_bits k o)) ≡ o
unfolding low_bits lowest_first
lowest_low zero m o h e =
    let z : o ≡ 0 = omega arith in
    rw (take-nil {A = Bool} m, z)
lowest_low (suc k) zero o h e = sym (sym (div-one o) ∙ e)
lowest_low (suc k) (suc m) o h e =
    ap (λ (n : ℕ). cond (eqb (o % 2) 1) 1 0 + n * 2) (lowest_low k m (o / 2) (omega arith) (shr-shr o 1 m ∙ ap (λ (x : ℕ). o / 2 ^ x) (omega arith) ∙ e)) ∙ whole o

-- ---- all of them

short : (bits : List Bool) → length (take 8 bits) ≤ 8
short bits = rw (length-take 8 bits) (omega arith)

pub length_packed : (n : ℕ) (bits : List Bool) → length (packed n bits) ≡ n
unfolding packed
length_packed zero bits = refl
length_packed (suc n) bits = ap suc (length_packed n (drop 8 bits))

octet_less : (bits : List Bool) → lowest_first (take 8 bits) < 256
octet_less bits = omega (arith, lowest_less (take 8 bits), pow_mono {i = length (take 8 bits)} {j = 8} (short bits))

pub packed_small : (n : ℕ) (bits : List Bool) → are_bytes (packed n bits) ≡ true
unfolding packed
packed_small zero bits = refl
packed_small (suc n) bits =
    both (ltb (lowest_first (take 8 bits)) 256) (are_bytes (packed n (drop 8 bits))) (lt-ltb (lowest_first (take 8 bits)) 256 (octet_less bits)) (packed_small n (drop 8 bits))

pub length_unpacked : (l : List ℕ) → length (unpacked l) ≡ 8 * length l
unfolding unpacked
length_unpacked [] = refl
length_unpacked (o ∷ l) = rw (length-append (low_bits 8 o) (unpacked l), length_low 8 o, length_unpacked l) (omega arith)

pub packed_none : (n : ℕ) (bits : List Bool) → none_above (length bits) (packed n bits) ≡ true
unfolding packed none_above
packed_none zero bits = refl
packed_none (suc n) bits =
    both (eqb (lowest_first (take 8 bits) / 2 ^ length bits) 0) (none_above (length bits - 8) (packed n (drop 8 bits)))
    (eq-eqb (lowest_first (take 8 bits) / 2 ^ length bits) 0 (div-eq_of_lt fits))
    (ap (λ (k : ℕ). none_above k (packed n (drop 8 bits))) (sym (length-drop 8 bits)) ∙ packed_none n (drop 8 bits))
  where
    fits : lowest_first (take 8 bits) < 2 ^ length bits
    fits = omega (arith, lowest_less (take 8 bits), pow_mono {i = length (take 8 bits)} {j = length bits} (rw (length-take 8 bits) (omega arith)))

-- The first eight of the first bits, and those behind them.
front_of : (m : ℕ) (eight rest : List Bool) → length eight ≡ 8 → take 8 (take m (eight ++ rest)) ≡ take m eight
front_of m eight rest long = ⊎_elim
    (λ (h : m < 8). take_all 8 (take m (eight ++ rest)) (rw (length-take m (eight ++ rest)) (omega arith)) ∙ take-append-le m eight rest (omega arith))
    (λ (h : 8 ≤ m). take-take 8 m (eight ++ rest) h ∙ take_at eight rest 8 long ∙ sym (take_all m eight (omega arith)))
    (lt_or_le m 8)

behind_of : (m : ℕ) (eight rest : List Bool) → length eight ≡ 8 → drop 8 (take m (eight ++ rest)) ≡ take (m - 8) rest
behind_of m eight rest long = ⊎_elim
    (λ (h : m < 8).
    let z : m - 8 ≡ 0 = omega arith in
    drop_of_length-le (take m (eight ++ rest)) {i = 8} (rw (length-take m (eight ++ rest)) (omega arith)) ∙ sym (ap (λ (k : ℕ). take k rest) z))
    (λ (h : 8 ≤ m).
    let k : length eight + (m - 8) ≡ m = omega arith in
    ap (λ (i : ℕ). drop 8 (take i (eight ++ rest))) (sym k) ∙ ap (drop 8) (take-append-add eight rest (m - 8)) ∙ drop_at eight (take (m - 8) rest) 8 long)
    (lt_or_le m 8)

-- The first eight, by their octet, and those behind them.
module _ (bits behind : List Bool) (rest : take (length (drop 8 bits)) behind ≡ drop 8 bits) where
  abbrev front : List Bool
  front = low_bits 8 (lowest_first (take 8 bits))

  front_long : length front ≡ 8
  front_long = length_low 8 (lowest_first (take 8 bits))

  few : length bits < 8 → take (length bits) (front ++ behind) ≡ bits
  few l =
      take-append-le (length bits) front behind (omega (arith, front_long))
      ∙ ap (λ (x : List Bool). take (length bits) (low_bits 8 (lowest_first x))) (take_all 8 bits (omega arith))
      ∙ low_lowest 8 bits (omega arith)

  eight : 8 ≤ length bits → front ≡ take 8 bits
  eight l =
      let k : length (take 8 bits) ≡ 8 = length-take-le 8 bits l in
      sym (take_all 8 front (omega (arith, front_long))) ∙ ap (λ (i : ℕ). take i front) (sym k)
      ∙ low_lowest 8 (take 8 bits) (omega arith)

  many : 8 ≤ length bits → take (length bits) (front ++ behind) ≡ bits
  many l =
      let k : length (take 8 bits) + length (drop 8 bits) ≡ length bits = rw (length-take-le 8 bits l, length-drop 8 bits) (omega arith) in
      ap (λ (x : List Bool). take (length bits) (x ++ behind)) (eight l)
      ∙ ap (λ (i : ℕ). take i (take 8 bits ++ behind)) (sym k)
      ∙ take-append-add (take 8 bits) behind (length (drop 8 bits))
      ∙ ap (λ (x : List Bool). take 8 bits ++ x) rest
      ∙ take-append-drop 8 bits

  rejoined : take (length bits) (front ++ behind) ≡ bits
  rejoined = ⊎_elim few many (lt_or_le (length bits) 8)

-- What was packed into enough octets is unpacked again,
pub unpacked_packed : (n : ℕ) (bits : List Bool) → length bits ≤ 8 * n → dead_in (length bits) (packed n bits) ≡ bits
unfolding packed unpacked
unpacked_packed zero [] h = refl
unpacked_packed zero (b ∷ bits) h = absurd (omega arith)
unpacked_packed (suc n) bits h = rejoined bits (unpacked (packed n (drop 8 bits))) (unpacked_packed n (drop 8 bits) (rw (length-drop 8 bits) (omega arith)))

-- and what no bit stands above the count in is packed to the same octets.
pub packed_unpacked : (modules : ℕ) (l : List ℕ) → are_bytes l ≡ true → none_above modules l ≡ true → packed (length l) (dead_in modules l) ≡ l
unfolding packed unpacked none_above
packed_unpacked modules [] small none = refl
packed_unpacked modules (o ∷ l) small none =
    let eight = low_bits 8 o in
    let rest = unpacked l in
    let long : length eight ≡ 8 = length_low 8 o in
    let less : o < 256 = ltb-true o 256 (and_left (ltb o 256) (are_bytes l) small) in
    let own : o / 2 ^ modules ≡ 0 = eqb-true (o / 2 ^ modules) 0 (and_left (eqb (o / 2 ^ modules) 0) (none_above (modules - 8) l) none) in
    ap₂ (λ (x : ℕ) (xs : List ℕ). x ∷ xs)
    (ap lowest_first (front_of modules eight rest long) ∙ lowest_low 8 modules o less own)
    (ap (packed (length l)) (behind_of modules eight rest long)
    ∙ packed_unpacked (modules - 8) l (and_right (ltb o 256) (are_bytes l) small) (and_right (eqb (o / 2 ^ modules) 0) (none_above (modules - 8) l) none))

-- ---- one module's bit

low_at : (k j o : ℕ) → j < k → get_or (low_bits k o) j false ≡ eqb (bit j o) 1
unfolding low_bits bit
low_at zero j o h = absurd (omega arith)
low_at (suc k) zero o h = refl
low_at (suc k) (suc j) o h = low_at k j (o / 2) (omega arith)

pub unpacked_at : (l : List ℕ) (j : ℕ) → get_or (unpacked l) j false ≡ eqb (bit (j % 8) (octet l (j / 8))) 1
unfolding unpacked
unpacked_at [] j = sym (ap (λ (x : ℕ). eqb x 1) (bit_zero (j % 8)))
unpacked_at (o ∷ l) j = ⊎_elim
    (λ (h : j < 8).
    let z : j / 8 ≡ 0 = omega arith in
    let r : j % 8 ≡ j = omega arith in
    rw (z, r) (get_or-append (low_bits 8 o) (unpacked l) false j (omega (arith, length_low 8 o)) ∙ low_at 8 j o h))
    (λ (h : 8 ≤ j).
    let z : j / 8 ≡ suc ((j - 8) / 8) = omega arith in
    let r : j % 8 ≡ (j - 8) % 8 = omega arith in
    let k : length (low_bits 8 o) + (j - 8) ≡ j = omega (arith, length_low 8 o) in
    rw (z, r) (ap (λ (i : ℕ). get_or (low_bits 8 o ++ unpacked l) i false) (sym k)
    ∙ get_or-append-add (low_bits 8 o) (unpacked l) (j - 8) false ∙ unpacked_at l (j - 8)))
    (lt_or_le j 8)

-- ---- bits above the count, octet by octet

-- Octets that are full of modules have no bit above the count.
pub none_from : (l : List ℕ) (modules : ℕ) → are_bytes l ≡ true → none_above modules l ≡ none_above (modules % 8) (drop (modules / 8) l)
unfolding none_above
none_from [] modules small = ap (none_above (modules % 8)) (sym (drop-nil (modules / 8)))
none_from (o ∷ l) modules small = ⊎_elim
    (λ (h : modules < 8).
    let z : modules / 8 ≡ 0 = omega arith in
    let r : modules % 8 ≡ modules = omega arith in
    rw (z, r))
    (λ (h : 8 ≤ modules).
    let z : modules / 8 ≡ suc ((modules - 8) / 8) = omega arith in
    let r : modules % 8 ≡ (modules - 8) % 8 = omega arith in
    let less : o < 256 = ltb-true o 256 (and_left (ltb o 256) (are_bytes l) small) in
    let own : o / 2 ^ modules ≡ 0 = div-eq_of_lt (omega (arith, less, pow_mono {i = 8} {j = modules} h)) in
    rw (z, r, own) (none_from l (modules - 8) (and_right (ltb o 256) (are_bytes l) small)))
    (lt_or_le modules 8)

none_zero : (l : List ℕ) → none_above 0 l ≡ list_all (λ o. eqb o 0) l
unfolding none_above
none_zero [] = refl
none_zero (o ∷ l) = rw (div-one o, none_zero l)

first_of : (k : ℕ) (t : List ℕ) → k < 8 → none_above k t ≡ eqb (get_or t 0 0 / 2 ^ k) 0 && list_all (λ o. eqb o 0) (drop 1 t)
unfolding none_above
first_of k [] h = let z : 0 / 2 ^ k ≡ 0 = div-eq_of_lt (pow_pos k) in rw z
first_of k (o ∷ t) h =
    let none : k - 8 ≡ 0 = omega arith in
    rw (none, none_zero t)

-- By the octet that the count ends in, and those behind it, which have no module's bit.
pub none_behind : (modules : ℕ) (l : List ℕ) → ((i : ℕ) → get_or l i 0 < 256)
    → none_above modules l ≡ eqb (get_or (drop (modules / 8) l) 0 0 / 2 ^ (modules % 8)) 0 && list_all (λ o. eqb o 0) (drop 1 (drop (modules / 8) l))
none_behind modules l small = none_from l modules (octets_bytes l (record { small = small })) ∙ first_of (modules % 8) (drop (modules / 8) l) (omega arith)
