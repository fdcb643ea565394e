-- Laws of writing a section: what is laid down part by part are the octets of the section that is given. Assumes nothing.
use Rattle.std.specs.Prelude.{ℕ, suc, ◌+◌, ◌*◌, ◌/◌, ◌%◌, ◌≤◌, ◌<◌, ◌≡◌, refl, Bool, ◌&&◌, eqb, leb, length, take, drop, set, get_or}
use Rattle.std.proofs.Math.Path.{sym, ap}
use Rattle.std.proofs.Common.{◌∙◌, zero-add, add-one, arith, length-append, take-suc, length-take-le, eqb-true, leb-true}
use Rattle.std.proofs.Math.Bool.{true}
use mathlib.Core.List.{List, [], ◌∷◌, ◌++◌, append_assoc, append-nil}
use Rattle.std.proofs.Math.Pow.{are_bytes}
use Rattle.std.proofs.lemmas.List.Edits.{sets-eq}
use Rattle.octets.specs.Number.{octets}
use Rattle.octets.proofs.NumberLaws.{length_octets, octets_bytes}
use Rattle.octets.specs.Run.{laid}
use Rattle.octets.proofs.RunLaws.{laid_on, laid_fits, laid_nothing, length_laid}
use Rattle.octets.specs.Split.{and_left, and_right}
use Rattle.fault.specs.Section.{Section, bits_size, packed, bits_of, numbers_of, pairs_of, octets_of, are_errors, most_section}
use Rattle.fault.specs.Bits.{unpacked, none_above}
use Rattle.fault.proofs.BitsLaws.{length_unpacked, packed_unpacked}
use Rattle.fault.proofs.ErrorsLaws.{length_pairs, error_asks, from_one}
use Rattle.fault.proofs.SectionLaws.{bits_enough}
use Rattle.fault.specs.Writing.{errors_given, section_given, size_given, keeps_rules}
use Rattle.fault.specs.private.Chunks.{numbers_are_errors}
use Rattle.fault.specs.private.Laid.{front_of, back_of}

-- ---- the errors that are given

-- Two by two: only that no module is 0 is left to be asked of 16-bit numbers.
given_two : (x y : ℕ) (l : List ℕ) → x < 65536 → y < 65536 → are_errors (errors_given (x ∷ y ∷ l)) ≡ leb 1 x && are_errors (errors_given l)
unfolding errors_given are_errors
given_two x y l a b = ap (λ (t : Bool). t && are_errors (errors_given l)) (error_asks (record { «module» = x; error = y }) a b)

-- The errors are looked at two numbers at a time.
pub errors_two : (l : List ℕ) → ((i : ℕ) → get_or l i 0 < 65536)
    → are_errors (errors_given l) ≡ numbers_are_errors l
unfolding errors_given are_errors
errors_two [] small = refl
errors_two (x ∷ []) small = refl
errors_two (x ∷ y ∷ l) small =
    let two : length (x ∷ y ∷ l) / 2 ≡ suc (length l / 2) = omega arith in
    given_two x y l (small 0) (small 1) ∙ rw (two, from_one x, errors_two l (λ i. small (suc (suc i))))

-- ---- numbers laid down one after the other

pairs_append : (l k : List ℕ) → pairs_of (l ++ k) ≡ pairs_of l ++ pairs_of k
unfolding pairs_of
pairs_append [] k = refl
pairs_append (x ∷ l) k = rw (pairs_append l k) (sym (append_assoc (octets 2 x) (pairs_of l) (pairs_of k)))

pairs_one : (x : ℕ) → pairs_of (x ∷ []) ≡ octets 2 x
unfolding pairs_of
pairs_one x = append-nil (octets 2 x)

pub pairs_none : (s : List ℕ) (at : ℕ) (l : List ℕ) → at ≤ length s → s ≡ laid s at (pairs_of (take 0 l))
unfolding pairs_of
pairs_none s at l h = sym (laid_nothing s at h)

octets_two : (x : ℕ) → x < 65536 → octets 2 x ≡ x / 256 ∷ x % 256 ∷ []
unfolding octets
octets_two x small =
    let high : x / 256 % 256 ≡ x / 256 = omega arith in
    rw high

-- A number's two octets, stored one after the other.
pub two_octets : (s : List ℕ) (at x : ℕ) → x < 65536 → at + 2 ≤ length s → set (set s at (x / 256)) (at + 1) (x % 256) ≡ laid s at (octets 2 x)
two_octets s at x small room =
    rw (octets_two x small, add-one at)
    (sets-eq (x / 256 ∷ x % 256 ∷ []) s at room ∙ append_assoc (take at s) (x / 256 ∷ x % 256 ∷ []) (drop (at + 2) s)
    ∙ sym (laid_fits s at (x / 256 ∷ x % 256 ∷ []) room))

pub pairs_next : (s : List ℕ) (at : ℕ) (l : List ℕ) (i : ℕ) → i < length l → at + 2 * length l ≤ length s
    → laid (laid s at (pairs_of (take i l))) (at + 2 * i) (octets 2 (get_or l i 0)) ≡ laid s at (pairs_of (take (i + 1) l))
pairs_next s at l i h room =
    let next : pairs_of (take (i + 1) l) ≡ pairs_of (take i l) ++ octets 2 (get_or l i 0)
    = ap (λ (k : ℕ). pairs_of (take k l)) (add-one i) ∙ ap pairs_of (take-suc l i 0 h) ∙ pairs_append (take i l) (get_or l i 0 ∷ [])
    ∙ ap (λ (t : List ℕ). pairs_of (take i l) ++ t) (pairs_one (get_or l i 0)) in
    let long : length (pairs_of (take i l)) ≡ 2 * i = length_pairs (take i l) ∙ rw (length-take-le i l (omega arith)) in
    let two : length (octets 2 (get_or l i 0)) ≡ 2 = length_octets 2 (get_or l i 0) in
    ap (λ (k : ℕ). laid (laid s at (pairs_of (take i l))) (at + k) (octets 2 (get_or l i 0))) (sym long)
    ∙ laid_on s at (pairs_of (take i l)) (octets 2 (get_or l i 0)) (omega (arith, long, two)) ∙ ap (laid s at) (sym next)

-- One number more.
pub pairs_stored : (s t : List ℕ) (at : ℕ) (l : List ℕ) (i : ℕ) → t ≡ laid s at (pairs_of (take i l)) → i < length l → at + 2 * length l ≤ length s → get_or l i 0 < 65536
    → set (set t (at + 2 * i) (get_or l i 0 / 256)) (at + 2 * i + 1) (get_or l i 0 % 256) ≡ laid s at (pairs_of (take (i + 1) l))
pairs_stored s t at l i e h room small =
    let same : length t ≡ length s = ap length e ∙ length_laid s at (pairs_of (take i l)) in
    two_octets t (at + 2 * i) (get_or l i 0) small (omega (arith, same)) ∙ rw e (pairs_next s at l i h room)

-- ---- what is given is a section's

-- What `keeps_rules` asks, each by itself.
pub record Keeps (size modules : ℕ) (bits numbers : List ℕ) : Type 0 where
  pub most : size ≤ most_section
  pub bits_long : length bits ≡ bits_size modules
  pub even : length numbers % 2 ≡ 0
  pub none : none_above modules bits ≡ true
  pub errors : are_errors (errors_given numbers) ≡ true

pub keeps_facts : (size modules : ℕ) (bits numbers : List ℕ) → keeps_rules size modules bits numbers ≡ true → Keeps size modules bits numbers
unfolding keeps_rules
keeps_facts size modules bits numbers is =
    let a = leb size most_section in
    let b = eqb (length bits) (bits_size modules) in
    let c = eqb (length numbers % 2) 0 in
    let d = none_above modules bits in
    let e = are_errors (errors_given numbers) in
    let abcd = and_left (a && b && c && d) e is in
    let abc = and_left (a && b && c) d abcd in
    let ab = and_left (a && b) c abc in
    record {
      most = leb-true size most_section (and_left a b ab);
      bits_long = eqb-true (length bits) (bits_size modules) (and_right a b ab);
      even = eqb-true (length numbers % 2) 0 (and_right (a && b) c abc);
      none = and_right (a && b && c) d abcd;
      errors = and_right (a && b && c && d) e is;
    }

pub given_count : (l : List ℕ) → length (errors_given l) ≡ length l / 2
unfolding errors_given
given_count [] = refl
given_count (x ∷ []) = refl
given_count (x ∷ y ∷ l) = ap suc (given_count l) ∙ omega arith

pub given_numbers : (l : List ℕ) → length l % 2 ≡ 0 → numbers_of (errors_given l) ≡ l
unfolding errors_given numbers_of
given_numbers [] e = refl
given_numbers (x ∷ []) e = absurd (omega arith)
given_numbers (x ∷ y ∷ l) e = ap (λ (t : List ℕ). x ∷ y ∷ t) (given_numbers l (omega arith))

module _ (size modules : ℕ) (bits numbers name options : List ℕ) (k : Keeps size modules bits numbers) (small : are_bytes bits ≡ true) where
  abbrev x : Section
  x = section_given modules bits numbers name options

  pub given_modules : length x.dead ≡ modules
  given_modules = length-take-le modules (unpacked bits) (omega (arith, length_unpacked bits, k.bits_long, bits_enough modules))

  pub given_bits : bits_of x.dead ≡ bits
  given_bits =
      ap (λ (n : ℕ). packed (bits_size n) x.dead) given_modules ∙ ap (λ (n : ℕ). packed n x.dead) (sym k.bits_long)
      ∙ packed_unpacked modules bits small k.none

  -- Its octets, by the parts that are given.
  pub given_octets : octets_of x ≡ front_of modules bits (length numbers / 2) name ++ back_of numbers options
  unfolding octets_of
  given_octets =
      let count = octets 4 (length numbers / 2) in
      let back = back_of numbers options in
      rw (given_bits, given_modules, given_count numbers, given_numbers numbers k.even)
      (sym (append_assoc (octets 4 modules) (bits ++ (count ++ name)) back ∙ ap (λ (t : List ℕ). octets 4 modules ++ t)
      (append_assoc bits (count ++ name) back ∙ ap (λ (t : List ℕ). bits ++ t) (append_assoc count name back))))

-- ---- the parts, one behind the other

module _ (s : List ℕ) (at : ℕ) (p q r : List ℕ) (room : at + (length p + (length q + length r)) ≤ length s) where
  pub laid_three : laid (laid (laid s at p) (at + length p) q) (at + length p + length q) r ≡ laid s at (p ++ (q ++ r))
  laid_three =
      let both : length (p ++ q) ≡ length p + length q = length-append p q in
      let there : at + length p + length q ≡ at + length (p ++ q) = omega (arith, both) in
      ap (λ (t : List ℕ). laid t (at + length p + length q) r) (laid_on s at p q (omega arith))
      ∙ ap (λ (k : ℕ). laid (laid s at (p ++ q)) k r) there
      ∙ laid_on s at (p ++ q) r (omega (arith, both)) ∙ ap (laid s at) (append_assoc p q r)

-- Both halves.
pub halves_laid : (s front back : List ℕ) (at : ℕ) → at ≡ length front → length front + length back ≤ length s
    → laid (laid s 0 front) at back ≡ laid s 0 (front ++ back)
halves_laid s front back at there room = ap (λ (k : ℕ). laid (laid s 0 front) k back) (there ∙ sym (zero-add (length front))) ∙ laid_on s 0 front back (omega arith)

pub back_laid : (s : List ℕ) (at : ℕ) (numbers options : List ℕ) → at + 2 * length numbers + 4 + length options ≤ length s
    → laid (laid (laid s at (pairs_of numbers)) (at + 2 * length numbers) (octets 4 (length options))) (at + 2 * length numbers + 4) options
    ≡ laid s at (back_of numbers options)
back_laid s at numbers options room =
    let count = octets 4 (length options) in
    let long = length_pairs numbers in
    let four = length_octets 4 (length options) in
    ap (λ (k : ℕ). laid (laid (laid s at (pairs_of numbers)) (at + 2 * length numbers) count) (at + 2 * length numbers + k) options) (sym four)
    ∙ ap (λ (k : ℕ). laid (laid (laid s at (pairs_of numbers)) (at + k) count) (at + k + length count) options) (sym long)
    ∙ laid_three s at (pairs_of numbers) count options (omega (arith, long, four))

pub front_laid : (s : List ℕ) (modules : ℕ) (bits : List ℕ) (errors : ℕ) (name : List ℕ) → length name ≡ 8 → 16 + length bits ≤ length s
    → laid (laid (laid (laid s 0 (octets 4 modules)) 4 bits) (4 + length bits) (octets 4 errors)) (8 + length bits) name
    ≡ laid s 0 (front_of modules bits errors name)
front_laid s modules bits errors name eight room =
    let a = octets 4 modules in
    let c = octets 4 errors in
    let wide = length_octets 4 modules in
    let four = length_octets 4 errors in
    let ab : length (a ++ bits) ≡ 4 + length bits = length-append a bits ∙ rw wide in
    let place : 8 + length bits ≡ 4 + length bits + length c = omega (arith, four) in
    ap (λ (t : List ℕ). laid (laid t (4 + length bits) c) (8 + length bits) name) (halves_laid s a bits 4 (sym wide) (omega (arith, wide)))
    ∙ ap (λ (k : ℕ). laid (laid (laid s 0 (a ++ bits)) (4 + length bits) c) k name) place
    ∙ ap (λ (k : ℕ). laid (laid (laid s 0 (a ++ bits)) k c) (k + length c) name) (sym ab ∙ sym (zero-add (length (a ++ bits))))
    ∙ laid_three s 0 (a ++ bits) c name (omega (arith, ab, four, eight))
    ∙ ap (laid s 0) (append_assoc a bits (c ++ name))

-- All of it, and the section that is given.
pub given_laid : (modules : ℕ) (bits numbers name options s : List ℕ) → keeps_rules (size_given modules numbers options) modules bits numbers ≡ true
    → ((i : ℕ) → get_or bits i 0 < 256) → length name ≡ 8 → size_given modules numbers options ≤ length s
    → laid (laid s 0 (front_of modules bits (length numbers / 2) name)) (16 + length bits) (back_of numbers options)
    ≡ laid s 0 (octets_of (section_given modules bits numbers name options))
given_laid modules bits numbers name options s keeps small eight room =
    let k = keeps_facts (size_given modules numbers options) modules bits numbers keeps in
    let front = front_of modules bits (length numbers / 2) name in
    let back = back_of numbers options in
    let count = octets 4 (length numbers / 2) in
    let wide : length front ≡ 16 + length bits
    = rw (length-append (octets 4 modules) (bits ++ (count ++ name)), length-append bits (count ++ name), length-append count name, length_octets 4 modules, length_octets 4 (length numbers / 2), eight) (omega arith) in
    let long : length back ≡ 2 * length numbers + 4 + length options
    = rw (length-append (pairs_of numbers) (octets 4 (length options) ++ options), length-append (octets 4 (length options)) options, length_pairs numbers, length_octets 4 (length options)) (omega arith) in
    let size = k.bits_long in
    halves_laid s front back (16 + length bits) (sym wide) (omega (arith, wide, long, size, room))
    ∙ ap (laid s 0) (sym (given_octets (size_given modules numbers options) modules bits numbers name options k (octets_bytes bits (record { small = small }))))
