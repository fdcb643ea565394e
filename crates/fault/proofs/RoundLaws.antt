-- What is given and kept is a section within the rules, and the parts of every such section are kept when they are given:
-- so what is written is read, and what is read is written to the same octets. Assumes nothing.
use Rattle.std.specs.Prelude.{ℕ, suc, ◌+◌, ◌*◌, ◌%◌, ◌<◌, ◌≡◌, refl, true, ◌&&◌, List, [], ◌∷◌, length, get_or}
use Rattle.std.proofs.Common.{sym, ap, ap₂, ◌∙◌, arith, eq-eqb, le-leb}
use Rattle.std.proofs.Math.Dec.{eqb, leb}
use Rattle.std.proofs.Math.Pow.{are_bytes}
use Rattle.octets.specs.Split.{both}
use Rattle.fault.specs.declared.Error.{Error}
use Rattle.fault.specs.Section.{Section, bits_size, bits_of, numbers_of, octets_of, are_errors, most_section}
use Rattle.fault.specs.Bits.{none_above}
use Rattle.fault.proofs.BitsLaws.{length_packed, packed_none, unpacked_packed}
use Rattle.fault.proofs.ErrorsLaws.{length_numbers}
use Rattle.fault.proofs.SectionLaws.{Within, bits_enough, section_size}
use Rattle.fault.specs.Writing.{errors_given, section_given, size_given, keeps_rules}
use Rattle.fault.proofs.WritingLaws.{Keeps, given_modules, given_count}

-- ---- what is given and kept

module _ (modules : ℕ) (bits numbers name options : List ℕ) (k : Keeps (size_given modules numbers options) modules bits numbers) (small : are_bytes bits ≡ true) where
  abbrev x : Section
  x = section_given modules bits numbers name options

  -- It needs the octets that it has,
  pub given_size : length name ≡ 8 → length (octets_of x) ≡ size_given modules numbers options
  given_size eight =
      let even = k.even in
      section_size x
      ∙ rw (given_modules (size_given modules numbers options) modules bits numbers name options k small, given_count numbers, eight) (omega arith)

  -- and is within the rules.
  pub given_within_lem : length name ≡ 8 → are_bytes name ≡ true → are_bytes options ≡ true → Within x
  given_within_lem eight name_small options_small = record {
    name_eight = eight;
    name_small = name_small;
    errors_are = k.errors;
    options_small = options_small;
    fits = rw (given_size eight) k.most;
  }

-- ---- the parts of a section

given_back : (es : List Error) → errors_given (numbers_of es) ≡ es
unfolding errors_given numbers_of
given_back [] = refl
given_back (e ∷ es) = ap (λ (t : List Error). e ∷ t) (given_back es)

module _ (x : Section) (w : Within x) where
  abbrev m : ℕ
  m = length x.dead

  -- Given again, they are the section.
  pub given_same : section_given m (bits_of x.dead) (numbers_of x.errors) x.name x.options ≡ x
  given_same = rw (given_back x.errors, unpacked_packed (bits_size m) x.dead (bits_enough m))

  pub size_same : size_given m (numbers_of x.errors) x.options ≡ length (octets_of x)
  size_same = sym (section_size x ∙ omega (arith, length_numbers x.errors, w.name_eight))

  pub parts_keep : keeps_rules (size_given m (numbers_of x.errors) x.options) m (bits_of x.dead) (numbers_of x.errors) ≡ true
  unfolding keeps_rules
  parts_keep =
      let size = size_given m (numbers_of x.errors) x.options in
      let a = leb size most_section in
      let b = eqb (length (bits_of x.dead)) (bits_size m) in
      let c = eqb (length (numbers_of x.errors) % 2) 0 in
      let d = none_above m (bits_of x.dead) in
      let e = are_errors (errors_given (numbers_of x.errors)) in
      both (a && b && c && d) e
      (both (a && b && c) d
      (both (a && b) c
      (both a b (le-leb size most_section (rw size_same w.fits)) (eq-eqb (length (bits_of x.dead)) (bits_size m) (length_packed (bits_size m) x.dead)))
      (eq-eqb (length (numbers_of x.errors) % 2) 0 (omega (arith, length_numbers x.errors))))
      (packed_none (bits_size m) x.dead))
      (rw (given_back x.errors) w.errors_are)

-- Numbers two by two, known by the errors that they are.
pub numbers_are : (es : List Error) (z : Error) (l : List ℕ) → length l ≡ 2 * length es
    → ((k : ℕ) → k < length es → (get_or l (2 * k) 0 ≡ (get_or es k z).«module») × (get_or l (2 * k + 1) 0 ≡ (get_or es k z).error))
    → l ≡ numbers_of es
unfolding numbers_of
numbers_are [] z [] e f = refl
numbers_are [] z (x ∷ l) e f = absurd (omega arith)
numbers_are (e ∷ es) z [] long f = absurd (omega arith)
numbers_are (e ∷ es) z (x ∷ []) long f = absurd (omega arith)
numbers_are (e ∷ es) z (x ∷ y ∷ l) long f =
    ap₂ (λ (a : ℕ) (t : List ℕ). a ∷ t) (f 0 (omega arith)).0
    (ap₂ (λ (a : ℕ) (t : List ℕ). a ∷ t) (f 0 (omega arith)).1
    (numbers_are es z l (omega arith) (λ k h.
    let g = f (suc k) (omega arith) in
    (ap (λ (i : ℕ). get_or (x ∷ y ∷ l) i 0) (there k) ∙ g.0, ap (λ (i : ℕ). get_or (x ∷ y ∷ l) i 0) (next k) ∙ g.1))))
  where
    there : (k : ℕ) → suc (suc (2 * k)) ≡ 2 * suc k
    there k = omega arith

    next : (k : ℕ) → suc (suc (2 * k + 1)) ≡ 2 * suc k + 1
    next k = omega arith
