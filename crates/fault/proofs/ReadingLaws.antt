-- What is read from a section's octets is what the section says. Assumes nothing.
use Rattle.std.specs.Prelude.{ℕ, ◌+◌, ◌-◌, ◌*◌, ◌/◌, ◌%◌, ◌≤◌, ◌<◌, ◌≡◌, refl, true, false, List, eqb, length, drop, get_or, replicate}
use Rattle.std.proofs.Common.{sym, ap, ◌∙◌, ⊎_elim, arith, length-take, get_or-take, le-leb, lt-ltb, le-ltb}
use Rattle.std.proofs.Math.Logic.{ite}
use Rattle.std.proofs.Math.ListN.{get_or-eq_default}
use Rattle.std.proofs.lemmas.Bool.{lt-leb}
use Rattle.octets.specs.Number.{octet, Octets}
use Rattle.std.proofs.Math.Pow.{are_bytes}
use Rattle.octets.proofs.NumberLaws.{number_drop, bytes_octets}
use Rattle.octets.specs.Run.{run, laid}
use Rattle.octets.proofs.RunLaws.{octet_run, laid_all}
use Rattle.octets.specs.Split.{lt_or_le, same_test, never_both, both, and_left, and_right}
use Rattle.map.specs.Map.{bit}
use Rattle.fault.specs.Section.{Section, is_dead, bits_size, octets_of, SectionOf}
use Rattle.fault.specs.Bits.{unpacked, dead_in}
use Rattle.fault.proofs.BitsLaws.{unpacked_at}
use Rattle.fault.specs.Places.{modules_in, errors_in, list_at, errors_from}
use Rattle.fault.proofs.ErrorsLaws.{errors_at, length_errors}
use Rattle.fault.proofs.SectionLaws.{Within, within_facts, bits_enough, maybe_section, section_in, section_back, is_judged, judged_section, says_modules, says_errors, says_options, name_there, options_there}
use Rattle.fault.specs.private.Judged.{judged}
use Rattle.fault.specs.Reading.{is_section, report_of, report, dead_at, no_error, error_at, options_of}

-- ---- whether it is one

told : {P : Type 0} (d : Dec P) → ite d true false ≡ true → P
told (yes x) e = x
told (no f) e = absurd (never_both e refl)

tells : {P : Type 0} (d : Dec P) → P → ite d true false ≡ true
tells (yes x) p = refl
tells (no f) p = absurd (f p)

-- "exactly the octets of such sections": both directions.
pub is_section_lem : (s : List ℕ) → is_section s ≡ true → SectionOf s
unfolding is_section
is_section_lem s e = judged_section s (bytes_octets s (and_left (are_bytes s) (judged s) e)) (and_right (are_bytes s) (judged s) e)

pub section_is : (s : List ℕ) → SectionOf s → is_section s ≡ true
unfolding is_section
section_is s x = let j = is_judged s x in both (are_bytes s) (judged s) j.0 j.1

-- Whether there is such a section can be told, and that is it.
pub section_told : (s : List ℕ) → is_section s ≡ ite (maybe_section s) true false
section_told s =
    same_test (is_section s) (ite (maybe_section s) true false)
    (λ e. tells (maybe_section s) (is_section_lem s e)) (λ e. section_is s (told (maybe_section s) e))

-- By what stands at the places of octets.
pub section_by : (s : List ℕ) → Octets s → is_section s ≡ judged s
section_by s o = same_test (is_section s) (judged s) (λ e. (is_judged s (is_section_lem s e)).1) (λ e. section_is s (judged_section s o e))

-- A section has its whole name.
whole : (s : List ℕ) → SectionOf s → length (run (8 + bits_size (modules_in s)) 8 s) ≡ 8
whole s (x, is, e) =
    let w = within_facts x is in
    rw (← e) (ap length (name_there x w) ∙ w.name_eight)

pub name_whole : (s : List ℕ) → is_section s ≡ true
    → laid (replicate 8 0) 0 (run (8 + bits_size (modules_in s)) 8 s) ≡ run (8 + bits_size (modules_in s)) 8 s
name_whole s is = laid_all (replicate 8 0) (run (8 + bits_size (modules_in s)) 8 s) (whole s (is_section_lem s is))

-- ---- what it says

module _ (x : Section) (w : Within x) where
  pub report_back : report_of (octets_of x) ≡ report x
  unfolding report_of
  report_back = rw (says_options x w, says_errors x w, name_there x w, says_modules x w)

  pub options_back : options_of (octets_of x) ≡ x.options
  unfolding options_of
  options_back = options_there x w

-- The bit of a module that is counted stands where unpacking finds it.
dead_in_lem : (s : List ℕ) (k : ℕ) → 1 ≤ k → k ≤ modules_in s
    → eqb (bit ((k - 1) % 8) (octet s (4 + (k - 1) / 8))) 1 ≡ get_or (section_in s).dead (k - 1) false
unfolding section_in
dead_in_lem s k one most =
    let size = bits_size (modules_in s) in
    let near : (k - 1) / 8 < size = omega (arith, bits_enough (modules_in s)) in
    sym (get_or-take (modules_in s) (unpacked (run 4 size s)) (k - 1) false (omega arith) ∙ unpacked_at (run 4 size s) (k - 1)
    ∙ ap (λ (o : ℕ). eqb (bit ((k - 1) % 8) o) 1) (octet_run 4 size s ((k - 1) / 8) near))

dead_past : (s : List ℕ) (k : ℕ) → modules_in s < k → get_or (section_in s).dead (k - 1) false ≡ false
unfolding section_in
dead_past s k past =
    get_or-eq_default (dead_in (modules_in s) (run 4 (bits_size (modules_in s)) s)) false {n = k - 1}
    (rw (length-take (modules_in s) (unpacked (run 4 (bits_size (modules_in s)) s))) (omega arith))

dead_is : (s : List ℕ) (k : ℕ) → dead_at s k ≡ is_dead (section_in s) k
unfolding dead_at
dead_is s k = ⊎_elim
    (λ (h : k < 1). rw (lt-leb 1 k h))
    (λ (one : 1 ≤ k). ⊎_elim
    (λ (h : modules_in s < k). rw (le-leb 1 k one, lt-leb k (modules_in s) h, dead_past s k h))
    (λ (h : k ≤ modules_in s). rw (le-leb 1 k one, le-leb k (modules_in s) h) (dead_in_lem s k one h))
    (lt_or_le (modules_in s) k))
    (lt_or_le k 1)

error_is : (s : List ℕ) (k : ℕ) → error_at s k ≡ get_or (section_in s).errors k no_error
unfolding error_at section_in
error_is s k = ⊎_elim
    (λ (h : k < errors_in s).
    let second : list_at s + (4 * k + 2) ≡ list_at s + 4 * k + 2 = omega arith in
    rw (lt-ltb k (errors_in s) h)
    (sym (errors_at (errors_in s) (drop (list_at s) s) k no_error h ∙ rw (number_drop 2 (list_at s) s (4 * k), number_drop 2 (list_at s) s (4 * k + 2), second))))
    (λ (h : errors_in s ≤ k).
    rw (le-ltb k (errors_in s) h) (sym (get_or-eq_default (errors_from (errors_in s) (drop (list_at s) s)) no_error {n = k} (omega (arith, length_errors (errors_in s) (drop (list_at s) s))))))
    (lt_or_le k (errors_in s))

module _ (x : Section) (w : Within x) where
  pub dead_back : (k : ℕ) → dead_at (octets_of x) k ≡ is_dead x k
  dead_back k = dead_is (octets_of x) k ∙ ap (λ (y : Section). is_dead y k) (section_back x w)

  pub error_back : (k : ℕ) → error_at (octets_of x) k ≡ get_or x.errors k no_error
  error_back k = error_is (octets_of x) k ∙ ap (λ (y : Section). get_or y.errors k no_error) (section_back x w)
