-- Of some octets there is at most one section, and it is what stands at their places: both directions, and so a decision
-- whether there is one. Assumes nothing.
use Rattle.std.specs.Prelude.{ℕ, ◌+◌, ◌*◌, ◌^◌, ◌≤◌, ◌<◌, ◌≡◌, ◌⊎◌, Bool, false, ◌&&◌, List, ◌++◌, eqb, leb}
use Rattle.std.proofs.Math.Path.{refl, ap}
use Rattle.std.proofs.Common.{sym, ◌∙◌, inl, inr, add-zero, arith, length-take, length-drop, take-append-drop, drop-drop, take_at, get_or-drop, get_or-take, eqb-true, eq-eqb, leb-true, le-leb}
use Rattle.std.proofs.Math.Bool.{true}
use Rattle.std.proofs.Math.ListN.{length, take, drop, length-append, get_or-eq_default}
use Rattle.std.proofs.Math.Pow.{are_bytes}
use Rattle.std.proofs.Math.Seq.{drop_at, take_all, length-take-le}
use Rattle.octets.specs.Number.{octet, number, octets, Octets}
use Rattle.octets.proofs.NumberLaws.{length_octets, number_drop, number_front, octets_run, octets_small, bytes_append, bytes_octets, octets_bytes}
use Rattle.octets.specs.Run.{run}
use Rattle.octets.proofs.RunLaws.{length_run}
use Rattle.octets.specs.Split.{lt_or_le, both, and_left, and_right, never_both}
use Rattle.fault.specs.Section.{Section, bits_size, packed, bits_of, numbers_of, pairs_of, octets_of, are_errors, is_within, most_section, SectionOf}
use Rattle.fault.specs.Bits.{unpacked, dead_in, none_above}
use Rattle.fault.proofs.BitsLaws.{length_packed, length_unpacked, packed_none, packed_small, unpacked_packed, packed_unpacked}
use Rattle.fault.specs.Places.{modules_in, errors_in, list_at, count_at, options_in, errors_from}
use Rattle.fault.proofs.ErrorsLaws.{length_pairs, length_numbers, pairs_small, length_errors, errors_back, errors_same}
use Rattle.fault.specs.private.Judged.{ends_right, holds_rules, judged}

-- ---- L

-- L octets have a bit for each module.
pub bits_enough : (m : ℕ) → m ≤ 8 * bits_size m
bits_enough m = omega arith

-- ---- what a section's octets say

-- What the rules hold a section to.
pub record Within (x : Section) : Type 0 where
  pub name_eight : length x.name ≡ 8
  pub name_small : are_bytes x.name ≡ true
  pub errors_are : are_errors x.errors ≡ true
  pub options_small : are_bytes x.options ≡ true
  pub fits : length (octets_of x) ≤ most_section

pub within_facts : (x : Section) → is_within x ≡ true → Within x
unfolding is_within
within_facts x is =
    let a = eqb (length x.name) 8 in
    let b = are_bytes x.name in
    let c = are_errors x.errors in
    let d = are_bytes x.options in
    let e = leb (length (octets_of x)) most_section in
    let abcd = and_left (a && b && c && d) e is in
    let abc = and_left (a && b && c) d abcd in
    let ab = and_left (a && b) c abc in
    record {
      name_eight = eqb-true (length x.name) 8 (and_left a b ab);
      name_small = and_right a b ab;
      errors_are = and_right (a && b) c abc;
      options_small = and_right (a && b && c) d abcd;
      fits = leb-true (length (octets_of x)) most_section (and_right (a && b && c && d) e is);
    }

pub within_is : (x : Section) → Within x → is_within x ≡ true
unfolding is_within
within_is x w =
    let a = eqb (length x.name) 8 in
    let b = are_bytes x.name in
    let c = are_errors x.errors in
    let d = are_bytes x.options in
    let e = leb (length (octets_of x)) most_section in
    both (a && b && c && d) e
    (both (a && b && c) d (both (a && b) c (both a b (eq-eqb (length x.name) 8 w.name_eight) w.name_small) w.errors_are) w.options_small)
    (le-leb (length (octets_of x)) most_section w.fits)

module _ (x : Section) where
  -- From each part on.
  abbrev from_options : List ℕ
  from_options = octets 4 (length x.options) ++ x.options

  abbrev from_errors : List ℕ
  from_errors = pairs_of (numbers_of x.errors) ++ from_options

  abbrev from_name : List ℕ
  from_name = x.name ++ from_errors

  abbrev from_count : List ℕ
  from_count = octets 4 (length x.errors) ++ from_name

  abbrev from_bits : List ℕ
  from_bits = bits_of x.dead ++ from_count

  pairs_long : length (pairs_of (numbers_of x.errors)) ≡ 4 * length x.errors
  pairs_long = omega (arith, length_pairs (numbers_of x.errors), length_numbers x.errors)

  -- How long it is.
  pub section_size : length (octets_of x) ≡ 12 + bits_size (length x.dead) + length x.name + 4 * length x.errors + length x.options
  unfolding octets_of
  section_size =
      rw (
        length-append (octets 4 (length x.dead)) from_bits,
        length-append (bits_of x.dead) from_count,
        length-append (octets 4 (length x.errors)) from_name,
        length-append x.name from_errors,
        length-append (pairs_of (numbers_of x.errors)) from_options,
        length-append (octets 4 (length x.options)) x.options,
        length_octets 4 (length x.dead),
        length_octets 4 (length x.errors),
        length_octets 4 (length x.options),
        length_packed (bits_size (length x.dead)) x.dead,
        pairs_long,
      )
      (omega arith)

  module _ (w : Within x) where
    abbrev s : List ℕ
    s = octets_of x

    -- No count is wider than its four octets.
    counts_fit : (bits_size (length x.dead) ≤ 1344) × (4 * length x.errors ≤ 1344) × (length x.options ≤ 1344)
    counts_fit = let long = section_size in let most = w.fits in (omega arith, omega arith, omega arith)

    behind_4 : drop 4 s ≡ from_bits
    unfolding octets_of
    behind_4 = drop_at (octets 4 (length x.dead)) from_bits 4 (length_octets 4 (length x.dead))

    pub says_modules : modules_in s ≡ length x.dead
    unfolding octets_of
    says_modules = number_front 4 (length x.dead) from_bits (let few = counts_fit.0 in omega arith)

    -- From a place on, if what stands before it is known.
    on : (at k next : ℕ) (p t : List ℕ) → drop at s ≡ p ++ t → length p ≡ k → next ≡ at + k → drop next s ≡ t
    on at k next p t e long there = ap (λ (i : ℕ). drop i s) there ∙ sym (drop-drop k at s) ∙ ap (drop k) e ∙ drop_at p t k long

    count_there : (at v : ℕ) (t : List ℕ) → drop at s ≡ octets 4 v ++ t → v < 256 ^ 4 → number 4 s at ≡ v
    count_there at v t e fits =
        ap (number 4 s) (sym (add-zero at)) ∙ sym (number_drop 4 at s 0) ∙ ap (λ (l : List ℕ). number 4 l 0) e ∙ number_front 4 v t fits

    abbrev size : ℕ
    size = bits_size (length x.dead)

    behind_bits : drop (4 + size) s ≡ from_count
    behind_bits = on 4 size (4 + size) (bits_of x.dead) from_count behind_4 (length_packed size x.dead) refl

    behind_count : drop (8 + size) s ≡ from_name
    behind_count = on (4 + size) 4 (8 + size) (octets 4 (length x.errors)) from_name behind_bits (length_octets 4 (length x.errors)) (omega arith)

    behind_name : drop (16 + size) s ≡ from_errors
    behind_name = on (8 + size) 8 (16 + size) x.name from_errors behind_count w.name_eight (omega arith)

    behind_errors : drop (16 + size + 4 * length x.errors) s ≡ from_options
    behind_errors = on (16 + size) (4 * length x.errors) _ (pairs_of (numbers_of x.errors)) from_options behind_name pairs_long refl

    pub says_errors : errors_in s ≡ length x.errors
    says_errors = rw says_modules (count_there (4 + size) (length x.errors) from_name behind_bits (let few = counts_fit.1 in omega arith))

    pub says_list : list_at s ≡ 16 + size
    says_list = rw says_modules

    pub says_count : count_at s ≡ 16 + size + 4 * length x.errors
    says_count = rw (says_errors, says_modules)

    pub says_options : options_in s ≡ length x.options
    says_options =
        rw says_count (count_there (16 + size + 4 * length x.errors) (length x.options) x.options behind_errors (let few = counts_fit.2 in omega arith))

    pub bits_there : run 4 (bits_size (modules_in s)) s ≡ bits_of x.dead
    unfolding run
    bits_there = rw (says_modules, behind_4) (take_at (bits_of x.dead) from_count size (length_packed size x.dead))

    pub name_there : run (8 + bits_size (modules_in s)) 8 s ≡ x.name
    unfolding run
    name_there = rw (says_modules, behind_count) (take_at x.name from_errors 8 w.name_eight)

    pub errors_there : errors_from (errors_in s) (drop (list_at s) s) ≡ x.errors
    errors_there = rw (says_errors, says_list, behind_name) (errors_back x.errors from_options w.errors_are)

    pub options_there : run (count_at s + 4) (options_in s) s ≡ x.options
    unfolding run
    options_there =
        rw (
          says_options,
          says_count,
          on (16 + size + 4 * length x.errors) 4 (16 + size + 4 * length x.errors + 4) (octets 4 (length x.options)) x.options behind_errors (length_octets 4 (length x.options)) refl,
        )
        (take_all (length x.options) x.options (omega arith))

    pub dead_there : dead_in (modules_in s) (run 4 (bits_size (modules_in s)) s) ≡ x.dead
    dead_there = rw (bits_there, says_modules) (unpacked_packed size x.dead (bits_enough (length x.dead)))

    ends_there : ends_right s ≡ true
    ends_there = eq-eqb (length s) (count_at s + 4 + options_in s) (section_size ∙ rw (says_options, says_count, w.name_eight) (omega arith))

    pub section_judged : judged s ≡ true
    unfolding judged
    section_judged =
        both (ends_right s) (holds_rules s) ends_there
        (both (leb (length s) most_section && none_above (modules_in s) (run 4 (bits_size (modules_in s)) s)) (are_errors (errors_from (errors_in s) (drop (list_at s) s)))
        (both (leb (length s) most_section) (none_above (modules_in s) (run 4 (bits_size (modules_in s)) s)) (le-leb (length s) most_section w.fits) none)
        (rw errors_there w.errors_are))
      where
        none : none_above (modules_in s) (run 4 (bits_size (modules_in s)) s) ≡ true
        none = rw (bits_there, says_modules) (packed_none size x.dead)

    -- It is octets.
    pub section_small : are_bytes s ≡ true
    unfolding octets_of
    section_small =
        bytes_append (octets 4 (length x.dead)) from_bits (octets_small 4 (length x.dead))
        (bytes_append (bits_of x.dead) from_count (packed_small size x.dead)
        (bytes_append (octets 4 (length x.errors)) from_name (octets_small 4 (length x.errors))
        (bytes_append x.name from_errors w.name_small
        (bytes_append (pairs_of (numbers_of x.errors)) from_options (pairs_small (numbers_of x.errors))
        (bytes_append (octets 4 (length x.options)) x.options (octets_small 4 (length x.options)) w.options_small)))))

-- ---- the section that stands in octets

unfoldable pub section_in : List ℕ → Section
section_in s = record {
  dead = dead_in (modules_in s) (run 4 (bits_size (modules_in s)) s);
  errors = errors_from (errors_in s) (drop (list_at s) s);
  name = run (8 + bits_size (modules_in s)) 8 s;
  options = run (count_at s + 4) (options_in s) s;
}

-- A section's octets say what it is: of some octets there is one section at most.
pub section_back : (x : Section) → Within x → section_in (octets_of x) ≡ x
unfolding section_in
section_back x w = rw (dead_there x w, errors_there x w, name_there x w, options_there x w)

pub one_section : (x y : Section) → Within x → Within y → octets_of x ≡ octets_of y → x ≡ y
one_section x y w v e = sym (section_back x w) ∙ ap section_in e ∙ section_back y v

-- What judged octets say.
record Judged (s : List ℕ) : Type 0 where
  ends : length s ≡ count_at s + 4 + options_in s
  most : length s ≤ most_section
  none : none_above (modules_in s) (run 4 (bits_size (modules_in s)) s) ≡ true
  errors : are_errors (errors_from (errors_in s) (drop (list_at s) s)) ≡ true

judged_facts : (s : List ℕ) → judged s ≡ true → Judged s
unfolding judged
judged_facts s is =
    let a = leb (length s) most_section in
    let b = none_above (modules_in s) (run 4 (bits_size (modules_in s)) s) in
    let c = are_errors (errors_from (errors_in s) (drop (list_at s) s)) in
    let abc = and_right (ends_right s) (a && b && c) is in
    let ab = and_left (a && b) c abc in
    record {
      ends = eqb-true (length s) (count_at s + 4 + options_in s) (and_left (ends_right s) (a && b && c) is);
      most = leb-true (length s) most_section (and_left a b ab);
      none = and_right a b ab;
      errors = and_right (a && b) c abc;
    }

octets_run_of : (at k : ℕ) (s : List ℕ) → Octets s → Octets (run at k s)
unfolding run
octets_run_of at k s o = record { small = λ i. by i (lt_or_le i k) }
  where
    by : (i : ℕ) → (i < k) ⊎ (k ≤ i) → octet (take k (drop at s)) i < 256
    by i (inl h) = rw (get_or-take k (drop at s) i 0 h, get_or-drop at s i 0) (o.small (at + i))
    by i (inr h) = rw (get_or-eq_default (take k (drop at s)) 0 {n = i} (rw (length-take k (drop at s)) (omega arith))) (omega arith)

module _ (s : List ℕ) (o : Octets s) (j : Judged s) where
  abbrev size_in : ℕ
  size_in = bits_size (modules_in s)

  abbrev bits : List ℕ
  bits = run 4 size_in s

  -- A part, and behind it what stands from its end on.
  back_on : (at k next : ℕ) (p t : List ℕ) → p ≡ take k (drop at s) → t ≡ drop next s → next ≡ at + k → p ++ t ≡ drop at s
  back_on at k next p t e f there =
      rw (e, f, there, ← drop-drop k at s) (take-append-drop k (drop at s))

  octets_from : (at : ℕ) → Octets (drop at s)
  octets_from at = record { small = λ i. rw (get_or-drop at s i 0) (o.small (at + i)) }

  -- A count's octets.
  count_octets : (at : ℕ) → at + 4 ≤ length s → octets 4 (number 4 s at) ≡ take 4 (drop at s)
  count_octets at room =
      ap (octets 4) (ap (number 4 s) (sym (add-zero at)) ∙ sym (number_drop 4 at s 0))
      ∙ octets_run 4 (drop at s) (octets_from at) (rw (length-drop at s) (omega arith))

  bits_long : length bits ≡ size_in
  bits_long = length_run 4 size_in s (let ends = j.ends in omega arith)

  dead_long : length (section_in s).dead ≡ modules_in s
  unfolding section_in
  dead_long = length-take-le (modules_in s) (unpacked bits) (omega (arith, length_unpacked bits, bits_long, bits_enough (modules_in s)))

  bits_same : packed size_in (section_in s).dead ≡ take size_in (drop 4 s)
  unfolding section_in run
  bits_same =
      ap (λ (k : ℕ). packed k (dead_in (modules_in s) bits)) (sym bits_long)
      ∙ packed_unpacked (modules_in s) bits (octets_bytes bits (octets_run_of 4 size_in s o)) j.none

  errors_long : length (section_in s).errors ≡ errors_in s
  unfolding section_in
  errors_long = length_errors (errors_in s) (drop (list_at s) s)

  options_long : length (section_in s).options ≡ options_in s
  unfolding section_in
  options_long = length_run (count_at s + 4) (options_in s) s (let ends = j.ends in omega arith)

  octets_same : octets_of (section_in s) ≡ s
  unfolding octets_of section_in run
  octets_same =
      let ends = j.ends in
      let list = 16 + size_in in
      let count = count_at s in
      let last : take (options_in s) (drop (count + 4) s) ≡ drop (count + 4) s = take_all (options_in s) (drop (count + 4) s) (rw (length-drop (count + 4) s) (omega arith)) in
      rw (dead_long, errors_long, options_long)
      (back_on 0 4 4 _ _ (count_octets 0 (omega arith))
      (back_on 4 size_in (4 + size_in) _ _ bits_same
      (back_on (4 + size_in) 4 (8 + size_in) _ _ (count_octets (4 + size_in) (omega arith))
      (back_on (8 + size_in) 8 list _ _ refl
      (back_on list (4 * errors_in s) count _ _ (errors_same (errors_in s) (drop list s) (octets_from list) (rw (length-drop list s) (omega arith)))
      (back_on count 4 (count + 4) _ _ (count_octets count (omega arith)) last refl) refl) (omega arith)) (omega arith)) refl) refl)

  judged_within : Within (section_in s)
  unfolding section_in
  judged_within = let ends = j.ends in record {
    name_eight = length_run (8 + size_in) 8 s (omega arith);
    name_small = octets_bytes (run (8 + size_in) 8 s) (octets_run_of (8 + size_in) 8 s o);
    errors_are = j.errors;
    options_small = octets_bytes (run (count_at s + 4) (options_in s) s) (octets_run_of (count_at s + 4) (options_in s) s o);
    fits = rw octets_same j.most;
  }

-- ---- both directions

-- Octets that are judged so are those of a section within the rules,
pub judged_section : (s : List ℕ) → Octets s → judged s ≡ true → SectionOf s
judged_section s o is = let j = judged_facts s is in (section_in s, within_is (section_in s) (judged_within s o j), octets_same s o j)

-- and those of such a section are.
pub is_judged : (s : List ℕ) → SectionOf s → (are_bytes s ≡ true) × (judged s ≡ true)
is_judged s (x, is, e) = let w = within_facts x is in rw (← e) (section_small x w, section_judged x w)

unfoldable pub decide : (s : List ℕ) (b : Bool) → are_bytes s && judged s ≡ b → Dec (SectionOf s)
decide s true e = yes (judged_section s (bytes_octets s (and_left (are_bytes s) (judged s) e)) (and_right (are_bytes s) (judged s) e))
decide s false e = no (λ x. let j = is_judged s x in never_both (both (are_bytes s) (judged s) j.0 j.1) e)

-- Whether there is a section of these octets can be told.
unfoldable pub maybe_section : (s : List ℕ) → Dec (SectionOf s)
maybe_section s = decide s (are_bytes s && judged s) refl
