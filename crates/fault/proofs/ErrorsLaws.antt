-- Laws of the list of errors: what was written is read, and what is read is written to the same octets. Assumes nothing.
use Rattle.std.specs.Prelude.{ℕ, zero, suc, ◌+◌, ◌-◌, ◌*◌, ◌/◌, ◌≤◌, ◌<◌, ◌≡◌, refl, Bool, true, not, ◌&&◌, List, [], ◌∷◌, ◌++◌, eqb, leb, length, take, drop, get_or}
use Rattle.std.proofs.Common.{sym, ap, ◌∙◌, append_assoc, arith, length-append, length-drop, drop_at, get_or-drop, get_or-take, take-add, take-take, drop-drop, leb-true, le-leb, ⊎_elim, ne_eqb}
use Rattle.std.proofs.Math.Pow.{are_bytes}
use Rattle.std.proofs.lemmas.List.{drop-take}
use Rattle.std.specs.List.{list_all}
use Rattle.std.specs.Simd.{first_chunks}
use Rattle.octets.specs.Number.{octet, number, octets, Octets}
use Rattle.octets.proofs.NumberLaws.{length_octets, number_one, number_zero, number_drop, number_front, number_bound, octets_run, octets_small, bytes_append}
use Rattle.octets.specs.Run.{run}
use Rattle.octets.proofs.RunLaws.{length_run}
use Rattle.octets.specs.Split.{both, and_left, and_right, same_test, lt_or_le}
use Rattle.fault.specs.declared.Error.{Error}
use Rattle.fault.specs.Section.{numbers_of, pairs_of, is_error, are_errors}
use Rattle.fault.specs.Places.{errors_from}
use Rattle.fault.specs.private.Chunks.{octets_are_errors}

pub length_pairs : (l : List ℕ) → length (pairs_of l) ≡ 2 * length l
unfolding pairs_of
length_pairs [] = refl
length_pairs (x ∷ l) = rw (length-append (octets 2 x) (pairs_of l), length_octets 2 x, length_pairs l) (omega arith)

pub length_numbers : (es : List Error) → length (numbers_of es) ≡ 2 * length es
unfolding numbers_of
length_numbers [] = refl
length_numbers (e ∷ es) = omega (arith, length_numbers es)

pub pairs_small : (l : List ℕ) → are_bytes (pairs_of l) ≡ true
unfolding pairs_of
pairs_small [] = refl
pairs_small (x ∷ l) = bytes_append (octets 2 x) (pairs_of l) (octets_small 2 x) (pairs_small l)

pub length_errors : (n : ℕ) (s : List ℕ) → length (errors_from n s) ≡ n
unfolding errors_from
length_errors zero s = refl
length_errors (suc n) s = ap suc (length_errors n (drop 4 s))

-- ---- one error

-- Two numbers side by side, and what stands behind them.
module _ (a b : ℕ) (t : List ℕ) (a-fits : a < 65536) (b-fits : b < 65536) where
  abbrev pair : List ℕ
  pair = octets 2 a ++ (octets 2 b ++ t)

  pair_first : number 2 pair 0 ≡ a
  pair_first = number_front 2 a (octets 2 b ++ t) a-fits

  pair_second : number 2 pair 2 ≡ b
  pair_second = sym (number_drop 2 2 pair 0) ∙ ap (λ (l : List ℕ). number 2 l 0) (drop_at (octets 2 a) (octets 2 b ++ t) 2 (length_octets 2 a)) ∙ number_front 2 b t b-fits

  pair_behind : drop 4 pair ≡ t
  pair_behind =
      sym (drop-drop 2 2 pair) ∙ ap (drop 2) (drop_at (octets 2 a) (octets 2 b ++ t) 2 (length_octets 2 a))
      ∙ drop_at (octets 2 b) t 2 (length_octets 2 b)

-- ---- all of them

-- What an error is held to.
record Fits (e : Error) : Type 0 where
  from : 1 ≤ e.«module»
  number : e.«module» < 65536
  error : e.error < 65536

error_fits : (e : Error) → is_error e ≡ true → Fits e
error_fits e is =
    let a = leb 1 e.«module» in
    let b = leb e.«module» 65535 in
    let c = leb e.error 65535 in
    let ab = and_left (a && b) c is in
    let most = leb-true e.«module» 65535 (and_right a b ab) in
    let last = leb-true e.error 65535 (and_right (a && b) c is) in
    record { from = leb-true 1 e.«module» (and_left a b ab); number = omega arith; error = omega arith }

error_is : (e : Error) → 1 ≤ e.«module» → e.«module» < 65536 → e.error < 65536 → is_error e ≡ true
error_is e from number error =
    both (leb 1 e.«module» && leb e.«module» 65535) (leb e.error 65535)
    (both (leb 1 e.«module») (leb e.«module» 65535) (le-leb 1 e.«module» from) (le-leb e.«module» 65535 (omega arith)))
    (le-leb e.error 65535 (omega arith))

-- Of two 16-bit numbers only that the module is not 0 is left to be asked.
pub error_asks : (e : Error) → e.«module» < 65536 → e.error < 65536 → is_error e ≡ leb 1 e.«module»
error_asks e number error = same_test (is_error e) (leb 1 e.«module»)
    (λ is. le-leb 1 e.«module» (error_fits e is).from)
    (λ is. error_is e (leb-true 1 e.«module» is) number error)

-- What was written is read, whatever stands behind it,
pub errors_back : (es : List Error) (t : List ℕ) → are_errors es ≡ true → errors_from (length es) (pairs_of (numbers_of es) ++ t) ≡ es
unfolding errors_from pairs_of numbers_of are_errors
errors_back [] t are = refl
errors_back (e ∷ es) t are =
    let f = error_fits e (and_left (is_error e) (are_errors es) are) in
    let rest = pairs_of (numbers_of es) ++ t in
    let side : octets 2 e.«module» ++ (octets 2 e.error ++ pairs_of (numbers_of es)) ++ t ≡ octets 2 e.«module» ++ (octets 2 e.error ++ rest)
    = append_assoc (octets 2 e.«module») (octets 2 e.error ++ pairs_of (numbers_of es)) t ∙ ap (λ (l : List ℕ). octets 2 e.«module» ++ l) (append_assoc (octets 2 e.error) (pairs_of (numbers_of es)) t) in
    rw (
      side,
      pair_first e.«module» e.error rest f.number f.error,
      pair_second e.«module» e.error rest f.number f.error,
      pair_behind e.«module» e.error rest f.number f.error,
    ) (ap (λ (l : List Error). e ∷ l) (errors_back es t (and_right (is_error e) (are_errors es) are)))

octets_drop : (n : ℕ) (s : List ℕ) → Octets s → Octets (drop n s)
octets_drop n s o = record { small = λ i. rw (get_or-drop n s i 0) (o.small (n + i)) }

-- and what is read is written to the same octets.
pub errors_same : (n : ℕ) (s : List ℕ) → Octets s → 4 * n ≤ length s → pairs_of (numbers_of (errors_from n s)) ≡ take (4 * n) s
unfolding errors_from pairs_of numbers_of
errors_same zero s o room = refl
errors_same (suc n) s o room =
    let second : number 2 s 2 ≡ number 2 (drop 2 s) 0 = sym (number_drop 2 2 s 0) in
    let long : length (drop 4 s) ≡ length s - 4 = length-drop 4 s in
    let four : 4 * suc n ≡ 2 + (2 + 4 * n) = omega arith in
    rw (
      octets_run 2 s o (omega arith),
      second,
      octets_run 2 (drop 2 s) (octets_drop 2 s o) (rw (length-drop 2 s) (omega arith)),
      errors_same n (drop 4 s) (octets_drop 4 s o) (omega (arith, long)),
      four,
      take-add 2 (2 + 4 * n) s,
      take-add 2 (4 * n) (drop 2 s),
      drop-drop 2 2 s,
    )

-- Error k of those that are read.
pub errors_at : (n : ℕ) (s : List ℕ) (k : ℕ) (z : Error) → k < n
    → get_or (errors_from n s) k z ≡ record { «module» = number 2 s (4 * k); error = number 2 s (4 * k + 2) }
unfolding errors_from
errors_at zero s k z h = absurd (omega arith)
errors_at (suc n) s zero z h = refl
errors_at (suc n) s (suc k) z h =
    let a : 4 + 4 * k ≡ 4 * suc k = omega arith in
    let b : 4 + (4 * k + 2) ≡ 4 * suc k + 2 = omega arith in
    errors_at n (drop 4 s) k z (omega arith) ∙ rw (number_drop 2 4 s (4 * k), number_drop 2 4 s (4 * k + 2), a, b)

-- The numbers that are read have two octets each.
errors_are : (n : ℕ) (s : List ℕ) → Octets s → are_errors (errors_from (suc n) s) ≡ leb 1 (number 2 s 0) && are_errors (errors_from n (drop 4 s))
unfolding errors_from are_errors
errors_are n s o =
    ap (λ (b : Bool). b && are_errors (errors_from n (drop 4 s)))
    (error_asks (record { «module» = number 2 s 0; error = number 2 s 2 }) (number_bound 2 s 0 o) (number_bound 2 s 2 o))

-- By the two octets of the module's number.
module_zero : (s : List ℕ) (at : ℕ) → eqb (octet s at) 0 && eqb (octet s (at + 1)) 0 ≡ eqb (number 2 s at) 0
module_zero s at = rw (← number_one s at, ← number_one s (at + 1)) (number_zero 1 1 s at)

pub from_one : (x : ℕ) → leb 1 x ≡ not (eqb x 0)
from_one x = ⊎_elim
    (λ (none : x < 1). let z : x ≡ 0 = omega arith in rw z)
    (λ (some : 1 ≤ x). rw (le-leb 1 x some, ne_eqb x 0 (λ z. omega arith)))
    (lt_or_le x 1)

-- The errors are looked at four octets at a time.
errors_four : (n : ℕ) (s : List ℕ) → Octets s
    → list_all (λ e. not (eqb (get_or e 0 0) 0 && eqb (get_or e 1 0) 0)) (first_chunks 4 n s) ≡ are_errors (errors_from n s)
unfolding errors_from are_errors
errors_four zero s o = refl
errors_four (suc n) s o =
    rw (errors_four n (drop 4 s) (octets_drop 4 s o), get_or-take 4 s 0 0 (omega arith), get_or-take 4 s 1 0 (omega arith), module_zero s 0, ← from_one (number 2 s 0))
    (sym (errors_are n s o))

chunks_front : (n : ℕ) (s : List ℕ) → first_chunks 4 n (take (4 * n) s) ≡ first_chunks 4 n s
chunks_front zero s = refl
chunks_front (suc n) s =
    let more : 4 * suc n ≡ 4 + 4 * n = omega arith in
    rw (more, take-take 4 (4 + 4 * n) s (omega arith), drop-take 4 (4 * n) s, chunks_front n (drop 4 s))

pub errors_read : (n at : ℕ) (s : List ℕ) → Octets s → at + 4 * n ≤ length s → octets_are_errors (run at (4 * n) s) ≡ are_errors (errors_from n (drop at s))
unfolding run
errors_read n at s o room =
    let count : length (run at (4 * n) s) / 4 ≡ n = omega (arith, length_run at (4 * n) s room) in
    rw (count, chunks_front n (drop at s)) (errors_four n (drop at s) (octets_drop at s o))
