-- Laws of the counts and places: in 64 bits no sum of them wraps. Assumes nothing.
use Rattle.std.specs.Prelude.{ℕ, ◌+◌, ◌-◌, ◌*◌, ◌^◌, ◌≤◌, ◌<◌, ◌≡◌, List}
use Rattle.std.proofs.Common.{arith}
use Rattle.octets.proofs.NumberLaws.{number_bound}
use Rattle.octets.specs.Number.{Octets}
use Rattle.fault.specs.declared.places.Places.{Places}
use Rattle.fault.specs.Section.{bits_size}
use Rattle.fault.specs.Places.{modules_in, count_at, places_of}

module _ (s : List ℕ) (o : Octets s) (p : Places) (e : p ≡ places_of s) where
  pub rest_few : p.rest < 2 ^ 40
  unfolding places_of
  rest_few =
      let m = number_bound 4 s 0 o in
      let n = number_bound 4 s (4 + bits_size (modules_in s)) o in
      rw e (omega (arith, m, n))

  pub options_few : p.options < 2 ^ 40
  unfolding places_of
  options_few = rw e (omega (arith, number_bound 4 s (count_at s) o))

pub list_from : (s : List ℕ) (p : Places) → p ≡ places_of s → 16 ≤ p.list
unfolding places_of
list_from s p e = rw e (omega arith)

pub list_size : (s : List ℕ) (p : Places) → p ≡ places_of s → p.list - 16 ≡ bits_size (modules_in s)
unfolding places_of
list_size s p e = rw e (omega arith)

pub list_name : (s : List ℕ) (p : Places) → p ≡ places_of s → p.list - 8 ≡ 8 + bits_size (modules_in s)
unfolding places_of
list_name s p e = rw e (omega arith)

pub list_ends : (s : List ℕ) (p : Places) → p ≡ places_of s → p.list + 4 * p.errors + 4 ≡ p.rest
unfolding places_of
list_ends s p e = rw e
