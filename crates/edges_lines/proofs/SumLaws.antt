-- The sum, octet by octet and number by number. Assumes nothing.
use Rattle.std.specs.Prelude.{ℕ, ◌<◌, ◌≡◌, refl, List, [], ◌∷◌, length}
use Rattle.std.specs.List.{fold}
use Rattle.std.proofs.Common.{sym, ◌∙◌, arith}
use Rattle.std.proofs.lemmas.List.Sums.{fold-append}
use Rattle.octets.specs.Number.{octets}
use Rattle.octets.proofs.NumberLaws.{length_octets}
use Rattle.octets.specs.Run.{laid}
use Rattle.octets.proofs.RunLaws.{laid_all}
use Rattle.edges_lines.specs.Sum.{with_octet, sum_from, in_octets}

-- A sum is below 2^32.
pub sum_below : (s octet : ℕ) → with_octet s octet < 4294967296
unfolding with_octet
sum_below s octet = omega arith

pub sum_from_below : (octets : List ℕ) (s : ℕ) → s < 4294967296 → sum_from s octets < 4294967296
sum_from_below [] s below = below
sum_from_below (octet ∷ octets) s below = sum_from_below octets (with_octet s octet) (sum_below s octet)

-- Number by number, or octet by octet.
pub by_number : (numbers : List ℕ) (s : ℕ) → fold (λ (t n : ℕ). sum_from t (octets 4 n)) s numbers ≡ sum_from s (in_octets numbers)
unfolding in_octets
by_number [] s = refl
by_number (n ∷ numbers) s = by_number numbers (sum_from s (octets 4 n)) ∙ sym (fold-append with_octet s (octets 4 n) (in_octets numbers))

-- A number laid over four octets leaves its own.
pub four_octets : (s : List ℕ) (x : ℕ) → length s ≡ 4 → laid s 0 (octets 4 x) ≡ octets 4 x
four_octets s x four = laid_all s (octets 4 x) (length_octets 4 x ∙ sym four)
