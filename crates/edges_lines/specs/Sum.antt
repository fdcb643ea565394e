-- The sum of octets, as docs/EDGES.md has it.
use Rattle.std.specs.Prelude.{ℕ, ◌+◌, ◌*◌, ◌%◌, List, [], ◌∷◌, ◌++◌}
use Rattle.std.specs.List.{fold}
use Rattle.octets.specs.Number.{octets}

-- "s = (31 × s + octet) mod 2^32"
unfoldable pub with_octet : ℕ → ℕ → ℕ
with_octet s octet = (31 * s + octet) % 4294967296

-- "for each octet in order"
abbrev pub sum_from : ℕ → List ℕ → ℕ
sum_from s octets = fold with_octet s octets

-- "s = 7"
abbrev pub sum_of : List ℕ → ℕ
sum_of octets = sum_from 7 octets

-- "each entry as four octets, high octet first"
unfoldable pub in_octets : List ℕ → List ℕ
in_octets [] = []
in_octets (x ∷ xs) = octets 4 x ++ in_octets xs
