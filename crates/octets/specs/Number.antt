-- Numbers in octets, as ADP R3.0 has them: "The autonomous decentralized protocol uses the big endian" (5.1, E.1).
use Rattle.std.specs.Prelude.{ℕ, zero, suc, ◌+◌, ◌*◌, ◌/◌, ◌%◌, ◌<◌, List, [], ◌∷◌, ◌++◌, get_or}

-- The octet at a place; 0 past the end.
abbrev pub octet : List ℕ → ℕ → ℕ
octet s at = get_or s at 0

-- The number in the w octets from a place on, the high octet first.
unfoldable pub number : ℕ → List ℕ → ℕ → ℕ
number zero s at = 0
number (suc w) s at = number w s at * 256 + octet s (at + w)

-- The w octets of a number, the high octet first.
unfoldable pub octets : ℕ → ℕ → List ℕ
octets zero x = []
octets (suc w) x = octets w (x / 256) ++ (x % 256 ∷ [])

-- A list of octets.
pub record Octets (s : List ℕ) : Type 0 where
  pub small : (i : ℕ) → octet s i < 256
