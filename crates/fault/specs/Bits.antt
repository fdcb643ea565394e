-- The modules' bits, from the octets that they stand in.
use Rattle.std.specs.Prelude.{ℕ, zero, suc, ◌-◌, ◌/◌, ◌%◌, ◌^◌, Bool, true, ◌&&◌, List, [], ◌∷◌, ◌++◌, eqb, take}

-- The k lowest bits of a number, lowest first.
unfoldable pub low_bits : ℕ → ℕ → List Bool
low_bits zero o = []
low_bits (suc k) o = eqb (o % 2) 1 ∷ low_bits k (o / 2)

-- All bits of these octets.
unfoldable pub unpacked : List ℕ → List Bool
unpacked [] = []
unpacked (o ∷ octets) = low_bits 8 o ++ unpacked octets

-- Of so many modules, whether each is dead.
abbrev pub dead_in : ℕ → List ℕ → List Bool
dead_in modules octets = take modules (unpacked octets)

-- "bits above the count … must be 0": an octet has no bit behind those of the first modules, which are the first eight,
-- and the next octet none behind those that are left.
unfoldable pub none_above : ℕ → List ℕ → Bool
none_above modules [] = true
none_above modules (o ∷ octets) = eqb (o / 2 ^ modules) 0 && none_above (modules - 8) octets
