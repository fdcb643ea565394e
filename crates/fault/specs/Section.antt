-- What a fault section is (5.4, Table 9; 02, Item 2), and its octets. Nothing here knows of reading and writing.
use Rattle.std.specs.Prelude.{ℕ, zero, suc, ◌+◌, ◌-◌, ◌*◌, ◌/◌, ◌≡◌, Bool, true, false, cond, ◌&&◌, List, [], ◌∷◌, ◌++◌, eqb, leb, length, take, drop, get_or}
use Rattle.std.proofs.Math.Pow.{are_bytes}
use Rattle.octets.specs.Number.{octets}
use Rattle.header.specs.Codes.{within}
use Rattle.fault.specs.declared.Error.{Error}

-- "module count, module bits in L octets, error count, eight-octet name, errors of two 16-bit numbers (module, from 1, and
-- error), option count, options"
pub record Section : Type 0 where
  -- of each module, from 1 on, whether it is dead
  pub dead : List Bool
  pub errors : List Error
  pub name : List ℕ
  pub options : List ℕ

-- Whether module X, "from 1", is dead; one that is not counted is not.
abbrev pub is_dead : Section → ℕ → Bool
is_dead x k = leb 1 k && get_or x.dead (k - 1) false

-- ---- its octets

-- "L is (modules + 31) / 32 × 4, the division rounded down, so 33 modules give 8."
abbrev pub bits_size : ℕ → ℕ
bits_size modules = (modules + 31) / 32 * 4

-- A number by its bits, "lowest first".
unfoldable pub lowest_first : List Bool → ℕ
lowest_first [] = 0
lowest_first (b ∷ bits) = cond b 1 0 + lowest_first bits * 2

-- So many octets of bits: the first has the first eight, the next the next eight.
unfoldable pub packed : ℕ → List Bool → List ℕ
packed zero bits = []
packed (suc n) bits = lowest_first (take 8 bits) ∷ packed n (drop 8 bits)

-- "Module X has bit (X − 1) mod 8, lowest first, of octet (X − 1) / 8, set when dead; bits above the count are written 0"
abbrev pub bits_of : List Bool → List ℕ
bits_of dead = packed (bits_size (length dead)) dead

-- "errors of two 16-bit numbers (module, from 1, and error)"
unfoldable pub numbers_of : List Error → List ℕ
numbers_of [] = []
numbers_of (e ∷ es) = e.«module» ∷ e.error ∷ numbers_of es

-- Two octets for each, high octet first.
unfoldable pub pairs_of : List ℕ → List ℕ
pairs_of [] = []
pairs_of (x ∷ xs) = octets 2 x ++ pairs_of xs

-- The counts have four octets each.
unfoldable pub octets_of : Section → List ℕ
octets_of x =
    octets 4 (length x.dead) ++ (bits_of x.dead ++ (octets 4 (length x.errors) ++ (x.name ++ (pairs_of (numbers_of x.errors)
    ++ (octets 4 (length x.options) ++ x.options)))))

-- ---- the rules

-- "errors of two 16-bit numbers (module, from 1, and error)"
abbrev pub is_error : Error → Bool
is_error e = within 1 65535 e.«module» && leb e.error 65535

unfoldable pub are_errors : List Error → Bool
are_errors [] = true
are_errors (e ∷ es) = is_error e && are_errors es

-- "Table 9 allows 332 errors, but the option count takes room too: the total of 1,344 octets decides"
abbrev pub most_section : ℕ
most_section = 1344

-- "eight-octet name"; name and options are octets.
unfoldable pub is_within : Section → Bool
is_within x =
    eqb (length x.name) 8 && are_bytes x.name && are_errors x.errors && are_bytes x.options && leb (length (octets_of x)) most_section

-- These are the octets of a section within the rules.
abbrev pub SectionOf : List ℕ → Type 0
SectionOf s = (x : Section) × (is_within x ≡ true) × (octets_of x ≡ s)
