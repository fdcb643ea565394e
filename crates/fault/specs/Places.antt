-- What stands where in a fault section, by the counts in it: "Behind octet 128: module count 4, bits L, error count 4, name
-- 8, errors 4 each, option count 4, options; high octet first." It is said of any octets: one past their end counts as 0.
use Rattle.std.specs.Prelude.{ℕ, zero, suc, ◌+◌, ◌*◌, List, [], ◌∷◌, drop}
use Rattle.octets.specs.Number.{number}
use Rattle.fault.specs.declared.Error.{Error}
use Rattle.fault.specs.declared.places.Places.{Places}
use Rattle.fault.specs.Section.{bits_size}

abbrev pub modules_in : List ℕ → ℕ
modules_in s = number 4 s 0

abbrev pub errors_in : List ℕ → ℕ
errors_in s = number 4 s (4 + bits_size (modules_in s))

-- Where the first error stands.
abbrev pub list_at : List ℕ → ℕ
list_at s = 16 + bits_size (modules_in s)

-- Where the option count stands.
abbrev pub count_at : List ℕ → ℕ
count_at s = list_at s + 4 * errors_in s

abbrev pub options_in : List ℕ → ℕ
options_in s = number 4 s (count_at s)

-- All counts, and the two places.
unfoldable pub places_of : List ℕ → Places
places_of s = record { modules = modules_in s; errors = errors_in s; options = options_in s; list = list_at s; rest = count_at s + 4 }

-- So many errors, from the beginning of these octets on.
unfoldable pub errors_from : ℕ → List ℕ → List Error
errors_from zero s = []
errors_from (suc n) s = record { «module» = number 2 s 0; error = number 2 s 2 } ∷ errors_from n (drop 4 s)
