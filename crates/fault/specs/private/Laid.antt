-- A section's octets in two halves, by the parts that are given.
use Rattle.std.specs.Prelude.{ℕ, List, ◌++◌, length}
use Rattle.octets.specs.Number.{octets}
use Rattle.fault.specs.Section.{pairs_of}

-- What stands before the errors,
abbrev pub front_of : (modules : ℕ) (bits : List ℕ) (errors : ℕ) (name : List ℕ) → List ℕ
front_of modules bits errors name = octets 4 modules ++ (bits ++ (octets 4 errors ++ name))

-- and the rest.
abbrev pub back_of : (numbers options : List ℕ) → List ℕ
back_of numbers options = pairs_of numbers ++ (octets 4 (length options) ++ options)
