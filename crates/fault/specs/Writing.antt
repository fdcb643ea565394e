-- A fault section written: from the module count, the bits in octets, the errors as 16-bit numbers two by two, the name and
-- the options.
use Rattle.std.specs.Prelude.{ℕ, ◌+◌, ◌*◌, ◌%◌, Bool, cond, ◌&&◌, List, [], ◌∷◌, Result, Ok, Err, eqb, leb, ltb, length}
use Rattle.std.specs.Result.{result_unwrap_or}
use Rattle.octets.specs.Run.{laid}
use Rattle.refusal.specs.declared.Refusal.{Refusal}
use Rattle.refusal.specs.declared.Refusal.TheVariants.{Writing, Fault}
use Rattle.refusal.specs.Numbers.{number_in}
use Rattle.fault.specs.declared.Error.{Error}
use Rattle.fault.specs.Section.{Section, bits_size, octets_of, are_errors, most_section}
use Rattle.fault.specs.Bits.{dead_in, none_above}

-- "errors of two 16-bit numbers (module, from 1, and error)"
unfoldable pub errors_given : List ℕ → List Error
errors_given [] = []
errors_given (x ∷ []) = []
errors_given (x ∷ y ∷ numbers) = record { «module» = x; error = y } ∷ errors_given numbers

-- The section that is given,
abbrev pub section_given : ℕ → (bits numbers name options : List ℕ) → Section
section_given modules bits numbers name options =
    record { dead = dead_in modules bits; errors = errors_given numbers; name = name; options = options }

-- and the octets that it needs, in whole numbers: L by the count, two for each 16-bit number.
abbrev pub size_given : ℕ → (numbers options : List ℕ) → ℕ
size_given modules numbers options = 20 + bits_size modules + 2 * length numbers + length options

-- "a bits slice whose length is not L or that has a bit above the count set, an odd number of 16-bit numbers for the errors,
-- and an error with module 0 are 24"; "the total of 1,344 octets decides".
unfoldable pub keeps_rules : (size modules : ℕ) (bits numbers : List ℕ) → Bool
keeps_rules size modules bits numbers =
    leb size most_section && eqb (length bits) (bits_size modules) && eqb (length numbers % 2) 0 && none_above modules bits
    && are_errors (errors_given numbers)

-- "23 (buffer shorter than the section, in whole numbers, even above 1,344) comes before 24." The answer, with the
-- section's length, for a buffer of so many octets.
unfoldable pub writing_of : ℕ → (bits numbers options : List ℕ) → ℕ → Result ℕ Refusal
writing_of modules bits numbers options room =
    let size = size_given modules numbers options in
    cond (ltb room size) (Err Writing) (cond (keeps_rules size modules bits numbers) (Ok size) (Err Fault))

-- "Octets behind the section stay", and a refusal writes nothing.
unfoldable pub buffer_of : ℕ → (bits numbers name options buffer : List ℕ) → List ℕ
buffer_of modules bits numbers name options buffer =
    let size = size_given modules numbers options in
    cond (ltb (length buffer) size) buffer
    (cond (keeps_rules size modules bits numbers) (laid buffer 0 (octets_of (section_given modules bits numbers name options))) buffer)

-- 02's number for each case, and the section's length; 23 and 24 say nothing more.
pub record WritingTold : Type 0 where
  pub number : ℕ
  pub length : ℕ

abbrev pub writing_told : Result ℕ Refusal → WritingTold
writing_told a = record { number = number_in a; length = result_unwrap_or a 0 }
