-- What is read from a fault section: whether it is one, "counts and name by value", a module's bit by its number, an error
-- by its index, "the options as a returned part". All but the first is said of any octets, by the counts in them, and
-- judges nothing; of a section's octets it is what the section says (ReadingLaws).
use Rattle.std.specs.Prelude.{ℕ, ◌+◌, ◌-◌, ◌*◌, ◌/◌, ◌%◌, Bool, cond, ◌&&◌, List, Result, Ok, Err, eqb, leb, ltb, length}
use Rattle.std.proofs.Math.Pow.{are_bytes}
use Rattle.octets.specs.Number.{octet, number}
use Rattle.octets.specs.Run.{run}
use Rattle.refusal.specs.declared.Refusal.{Refusal}
use Rattle.refusal.specs.declared.Refusal.TheVariants.{Fault}
use Rattle.map.specs.Map.{bit}
use Rattle.fault.specs.declared.Error.{Error}
use Rattle.fault.specs.declared.reading.Report.{Report}
use Rattle.fault.specs.Section.{Section, bits_size}
use Rattle.fault.specs.private.Judged.{judged}
use Rattle.fault.specs.Places.{modules_in, errors_in, list_at, count_at, options_in}

-- Whether these are the octets of a section within the rules, by what stands at their places. It is so exactly of the octets
-- of such sections (`is_section_lem`, `section_is`); so whoever tells it tells the same (`section_told`).
unfoldable pub is_section : List ℕ → Bool
is_section s = are_bytes s && judged s

-- "counts and name by value"
unfoldable pub report_of : List ℕ → Report
report_of s = record { modules = modules_in s; errors = errors_in s; options = options_in s; name = run (8 + bits_size (modules_in s)) 8 s }

-- What a section says so.
abbrev pub report : Section → Report
report x = record { modules = length x.dead; errors = length x.errors; options = length x.options; name = x.name }

-- "24 for a fault section that breaks these rules", and nothing more.
abbrev pub refused : Result Report Refusal
refused = Err Fault

unfoldable pub reading_of : List ℕ → Result Report Refusal
reading_of s = cond (is_section s) (Ok (report_of s)) refused

-- "Module X has bit (X − 1) mod 8, lowest first, of octet (X − 1) / 8, set when dead"; "A module 0 or above the count is
-- alive".
unfoldable pub dead_at : List ℕ → ℕ → Bool
dead_at s x = leb 1 x && leb x (modules_in s) && eqb (bit ((x - 1) % 8) (octet s (4 + (x - 1) / 8))) 1

-- "an error past the count is 0, 0"
abbrev pub no_error : Error
no_error = record { «module» = 0; error = 0 }

-- The first has the index 0.
unfoldable pub error_at : List ℕ → ℕ → Error
error_at s k =
    cond (ltb k (errors_in s)) (record { «module» = number 2 s (list_at s + 4 * k); error = number 2 s (list_at s + 4 * k + 2) }) no_error

unfoldable pub options_of : List ℕ → List ℕ
options_of s = run (count_at s + 4) (options_in s) s
