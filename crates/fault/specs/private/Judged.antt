-- Whether octets are a section's, by what stands at their places: what the code asks. That it is so exactly of the octets
-- of a section stands in SectionLaws.
use Rattle.std.specs.Prelude.{ℕ, ◌+◌, Bool, ◌&&◌, List, eqb, leb, length, drop}
use Rattle.octets.specs.Run.{run}
use Rattle.fault.specs.Section.{bits_size, are_errors, most_section}
use Rattle.fault.specs.Bits.{none_above}
use Rattle.fault.specs.Places.{modules_in, errors_in, list_at, count_at, options_in, errors_from}

-- It ends where its counts say,
abbrev pub ends_right : List ℕ → Bool
ends_right s = eqb (length s) (count_at s + 4 + options_in s)

-- is not too long, and has no bit above the count and no error of a module 0.
abbrev pub holds_rules : List ℕ → Bool
holds_rules s =
    leb (length s) most_section && none_above (modules_in s) (run 4 (bits_size (modules_in s)) s)
    && are_errors (errors_from (errors_in s) (drop (list_at s) s))

unfoldable pub judged : List ℕ → Bool
judged s = ends_right s && holds_rules s
