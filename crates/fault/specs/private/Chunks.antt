-- Errors as the code looks at them: those octets or numbers at a time that an error has.
use Rattle.std.specs.Prelude.{ℕ, ◌/◌, Bool, not, ◌&&◌, List, eqb, length, get_or}
use Rattle.std.specs.List.{list_all}
use Rattle.std.specs.Simd.{first_chunks}

-- Of four octets the first two are the module's number,
abbrev pub octets_are_errors : List ℕ → Bool
octets_are_errors s = list_all (λ e. not (eqb (get_or e 0 0) 0 && eqb (get_or e 1 0) 0)) (first_chunks 4 (length s / 4) s)

-- and of two numbers the first.
abbrev pub numbers_are_errors : List ℕ → Bool
numbers_are_errors l = list_all (λ e. not (eqb (get_or e 0 0) 0)) (first_chunks 2 (length l / 2) l)
