-- Both sides of the edges that 02 and Table 9 name: one table, and one claim over it. The answers were worked out by hand.
use Rattle.std.specs.Prelude.{ℕ, ◌≡◌, refl, Bool, true, false, not, cond, ◌&&◌, List, [], ◌∷◌, ◌++◌, eqb, length, replicate}
use Rattle.octets.specs.Number.{number, octets}
use Rattle.octets.specs.Run.{run}
use Rattle.refusal.specs.Numbers.{number_in}
use Rattle.map.specs.Map.{bit}
use Rattle.fault.specs.Section.{Section, bits_size, lowest_first, packed, numbers_of, pairs_of, octets_of, are_errors, is_within}
use Rattle.fault.specs.Bits.{none_above}
use Rattle.fault.specs.Places.{errors_from}
use Rattle.fault.specs.Reading.{is_section, report_of, reading_of, dead_at, error_at}
use Rattle.fault.specs.Writing.{errors_given, keeps_rules, writing_of, writing_told}
use Rattle.fault.specs.private.Judged.{judged}

pub data Edge : Type 0 where
  -- so many modules: L
  l : (modules : ℕ) → ℕ → Edge
  -- so many modules, none dead, so many errors of module 1, so many octets of options: whether that is within the rules, and
  -- the octets that it has
  fits : (modules errors options : ℕ) → Bool → ℕ → Edge
  -- octets: what reading them answers
  reads : List ℕ → ℕ → Edge
  -- octets and a module: whether it is dead
  dead : List ℕ → ℕ → Bool → Edge
  -- octets and an index: the error's module and number
  error : List ℕ → ℕ → (m n : ℕ) → Edge
  -- module count, bits, 16-bit numbers, options, the buffer's octets: what writing answers, and the length
  writes : ℕ → (bits numbers options : List ℕ) → (room : ℕ) → (answer size : ℕ) → Edge

abbrev plain : (modules errors options : ℕ) → Section
plain modules errors options = record {
  dead = replicate modules false;
  errors = replicate errors (record { «module» = 1; error = 0 });
  name = replicate 8 0;
  options = replicate options 0;
}

same : Bool → Bool → Bool
same a b = cond a b (not b)

pub met : Edge → Bool
met (l modules k) = eqb (bits_size modules) k
met (fits modules errors options b k) = same (is_within (plain modules errors options)) b && eqb (length (octets_of (plain modules errors options))) k
met (reads s k) = eqb (number_in (reading_of s)) k
met (dead s x b) = same (dead_at s x) b
met (error s k m n) = eqb (error_at s k).«module» m && eqb (error_at s k).error n
met (writes modules bits numbers options room k size) =
    eqb (writing_told (writing_of modules bits numbers options room)).number k && eqb (writing_told (writing_of modules bits numbers options room)).length size

pub all : List Edge → Bool
all [] = true
all (e ∷ es) = met e && all es

-- 20 octets of counts and name: so many modules, errors and octets of options, and nothing of what they count.
abbrev counts : (modules errors options : ℕ) → List ℕ
counts modules errors options = octets 4 modules ++ (octets 4 errors ++ (replicate 8 0 ++ octets 4 options))

-- 33 modules, of which the first, the eighth and the last are dead; two errors; two octets of options.
abbrev some : List ℕ
some =
    0 ∷ 0 ∷ 0 ∷ 33 ∷ 129 ∷ 0 ∷ 0 ∷ 0 ∷ 1 ∷ 0 ∷ 0 ∷ 0 ∷ 0 ∷ 0 ∷ 0 ∷ 2 ∷ 65 ∷ 66 ∷ 67 ∷ 68 ∷ 69 ∷ 70 ∷ 71 ∷ 72
    ∷ 0 ∷ 1 ∷ 1 ∷ 2 ∷ 255 ∷ 255 ∷ 0 ∷ 9 ∷ 0 ∷ 0 ∷ 0 ∷ 2 ∷ 7 ∷ 8 ∷ []

pub edges : List Edge
edges =
    -- "L is (modules + 31) / 32 × 4, the division rounded down, so 33 modules give 8."
    l 0 0 ∷ l 1 4 ∷ l 32 4 ∷ l 33 8 ∷ l 64 8 ∷ l 65 12 ∷ l 4294967295 536870912
    -- "the total of 1,344 octets decides, so 331 without modules or options still fit"
    ∷ fits 0 0 0 true 20 ∷ fits 33 0 0 true 28 ∷ fits 0 331 0 true 1344 ∷ fits 0 332 0 false 1348 ∷ fits 0 331 1 false 1345 ∷ fits 1 330 0 true 1344
    ∷ fits 1 331 0 false 1348 ∷ fits 0 0 1324 true 1344 ∷ fits 0 0 1325 false 1345 ∷ fits 0 330 4 true 1344
    -- "The smallest section is 20 octets"; one more, one less
    ∷ reads (replicate 19 0) 24 ∷ reads (replicate 20 0) 0 ∷ reads (replicate 21 0) 24 ∷ reads some 0 ∷ reads (some ++ (0 ∷ [])) 24
    -- "All sums are of whole numbers": counts whose sums would come round in 32 bits
    ∷ reads (counts 4294967265 0 0) 24 ∷ reads (counts 4294967295 0 0) 24 ∷ reads (counts 0 1073741824 0) 24 ∷ reads (counts 0 4294967295 0) 24
    ∷ reads (counts 0 0 4294967276) 24 ∷ reads (counts 0 0 4294967295) 24
    -- "Module X has bit (X − 1) mod 8, lowest first, of octet (X − 1) / 8"; "A module 0 or above the count is alive"
    ∷ dead some 0 false ∷ dead some 1 true ∷ dead some 2 false ∷ dead some 7 false ∷ dead some 8 true ∷ dead some 9 false ∷ dead some 32 false
    ∷ dead some 33 true ∷ dead some 34 false ∷ dead some 4294967295 false
    -- "an error past the count is 0, 0"
    ∷ error some 0 1 258 ∷ error some 1 65535 9 ∷ error some 2 0 0 ∷ error some 4294967295 0 0
    -- "23 (buffer shorter than the section, in whole numbers, even above 1,344) comes before 24"
    ∷ writes 0 [] [] [] 19 23 0 ∷ writes 0 [] [] [] 20 0 20 ∷ writes 0 [] (1 ∷ 2 ∷ []) [] 23 23 0 ∷ writes 0 [] (1 ∷ 2 ∷ []) [] 24 0 24
    ∷ writes 0 [] (replicate 662 1) [] 2000 0 1344 ∷ writes 0 [] (replicate 664 1) [] 2000 24 0 ∷ writes 0 [] (replicate 664 1) [] 1347 23 0
    ∷ writes 4294967295 [] [] [] 2000 23 0 ∷ writes 4294967295 [] [] [] 536870932 24 0
    -- "a bits slice whose length is not L or that has a bit above the count set"
    ∷ writes 33 (0 ∷ 0 ∷ 0 ∷ 0 ∷ 1 ∷ []) [] [] 2000 24 0 ∷ writes 33 (0 ∷ 0 ∷ 0 ∷ 0 ∷ 1 ∷ 0 ∷ 0 ∷ 0 ∷ []) [] [] 2000 0 28
    ∷ writes 33 (0 ∷ 0 ∷ 0 ∷ 0 ∷ 2 ∷ 0 ∷ 0 ∷ 0 ∷ []) [] [] 2000 24 0 ∷ writes 33 (0 ∷ 0 ∷ 0 ∷ 0 ∷ 1 ∷ 0 ∷ 0 ∷ 128 ∷ []) [] [] 2000 24 0
    -- "an odd number of 16-bit numbers for the errors, and an error with module 0"
    ∷ writes 0 [] (1 ∷ 2 ∷ 3 ∷ []) [] 2000 24 0 ∷ writes 0 [] (1 ∷ 0 ∷ 0 ∷ 5 ∷ []) [] 2000 24 0 ∷ writes 0 [] (1 ∷ 0 ∷ 65535 ∷ 5 ∷ []) [] 2000 0 28 ∷ []

pub every_edge : all edges ≡ true
unfolding
    all met edges same is_section judged none_above are_errors errors_from report_of reading_of dead_at error_at number octets run bit
    lowest_first packed numbers_of pairs_of octets_of is_within errors_given keeps_rules writing_of
every_edge = refl {a = true}
