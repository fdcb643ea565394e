-- The map of pieces held: "piece c at bit c − 1, bit 0 lowest".
use Rattle.std.specs.Prelude.{ℕ, zero, suc, ◌+◌, ◌-◌, ◌/◌, ◌%◌, ◌^◌, Bool, true, not, cond, ◌&&◌, eqb, leb}

-- "a 64-bit map of pieces held": so many pieces at most.
abbrev pub most_pieces : ℕ
most_pieces = 64

-- Bit k of a number, bit 0 lowest.
unfoldable pub bit : ℕ → ℕ → ℕ
bit zero m = m % 2
bit (suc k) m = bit k (m / 2)

-- Whether piece c is held.
abbrev pub holds : ℕ → ℕ → Bool
holds map c = eqb (bit (c - 1) map) 1

-- The bit of piece c.
abbrev pub piece_bit : ℕ → ℕ
piece_bit c = 2 ^ (c - 1)

-- The map that holds all of t pieces.
abbrev pub full_map : ℕ → ℕ
full_map t = 2 ^ t - 1

-- Whether each of the pieces 1 to t is held.
unfoldable pub holds_all : ℕ → ℕ → Bool
holds_all map zero = true
holds_all map (suc t) = holds_all map t && holds map (suc t)

-- "a map that is empty, full or marked past TBN". Empty: no piece is held.
abbrev pub is_empty : ℕ → Bool
is_empty map = eqb map 0

-- Marked past t: some piece past t is held.
abbrev pub marked_past : ℕ → ℕ → Bool
marked_past map t = not (is_empty (map / 2 ^ t))

-- Full: each of the pieces 1 to t is held, and none past t.
abbrev pub is_full : ℕ → ℕ → Bool
is_full map t = holds_all map t && not (marked_past map t)

-- The map with piece c as well, one that it has a bit for.
unfoldable pub marked : ℕ → ℕ → ℕ
marked map c = cond (leb c most_pieces && not (holds map c)) (map + piece_bit c) map

-- The lowest bit that is not set, of the n lowest; n where all are.
unfoldable pub lowest : ℕ → ℕ → ℕ
lowest zero m = 0
lowest (suc n) m = cond (eqb (m % 2) 0) 0 (suc (lowest n (m / 2)))

-- "which piece is its lowest missing one"
abbrev pub lowest_missing : ℕ → ℕ
lowest_missing map = lowest most_pieces map + 1
