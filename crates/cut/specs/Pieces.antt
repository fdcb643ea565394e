-- Cutting (D.4.3): how many pieces a message has, and the length and place of each. n is the message length, u the
-- piece length, c a piece number from 1.
use Rattle.std.specs.Prelude.{ℕ, zero, suc, ◌+◌, ◌-◌, ◌*◌, ◌/◌, cond, List, [], ◌++◌, leb, ltb, length}
use Rattle.octets.specs.Run.{run}

-- "Let n be the message length (0 to 16,384) and u the piece length, 256 to 1,396"
abbrev pub most_octets : ℕ
most_octets = 16384

abbrev pub least_unit : ℕ
least_unit = 256

abbrev pub most_unit : ℕ
most_unit = 1396

-- "If n ≤ u there is one piece, also for n = 0. Otherwise there are n / u rounded up"
unfoldable pub pieces : ℕ → ℕ → ℕ
pieces n u = cond (leb n u) 1 ((n + (u - 1)) / u)

-- "Its place in the message is (CBN − 1) × u."
abbrev pub piece_place : ℕ → ℕ → ℕ
piece_place u c = (c - 1) * u

-- "All but the last carry u octets, the last carries the rest."
unfoldable pub piece_length : ℕ → ℕ → ℕ → ℕ
piece_length n u c = cond (ltb c (pieces n u)) u (n - piece_place u c)

-- Piece c of a message.
unfoldable pub piece : List ℕ → ℕ → ℕ → List ℕ
piece m u c = run (piece_place u c) (piece_length (length m) u c) m

-- Pieces 1 to t, one after the other.
unfoldable pub joined : ℕ → (ℕ → List ℕ) → List ℕ
joined zero f = []
joined (suc t) f = joined t f ++ f (suc t)
