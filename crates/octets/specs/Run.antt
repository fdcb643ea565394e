-- A run of octets: taken from a list, and laid down in one.
use Rattle.std.specs.Prelude.{ℕ, ◌+◌, cond, List, ◌++◌, leb, length, take, drop}

-- The n octets from a place on.
unfoldable pub run : ℕ → ℕ → List ℕ → List ℕ
run at n s = take n (drop at s)

-- s with the octets of p from a place on. What would reach past the end is not laid down.
unfoldable pub laid : List ℕ → ℕ → List ℕ → List ℕ
laid s at p = cond (leb (at + length p) (length s)) (take at s ++ (p ++ drop (at + length p) s)) s
