-- The first place at which something holds.
use Rattle.std.specs.Prelude.{ℕ, zero, suc, Bool, cond, ltb}

-- The first of the first k places at which something holds; k where it holds at none.
unfoldable pub first_place : (ℕ → Bool) → ℕ → ℕ
first_place f zero = 0
first_place f (suc k) = cond (ltb (first_place f k) k) (first_place f k) (cond (f k) k (suc k))
