-- "The lowest number that applies is given": the rows of a table of refusals in the order in which they are tried, the
-- first whose condition holds.
use Rattle.std.specs.Prelude.{ℕ, ◌≡◌, ◌⊎◌, Bool, true, false, cond, List, [], ◌∷◌, Result, Ok, Err}
use Rattle.refusal.specs.declared.Refusal.{Refusal}
use Rattle.refusal.specs.Numbers.{number_of}

-- A row: "given exactly when".
pub record Row : Type 0 where
  pub refusal : Refusal
  pub applies : Bool

abbrev pub row : Refusal → Bool → Row
row r b = record { refusal = r; applies = b }

-- The refusal of the first row that applies, and none where none does.
unfoldable pub checked : List Row → Result (Unit {0}) Refusal
checked [] = Ok tt
checked (r ∷ rs) = cond r.applies (Err r.refusal) (checked rs)

-- Its number, and 0 where there is none.
unfoldable pub first : List Row → ℕ
first [] = 0
first (r ∷ rs) = cond r.applies (number_of r.refusal) (first rs)

-- "given exactly when": the number k is given where a row with it applies, and no row before that one does.
unfoldable pub Given : List Row → ℕ → Type 0
Given [] k = ⊥
Given (r ∷ rs) k = ((r.applies ≡ true) × (number_of r.refusal ≡ k)) ⊎ ((r.applies ≡ false) × Given rs k)

-- What is answered where nothing is refused, and otherwise by the refusal.
abbrev pub by_check : {A : Type 0} → Result (Unit {0}) Refusal → A → (Refusal → A) → A
by_check (Ok x) a f = a
by_check (Err r) a f = f r
