-- The ring of sequence numbers: how far one lies behind another, and which of two is newer.
use Rattle.std.specs.Prelude.{ℕ, ◌+◌, ◌-◌, ◌%◌, ◌≤◌, Bool, ◌&&◌, leb}
use Rattle.ring.specs.declared.Number.{Number}

-- "SEQ is 1 to M, where M = 2,147,483,647."
abbrev pub M : ℕ
M = 2147483647

pub record OnRing (x : ℕ) : Type 0 where
  pub first : 1 ≤ x
  pub last : x ≤ M

-- The same as a test.
abbrev pub is_number : ℕ → Bool
is_number x = leb 1 x && leb x M

-- The remainder of a − b by M, 0 to M − 1. M is added before b's remainder is taken away, so that no difference falls
-- below 0.
unfoldable pub remainder : ℕ → ℕ → ℕ
remainder a b = (a % M + (M - b % M)) % M

-- "Let d be the remainder of R − SEQ by M": how far back SEQ lies behind R.
abbrev pub back : Number → Number → ℕ
back r s = remainder r.0 s.0

-- "(SEQ − R − 1) modulo M numbers skipped"
abbrev pub skipped : Number → Number → ℕ
skipped r s = remainder s.0 (r.0 + 1)

-- 02, Item 3: "with the same version, the newcomer is newer when (SEQ − open SEQ) modulo M is 1 to 1,073,741,823, and
-- older when it is larger".
abbrev pub half : ℕ
half = 1073741823

-- a is newer than b, and b older than a. Callers use its law, `one_order`. What is newer than a newer number need not be
-- newer (`not_transitive`).
unfoldable pub newer : Number → Number → Bool
newer a b = leb 1 (remainder a.0 b.0) && leb (remainder a.0 b.0) half
