-- Table 14 of ADP R3.0 as it is printed in 001. That rule 4 is this table stands in Table14Laws.
use Rattle.std.specs.Prelude.{Bool, ℕ, ◌+◌, ◌-◌, cond, not, ◌&&◌, ◌||◌, eqb, ltb, leb}
use Rattle.ring.specs.declared.Verdict.{Verdict}
use Rattle.ring.specs.declared.Verdict.TheVariants.{Unchecked, First, Restart, Repeat, Next, Gap}

-- "Normal message reception", "Duplicated message reception", "Missing message"
pub data Result : Type 0 where
  normal duplicated missing : Result

-- 1: R_SEQ ≠ 0x7fffffff && R_SEQ + 1 = SEQ
abbrev pub row1 : ℕ → ℕ → Bool
row1 r s = not (eqb r 0x7fffffff) && eqb (r + 1) s

-- 2: R_SEQ = 0x7fffffff && SEQ = 1
abbrev pub row2 : ℕ → ℕ → Bool
row2 r s = eqb r 0x7fffffff && eqb s 1

-- 3: R_SEQ > N1 && R_SEQ − N1 < SEQ ≤ R_SEQ
abbrev pub row3 : ℕ → ℕ → ℕ → Bool
row3 n1 r s = ltb n1 r && (ltb (r - n1) s && leb s r)

-- 4: R_SEQ ≤ N1 && (0 < SEQ ≤ R_SEQ || 0x7fffffff − (N1 − R_SEQ) < SEQ ≤ 0x7fffffff)
abbrev pub row4 : ℕ → ℕ → ℕ → Bool
row4 n1 r s = leb r n1 && ((ltb 0 s && leb s r) || (ltb (0x7fffffff - (n1 - r)) s && leb s 0x7fffffff))

-- Rows 1 and 2 are normal, 3 and 4 duplicated, "5: Other conditions" missing.
unfoldable pub table14 : ℕ → ℕ → ℕ → Result
table14 n1 r s = cond (row1 r s || row2 r s) normal (cond (row3 n1 r s || row4 n1 r s) duplicated missing)

-- What each verdict is called there. The first three are received unconditionally (D.3.1.2's note; D.3.1.3, 1 and 3).
abbrev pub result : Verdict → Result
result Unchecked = normal
result First = normal
result Restart = normal
result (Repeat k) = duplicated
result Next = normal
result (Gap k) = missing
