-- The starred edges of 01, "Both sides of each edge": one table, and one claim over it.
use Rattle.std.specs.Prelude.{◌≡◌, refl, Bool, true, ◌&&◌, List, [], ◌∷◌, ℕ, eqb}
use Rattle.ring.specs.declared.Verdict.{Verdict}
use Rattle.ring.specs.declared.Verdict.TheVariants.{Repeat, Next, Gap}
use Rattle.ring.specs.Ring.{M, remainder}
use Rattle.ring.specs.Check.{check, rule4, verdict_number, verdict_skipped, verdict_age}
use Rattle.cut.specs.Pieces.{pieces, piece_length}
use Rattle.cut.specs.Cutter.{cut_for}

pub data Edge : Type 0 where
  -- n octets at u a piece: how many pieces; ML; the BSIZE of piece c
  count : (n u : ℕ) → ℕ → Edge
  ml : (n u : ℕ) → ℕ → Edge
  bsize : (n u c : ℕ) → ℕ → Edge
  -- with N1 16, last number R and the same version: the verdict on SEQ
  verdict : (r s : ℕ) → Verdict → Edge

abbrev pub same : Verdict → Verdict → Bool
same a b = eqb (verdict_number a) (verdict_number b) && eqb (verdict_skipped a) (verdict_skipped b) && eqb (verdict_age a) (verdict_age b)

pub met : Edge → Bool
met (count n u t) = eqb (pieces n u) t
met (ml n u k) = eqb (cut_for n u 1).ml k
met (bsize n u c k) = eqb (cut_for n u c).bsize k
met (verdict r s v) = same (check 16 (record { 0 = 5 }) (record { 0 = r }) (record { 0 = 5 }) (record { 0 = s })) v

pub all : List Edge → Bool
all [] = true
all (e ∷ es) = met e && all es

pub edges : List Edge
edges =
    -- "n 4500, u 1332: BSIZE 1396 three times, then 568 (Figure 54)."
    count 4500 1332 4 ∷ ml 4500 1332 4564 ∷ bsize 4500 1332 1 1396 ∷ bsize 4500 1332 2 1396 ∷ bsize 4500 1332 3 1396 ∷ bsize 4500 1332 4 568
    -- "n 4500, u 1396: last BSIZE 376."
    ∷ count 4500 1396 4 ∷ bsize 4500 1396 4 376
    -- "n 16384, u 1396: 12 pieces, last BSIZE 1092."
    ∷ count 16384 1396 12 ∷ bsize 16384 1396 12 1092
    -- "n 16384, u 256: 64 pieces."
    ∷ count 16384 256 64
    -- "n 1396, u 1396: one. n 1397: two, last BSIZE 65. n 0: one, ML 64."
    ∷ count 1396 1396 1 ∷ count 1397 1396 2 ∷ bsize 1397 1396 2 65 ∷ count 0 1396 1 ∷ ml 0 1396 64
    -- "R 100: 101 next, 100 and 85 repeat, 84 gap of 2147483630, 103 gap of 2." 02, Item 6: how far back.
    ∷ verdict 100 101 Next ∷ verdict 100 100 (Repeat 0) ∷ verdict 100 85 (Repeat 15) ∷ verdict 100 84 (Gap 2147483630) ∷ verdict 100 103 (Gap 2)
    -- "R M: 1 next. R 3: 2147483635 repeat, 2147483634 gap."
    ∷ verdict M 1 Next ∷ verdict 3 2147483635 (Repeat 15) ∷ verdict 3 2147483634 (Gap 2147483630) ∷ []

pub every_edge : all edges ≡ true
unfolding all met edges pieces piece_length check rule4 remainder
every_edge = refl
