-- Cutting as 01 prints it, of every program that meets the cutter's contract: it writes, and what it writes (demand 2).
-- The limits and the lengths of pieces stand in `cut`, beside its definitions. Proved in AsPrintedLaws.antt.
use Rattle.std.specs.Prelude.{ℕ, ◌+◌, ◌-◌, ◌*◌, ◌≤◌, ◌≡◌, true, List, Result, length, take, drop}
use Rattle.refusal.specs.declared.Refusal.{Refusal}
use Rattle.header.specs.declared.Given.{Given}
use Rattle.header.specs.Head.{head_of, is_fixed}
use Rattle.cut.specs.Cutter.{Words, cutter_told}
use Rattle.cut.specs.Pieces.{pieces}
use Rattle.cut.specs.Possible.{possible}
use Rattle.promises.specs.Course.{CutterMeets}
use Rattle.cut.specs.Printed.{Carries, Limits}

-- "The cutter writes one PDU by its number": it answers 0 with the PDU's length, and in the buffer that it left stands
-- a header with "ML: message length + 64. BSIZE: PDU length, header included. CBN: piece number from 1. TBN: number of
-- pieces", whose cut is possible; behind it the piece; and "Octets behind it in the buffer stay."
pub record Writes (g : Given) (m : List ℕ) (u t c p : ℕ) (buffer : List ℕ) (r : Result ℕ Refusal) (left : List ℕ) : Type 0 where
  pub answer : cutter_told r ≡ record { number = 0; length = 64 + p }
  pub head : head_of left ≡ record { given = g; cut = record { ml = length m + 64; bsize = 64 + p; cbn = c; tbn = t } }
  pub fixed : is_fixed left ≡ true
  pub cut : possible (head_of left).cut ≡ true
  pub piece : take p (drop 64 left) ≡ take p (drop ((c - 1) * u) m)
  pub behind : drop (64 + p) left ≡ drop (64 + p) buffer
  pub room : length left ≡ length buffer

pub record CuttingAsPrinted : Type 0 where
  -- The cutter writes wherever the limits hold and the buffer is not short; `Words` says that V_SEQ, DA and M_CTL are
  -- 32-bit numbers.
  pub writes : (g : Given) (m : List ℕ) (u c : ℕ) (buffer : List ℕ) (r : Result ℕ Refusal) (left : List ℕ) → CutterMeets g m u c buffer r left
      → Limits g (length m) u c → Words g → (p : ℕ) → Carries (length m) u (pieces (length m) u) c p → 64 + p ≤ length buffer
      → Writes g m u (pieces (length m) u) c p buffer r left
  -- and nowhere else.
  pub only : (g : Given) (m : List ℕ) (u c : ℕ) (buffer : List ℕ) (r : Result ℕ Refusal) (left : List ℕ) → CutterMeets g m u c buffer r left
      → (cutter_told r).number ≡ 0
      → Limits g (length m) u c × ((p : ℕ) → Carries (length m) u (pieces (length m) u) c p → 64 + p ≤ length buffer)
