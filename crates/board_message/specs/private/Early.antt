-- For a private function's contract alone: the refusals that ask no more of a packet than its length and its BSIZE.
use Rattle.std.specs.Prelude.{ℕ, ◌*◌, ◌%◌, not, List, [], ◌∷◌, eqb, length}
use Rattle.header.specs.Head.{head_of}
use Rattle.refusal.specs.declared.Refusal.TheVariants as refusals
use Rattle.rules.specs.calls.First.{Row, row}
use Rattle.rules.specs.calls.Message.{area, length_wrong}
use Rattle.words.specs.Words.{word}
use Rattle.words_look.specs.Look.{is_held}

-- 9, 11 and 12, of so much storage and a packet.
abbrev pub early_rows : List ℕ → ℕ → List ℕ → List Row
early_rows l room packet =
    row refusals.State (not (is_held l))
    ∷ row refusals.Storage (not (eqb room (word l 4 % 256 * area)))
    ∷ row refusals.Length (length_wrong (length packet) (head_of packet))
    ∷ []
