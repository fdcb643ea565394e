-- Word by word. Assumes nothing.
use Rattle.std.proofs.Common.{◌+◌, ◌*◌, ◌∷◌, take}
use Rattle.std.specs.List.{flat_map}
use Rattle.capture_lines.specs.Line.{word_of}
use Rattle.capture_lines.proofs.LineLaws.{Carries}
use Rattle.capture_lines.proofs.line_with.Given as goal

abbrev pub invariant-loop-n : goal.invariant-loop-n
invariant-loop-n l = Carries (l.l ∷ flat_map word_of (take l.n-index l.numbers)) (1 + 21 * l.n-index) l.t
