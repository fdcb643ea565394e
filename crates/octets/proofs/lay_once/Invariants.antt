-- The loop has laid down i octets of the run. Assumes nothing.
use Rattle.std.proofs.Common.{◌≡◌, length}
use lib.Seq.{paste}
use Rattle.octets.proofs.lay_once.Given as goal

abbrev pub invariant-loop-i : goal.invariant-loop-i
invariant-loop-i l = (l.s ≡ paste l.initial.s l.at l.run l.i) × (length l.s ≡ length l.initial.s)
