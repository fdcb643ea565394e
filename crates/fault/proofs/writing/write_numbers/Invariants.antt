-- The loop has laid down the first i numbers. Assumes nothing.
use mathlib.Core.Path.{◌≡◌}
use lib.ListN.{take}
use Rattle.octets.specs.Run.{laid}
use Rattle.fault.specs.Section.{pairs_of}
use Rattle.fault.proofs.writing.write_numbers.Given as goal

abbrev pub invariant-loop-i : goal.invariant-loop-i
invariant-loop-i l = l.s ≡ laid l.initial.s l.at (pairs_of (take l.i l.numbers))
