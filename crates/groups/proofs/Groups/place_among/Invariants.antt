-- After i turns no place before i has it. Assumes nothing.
use mathlib.Core.Path.{◌≡◌}
use Rattle.groups.specs.Groups.{number_at, place_among}
use Rattle.groups.proofs.Groups.place_among.Given as goal

abbrev pub invariant-loop-i : goal.invariant-loop-i
invariant-loop-i l = place_among (number_at l.self) l.i l.group.0 ≡ l.i
