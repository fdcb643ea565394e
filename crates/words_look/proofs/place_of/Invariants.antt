-- After i turns no place before i has it. Assumes nothing.
use mathlib.Core.Path.{◌≡◌}
use Rattle.words.specs.Words.{address_in}
use Rattle.words_look.specs.Look.{place_in}
use Rattle.words_look.proofs.place_of.Given as goal

abbrev pub invariant-loop-i : goal.invariant-loop-i
invariant-loop-i l = place_in l.words (address_in l.wanted) l.i ≡ l.i
