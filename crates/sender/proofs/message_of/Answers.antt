-- A possible cut keeps n and u within 16 bits. Assumes nothing.
use native.Mathlib.Omega.{arith}
use Rattle.cut.proofs.PossibleLaws.{possible_facts, possible_unit}
use Rattle.sender.proofs.message_of.Goals as goal

pub overflow_cast-result : goal.overflow_cast-result
overflow_cast-result c = let f = possible_facts _ c.requires in omega (arith, c.message_length.ensures)

pub overflow_cast-result-2 : goal.overflow_cast-result-2
overflow_cast-result-2 c = omega (arith, c.unit.ensures, possible_unit _ c.requires)

pub returns : goal.returns
returns c = rw (c.unit.ensures, c.message_length.ensures)
