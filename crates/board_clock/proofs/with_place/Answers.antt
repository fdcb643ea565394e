-- The tests are those of the definition. Assumes nothing.
use mathlib.Core.Path.{◌∙◌}
use Rattle.board_clock.proofs.with_place.Goals as goal

pub returns-then-here : goal.returns-then-here
returns-then-here c = c.marked.ensures ∙ rw c.if-here.true
