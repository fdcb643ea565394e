-- The piece is marked in the map of the message that it belongs to. Assumes nothing.
use mathlib.Core.Path.{sym, ◌∙◌}
use Rattle.rules.specs.calls.Admit.{map_after}
use Rattle.sender.proofs.Arrival.map_after.Goals as goal

pub returns-then-rejoins : goal.returns-then-rejoins
unfolding map_after
returns-then-rejoins c = rw (sym c.rejoins.ensures ∙ c.if-rejoins.true) c.marked.ensures

pub returns : goal.returns
unfolding map_after
returns c = rw (sym c.rejoins.ensures ∙ c.if-rejoins.false) c.marked-2.ensures
