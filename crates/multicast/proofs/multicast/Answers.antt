-- The header is read, the state looked at once, and the packet taken. Assumes nothing.
use mathlib.Core.Path.{ap, ◌∙◌}
use Rattle.state.specs.Table.{look_at}
use Rattle.multicast.proofs.LentLaws.{call_left}
use Rattle.multicast.proofs.multicast.Goals as goal

pub returns : goal.returns
returns c =
    let a = c.args in
    let both = call_left a.state _ _ _ _ _ c.read_head-h.ensures (c.look-look.ensures ∙ ap (look_at a.state) c.of.ensures) _ _ _ _ (c.take-outcome.ensures.answer, (c.take-outcome.ensures.versions, c.take-outcome.ensures.numbers)) c.handed.ensures in
    record { answer = both.0; versions = both.1.0; numbers = both.1.1 }
