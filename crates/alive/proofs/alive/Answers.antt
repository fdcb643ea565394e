-- One pass over the table, the judge, and what an alive signal does. Assumes nothing.
use mathlib.Core.Path.{sym, ◌∙◌}
use Rattle.rules.proofs.calls.AliveLaws.{signal_refused, signal_place, signal_noted}
use Rattle.rules.specs.calls.Alive.{heard_by}
use Rattle.rules.specs.calls.Message.{with_sender}
use Rattle.alive.specs.Heard.{heard_in}
use Rattle.alive.proofs.alive.Goals as goal

pub returns-in-Err : goal.returns-in-Err
returns-in-Err c =
    let a = c.args in
    signal_refused a.state a.packet.now _ _ _ _ c.read_head-h.ensures c.read_body-body.ensures c.of.ensures c.look-look.ensures _ (sym c.check_signal.ensures ∙ c.in-Err.is)

pub bounds-state-at : goal.bounds-state-at
bounds-state-at c =
    let a = c.args in
    signal_place a.state a.packet.now _ _ _ _ c.read_head-h.ensures c.read_body-body.ensures c.of.ensures c.look-look.ensures (sym c.check_signal.ensures ∙ c.in_default.is)

pub bounds-state-at-2 : goal.bounds-state-at-2
bounds-state-at-2 c =
    let a = c.args in
    signal_place a.state a.packet.now _ _ _ _ c.read_head-h.ensures c.read_body-body.ensures c.of.ensures c.look-look.ensures (sym c.check_signal.ensures ∙ c.in_default.is)

pub returns : goal.returns
unfolding with_sender heard_by heard_in
returns c =
    let a = c.args in
    rw c.heard_by-next.ensures (signal_noted a.state a.packet.now _ _ _ _ c.read_head-h.ensures c.read_body-body.ensures c.of.ensures c.look-look.ensures (sym c.check_signal.ensures ∙ c.in_default.is))
