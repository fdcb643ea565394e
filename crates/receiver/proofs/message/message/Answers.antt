-- One pass over the table, two judges, and what an admitted PDU does. Assumes nothing.
use native.Mathlib.Omega.{arith}
use mathlib.Core.Path.{sym, ap, ◌∙◌}
use Rattle.std.specs.Option.{is_some}
use Rattle.rules.proofs.calls.MessageLaws.{pass_refused, pass_place, pass_late, pass_taken}
use Rattle.rules.specs.calls.Message.{refused, with_sender}
use Rattle.receiver.proofs.message.message.Goals as goal

pub returns-in-Err : goal.returns-in-Err
unfolding refused
returns-in-Err c =
    let a = c.args in
    let both = pass_refused a.state a.storage.now a.packet.now _ _ _ c.read_head-h.ensures c.of.ensures c.look-look.ensures _ (sym c.check_packet.ensures ∙ c.in-Err.is) in
    record { answer = both.0; stored = both.1 }

pub bounds-state-at : goal.bounds-state-at
bounds-state-at c =
    let a = c.args in
    pass_place a.state a.storage.now a.packet.now _ _ _ c.read_head-h.ensures c.of.ensures c.look-look.ensures (sym c.check_packet.ensures ∙ c.in_default.is)

pub returns-then-is_some : goal.returns-then-is_some
unfolding refused
returns-then-is_some c =
    let a = c.args in
    let both = pass_late a.state a.storage.now a.packet.now _ _ _ c.read_head-h.ensures c.of.ensures c.look-look.ensures (sym c.check_packet.ensures ∙ c.in_default.is) _ c.admit-a.ensures (ap is_some (sym c.refusal.ensures) ∙ sym c.is_some.ensures ∙ c.if-is_some.true) in
    record { answer = both.0; stored = both.1 }

pub overflow_cast-next : goal.overflow_cast-next
overflow_cast-next c =
    let a = c.args in
    omega (arith, pass_place a.state a.storage.now a.packet.now _ _ _ c.read_head-h.ensures c.of.ensures c.look-look.ensures (sym c.check_packet.ensures ∙ c.in_default.is))

pub bounds-state-at-2 : goal.bounds-state-at-2
bounds-state-at-2 c =
    let a = c.args in
    pass_place a.state a.storage.now a.packet.now _ _ _ c.read_head-h.ensures c.of.ensures c.look-look.ensures (sym c.check_packet.ensures ∙ c.in_default.is)

pub returns : goal.returns
unfolding with_sender
returns c =
    let a = c.args in
    let early = sym c.check_packet.ensures ∙ c.in_default.is in
    let late = ap is_some (sym c.refusal.ensures) ∙ sym c.is_some.ensures ∙ c.if-is_some.false in
    let both = pass_taken a.state a.storage.now a.packet.now _ _ _ c.read_head-h.ensures c.of.ensures c.look-look.ensures early _ c.admit-a.ensures late _ _ c.where_to-to.ensures c.store.ensures in
    record { answer = both.0; stored = both.1 }
