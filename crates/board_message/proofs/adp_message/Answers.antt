-- What is told before the header is read, two judges, and what an admitted PDU does. Assumes nothing.
use Prim.Native.Nat.{ℕ, ◌%◌}
use mathlib.Core.Path.{sym, ap, ◌∙◌}
use Rattle.std.specs.Option.{is_some}
use Rattle.board_message.proofs.MessageLaws.{met_first, look_by, met_early, met_late, met_taken}
use Rattle.board_message.proofs.adp_message.Goals as goal

pub returns-in-Err : goal.returns-in-Err
returns-in-Err c =
    let a = c.args in
    let both = met_first a.state.now a.storage.now a.packet.now _ (sym c.check_early.ensures ∙ c.in-Err.is) _ c.refused.ensures in
    record { answer = both.0; left = both.1.0; stored = both.1.1 }

pub returns-in-Err-check_packet : goal.returns-in-Err-check_packet
returns-in-Err-check_packet c =
    let a = c.args in
    let l = a.state.now in
    let counted = ap (λ (x : ℕ). x % 256) c.at.ensures in
    let look = look_by l _ a.packet.now (sym c.check_early.ensures ∙ c.in_default.is) _ _ _ counted c.place_of-at.ensures in
    let both = met_early l a.storage.now a.packet.now _ _ _ _ c.read_head-h.ensures c.of.ensures look counted _ (sym c.check_packet.ensures ∙ c.in-Err-check_packet.is) _ c.refused-in-Err-check_packet.ensures in
    record { answer = both.0; left = both.1.0; stored = both.1.1 }

pub returns-then-is_some : goal.returns-then-is_some
returns-then-is_some c =
    let a = c.args in
    let l = a.state.now in
    let counted = ap (λ (x : ℕ). x % 256) c.at.ensures in
    let look = look_by l _ a.packet.now (sym c.check_early.ensures ∙ c.in_default.is) _ _ _ counted c.place_of-at.ensures in
    let made = rw (c.at-test.ensures, c.at-clock.ensures) at c.admit-a.ensures in
    let both = met_late l a.storage.now a.packet.now _ _ _ _ c.read_head-h.ensures c.of.ensures look counted (sym c.check_packet.ensures ∙ c.in_default-check_packet.is) _ c.load-r.ensures _ _ _ (ap (λ (x : ℕ). x % 65536) c.at-2.ensures) c.sender.ensures made (ap is_some (sym c.refusal.ensures) ∙ sym c.is_some.ensures ∙ c.if-is_some.true) _ c.in_numbers.ensures in
    record { answer = both.0; left = both.1.0; stored = both.1.1 }

pub returns : goal.returns
returns c =
    let a = c.args in
    let l = a.state.now in
    let counted = ap (λ (x : ℕ). x % 256) c.at.ensures in
    let look = look_by l _ a.packet.now (sym c.check_early.ensures ∙ c.in_default.is) _ _ _ counted c.place_of-at.ensures in
    let made = rw (c.at-test.ensures, c.at-clock.ensures) at c.admit-a.ensures in
    let both = met_taken l a.storage.now a.packet.now _ _ _ _ c.read_head-h.ensures c.of.ensures look counted (sym c.check_packet.ensures ∙ c.in_default-check_packet.is) _ c.load-r.ensures _ _ _ (ap (λ (x : ℕ). x % 65536) c.at-2.ensures) c.sender.ensures made (ap is_some (sym c.refusal.ensures) ∙ sym c.is_some.ensures ∙ c.if-is_some.false) _ _ c.where_to.ensures c.store.ensures _ _ c.joined.ensures c.put.ensures _ c.in_numbers-2.ensures in
    record { answer = both.0; left = both.1.0; stored = both.1.1 }
