-- One pass over the words, the judge, and what an alive signal does. Assumes nothing.
use Prim.Native.Nat.{ℕ, ◌%◌}
use mathlib.Core.Path.{sym, ap, ◌∙◌}
use native.Mathlib.Omega.{arith}
use Rattle.board_alive.proofs.HeardLaws.{met_refused, met_noted}
use Rattle.board_alive.proofs.adp_alive.Goals as goal

pub returns-in-Err : goal.returns-in-Err
returns-in-Err c =
    let a = c.args in
    let both = met_refused a.state.now a.packet.now _ _ _ _ _ c.read_head-h.ensures c.read_body-body.ensures c.of.ensures c.look-look.ensures (ap (λ (x : ℕ). x % 256) c.at.ensures) _ (sym c.check_signal.ensures ∙ c.in-Err.is) in
    record { answer = c.number.ensures ∙ both.0; left = both.1 }

pub returns : goal.returns
returns c =
    let a = c.args in
    let both = met_noted a.state.now a.packet.now _ _ _ _ _ c.read_head-h.ensures c.read_body-body.ensures c.of.ensures c.look-look.ensures (ap (λ (x : ℕ). x % 256) c.at.ensures) (sym c.check_signal.ensures ∙ c.in_default.is) _ _ _ _ c.load-r.ensures c.at-clock.ensures (omega arith) c.heard_by.ensures c.put.ensures in
    record { answer = both.0; left = both.1 }
