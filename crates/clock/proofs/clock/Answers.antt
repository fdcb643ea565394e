-- After i turns the first i senders have aged. Assumes nothing.
use mathlib.Core.Path.{refl, sym, ap, ◌∙◌}
use native.Mathlib.Omega.{arith}
use Rattle.rules.specs.calls.Clock.{drops, dies, aged_senders, map_where, not_ticked}
use Rattle.rules.proofs.calls.ClockLaws.{map_again, map_below, state_more, ticked_is, clock_nine, clock_back_lem, clock_on}
use Rattle.state.proofs.LimitsLaws.{valid_count}
use Rattle.state.specs.declared.Receiver.{Receiver}
use Rattle.clock.proofs.clock.Goals as goal

pub returns-then-not-within : goal.returns-then-not-within
unfolding not_ticked
returns-then-not-within c =
    let a = c.args in
    clock_nine a.state a.ms (sym c.within.ensures ∙ c.if-not-within.true)

pub returns-then-ms-state : goal.returns-then-ms-state
unfolding not_ticked
returns-then-ms-state c =
    let a = c.args in
    clock_back_lem a.state a.ms (sym c.within.ensures ∙ c.if-not-within.false) c.if-ms-state.true

pub loop-i-init : goal.loop-i-init
unfolding map_where aged_senders
loop-i-init c =
    let a = c.args in
    let v = sym c.within.ensures ∙ c.if-not-within.false in
    (valid_count a.state v, refl, refl, refl)

pub with_place-dropped-requires : goal.with_place-dropped-requires
with_place-dropped-requires c =
    let l = c.loop-i in
    (omega arith, rw l.invariant.1 (map_below _ _ l.i))

pub with_place-dead-requires : goal.with_place-dead-requires
with_place-dead-requires c =
    let l = c.loop-i in
    (omega arith, rw l.invariant.2 (map_below _ _ l.i))

pub loop-i-preserved : goal.loop-i-preserved
loop-i-preserved c =
    let l = c.loop-i in
    let a = c.args in
    let w = a.state in
    let m = ap (λ (v : Receiver). v.senders) l.invariant.3 in (
      omega arith,
      c.with_place-dropped.ensures ∙ map_again w.t a.ms (drops w.t a.ms) w.senders _ l.i _ _ m l.invariant.1 c.drops.ensures,
      c.with_place-dead.ensures ∙ map_again w.t a.ms (dies a.ms) w.senders _ l.i _ _ m l.invariant.2 c.dies.ensures,
      state_more w l.state w.t a.ms l.i _ l.invariant.3 c.aged-next.ensures,
    )

pub returns : goal.returns
returns c =
    let l = c.loop-i in
    let a = c.args in
    let v = sym c.within.ensures ∙ c.if-not-within.false in
    ticked_is a.state l.state a.ms l.i _ _ (omega arith) l.invariant.3 l.invariant.1 l.invariant.2 ∙ clock_on a.state a.ms v c.if-ms-state.false
