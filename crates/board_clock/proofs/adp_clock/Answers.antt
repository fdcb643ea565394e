-- After i turns the first i senders are aged. Assumes nothing.
use Prim.Native.Nat.{ℕ, ◌%◌}
use mathlib.Core.Path.{◌≡◌, sym, ap, ◌∙◌}
use native.Mathlib.Nat.{mod-eq_of_lt}
use native.Mathlib.Omega.{arith}
use lib.ListN.{length, length-set}
use Rattle.words.specs.Words.{word}
use Rattle.words.proofs.StateLaws.{state_facts}
use Rattle.words_look.proofs.LookLaws.{held_by}
use Rattle.board_clock.proofs.TickedLaws.{met_nine, met_back, aging_none, aging_more, met_on, map_short}
use Rattle.board_clock.proofs.adp_clock.Goals as goal

pub returns-then-not-within : goal.returns-then-not-within
returns-then-not-within c =
    let a = c.args in
    let both = met_nine a.state.now a.ms (sym c.within.ensures ∙ c.if-not-within.true) _ c.refused.ensures in
    record { answer = both.0; left = both.1 }

pub returns-then-ms-at : goal.returns-then-ms-at
returns-then-ms-at c =
    let a = c.args in
    let held = held_by a.state.now (sym c.within.ensures ∙ c.if-not-within.false) in
    let both = met_back a.state.now a.ms held (rw c.at.ensures at c.if-ms-at.true) _ c.refused-then-ms-at.ensures in
    record { answer = both.0; left = both.1 }

pub loop-i-init : goal.loop-i-init
loop-i-init c =
    let a = c.args in
    let held = held_by a.state.now (sym c.within.ensures ∙ c.if-not-within.false) in
    let few = (state_facts a.state.now held.means_state).few in
    let count : c.at-2.result % 256 ≡ word a.state.now 4 = ap (λ (x : ℕ). x % 256) c.at-2.ensures ∙ mod-eq_of_lt (omega arith) in
    (held, aging_none a.state.now a.ms held, count, c.at-t.ensures, omega (arith, count))

pub loop-i-preserved : goal.loop-i-preserved
loop-i-preserved c =
    let l = c.loop-i in
    let less = c.loop-i-test.true in
    (l.invariant.0, aging_more _ _ l.invariant.0 l.invariant.1 (omega (arith, less, l.invariant.2)) _ _ _ _ c.load-r.ensures (rw l.invariant.3 at c.drops-drop.ensures) c.dies-die.ensures c.aged.ensures _ _ _ c.put.ensures c.with_place-dropped.ensures c.with_place-dead.ensures, l.invariant.2, l.invariant.3, l.invariant.4)

pub overflow_cast-result : goal.overflow_cast-result
overflow_cast-result c =
    let l = c.loop-i in
    omega (arith, map_short _ _ l.invariant.0 l.invariant.1)

pub overflow_cast-result-2 : goal.overflow_cast-result-2
overflow_cast-result-2 c =
    let l = c.loop-i in
    omega (arith, map_short _ _ l.invariant.0 l.invariant.1)

pub shape_of-state : goal.shape_of-state
shape_of-state c =
    let l = c.loop-i in
    ap length c.set.ensures ∙ length-set l.state 3 _ ∙ l.invariant.1.still.many ∙ sym (state_facts _ l.invariant.0.means_state).many

pub returns : goal.returns
returns c =
    let l = c.loop-i in
    let both = met_on _ _ l.invariant.0 l.invariant.1 (omega (arith, c.loop-i-test.false, l.invariant.2)) (rw c.at.ensures at c.if-ms-at.false) _ c.set.ensures in
    record { answer = both.0; left = both.1 }
