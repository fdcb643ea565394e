-- After i turns nothing of the first i senders is open. Assumes nothing.
use Prim.Native.Nat.{ℕ, ◌%◌}
use mathlib.Core.Path.{sym, ap, ◌∙◌}
use native.Mathlib.Omega.{arith}
use Rattle.map.proofs.MapLaws.{lowest_most}
use Rattle.words_look.proofs.LookLaws.{held_by}
use Rattle.words_look.proofs.HeldLaws.{count_octet}
use Rattle.board.specs.Calls.{none_missing}
use Rattle.board_question.proofs.MissingLaws.{met_nine, none_more, met_piece, met_none}
use Rattle.board_question.proofs.adp_question.Goals as goal

pub returns-then-not-within : goal.returns-then-not-within
returns-then-not-within c =
    let a = c.args in
    c.none_open.ensures ∙ ap none_missing c.number.ensures ∙ met_nine a.state.now (sym c.within.ensures ∙ c.if-not-within.true)

pub loop-i-init : goal.loop-i-init
loop-i-init c =
    let a = c.args in
    let held = held_by a.state.now (sym c.within.ensures ∙ c.if-not-within.false) in
    (held, ap (λ (x : ℕ). x % 256) c.at.ensures ∙ count_octet a.state.now held.means_state, λ j h. absurd (omega arith))

pub overflow_cast-result : goal.overflow_cast-result
overflow_cast-result c = omega (arith, c.lowest_missing.ensures, lowest_most 64 c.load-r.result.map)

pub returns-then-r-eq1 : goal.returns-then-r-eq1
returns-then-r-eq1 c =
    let l = c.loop-i in
    met_piece _ l.invariant.0 l.i (omega (arith, c.loop-i-test.true, l.invariant.1)) l.invariant.2 _ c.load-r.ensures c.if-r-eq1.true _ c.lowest_missing.ensures

pub loop-i-preserved : goal.loop-i-preserved
loop-i-preserved c =
    let l = c.loop-i in
    (l.invariant.0, l.invariant.1, none_more _ l.invariant.0 l.i (omega (arith, c.loop-i-test.true, l.invariant.1)) l.invariant.2 _ c.load-r.ensures c.if-r-eq1.false)

pub returns : goal.returns
returns c =
    let l = c.loop-i in
    c.none_open-2.ensures ∙ met_none _ l.invariant.0 l.i (omega (arith, c.loop-i-test.false, l.invariant.1)) l.invariant.2
