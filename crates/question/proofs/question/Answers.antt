-- The walk to the first missing piece: senders before it have nothing open, pieces before it are held. Assumes nothing.
use Rattle.std.proofs.Common.{refl, sym, ◌∙◌, ap, Ok, arith}
use borrow.Author.Count.{below_more}
use Rattle.state.proofs.LimitsLaws.{valid_count}
use Rattle.state.proofs.WithinLaws.{valid_sender}
use Rattle.state.specs.State.{sender_at}
use Rattle.rules.specs.calls.Question.{pieces_of}
use Rattle.rules.proofs.calls.QuestionLaws.{Held, all_held, question_none, question_piece, question_nine}
use Rattle.question.proofs.question.Goals as goal

pub returns-then-not-within : goal.returns-then-not-within
returns-then-not-within c = question_nine _ (sym c.within.ensures ∙ c.if-not-within.true)

pub senders-init : goal.senders-init
senders-init c = (valid_count _ (sym c.within.ensures ∙ c.if-not-within.false), (λ j q. absurd (omega arith)), refl)

pub senders-preserved : goal.senders-preserved
senders-preserved c =
    let w = c.args.state in
    let i = c.senders.i in
    let ok = sym c.within.ensures ∙ c.if-not-within.false in
    let held : Held (sender_at w i) (pieces_of (sender_at w i)) = λ j q. c.loop-k.invariant.0 j (omega (arith, c.pieces_of-k-end.ensures)) in
    let closed = all_held w.clock (sender_at w i) (valid_sender w ok i c.senders-test.true) held in
    (c.senders.invariant.0, below_more _ _ c.senders.invariant.1 closed, c.loop-k.invariant.1)

pub returns-after-senders : goal.returns-after-senders
returns-after-senders c = ap Ok c.senders.invariant.2 ∙ question_none _ (sym c.within.ensures ∙ c.if-not-within.false) c.senders.i (omega arith) c.senders.invariant.1

pub returns-then-not-holds : goal.returns-then-not-holds
returns-then-not-holds c =
    let w = c.args.state in
    let i = c.senders.i in
    let ok = sym c.within.ensures ∙ c.if-not-within.false in
    let miss = sym c.holds.ensures ∙ c.if-not-holds.true in
    question_piece w ok i c.loop-k.k c.senders-test.true c.senders.invariant.1 (omega (arith, c.pieces_of-k-end.ensures)) c.loop-k.invariant.0 miss
