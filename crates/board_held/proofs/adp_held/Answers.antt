-- Each way out is a case of the definition. Assumes nothing.
use native.Mathlib.Omega.{arith}
use Rattle.board_held.proofs.HeldLaws.{past_senders, past_places, at_sender}
use Rattle.board_held.proofs.adp_held.Goals as goal

pub returns-then-at-place : goal.returns-then-at-place
returns-then-at-place c = past_senders c.args.state.now _ (omega (arith, c.at.ensures, c.if-at-place.true))

pub returns-then-place-ge-PLACES : goal.returns-then-place-ge-PLACES
returns-then-place-ge-PLACES c = past_places c.args.state.now _ c.if-place-ge-PLACES.true

pub returns : goal.returns
returns c =
    at_sender c.args.state.now _ (omega (arith, c.at.ensures, c.if-at-place.false)) c.if-place-ge-PLACES.false _ c.load.ensures _ c.sender-s.ensures
