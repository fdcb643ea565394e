-- Each return is the first row that applies, as far as the tests before it decide the rows. Assumes nothing.
use mathlib.Core.Path.{sym, ◌∙◌}
use Rattle.header.specs.Head.{head_of}
use Rattle.rules.specs.calls.First.{checked}
use borrow.Author.Tests.{eq-eqb, ne_eqb}
use Rattle.board_message.proofs.check_early.Goals as goal

pub returns-then-not-within : goal.returns-then-not-within
unfolding checked
returns-then-not-within c = simp (sym c.within.ensures ∙ c.if-not-within.true)

pub returns-then-room-count : goal.returns-then-room-count
unfolding checked
returns-then-room-count c =
    let room = rw c.at.ensures at (ne_eqb _ _ c.if-room-count.true) in
    simp (sym c.within.ensures ∙ c.if-not-within.false, room)

pub returns-then-size-read_bsize : goal.returns-then-size-read_bsize
unfolding checked head_of
returns-then-size-read_bsize c =
    let room = rw c.at.ensures at (eq-eqb _ _ c.if-room-count.false) in
    let length = rw c.read_bsize.ensures at c.if-size-read_bsize.true in
    simp (sym c.within.ensures ∙ c.if-not-within.false, room, length)

pub returns : goal.returns
unfolding checked head_of
returns c =
    let room = rw c.at.ensures at (eq-eqb _ _ c.if-room-count.false) in
    let right = rw c.read_bsize.ensures at c.if-size-read_bsize.false in
    simp (sym c.within.ensures ∙ c.if-not-within.false, room, right)
