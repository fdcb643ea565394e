-- The tests in the order in which they are made. Assumes nothing.
use mathlib.Core.Path.{sym}
use borrow.Author.Tests.{le-leb, lt-leb}
use Rattle.words.specs.Words.{record_in}
use Rattle.words_look.proofs.private.TestsLaws.{message_tests}
use Rattle.words_look.proofs.message_within.Goals as goal

pub returns-then-clock-at : goal.returns-then-clock-at
returns-then-clock-at c =
    let a = c.args in
    rw (message_tests a.clock (record_in a.s.now), sym c.at.ensures, lt-leb _ _ c.if-clock-at.true)

pub returns-then-not-number : goal.returns-then-not-number
returns-then-not-number c =
    let a = c.args in
    let word = c.at-number in
    rw (message_tests a.clock (record_in a.s.now), sym c.at.ensures, le-leb _ _ c.if-clock-at.false, sym word.ensures, c.if-not-number.true)

pub returns : goal.returns
returns c =
    let a = c.args in
    let word = c.at-number in
    rw (message_tests a.clock (record_in a.s.now), sym c.at.ensures, le-leb _ _ c.if-clock-at.false, sym word.ensures, c.if-not-number.false, sym c.at-2.ensures, sym c.at-3.ensures)
    c.cut_within.ensures
