-- Of the states without senders only the empty one passes. Assumes nothing.
use mathlib.Core.Path.{sym}
use borrow.Author.Tests.{lt-ltb, le-ltb}
use Rattle.words_look.proofs.private.TestsLaws.{settings_tests}
use Rattle.words_look.proofs.settings_within.Goals as goal

pub returns-then-not-each_setting : goal.returns-then-not-each_setting
returns-then-not-each_setting c =
    let each = c.each_setting in
    rw (settings_tests, sym each.ensures, c.if-not-each_setting.true)

pub returns-then-at-gt0 : goal.returns-then-at-gt0
returns-then-at-gt0 c =
    let each = c.each_setting in
    rw (settings_tests, sym each.ensures, c.if-not-each_setting.false, sym c.at.ensures, lt-ltb _ _ c.if-at-gt0.true)

pub returns : goal.returns
returns c =
    let each = c.each_setting in
    rw (settings_tests, sym each.ensures, c.if-not-each_setting.false, sym c.at.ensures, le-ltb _ _ c.if-at-gt0.false, c.at-5.ensures, c.at-4.ensures, c.at-3.ensures, c.at-2.ensures)
