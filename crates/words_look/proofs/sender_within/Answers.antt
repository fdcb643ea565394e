-- The tests in the order in which they are made. Assumes nothing.
use mathlib.Core.Path.{sym}
use Rattle.words.specs.Words.{record_in}
use Rattle.words_look.proofs.private.TestsLaws.{record_tests}
use Rattle.words_look.proofs.sender_within.Goals as goal

pub returns-then-not-alive_within : goal.returns-then-not-alive_within
returns-then-not-alive_within c =
    let a = c.args in
    let alive = c.alive_within in
    rw (record_tests a.clock (record_in a.s.now), sym alive.ensures, c.if-not-alive_within.true)

pub returns-then-not-address_within : goal.returns-then-not-address_within
returns-then-not-address_within c =
    let a = c.args in
    let alive = c.alive_within in
    let address = c.address_within in
    rw (record_tests a.clock (record_in a.s.now), sym alive.ensures, c.if-not-alive_within.false, sym c.at.ensures, sym address.ensures, c.if-not-address_within.true)

pub returns-then-not-last_within : goal.returns-then-not-last_within
returns-then-not-last_within c =
    let a = c.args in
    let alive = c.alive_within in
    let address = c.address_within in
    let last = c.last_within in
    rw (record_tests a.clock (record_in a.s.now), sym alive.ensures, c.if-not-alive_within.false, sym c.at.ensures, sym address.ensures, c.if-not-address_within.false, sym c.at-2.ensures, sym last.ensures, c.if-not-last_within.true)

pub returns : goal.returns
returns c =
    let a = c.args in
    let alive = c.alive_within in
    let address = c.address_within in
    let last = c.last_within in
    rw (record_tests a.clock (record_in a.s.now), sym alive.ensures, c.if-not-alive_within.false, sym c.at.ensures, sym address.ensures, c.if-not-address_within.false, sym c.at-2.ensures, sym last.ensures, c.if-not-last_within.false)
    c.open_within.ensures
