-- After i turns the first i senders have passed. Assumes nothing.
use mathlib.Core.Path.{refl}
use Rattle.words_look.specs.private.Tests.{each_to}
use Rattle.words_look.proofs.private.TestsLaws.{senders_not, senders_more}
use Rattle.words_look.proofs.each_sender.Goals as goal

pub loop-i-init : goal.loop-i-init
unfolding each_to
loop-i-init c = refl

pub returns-then-not-sender_within : goal.returns-then-not-sender_within
returns-then-not-sender_within c =
    senders_not c.requires c.loop-i-test.true c.first_of-first.ensures c.at-clock.ensures c.sender_within.ensures
    c.if-not-sender_within.true

pub loop-i-preserved : goal.loop-i-preserved
loop-i-preserved c =
    senders_more c.requires c.loop-i-test.true c.first_of-first.ensures c.at-clock.ensures c.sender_within.ensures
    c.loop-i.invariant c.if-not-sender_within.false
