-- After i turns the addresses of the first i senders have been seen, and are new. Assumes nothing.
use Rattle.words_look.proofs.private.TestsLaws.{Apart}
use Rattle.words_look.proofs.none_twice.Given as goal

abbrev pub invariant-loop-i : goal.invariant-loop-i
invariant-loop-i l = Apart l.words l.seen l.count l.i
