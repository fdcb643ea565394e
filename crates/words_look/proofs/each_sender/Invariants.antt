-- After i turns the first i senders have passed. Assumes nothing.
use mathlib.Core.Path.{◌≡◌}
use mathlib.Core.Bool.{true}
use Rattle.words_look.specs.private.Tests.{records_within}
use Rattle.words_look.proofs.each_sender.Given as goal

abbrev pub invariant-loop-i : goal.invariant-loop-i
invariant-loop-i l = records_within l.words l.i ≡ true
