-- Under version 0 the last number 0 makes a word of 0. Assumes nothing.
use Rattle.words_look.proofs.private.TestsLaws.{last_test}
use Rattle.words_look.proofs.last_within.Goals as goal

pub returns : goal.returns
returns c = last_test c.args.w
