-- More groups than there may be are counted, or the groups are asked. Assumes nothing.
use native.Mathlib.Omega.{arith}
use Rattle.words_look.proofs.private.TestsLaws.{groups_many}
use Rattle.words_look.proofs.groups_within.Goals as goal

pub returns-then-at-gt8 : goal.returns-then-at-gt8
returns-then-at-gt8 c =
    let l = c.args.words.now in
    groups_many l (omega (arith, c.if-at-gt8.true, c.at.ensures))
