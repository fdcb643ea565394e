-- The tests are those of the definition. Assumes nothing.
use mathlib.Core.Bool.{and_assoc}
use Rattle.words_look.specs.private.Tests.{each_setting}
use Rattle.words_look.proofs.each_setting.Goals as goal

pub returns : goal.returns
unfolding each_setting
returns c =
    simp (c.groups_within.ensures, c.at-3.ensures, c.at-2.ensures, c.at.ensures, c.at-t.ensures, c.at-n1.ensures, and_assoc)
