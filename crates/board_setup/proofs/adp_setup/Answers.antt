-- As many words as a state has are written whole. Assumes nothing.
use mathlib.Core.Path.{◌∙◌}
use lib.ListN.{length}
use borrow.Author.Tests.{eq-eqb, ne_eqb}
use Rattle.words.specs.Words.{words_most}
use Rattle.board.specs.Calls.{setup_for, setup_words}
use Rattle.board_setup.proofs.adp_setup.Goals as goal

pub returns-then-state-ne-WORDS : goal.returns-then-state-ne-WORDS
unfolding setup_for setup_words
returns-then-state-ne-WORDS c = record { answer = c.number.ensures ∙ rw (ne_eqb _ _ c.if-state-ne-WORDS.true); left = rw (ne_eqb _ _ c.if-state-ne-WORDS.true) }

pub returns : goal.returns
unfolding setup_for setup_words
returns c =
    let many = eq-eqb (length c.args.state.now) words_most c.if-state-ne-WORDS.false in
    let made = c.setup-started.ensures in record { answer = c.number_in.ensures ∙ rw (many, made); left = c.write.ensures ∙ rw (many, made) }
