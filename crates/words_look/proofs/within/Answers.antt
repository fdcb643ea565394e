-- The tests in the order in which they are made. Assumes nothing.
use Prim.Native.Nat.{ℕ, ◌%◌}
use mathlib.Core.Path.{sym, ap, ◌∙◌}
use Rattle.words.proofs.StateLaws.{state_facts}
use Rattle.words_look.proofs.LookLaws.{nine_unless}
use Rattle.words_look.proofs.private.TestsLaws.{whole_test, sized, senders_tests, none_few}
use Rattle.words_look.proofs.within.Goals as goal

pub returns-then-words-ne-WORDS : goal.returns-then-words-ne-WORDS
returns-then-words-ne-WORDS c =
    let l = c.args.words.now in
    nine_unless l (λ h. c.if-words-ne-WORDS.true (state_facts l h.means_state).many)

pub returns-then-not-settings_within : goal.returns-then-not-settings_within
returns-then-not-settings_within c =
    let settings = c.settings_within in
    rw (whole_test c.args.words.now c.if-words-ne-WORDS.false, sym settings.ensures, c.if-not-settings_within.true)

pub each_sender-requires : goal.each_sender-requires
each_sender-requires c =
    let settings = sym c.settings_within.ensures ∙ c.if-not-settings_within.false in
    sized c.args.words.now c.if-words-ne-WORDS.false settings _ (ap (λ (w : ℕ). w % 256) c.at.ensures)

pub none_twice-requires-clause-sized : goal.none_twice-requires-clause-sized
none_twice-requires-clause-sized c =
    let settings = sym c.settings_within.ensures ∙ c.if-not-settings_within.false in
    let many = c.if-words-ne-WORDS.false in sized c.args.words.now many settings _ (ap (λ (w : ℕ). w % 256) c.at.ensures)

pub returns-then-not-each_sender : goal.returns-then-not-each_sender
returns-then-not-each_sender c =
    let settings = sym c.settings_within.ensures ∙ c.if-not-settings_within.false in
    rw (senders_tests c.args.words.now c.if-words-ne-WORDS.false settings _ (ap (λ (w : ℕ). w % 256) c.at.ensures), sym c.each_sender.ensures, c.if-not-each_sender.true)

pub returns-then-count-le1 : goal.returns-then-count-le1
returns-then-count-le1 c =
    let settings = sym c.settings_within.ensures ∙ c.if-not-settings_within.false in
    rw (senders_tests c.args.words.now c.if-words-ne-WORDS.false settings _ (ap (λ (w : ℕ). w % 256) c.at.ensures), sym c.each_sender.ensures, c.if-not-each_sender.false, none_few c.args.words.now _ c.if-count-le1.true)

pub returns : goal.returns
returns c =
    let settings = sym c.settings_within.ensures ∙ c.if-not-settings_within.false in
    rw (senders_tests c.args.words.now c.if-words-ne-WORDS.false settings _ (ap (λ (w : ℕ). w % 256) c.at.ensures), sym c.each_sender.ensures, c.if-not-each_sender.false)
    c.none_twice.ensures
