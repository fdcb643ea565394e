-- Refused with the empty state, or started. Assumes nothing.
use mathlib.Core.Path.{sym, ◌∙◌}
use Rattle.rules.specs.calls.Setup.{setup_answer}
use Rattle.rules.proofs.calls.SetupLaws.{setup_count}
use Rattle.setup.proofs.setup.Goals as goal

pub new_state-state-requires : goal.new_state-state-requires
new_state-state-requires c within = setup_count c.args.q (sym c.setup_within-within.ensures ∙ within)

pub returns-then-not-within : goal.returns-then-not-within
unfolding setup_answer
returns-then-not-within c =
    let no = c.if-not-within.true in
    rw (c.new_state-state.ensures, no, sym c.setup_within-within.ensures ∙ no)

pub returns : goal.returns
unfolding setup_answer
returns c =
    let yes = c.if-not-within.false in
    rw (c.new_state-state.ensures, yes, sym c.setup_within-within.ensures ∙ yes)
