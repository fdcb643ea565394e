-- Each test is that of the definition. Assumes nothing.
use Rattle.state.specs.Limits.{message_within}
use Rattle.state.proofs.Message.within.Goals as goal

pub returns : goal.returns
unfolding message_within
returns c =
    simp (
      c.within.ensures,
      c.code_of.ensures,
      c.is_user.ensures,
      c.several.ensures,
      c.is_partial.ensures,
      c.held.ensures,
    )
