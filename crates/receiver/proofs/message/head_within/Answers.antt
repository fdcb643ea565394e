-- Each test is that of the definition. Assumes nothing.
use Rattle.rules.specs.calls.Message.{head_within}
use Rattle.receiver.proofs.message.head_within.Goals as goal

pub returns : goal.returns
unfolding head_within
returns c =
    simp (
      c.common_within.ensures,
      c.code_of.ensures,
      c.is_user.ensures,
      c.within.ensures,
    )
