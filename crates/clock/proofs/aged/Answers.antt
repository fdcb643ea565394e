-- Each part is that of the definition. Assumes nothing.
use Rattle.rules.specs.calls.Clock.{aged}
use Rattle.clock.proofs.aged.Goals as goal

pub returns : goal.returns
unfolding aged
returns c =
    simp (
      c.drops-drop.ensures,
      c.dies-die.ensures,
      c.unless-message.ensures,
      c.unless-heard.ensures,
      c.with_message-left.ensures,
      c.with_heard.ensures,
    )
