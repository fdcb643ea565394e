-- Each test is that of the definition. Assumes nothing.
use Rattle.state.specs.Limits.{sender_within}
use Rattle.state.proofs.Sender.within.Goals as goal

pub returns : goal.returns
unfolding sender_within
returns c = simp (c.within.ensures, c.within-2.ensures, c.message_within.ensures)
