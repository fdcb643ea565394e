-- The test is the definition's first. Assumes nothing.
use Rattle.state.proofs.Sender.message_within.Goals as goal

pub returns-then-self : goal.returns-then-self
returns-then-self c = simp (c.if-self.true, c.within.ensures)

pub returns : goal.returns
returns c = rw c.if-self.false
