-- Each test is that of the definition. Assumes nothing.
use Rattle.rules.specs.calls.Admit.{same_cut}
use Rattle.sender.proofs.same_cut.Goals as goal

pub returns : goal.returns
unfolding same_cut
returns c = rw (c.unit.ensures, c.message_length.ensures)
