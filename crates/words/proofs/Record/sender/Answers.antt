-- Field by field. Assumes nothing.
use Rattle.words.specs.Shown.{shown}
use Rattle.words.proofs.Record.sender.Goals as goal

pub returns : goal.returns
unfolding shown
returns c = rw (c.open_message-message.ensures, c.alive_heard-heard.ensures)
