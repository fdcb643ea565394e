-- Field by field. Assumes nothing.
use Rattle.state.specs.Key.{key_of}
use Rattle.words.proofs.Record.of.Goals as goal

pub returns : goal.returns
unfolding key_of
returns c = simp (c.with_heard.ensures, c.joined-r.ensures, c.key.ensures.value)
