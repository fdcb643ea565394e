-- Each test is that of the definition. Assumes nothing.
use Rattle.rules.specs.calls.Alive.{alive_head_within}
use Rattle.alive.proofs.head_within.Goals as goal

pub returns : goal.returns
unfolding alive_head_within
returns c =
    simp (c.common_within.ensures, c.code_of.ensures, c.is_alive.ensures)
