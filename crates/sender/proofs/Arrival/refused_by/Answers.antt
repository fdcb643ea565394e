-- The record stays. Assumes nothing.
use Rattle.rules.specs.calls.Admit.{not_admitted}
use Rattle.sender.proofs.Arrival.refused_by.Goals as goal

pub returns : goal.returns
unfolding not_admitted
returns c = rw c.age_with-age.ensures
