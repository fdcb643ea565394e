-- One more than was kept, and no more than an octet holds. Assumes nothing.
use Rattle.std.proofs.Common.{sym, ◌∙◌, arith}
use Rattle.std.proofs.lemmas.Bool.Decides.{nat_tests}
use Rattle.rules.specs.calls.Admit.{kept_after}
use Rattle.sender.proofs.Arrival.kept_after.Goals as goal

pub returns-then-not-rejoins : goal.returns-then-not-rejoins
unfolding kept_after
returns-then-not-rejoins c = rw (sym c.rejoins.ensures ∙ c.if-not-rejoins.true)

pub returns : goal.returns
unfolding kept_after
returns c = rw (sym c.rejoins.ensures ∙ c.if-not-rejoins.false) (grind (arith, nat_tests))
