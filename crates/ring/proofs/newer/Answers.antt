-- From a number to itself there is no way; of two, the code tests what the definition says. Assumes nothing.
use Rattle.std.proofs.Common.{sym, ◌∙◌, eqb-true, rules}
use Rattle.ring.specs.Ring.{newer}
use Rattle.ring.proofs.RingLaws.{remainder_same, newer_none}
use Rattle.ring.proofs.newer.Goals as goal

pub returns-then-eq : goal.returns-then-eq
returns-then-eq c =
    let a = c.args in
    sym (newer_none a.a a.b (remainder_same a.a.0 a.b.0 (eqb-true a.a.0 a.b.0 (sym c.eq.ensures ∙ c.if-eq.true)))).0

pub returns : goal.returns
unfolding newer
returns c = rw (← c.back-d.ensures) (search rules)
