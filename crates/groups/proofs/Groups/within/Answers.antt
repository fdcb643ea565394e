-- The count is within its limits, and each group is. Assumes nothing.
use Rattle.std.proofs.Common.{rules, ◌≡◌, true, false, arith, refl}
use Rattle.std.proofs.Common.{le-leb}
use Rattle.std.proofs.lemmas.Bool.{lt-leb}
use Rattle.std.proofs.lemmas.Iterator.{cases_from_all, YieldsList-from_range}
use Rattle.groups.specs.Groups.{groups_most, number_at, groups_within}
use Rattle.groups.proofs.GroupsLaws.{passes, each_of}
use Rattle.groups.proofs.Groups.within.Goals as goal

pub returns-then-self-le-PLACES : goal.returns-then-self-le-PLACES
unfolding groups_within
returns-then-self-le-PLACES c =
    let g = c.args.self in
    rw (le-leb g.count groups_most c.if-self-le-PLACES.true)
    (each_of (number_at g) g.count c.all.result
    (cases_from_all _ _ _ (λ i. passes (number_at g) i ≡ true) (λ i. passes (number_at g) i ≡ false) c.all.ensures.ran
    (YieldsList-from_range 0 g.count g.count refl (omega arith)) (λ x q k. search rules) (λ x q k. search rules)))

pub returns-else-self-le-PLACES : goal.returns-else-self-le-PLACES
unfolding groups_within
returns-else-self-le-PLACES c =
    rw (lt-leb c.args.self.count groups_most c.if-self-le-PLACES.false)
