-- Each return has the verdict that the rules before it lead to. Assumes nothing.
use Rattle.std.proofs.Common.{sym, ◌∙◌}
use Rattle.std.proofs.Common.{eq-eqb}
use Rattle.std.proofs.lemmas.Bool.{ne_eqb}
use Rattle.ring.specs.Check.{check}
use Rattle.ring.proofs.CheckLaws.{rule4_by_distance}
use Rattle.ring.proofs.RingLaws.{remainder_bound}
use Rattle.ring.proofs.number_check.Goals as goal

pub returns-then-v-s : goal.returns-then-v-s
unfolding check
returns-then-v-s c = rw c.if-v-s.true

pub returns-then-rv-eq0 : goal.returns-then-rv-eq0
unfolding check
returns-then-rv-eq0 c = simp (c.if-v-s.false, eq-eqb _ _ c.if-rv-eq0.true)

pub returns-then-ne : goal.returns-then-ne
unfolding check
returns-then-ne c = simp (c.if-v-s.false, ne_eqb _ _ c.if-rv-eq0.false, sym c.ne.ensures ∙ c.if-ne.true)

pub by_distance-requires : goal.by_distance-requires
by_distance-requires c = rw c.back.ensures (remainder_bound _ _)

pub returns : goal.returns
unfolding check
returns c =
    c.by_distance.ensures ∙ rule4_by_distance _ _ _ _ c.back.ensures
    ∙ simp (c.if-v-s.false, ne_eqb _ _ c.if-rv-eq0.false, sym c.ne.ensures ∙ c.if-ne.false)
