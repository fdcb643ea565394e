-- After i turns no place before i has it. Assumes nothing.
use mathlib.Core.Path.{◌≡◌, refl, sym, ap, ◌∙◌}
use Rattle.std.proofs.Common.{eqb, arith, add-one}
use Rattle.octets.specs.FirstPlace.{first_place}
use Rattle.octets.proofs.FirstPlaceLaws.{place_here, place_none}
use Rattle.groups.specs.declared.Group.{Group}
use Rattle.groups.specs.Groups.{number_at}
use Rattle.groups.proofs.Groups.place_among.Goals as goal

pub loop-i-init : goal.loop-i-init
unfolding first_place
loop-i-init c = refl

pub loop-i-preserved : goal.loop-i-preserved
loop-i-preserved c =
    let a = c.args in
    let here = ap (λ (g : Group). eqb g.0 a.group.0) (sym c.at.ensures) ∙ sym c.eq.ensures ∙ c.if-eq.false in
    rw (add-one c.loop-i.i) (place_none (λ j. eqb (number_at a.self j) a.group.0) c.loop-i.i c.loop-i.invariant here)

pub returns-then-eq : goal.returns-then-eq
returns-then-eq c =
    let a = c.args in
    let here = ap (λ (g : Group). eqb g.0 a.group.0) (sym c.at.ensures) ∙ sym c.eq.ensures ∙ c.if-eq.true in
    sym (place_here (λ j. eqb (number_at a.self j) a.group.0) c.loop-i.i c.loop-i.invariant here a.k c.loop-i-test.true)

pub returns : goal.returns
returns c =
    let l = c.loop-i in
    let z : l.i ≡ c.args.k = omega arith in
    rw (sym z) (sym l.invariant)
