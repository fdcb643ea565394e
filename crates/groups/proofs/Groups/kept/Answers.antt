-- Each place is as it is kept. Assumes nothing.
use Rattle.std.proofs.Common.{rules, ◌<◌, ◌∙◌, sym, ap, arith, List, ext_get_or}
use Rattle.octets.proofs.MadeLaws.{made_each}
use Rattle.groups.specs.declared.Group.{Group}
use Rattle.groups.specs.Groups.{groups_most, no_group, kept_at, kept_list}
use Rattle.groups.proofs.GroupsLaws.{kept_length, kept_place_at}
use Rattle.groups.proofs.Groups.kept.Goals as goal

pub returns : goal.returns
returns c =
    let g = c.args.self in
    let made = c.from_fn.result in
    let items = c.from_fn.ensures.items in
    ap (λ (l : List Group). record { count = g.count; list = l })
    (ext_get_or no_group made (kept_list g groups_most) (items.long ∙ sym (kept_length g groups_most))
    (λ i less.
    let few : i < groups_most = omega (arith, items.long) in
    made_each _ _ (kept_at g) made (λ i y q e. search rules) no_group groups_most items i few ∙ sym (kept_place_at g groups_most i few few)))
