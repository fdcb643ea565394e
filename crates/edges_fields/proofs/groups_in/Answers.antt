-- Number by number. Assumes nothing.
use Rattle.std.proofs.Common.{ℕ, ◌+◌, rules}
use Rattle.std.proofs.lemmas.List.FromFn.{fill_by_all}
use Rattle.groups.specs.declared.Group.{Group}
use Rattle.edges_fields.specs.Fields.{group_at}
use Rattle.edges_fields.proofs.groups_in.Goals as goal

pub returns : goal.returns
returns c =
    let here = c.from-here.result.now in
    let none : Group = record { 0 = 0 } in
    let made = c.from_fn.ensures.items in
    let list = fill_by_all (λ (i : ℕ). group_at here (1 + i)) c.from_fn.result 8 none made.long (λ i q. let z = (made.at i none q).2 in search (rules, z)) in
    rw (list, c.read1.ensures, c.from-here.ensures)
