-- Place by place. Assumes nothing.
use Rattle.std.proofs.Common.{ℕ, ◌+◌, rules}
use Rattle.std.proofs.lemmas.List.FromFn.{fill_by_all}
use Rattle.state.specs.State.{senders_most, no_address}
use Rattle.bench_nights.specs.Night.{node_of}
use Rattle.bench_nights.proofs.nodes.Goals as goal

pub returns : goal.returns
returns c =
    let made = c.from_fn.ensures.items in
    fill_by_all (λ (i : ℕ). node_of (i + 1)) c.from_fn.result senders_most no_address made.long (λ i q. let z = (made.at i no_address q).2 in search (rules, z))
