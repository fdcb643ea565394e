-- Each number is read from its place. Assumes nothing.
use Rattle.std.proofs.Common.{rules}
use Rattle.std.proofs.lemmas.List.FromFn.{fill_by_all}
use Rattle.state.specs.State.{senders_most, no_address}
use Rattle.capture_fields.specs.Field.{setup_of, sender_in}
use Rattle.capture_fields.proofs.setup_of.Goals as goal

pub returns : goal.returns
unfolding setup_of
returns c =
    let made = c.from_fn.ensures.items in
    let senders = fill_by_all (sender_in c.args.contents.now) c.from_fn.result senders_most no_address made.long (λ i q. let z = (made.at i no_address q).2 in search (rules, z)) in
    rw (senders, c.read1.ensures, c.read2.ensures, c.read4.ensures, c.senders_of.ensures)
