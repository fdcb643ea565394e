-- After i turns the first i addresses have been judged. Assumes nothing.
use mathlib.Core.Path.{◌≡◌, refl, sym, ◌∙◌}
use native.Mathlib.Omega.{arith}
use borrow.Author.Rules.{rules}
use lib.ListN.{length, length-set}
use Rattle.octets.specs.Split.{mapped_length}
use Rattle.state.specs.Limits.{addresses_within}
use Rattle.state.specs.State.{no_address, senders_most}
use Rattle.std.proofs.Common.{◌<◌, length-take}
use Rattle.std.proofs.lemmas.List.{get_or-take}
use Rattle.state.proofs.LimitsLaws.{addresses_more, addresses_few}
use Rattle.state.proofs.KeyLaws.{seen_none, seen_more, new_seen}
use Rattle.state.proofs.Address.all_within.Goals as goal

pub returns-then-count-gt-PLACES : goal.returns-then-count-gt-PLACES
returns-then-count-gt-PLACES c =
    let a = c.args in
    let all : length a.senders ≡ senders_most = search (rules, mapped_length) in
    sym (addresses_few a.senders a.count (omega (arith, c.if-count-gt-PLACES.true)))

pub loop-i-init : goal.loop-i-init
unfolding addresses_within
loop-i-init c = (search rules, search rules, seen_none _, refl)

pub loop-i-preserved : goal.loop-i-preserved
loop-i-preserved c =
    let l = c.loop-i in
    let a = c.args in
    let less : l.i < a.count = omega (arith, length-take a.count a.senders) in
    let here = get_or-take a.count a.senders l.i no_address less in
    let value = rw here at c.key-key.ensures.value in
    let narrow = rw here at c.key-key.ensures.narrow in
    let within = rw here at c.within.ensures in (
      omega arith,
      simp length-set l.invariant.1,
      seen_more l.seen _ l.i _ (omega arith) (value, narrow) l.invariant.2,
      addresses_more _ l.i _ _ _ l.invariant.3 within (λ yes.
          new_seen _ _ _ _ _ (omega arith) (value, narrow) l.invariant.2 (sym within ∙ yes) c.fresh.ensures),
    )
