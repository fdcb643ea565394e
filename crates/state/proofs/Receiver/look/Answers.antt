-- After i turns the first i senders have been judged, found and seen. Assumes nothing.
use mathlib.Core.Path.{refl, sym, ◌∙◌}
use mathlib.Core.Bool.{and-true}
use native.Mathlib.Omega.{arith}
use borrow.Author.Rules.{rules}
use lib.ListN.{length-set}
use Rattle.state.specs.Limits.{senders_within, address_at}
use Rattle.state.proofs.LimitsLaws.{within_address, senders_more, valid_few}
use Rattle.state.proofs.KeyLaws.{seen_none, seen_more, new_seen}
use Rattle.state.proofs.TableLaws.{find_more, look_outside, passed_outside, passed_within}
use Rattle.state.specs.State.{no_sender, first_where}
use Rattle.std.proofs.Common.{◌<◌, length-take}
use Rattle.std.proofs.lemmas.List.{get_or-take}
use Rattle.state.proofs.Receiver.look.Goals as goal

pub returns-then-count-gt-PLACES : goal.returns-then-count-gt-PLACES
returns-then-count-gt-PLACES c =
    let a = c.args in
    look_outside a.self a.a (valid_few a.self c.if-count-gt-PLACES.true)

pub loop-i-init : goal.loop-i-init
unfolding senders_within first_where
loop-i-init c =
    (search rules, search rules, seen_none _, sym (and-true _), refl)

pub loop-i-preserved : goal.loop-i-preserved
loop-i-preserved c =
    let l = c.loop-i in
    let w = c.args.self in
    let address = address_at w.senders in
    let less : l.i < w.count = omega (arith, length-take w.count w.senders) in
    let here = get_or-take w.count w.senders l.i no_sender less in
    let value = rw here at c.key-key.ensures.value in
    let narrow = rw here at c.key-key.ensures.narrow in
    let within = rw here at c.within.ensures in (
      omega arith,
      simp length-set l.invariant.1,
      seen_more l.seen address l.i _ (omega arith) (value, narrow) l.invariant.2,
      senders_more w.clock w.senders l.i _ c.settings_within-valid.result _ _ l.invariant.3 within (λ yes.
          new_seen _ address _ _ _ (omega arith) (value, narrow) l.invariant.2 (within_address w.clock _ (sym within ∙ yes)) c.fresh.ensures),
      find_more w.senders _ l.i _ _ _ l.invariant.4 (rw here at c.eq.ensures) c.next_place-at.ensures,
    )

pub returns-then-not-valid : goal.returns-then-not-valid
returns-then-not-valid c =
    let l = c.loop-i in
    let a = c.args in
    passed_outside a.self a.a _ _ l.i l.at (omega arith) c.settings_within-valid.ensures l.invariant.3 c.if-not-valid.true

pub returns : goal.returns
returns c =
    let l = c.loop-i in
    let a = c.args in
    passed_within a.self a.a _ _ l.i l.at (omega arith) c.settings_within-valid.ensures l.invariant.3 c.if-not-valid.false l.invariant.4
