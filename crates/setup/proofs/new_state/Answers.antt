-- After i turns the first i senders stand in the table. Assumes nothing.
use mathlib.Core.Path.{◌≡◌, ◌∙◌}
use native.Mathlib.Omega.{arith}
use native.Mathlib.Numerals.{add-one}
use borrow.Author.Rules.{rules}
use lib.ListN.{length-set}
use Rattle.octets.specs.Split.{mapped_length}
use Rattle.rules.specs.calls.Setup.{new_senders}
use Rattle.setup.proofs.private.SettledLaws.{settled_few, seated_none, seated_all}
use Rattle.setup.proofs.new_state.Goals as goal

pub loop-i-init : goal.loop-i-init
loop-i-init c =
    let a = c.args in
    let e = c.settled-state.ensures in
    (rw e (settled_few a.q a.within c.requires), search (rules, mapped_length), rw e (seated_none a.q a.within))

pub loop-i-preserved : goal.loop-i-preserved
unfolding new_senders
loop-i-preserved c =
    let l = c.loop-i in
    (omega arith, simp length-set l.invariant.1, rw (add-one l.i, l.invariant.2, c.new-s.ensures))

pub returns : goal.returns
returns c =
    let l = c.loop-i in
    let a = c.args in
    let all : l.i ≡ c.settled-state.result.count = omega arith in
    l.invariant.2 ∙ rw (all, c.settled-state.ensures) (seated_all a.q a.within)
