-- The entries before each place have been judged. Assumes nothing.
use Rattle.std.proofs.Common.{◌≡◌, refl, sym, ap, ◌∙◌, arith}
use native.Mathlib.Numerals.{add-one}
use borrow.Author.Tests.{eq-eqb}
use Rattle.state.specs.Limits.{last_within}
use Rattle.rules.specs.calls.Multicast.{each_entry, tables_within}
use Rattle.rules.proofs.calls.MulticastLaws.{entries_more}
use Rattle.multicast.specs.Lent.{tables}
use Rattle.multicast.proofs.LentLaws.{versions_wrong, numbers_wrong}
use Rattle.multicast.proofs.Tables.within.Goals as goal

pub returns-then-self-entries : goal.returns-then-self-entries
returns-then-self-entries c = versions_wrong _ _ c.if-self-entries.true

pub returns-then-self-entries-2 : goal.returns-then-self-entries-2
returns-then-self-entries-2 c = numbers_wrong _ _ c.if-self-entries-2.true

pub loop-place-init : goal.loop-place-init
unfolding each_entry
loop-place-init c = refl

pub loop-place-preserved : goal.loop-place-preserved
loop-place-preserved c =
    let t = tables c.args.self.versions.now c.args.self.numbers.now in
    let judged = c.within-within.ensures ∙ ap last_within c.last.ensures in
    rw (add-one c.loop-place.place) (entries_more t c.loop-place.place _ _ c.loop-place.invariant judged)

pub returns : goal.returns
unfolding tables_within
returns c =
    let z : c.loop-place.place ≡ c.args.entries = omega arith in
    rw (eq-eqb _ _ c.if-self-entries.false, eq-eqb _ _ c.if-self-entries-2.false, sym z) c.loop-place.invariant
