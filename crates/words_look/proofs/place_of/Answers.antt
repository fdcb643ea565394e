-- After i turns no place before i has it. Assumes nothing.
use Rattle.std.specs.Prelude.{ℕ}
use mathlib.Core.Path.{◌≡◌, refl, sym, ap, ◌∙◌}
use native.Mathlib.Omega.{arith}
use borrow.Author.Tests.{eq-eqb, ne_eqb}
use Rattle.state.specs.declared.Address.{Address}
use Rattle.state.specs.Key.{key_of, Narrow}
use Rattle.words.specs.Words.{place, word, address_in}
use Rattle.words.proofs.WordsLaws.{address_back}
use Rattle.words_look.specs.Look.{place_in}
use Rattle.words_look.proofs.AddressLaws.{address_same}
use Rattle.words_look.proofs.LookLaws.{place_here, place_none}
use Rattle.words_look.proofs.place_of.Goals as goal

-- An address is read back from its key.
back : (x : ℕ) (a : Address) → (x ≡ key_of a) × Narrow a → address_in x ≡ a
unfolding key_of
back x a key = rw key.0 (address_back a key.1)

pub loop-i-init : goal.loop-i-init
unfolding place_in
loop-i-init c = refl

pub returns-then-at-wanted : goal.returns-then-at-wanted
returns-then-at-wanted c =
    let a = c.args in
    let own = sym (c.at.ensures ∙ ap (word a.words.now) c.first_of.ensures) in
    sym (place_here a.words.now _ c.loop-i.i c.loop-i.invariant (sym (address_same (word a.words.now (place c.loop-i.i)) c.key-wanted.result) ∙ eq-eqb _ _ (own ∙ c.if-at-wanted.true)) a.count c.loop-i-test.true)
    ∙ ap (λ (x : Address). place_in a.words.now x a.count) (back _ _ (c.key-wanted.ensures.value, c.key-wanted.ensures.narrow))

pub loop-i-preserved : goal.loop-i-preserved
loop-i-preserved c =
    let a = c.args in
    let own = c.at.ensures ∙ ap (word a.words.now) c.first_of.ensures in
    place_none a.words.now _ c.loop-i.i c.loop-i.invariant (sym (address_same (word a.words.now (place c.loop-i.i)) c.key-wanted.result) ∙ ne_eqb _ _ (λ e. c.if-at-wanted.false (own ∙ e)))

pub returns : goal.returns
returns c =
    let l = c.loop-i in
    let a = c.args in
    let z : l.i ≡ a.count = omega arith in
    rw (sym z) (sym l.invariant ∙ ap (λ (x : Address). place_in a.words.now x l.i) (back _ _ (c.key-wanted.ensures.value, c.key-wanted.ensures.narrow)))
