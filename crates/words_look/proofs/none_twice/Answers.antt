-- After i turns the addresses of the first i senders have been seen, and are new. Assumes nothing.
use Prim.Native.Nat.{ℕ, ◌%◌}
use mathlib.Core.Path.{ap, ◌∙◌}
use Rattle.words.specs.Words.{half, word}
use Rattle.words_look.proofs.private.TestsLaws.{apart_none, apart_not, apart_more}
use Rattle.words_look.proofs.none_twice.Goals as goal

pub loop-i-init : goal.loop-i-init
loop-i-init c = apart_none c.args.words.now c.args.count

pub returns-then-not-fresh : goal.returns-then-not-fresh
returns-then-not-fresh c =
    let l = c.args.words.now in
    let key = ap (λ (w : ℕ). w % half) (c.at.ensures ∙ ap (word l) c.first_of.ensures) in
    apart_not c.loop-i.invariant c.requires.sized c.requires.count_value c.loop-i-test.true key c.fresh.ensures c.if-not-fresh.true

pub loop-i-preserved : goal.loop-i-preserved
loop-i-preserved c =
    let l = c.args.words.now in
    let key = ap (λ (w : ℕ). w % half) (c.at.ensures ∙ ap (word l) c.first_of.ensures) in
    apart_more c.loop-i.invariant c.requires.sized c.requires.count_value c.loop-i-test.true key c.fresh.ensures c.if-not-fresh.false
