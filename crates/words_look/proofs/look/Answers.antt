-- Number 9, and the place where it does not apply. Assumes nothing.
use Prim.Native.Nat.{ℕ, ◌%◌}
use mathlib.Core.Path.{sym, ap, ◌∙◌}
use Rattle.words_look.proofs.LookLaws.{held_by, outside_nine, look_held}
use Rattle.words_look.proofs.HeldLaws.{count_octet}
use Rattle.words_look.proofs.look.Goals as goal

pub returns-then-not-within : goal.returns-then-not-within
returns-then-not-within c =
    let a = c.args in
    outside_nine a.words.now a.a (sym c.within.ensures ∙ c.if-not-within.true)

pub returns : goal.returns
returns c =
    let a = c.args in
    let held = held_by a.words.now (sym c.within.ensures ∙ c.if-not-within.false) in
    let count = ap (λ (w : ℕ). w % 256) c.at.ensures ∙ count_octet a.words.now held.means_state in
    rw (c.place_of.ensures, count) (look_held a.words.now a.a held)
