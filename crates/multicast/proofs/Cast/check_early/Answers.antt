-- Each return is the refusal of the first row that applies. Assumes nothing.
use Prim.Native.Nat.{ℕ}
use mathlib.Core.Path.{◌≡◌, sym, ap, ◌∙◌}
use mathlib.Core.Bool.{Bool}
use borrow.Author.Tests.{le-leb, lt-leb}
use Rattle.rules.specs.calls.First.{checked}
use Rattle.rules.specs.calls.Multicast.{Tables, tables_within}
use Rattle.multicast.proofs.Cast.check_early.Goals as goal

-- The tables are judged by as many entries as they should have.
judged : (n k : ℕ) (t : Tables) (within b : Bool) → k ≡ n → within ≡ tables_within k t → within ≡ b → tables_within n t ≡ b
judged n k t within b e f g = ap (λ (j : ℕ). tables_within j t) (sym e) ∙ sym f ∙ g

pub returns-then-not-self : goal.returns-then-not-self
unfolding checked
returns-then-not-self c = rw c.if-not-self.true

pub returns-then-not-within : goal.returns-then-not-within
unfolding checked
returns-then-not-within c =
    simp (c.if-not-self.false, judged _ _ _ _ _ c.entries.ensures c.within.ensures c.if-not-within.true)

pub returns-then-length_outside : goal.returns-then-length_outside
unfolding checked
returns-then-length_outside c =
    simp (
      c.if-not-self.false,
      judged _ _ _ _ _ c.entries.ensures c.within.ensures c.if-not-within.false,
      sym c.length_outside.ensures ∙ c.if-length_outside.true,
    )

pub returns-then-not-head_within : goal.returns-then-not-head_within
unfolding checked
returns-then-not-head_within c =
    simp (
      c.if-not-self.false,
      judged _ _ _ _ _ c.entries.ensures c.within.ensures c.if-not-within.false,
      sym c.length_outside.ensures ∙ c.if-length_outside.false,
      sym c.head_within.ensures ∙ c.if-not-head_within.true,
    )

pub returns-then-self : goal.returns-then-self
unfolding checked
returns-then-self c =
    simp (
      c.if-not-self.false,
      judged _ _ _ _ _ c.entries.ensures c.within.ensures c.if-not-within.false,
      sym c.length_outside.ensures ∙ c.if-length_outside.false,
      sym c.head_within.ensures ∙ c.if-not-head_within.false,
      le-leb _ _ c.if-self.true,
    )

pub returns : goal.returns
unfolding checked
returns c =
    c.check_group.ensures ∙ simp (
      c.if-not-self.false,
      judged _ _ _ _ _ c.entries.ensures c.within.ensures c.if-not-within.false,
      sym c.length_outside.ensures ∙ c.if-length_outside.false,
      sym c.head_within.ensures ∙ c.if-not-head_within.false,
      lt-leb _ _ c.if-self.false,
    )
