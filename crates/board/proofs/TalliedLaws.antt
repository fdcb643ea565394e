-- The tally's two words. Assumes nothing.
use Rattle.std.specs.Prelude.{ℕ, ◌+◌, ◌≤◌, ◌<◌, ◌≡◌, refl, Bool, not, cond, List, [], ◌∷◌, leb, length, set}
use Rattle.std.proofs.Common.{sym, ap, ◌∙◌, ⊎_elim, arith, le-leb}
use Rattle.std.proofs.Math.Bool.{true, false}
use Rattle.std.proofs.lemmas.Bool.{lt-leb}
use Rattle.octets.specs.Split.{true_or_false}
use Rattle.answers.specs.declared.Outcome.{Outcome}
use Rattle.answers.specs.declared.Outcome.TheVariants.{Refused, Stored, Delivered}
use Rattle.answers.specs.Told.{outcome_told, outcome_refused}
use Rattle.refusal.specs.Numbers.{number_of}
use Rattle.refusal.proofs.NumbersLaws.{nine_or_more}
use Rattle.rules.specs.calls.Message.{message_answer}
use Rattle.tally.specs.Tally.{stopping, one_answer, one_refusal, counted}
use Rattle.words.specs.Words.{word, is_state, state_in}
use Rattle.board.specs.Calls.{message_for, outcome_for, tally_in, tally_words, tally_for}

-- Which count grows is told by the answer's number.
number_tells : (o : Outcome) → leb (outcome_told o).number 1 ≡ not (outcome_refused o)
number_tells (Refused r age) = lt-leb (number_of r) 1 (omega (arith, nine_or_more r))
number_tells Stored = refl
number_tells (Delivered v) = refl

told_by_lem : (l storage packet : List ℕ) → leb (message_for l (length storage) packet).number 1 ≡ not (outcome_refused (outcome_for l (length storage) packet))
unfolding outcome_for message_for
told_by_lem l storage packet = ⊎_elim
    (λ (is : is_state l ≡ true). rw is (number_tells (message_answer (state_in l) (length storage) packet).outcome))
    (λ (not_so : is_state l ≡ false). rw not_so)
    (true_or_false (is_state l))

module _ (t l storage packet : List ℕ) (number x : ℕ) (told : number ≡ (message_for l (length storage) packet).number) where
  refused_is : (b : Bool) → leb number 1 ≡ not b → outcome_refused (outcome_for l (length storage) packet) ≡ b
  refused_is b e = not_same (outcome_refused (outcome_for l (length storage) packet)) b (sym (told_by_lem l storage packet) ∙ ap (λ (k : ℕ). leb k 1) (sym told) ∙ e)
    where
      not_same : (p q : Bool) → not p ≡ not q → p ≡ q
      not_same true true e = refl
      not_same true false e = sym e
      not_same false true e = sym e
      not_same false false e = refl

  pub tally_answer : number ≤ 1 → x ≡ stopping (word t 0 + 1) → set t 0 x ≡ tally_for t l (length storage) packet
  unfolding tally_for
  tally_answer few e = rw (refused_is false (le-leb number 1 few), e)

  pub tally_refusal : 1 < number → x ≡ stopping (word t 1 + 1) → set t 1 x ≡ tally_for t l (length storage) packet
  unfolding tally_for
  tally_refusal many e = rw (refused_is true (lt-leb number 1 many), e)

-- Of two words it is the record that `tally` counts in.
pub tally_counted : (a b : ℕ) (l : List ℕ) (room : ℕ) (packet : List ℕ)
    → tally_for (a ∷ b ∷ []) l room packet ≡ tally_words (counted (tally_in (a ∷ b ∷ [])) (outcome_for l room packet))
unfolding tally_for
tally_counted a b l room packet = by (outcome_refused (outcome_for l room packet))
  where
    by : (p : Bool) → cond p (a ∷ stopping (b + 1) ∷ []) (stopping (a + 1) ∷ b ∷ []) ≡ tally_words (cond p (one_refusal (tally_in (a ∷ b ∷ []))) (one_answer (tally_in (a ∷ b ∷ []))))
    by true = refl
    by false = refl
