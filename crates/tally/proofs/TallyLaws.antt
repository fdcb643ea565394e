-- What a message call leaves in the tally. Assumes nothing.
use Rattle.std.specs.Prelude.{◌≡◌, refl, List, ℕ, ◌+◌, ◌≤◌, length}
use Rattle.std.proofs.Math.Path.{ap}
use Rattle.std.proofs.Common.{arith}
use Rattle.std.proofs.lemmas.Bool.{lt-leb}
use Rattle.refusal.specs.Numbers.{number_of}
use Rattle.refusal.proofs.NumbersLaws.{nine_or_more}
use Rattle.state.specs.declared.Receiver.{Receiver}
use Rattle.answers.specs.declared.Answer.{Answer}
use Rattle.answers.specs.declared.Outcome.{Outcome}
use Rattle.answers.specs.declared.Outcome.TheVariants.{Refused, Stored, Delivered}
use Rattle.answers.specs.Told.{RefusedAs, outcome_told, message_told}
use Rattle.rules.proofs.calls.ExactlyLaws.{message_refuses, message_given}
use Rattle.rules.specs.calls.Message.{refused, message_answer}
use Rattle.tally.specs.declared.Tally.{Tally}
use Rattle.tally.specs.Tally.{most, stopping, counted, SaveACount, counted_by}

-- ---- one call

module _ (t : Tally) (w : Receiver) (storage packet : List ℕ) where
  abbrev answer : Answer
  answer = message_answer w (length storage) packet

  pub save_a_count : (k : ℕ) → RefusedAs (message_told (message_answer w (length storage) packet)).outcome.number k → SaveACount t w storage packet
  unfolding refused
  save_a_count k e =
      let given = message_given w storage packet k e in
      let r = message_refuses w storage packet k given in
      record { same_state = ap (λ (a : Answer). a.state) r.1.1.0; same_storage = r.1.1.1; one_refusal_lem = ap (λ (a : Answer). counted t a.outcome) r.1.1.0 }

  -- "one count of answers 0 and 1, one of refusals": which count grows is told by 01's number alone.
  pub by_number : counted t (message_answer w (length storage) packet).outcome
      ≡ counted_by t (message_told (message_answer w (length storage) packet)).outcome.number
  by_number = by answer.outcome
    where
      by : (o : Outcome) → counted t o ≡ counted_by t (outcome_told o).number
      by (Refused r age) = rw (lt-leb (number_of r) 1 (omega (arith, nine_or_more r)))
      by Stored = refl
      by (Delivered v) = refl

-- ---- a count

pub never_falls : (k : ℕ) → k ≤ most → k ≤ stopping (k + 1)
never_falls k h = omega (arith, h)

pub never_passes : (k : ℕ) → stopping k ≤ most
never_passes k = omega arith
