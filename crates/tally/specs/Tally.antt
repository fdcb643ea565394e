-- The maintenance tally: "one record of the caller's, counted up where it stands: one count of answers 0 and 1, one of
-- refusals, each stopping at 4,294,967,295."
use Rattle.std.specs.Prelude.{ℕ, ◌+◌, min, ◌≡◌, cond, List, leb, length}
use Rattle.state.specs.declared.Receiver.{Receiver}
use Rattle.answers.specs.declared.Outcome.{Outcome}
use Rattle.rules.specs.calls.Message.{message_answer, message_storage}
use Rattle.answers.specs.Told.{outcome_refused}
use Rattle.tally.specs.declared.Tally.{Tally}

-- "each stopping at 4,294,967,295"
abbrev pub most : ℕ
most = 4294967295

abbrev pub stopping : ℕ → ℕ
stopping k = min k most

-- The record after one more answer, and after one more refusal.
abbrev pub one_answer : Tally → Tally
one_answer t = record { answers = stopping (t.answers + 1); refusals = t.refusals }

abbrev pub one_refusal : Tally → Tally
one_refusal t = record { answers = t.answers; refusals = stopping (t.refusals + 1) }

-- "one count of answers 0 and 1, one of refusals": 0 is stored, 1 is delivered.
abbrev pub counted : Tally → Outcome → Tally
counted t o = cond (outcome_refused o) (one_refusal t) (one_answer t)

-- The same by 01's numbers.
abbrev pub counted_by : Tally → ℕ → Tally
counted_by t n = cond (leb n 1) (one_answer t) (one_refusal t)

-- "A refusal changes neither the state nor one octet of lent memory, save a count of refusals"
pub record SaveACount (t : Tally) (w : Receiver) (storage packet : List ℕ) : Type 0 where
  pub same_state : (message_answer w (length storage) packet).state ≡ w
  pub same_storage : message_storage w storage packet ≡ storage
  pub one_refusal_lem : counted t (message_answer w (length storage) packet).outcome ≡ one_refusal t
