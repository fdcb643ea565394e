-- "One question: of the first sender in table order with an open message, which piece is its lowest missing one? The
-- answer is sender and piece, or "none open"."
use Rattle.std.specs.Prelude.{ℕ, not, cond, List, [], ◌∷◌, ltb, Some, None, Ok, Err}
use Rattle.refusal.specs.declared.Refusal.TheVariants as refusals
use Rattle.map.specs.Map.{lowest_missing}
use Rattle.state.specs.declared.Sender.{Sender}
use Rattle.state.specs.declared.Receiver.{Receiver}
use Rattle.answers.specs.Told.{Missing}
use Rattle.rules.specs.calls.First.{Row, row, checked, by_check}
use Rattle.state.specs.Limits.{valid}
use Rattle.state.specs.State.{sender_at, first_where}

-- "the question 9"
abbrev pub question_rows : Receiver → List Row
question_rows w = row refusals.State (not (valid w)) ∷ []

-- "the first sender in table order with an open message"; the count where there is none.
abbrev pub first_open : Receiver → ℕ
first_open w = first_where (λ s. s.«open») w.senders w.count

-- "with an open message": how many pieces of a sender there are to look for.
abbrev pub pieces_of : Sender → ℕ
pieces_of s = cond s.«open» s.message.tbn 0

-- "which piece is its lowest missing one?"
abbrev pub missing_of : Receiver → ℕ → Missing
missing_of w i = Ok (cond (ltb i w.count) (Some (record { sender = i; piece = lowest_missing (sender_at w i).message.map })) None)

unfoldable pub question_answer : Receiver → Missing
question_answer w = by_check (checked (question_rows w)) (missing_of w (first_open w)) Err
