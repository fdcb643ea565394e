-- The question of words: after i turns nothing of the first i senders is open. Assumes nothing.
use Rattle.std.specs.Prelude.{ℕ, ◌+◌, ◌<◌, ◌≡◌, ◌≢◌, true, false, List}
use Rattle.std.proofs.Math.Path.{sym}
use Rattle.std.proofs.Common.{ap, ◌∙◌, below_more}
use borrow.Author.Tests.{eq-eqb, ne_eqb, lt-ltb}
use Rattle.map.specs.Map.{lowest_missing}
use Rattle.state.specs.declared.Sender.{Sender}
use Rattle.state.specs.State.{sender_at, first_where}
use Rattle.rules.specs.calls.First.{checked}
use Rattle.rules.specs.calls.Question.{question_answer}
use Rattle.rules.proofs.calls.QuestionLaws.{first_of, question_none, question_nine}
use Rattle.words.specs.declared.Record.{Record}
use Rattle.words.specs.Words.{word, record_at, flag, senders_in, state_in}
use Rattle.words_look.specs.Look.{is_held}
use Rattle.words_look.proofs.LookLaws.{Held, nine_by}
use Rattle.words_look.proofs.HeldLaws.{sender_here}
use Rattle.board.specs.Calls.{none_missing, question_for}

module _ (l : List ℕ) where
  pub met_nine : is_held l ≡ false → none_missing 9 ≡ question_for l
  unfolding question_for
  met_nine e = nine_by l (none_missing 9 ≡ question_for l) e (λ no. rw no) (λ is no. rw (is, sym (question_nine (state_in l) no)))

  -- Nothing of the first i senders is open.
  abbrev pub NoneTo : ℕ → Type 0
  NoneTo i = (j : ℕ) → j < i → (sender_at (state_in l) j).«open» ≡ false

  module _ (h : Held l) where
    open_is : (i : ℕ) → i < word l 4 → (r : Record) → r ≡ record_at l i → (sender_at (state_in l) i).«open» ≡ flag r.«open»
    open_is i less r er = ap (λ (s : Sender). s.«open») (sender_here l h i less r er)

    pub none_more : (i : ℕ) → i < word l 4 → NoneTo i → (r : Record) → r ≡ record_at l i → r.«open» ≢ 1 → NoneTo (i + 1)
    none_more i less none r er shut = below_more _ _ none (open_is i less r er ∙ ne_eqb r.«open» 1 shut)

    pub met_piece : (i : ℕ) → i < word l 4 → NoneTo i → (r : Record) → r ≡ record_at l i → r.«open» ≡ 1 → (piece : ℕ) → piece ≡ lowest_missing r.map
        → record { number = 0; «open» = true; sender = i; piece = piece } ≡ question_for l
    unfolding question_for question_answer checked
    met_piece i less none r er is_open piece e =
        let here : first_where (λ s. s.«open») (senders_in l) (word l 4) ≡ i = first_of (λ s. s.«open») (senders_in l) (word l 4) i less none (open_is i less r er ∙ eq-eqb r.«open» 1 is_open) in
        rw (h.means_state, h.is_valid, here, lt-ltb i (word l 4) less, sender_here l h i less r er, e)

    pub met_none : (i : ℕ) → i ≡ word l 4 → NoneTo i → none_missing 0 ≡ question_for l
    unfolding question_for
    met_none i e none = rw (h.means_state, sym (question_none (state_in l) h.is_valid i e none))
