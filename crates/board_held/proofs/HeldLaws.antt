-- The number kept, by the words of the sender at a place. Assumes nothing.
use Rattle.std.specs.Prelude.{ℕ, ◌≤◌, ◌<◌, ◌≡◌, true, false, List}
use Rattle.std.proofs.Math.Path.{sym, ap}
use Rattle.std.proofs.Common.{◌∙◌, ⊎_elim, arith}
use Rattle.octets.specs.Split.{true_or_false}
use Rattle.state.specs.declared.Sender.{Sender}
use Rattle.state.proofs.HeldLaws.{held_open, held_shut, held_past, held_beyond}
use Rattle.state.specs.State.{senders_most, no_sender, sender_at}
use Rattle.words.specs.declared.Record.{Record}
use Rattle.words.proofs.ListedLaws.{length_listed}
use Rattle.words.specs.Shown.{shown}
use Rattle.words.proofs.StateLaws.{sender_in_lem}
use Rattle.words.specs.Words.{word, record_at, flag, sender_of, senders_in, state_in}
use Rattle.board.specs.Calls.{held_for}

module _ (l : List ℕ) (i : ℕ) where
  pub past_senders : word l 4 ≤ i → 0 ≡ held_for l i
  past_senders h = sym (held_past (state_in l) i h)

  pub past_places : senders_most ≤ i → 0 ≡ held_for l i
  unfolding senders_in
  past_places h = sym (held_beyond (state_in l) i (omega (arith, h, length_listed no_sender (λ k. sender_of (record_at l k)) senders_most)))

  pub at_sender : i < word l 4 → i < senders_most → (r : Record) → r ≡ record_at l i → (s : Sender) → s ≡ shown r → s.message.held ≡ held_for l i
  unfolding shown
  at_sender here few r er s es =
      let is : sender_at (state_in l) i ≡ sender_of r = sender_in_lem l i few ∙ ap sender_of (sym er) in
      rw es (⊎_elim
      (λ (yes : flag r.«open» ≡ true). rw yes (sym (held_open (state_in l) i here (rw is yes) ∙ rw is)))
      (λ (no : flag r.«open» ≡ false). rw no (sym (held_shut (state_in l) i (rw is no))))
      (true_or_false (flag r.«open»)))
