-- Laws of the number kept: case by case, and that 9 holds it to the map. Assumes nothing.
use Rattle.std.specs.Prelude.{ℕ, ◌≤◌, ◌<◌, ◌≡◌, ◌≢◌, true, false, cond, ltb, length}
use Rattle.std.proofs.Common.{◌∙◌, ⊎_elim, lt-ltb, le-ltb}
use Rattle.std.proofs.Math.Bool.{and-false}
use Rattle.std.specs.Int.Count.{ones}
use Rattle.std.proofs.Math.ListN.{get_or-eq_default}
use Rattle.octets.specs.Split.{true_or_false}
use Rattle.state.specs.declared.Receiver.{Receiver}
use Rattle.state.specs.Held.{held_at}
use Rattle.state.specs.Limits.{valid}
use Rattle.state.specs.State.{no_sender, sender_at}
use Rattle.state.proofs.WithinLaws.{message_facts, valid_sender}

module _ (w : Receiver) (i : ℕ) where
  pub held_open : i < w.count → (sender_at w i).«open» ≡ true → held_at w i ≡ (sender_at w i).message.held
  unfolding held_at
  held_open here is = rw (lt-ltb i w.count here, is)

  pub held_shut : (sender_at w i).«open» ≡ false → held_at w i ≡ 0
  unfolding held_at
  held_shut is = rw (is, and-false (ltb i w.count))

  pub held_past : w.count ≤ i → held_at w i ≡ 0
  unfolding held_at
  held_past past = rw (le-ltb i w.count past)

  -- No sender stands past the table.
  pub held_beyond : length w.senders ≤ i → held_at w i ≡ 0
  held_beyond past =
      let none : sender_at w i ≡ no_sender = get_or-eq_default w.senders no_sender past in
      held_shut (rw none)

  -- ---- 9

  abbrev ones_here : ℕ
  ones_here = ones (sender_at w i).message.map

  -- In a state within its limits it is "equal to the number of ones in the map",
  pub kept_is_ones : valid w ≡ true → i < w.count → (sender_at w i).«open» ≡ true → (sender_at w i).message.held ≡ ones_here
  kept_is_ones ok here is = (message_facts w.clock (sender_at w i).message ((valid_sender w ok i here).message is)).held

  pub held_is_ones : valid w ≡ true → i < w.count → held_at w i ≡ cond (sender_at w i).«open» ones_here 0
  held_is_ones ok here = ⊎_elim
      (λ (is : (sender_at w i).«open» ≡ true). rw is (held_open here is ∙ kept_is_ones ok here is))
      (λ (no : (sender_at w i).«open» ≡ false). rw no (held_shut no))
      (true_or_false (sender_at w i).«open»)

  -- and "a state where they differ meets 9".
  pub differ_nine : i < w.count → (sender_at w i).«open» ≡ true → (sender_at w i).message.held ≢ ones_here → valid w ≡ false
  differ_nine here is differ = ⊎_elim
      (λ (ok : valid w ≡ true). absurd (differ (kept_is_ones ok here is)))
      (λ no. no)
      (true_or_false (valid w))
