-- What the multicast call looks at in words is what it looks at in the state that they are. Assumes nothing.
use Rattle.std.specs.Prelude.{ℕ, ◌≡◌, true, false, List, length}
use Rattle.std.proofs.Common.{sym, ◌∙◌}
use Rattle.std.proofs.Math.Path.{ap}
use Rattle.std.proofs.Math.Logic.{⊎_elim}
use Rattle.octets.specs.Split.{true_or_false}
use Rattle.header.specs.declared.Head.{Head}
use Rattle.header.specs.Head.{head_of}
use Rattle.state.specs.declared.Address.{Address}
use Rattle.state.specs.declared.Look.{Look}
use Rattle.state.specs.Limits.{valid}
use Rattle.state.specs.Table.{source, look_at}
use Rattle.state.proofs.TableLaws.{look_valid}
use Rattle.answers.specs.declared.Listener.{Listener}
use Rattle.answers.specs.declared.Outcome.{Outcome}
use Rattle.answers.specs.declared.Where.{Where}
use Rattle.rules.specs.calls.Admit.{none_dropped}
use Rattle.rules.specs.calls.Multicast.{Tables, handed_by}
use Rattle.rules.proofs.calls.MulticastLaws.{multicast_nine}
use Rattle.multicast.proofs.LentLaws.{Left, found_by, call_left, left_outside}
use Rattle.words.specs.Words.{is_state, state_in}
use Rattle.words_look.specs.Look.{look_in}
use Rattle.words_look.proofs.HeldLaws.{look_in_lem, look_so, count_octet, n1_octets, groups_octet}
use Rattle.board.specs.declared.Told.{Told}
use Rattle.board.specs.Calls.{in_numbers, refused_with, multicast_for, tables_for}
use Rattle.board_multicast.specs.private.Heard.{listener_in}

-- What the call answered, and the tables that it left.
abbrev pub Met : List ℕ → Tables → ℕ → List ℕ → Told → (versions numbers : List ℕ) → Type 0
Met l t g packet r versions numbers =
    (r ≡ multicast_for l t g packet) × ((versions ≡ (tables_for l t g packet).versions) × (numbers ≡ (tables_for l t g packet).numbers))

module _ (l : List ℕ) (t : Tables) (g : ℕ) (packet : List ℕ) (h : Head) (a : Address) (k : Look) (s : Listener)
    (eh : h ≡ head_of packet) (ea : a ≡ source h) (el : k ≡ look_in l a) (es : s ≡ listener_in l k)
    (o : Outcome) (p : Where) (versions numbers : List ℕ) (left : Left s t g packet h o versions numbers) (ep : p ≡ handed_by o) where
  abbrev told : Told
  told = in_numbers o 0 none_dropped p (length packet)

  -- In a state within its limits.
  met_held : k.valid ≡ true → Met l t g packet told versions numbers
  unfolding multicast_for tables_for
  met_held v =
      let held = look_so l a k el v in
      let is = held.means_state in
      let look : k ≡ look_at (state_in l) (source h) = look_in_lem l a k el is ∙ ap (look_at (state_in l)) ea in
      let same : s ≡ found_by (state_in l) t g packet h k eh look = es ∙ rw (n1_octets l held.is_valid, count_octet l is, groups_octet l held.is_valid) in
      let by_value = call_left (state_in l) t g packet h k eh look o p versions numbers (rw same at left) ep in
      (rw is (rw (← by_value.0)), (rw is by_value.1.0, rw is by_value.1.1))

  -- Words that are no state, or one outside its limits.
  met_outside : k.valid ≡ false → Met l t g packet told versions numbers
  unfolding multicast_for tables_for
  met_outside v =
      let nine = left_outside s t g packet h (rw es v) o versions numbers left in
      let refused : told ≡ refused_with 9 = rw (ep, nine.0) in
      ⊎_elim
      (λ (is : is_state l ≡ true).
      let look = look_in_lem l a k el is in
      let by_value = multicast_nine (state_in l) t g packet (sym (look_valid (state_in l) a k look) ∙ v) in
      (refused ∙ rw (is, by_value.0), (nine.1 ∙ rw (is, by_value.1), nine.2 ∙ rw (is, by_value.1))))
      (λ (not_so : is_state l ≡ false). (refused ∙ rw not_so, (nine.1 ∙ rw not_so, nine.2 ∙ rw not_so)))
      (true_or_false (is_state l))

  pub met : (r : Told) → r ≡ told → Met l t g packet r versions numbers
  met r e =
      let m = ⊎_elim met_held met_outside (true_or_false k.valid) in
      (e ∙ m.0, m.1)
