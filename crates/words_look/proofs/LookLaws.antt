-- Laws of a look at a state's words: what is known where number 9 does not apply, and that the place that is found is
-- the sender's in the state. Assumes nothing.
use Prim.Native.Nat.{ℕ, zero, suc, ◌+◌, ◌≤◌, ◌<◌}
use Rattle.std.specs.Prelude.{◌≡◌, Bool, true, false, cond, ◌&&◌, List, length}
use Rattle.std.proofs.Math.Path.{refl, sym}
use Rattle.std.proofs.Common.{ap, add-one}
use Rattle.std.proofs.Math.Logic.{⊎_elim}
use native.Mathlib.Omega.{arith}
use borrow.Author.Tests.{lt-ltb, le-ltb}
use Rattle.octets.specs.Split.{lt_or_le, true_or_false, not_both, and_left, and_right}
use Rattle.state.specs.declared.Address.{Address}
use Rattle.state.specs.declared.Look.{Look}
use Rattle.state.specs.Limits.{same_address, valid}
use Rattle.state.specs.State.{senders_most, first_where}
use Rattle.state.specs.Table.{find, look_at}
use Rattle.state.proofs.TableLaws.{look_outside}
use Rattle.words.specs.Words.{place, words_most, word, address_in, senders_in, state_in, is_state}
use Rattle.words.proofs.StateLaws.{state_facts}
use Rattle.words_look.specs.Look.{is_held, outside, look_in, place_in}
use Rattle.words_look.proofs.AddressLaws.{address_in_lem}

-- ---- number 9

-- A state within its limits, in words that are a state.
pub record Held (l : List ℕ) : Type 0 where
  pub means_state : is_state l ≡ true
  pub is_valid : valid (state_in l) ≡ true

-- The look tells whether the words are a state within its limits.
pub look_tells : (l : List ℕ) (a : Address) → (look_in l a).valid ≡ is_held l
unfolding look_in look_at is_held
look_tells l a = by (is_state l)
  where
    by : (b : Bool) → (cond b (look_at (state_in l) a) outside).valid ≡ b && valid (state_in l)
    by true = refl
    by false = refl

module _ (l : List ℕ) where
  pub held_by : is_held l ≡ true → Held l
  unfolding is_held
  held_by e = record { means_state = and_left (is_state l) (valid (state_in l)) e; is_valid = and_right (is_state l) (valid (state_in l)) e }

  pub nine_unless : (Held l → ⊥) → false ≡ is_held l
  unfolding is_held
  nine_unless never = sym (not_both (is_state l) (valid (state_in l)) (λ is ok. never (record { means_state = is; is_valid = ok })))

  -- Where it is told, the words are no state, or the state that they are is outside its limits.
  pub nine_by : (P : Type 0) → is_held l ≡ false → (is_state l ≡ false → P) → (is_state l ≡ true → valid (state_in l) ≡ false → P) → P
  unfolding is_held
  nine_by P e none outside-limits = ⊎_elim (λ (is : is_state l ≡ true). outside-limits is (rw is at e)) none (true_or_false (is_state l))

  pub outside_nine : (a : Address) → is_held l ≡ false → outside ≡ look_in l a
  unfolding look_in
  outside_nine a e = nine_by (outside ≡ look_in l a) e (λ no. rw no) (λ is no. rw is (look_outside (state_in l) a no))

-- ---- the sender's place

module _ (l : List ℕ) (a : Address) where
  -- Where no place before has it, it is found here,
  pub place_here : (i : ℕ) → place_in l a i ≡ i → same_address (address_in (word l (place i))) a ≡ true → (k : ℕ) → i < k → place_in l a k ≡ i
  unfolding place_in
  place_here i none here zero less = absurd (omega arith)
  place_here i none here (suc k) less = ⊎_elim
      (λ (q : i < k). rw (place_here i none here k q, lt-ltb i k q))
      (λ (q : k ≤ i).
      let z : k ≡ i = omega arith in
      rw (z, none, here, le-ltb i i (omega arith)))
      (lt_or_le i k)

  -- or not.
  pub place_none : (i : ℕ) → place_in l a i ≡ i → same_address (address_in (word l (place i))) a ≡ false → place_in l a (i + 1) ≡ i + 1
  unfolding place_in
  place_none i none not_here = rw (add-one i, none, not_here, le-ltb i i (omega arith))

  -- That place is where the state's table has the sender.
  pub place_find : (k : ℕ) → k ≤ senders_most → length l ≡ words_most → place_in l a k ≡ find (senders_in l) a k
  unfolding place_in first_where
  place_find zero few many = refl
  place_find (suc k) few many = rw (place_find k (omega arith) many, address_in_lem l many k (omega arith))

  pub look_held : Held l → record { valid = true; at = place_in l a (word l 4) } ≡ look_in l a
  unfolding look_in look_at
  look_held h =
      let f = state_facts l h.means_state in
      rw (h.means_state, h.is_valid, place_find (word l 4) f.few f.many)

  pub place_held : Held l → place_in l a (word l 4) ≡ (look_in l a).at
  place_held h = ap (λ (k : Look). k.at) (look_held h)
