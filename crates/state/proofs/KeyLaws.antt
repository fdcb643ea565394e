-- Addresses that were seen, kept as numbers, tell what the addresses themselves would tell. Assumes nothing.
use Rattle.std.specs.Prelude.{◌≡◌, refl, ◌≢◌, Bool, true, ◌&&◌, List, ℕ, zero, suc, ◌+◌, ◌-◌, ◌≤◌, ◌<◌, eqb, leb, length, get_or, set, replicate}
use Rattle.std.proofs.Common.{sym, ap, ◌∙◌, ⊎_elim, arith, get_or-set_same, get_or-set_other, eqb-true, eq-eqb, ne_eqb, leb-true}
use Rattle.std.proofs.Math.Bool.{and-true}
use Rattle.std.proofs.Math.Numerals.{unary_clauses}
use Rattle.octets.specs.Split.{eq_or_ne, same_test, both, and_left, and_right}
use Rattle.state.specs.declared.Address.{Address}
use Rattle.header.specs.Codes.{is_data_field, is_node}
use Rattle.state.specs.Limits.{is_address, same_address, new_among}
use Rattle.state.specs.Key.{key_of, Narrow, new_key}
use Rattle.state.specs.State.{senders_most}

pub same_key : (a b : Address) → Narrow a → Narrow b → eqb (key_of a) (key_of b) ≡ same_address a b
unfolding key_of
same_key a b p q =
    let fields = eqb a.field.0 b.field.0 in
    let nodes = eqb a.node.0 b.node.0 in
    same_test (eqb (key_of a) (key_of b)) (fields && nodes)
    (λ e.
    let k = eqb-true (key_of a) (key_of b) e in
    both fields nodes (eq-eqb a.field.0 b.field.0 (omega (arith, k))) (eq-eqb a.node.0 b.node.0 (omega (arith, k))))
    (λ e.
    let f = eqb-true a.field.0 b.field.0 (and_left fields nodes e) in
    let n = eqb-true a.node.0 b.node.0 (and_right fields nodes e) in
    eq-eqb (key_of a) (key_of b) (omega (arith, f, n)))

-- The first i keys are those of the addresses f 0 to f (i - 1), and the rest are 0, which is no sender's.
pub record Seen (keys : List ℕ) (f : ℕ → Address) (i : ℕ) : Type 0 where
  pub key : (j : ℕ) → j < i → get_or keys j 0 ≡ key_of (f j)
  pub narrow : (j : ℕ) → j < i → Narrow (f j)
  pub rest : (j : ℕ) → i ≤ j → get_or keys j 0 ≡ 0

pub seen_none : (f : ℕ → Address) → Seen (replicate senders_most 0) f 0
seen_none f = record {
  key = λ j h. absurd (omega arith);
  narrow = λ j h. absurd (omega arith);
  rest = λ j h. zeros senders_most j;
}
  where
    zeros : (n j : ℕ) → ◌≡◌ {A = ℕ} (get_or (replicate n 0) j 0) 0
    zeros zero j = refl
    zeros (suc n) zero = refl
    zeros (suc n) (suc j) = zeros n j

-- The next address is seen, with its key x.
pub seen_more : (keys : List ℕ) (f : ℕ → Address) (i x : ℕ) → i < length keys → (x ≡ key_of (f i)) × Narrow (f i) → Seen keys f i
    → Seen (set keys i x) f (i + 1)
seen_more keys f i x room e s = record {
  key = λ j h. ⊎_elim
      (λ (z : j ≡ i). rw z (get_or-set_same keys i x 0 room ∙ e.0))
      (λ (z : j ≢ i). get_or-set_other keys i j x 0 z ∙ s.key j (omega arith))
      (eq_or_ne j i);
  narrow = λ j h. ⊎_elim
      (λ (z : j ≡ i). rw z e.1)
      (λ (z : j ≢ i). s.narrow j (omega arith))
      (eq_or_ne j i);
  rest = λ j h. get_or-set_other keys i j x 0 (λ z. omega (arith, z)) ∙ s.rest j (omega arith);
}

new_key_lem : (keys : List ℕ) (f : ℕ → Address) (i k : ℕ) (a : Address) → Narrow a → Seen keys f i → k ≤ i → new_key keys k (key_of a) ≡ new_among f k a
unfolding new_key new_among
new_key_lem keys f i zero a n s h = refl
new_key_lem keys f i (suc k) a n s h =
    rw (new_key_lem keys f i k a n s (omega arith), s.key k (omega arith), same_key (f k) a (s.narrow k (omega arith)) n)

-- An address within its limits has a key that is not 0, so the rest is none of it,
new_rest : (keys : List ℕ) (i k x : ℕ) → ((j : ℕ) → i ≤ j → get_or keys j 0 ≡ 0) → 0 < x → new_key keys (i + k) x ≡ new_key keys i x
unfolding new_key
new_rest keys i zero x rest h = simp unary_clauses
new_rest keys i (suc k) x rest h =
    let new = ne_eqb 0 x (λ z. omega (arith, z)) in
    simp (unary_clauses, rest (i + k) (omega arith), new_rest keys i k x rest h, new) (and-true (new_key keys i x))

-- and its key is new where the address is.
pub new_seen : (keys : List ℕ) (f : ℕ → Address) (i x : ℕ) (new : Bool) → i ≤ senders_most → (x ≡ key_of (f i)) × Narrow (f i) → Seen keys f i
    → is_address (f i) ≡ true → new ≡ new_key keys senders_most x → new ≡ new_among f i (f i)
unfolding key_of
new_seen keys f i x new few e s within n =
    let field = leb-true 1 (f i).field.0 (and_left (leb 1 (f i).field.0) _ (and_left (is_data_field (f i).field.0) (is_node (f i).node.0) within)) in
    let all : i + (senders_most - i) ≡ senders_most = omega arith in
    n ∙ ap (λ (k : ℕ). new_key keys k x) (sym all) ∙ new_rest keys i (senders_most - i) x s.rest (omega (arith, e.0)) ∙ rw e.0 (new_key_lem keys f i i (f i) e.1 s (omega arith))
