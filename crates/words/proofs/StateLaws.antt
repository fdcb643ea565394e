-- Laws of words that are a state: each sender's words say the sender, and what is known of them all. Assumes nothing.
use Rattle.std.specs.Prelude.{ℕ, zero, suc, ◌≤◌, ◌<◌, ◌≡◌, true, ◌&&◌, List, eqb, leb, length}
use Rattle.std.proofs.Common.{⊎_elim, arith, eqb-true, eq-eqb, leb-true, le-leb}
use Rattle.octets.specs.Split.{lt_or_le, and_left, and_right}
use Rattle.state.specs.State.{senders_most, no_sender, sender_at}
use Rattle.words.proofs.ListedLaws.{listed_at}
use Rattle.words.specs.Words.{words_most, word, record_at, sender_of, fits, senders_in, state_in, fit_to, is_state}

-- ---- the senders

pub sender_in_lem : (l : List ℕ) (i : ℕ) → i < senders_most → sender_at (state_in l) i ≡ sender_of (record_at l i)
unfolding senders_in
sender_in_lem l i h = listed_at no_sender (λ k. sender_of (record_at l k)) senders_most i h

pub fit_each : (l : List ℕ) (k : ℕ) → fit_to l k ≡ true → (i : ℕ) → i < k → fits (record_at l i) ≡ true
unfolding fit_to
fit_each l zero e i h = absurd (omega arith)
fit_each l (suc k) e i h = ⊎_elim
    (λ (q : i < k). fit_each l k (and_left (fit_to l k) (fits (record_at l k)) e) i q)
    (λ (q : k ≤ i).
    let z : i ≡ k = omega arith in
    rw z (and_right (fit_to l k) (fits (record_at l k)) e))
    (lt_or_le i k)

-- ---- words that are a state

pub record IsState (l : List ℕ) : Type 0 where
  pub many : length l ≡ words_most
  pub test : word l 0 ≤ 1
  pub few : word l 4 ≤ senders_most
  pub fit : fit_to l (word l 4) ≡ true

pub state_facts : (l : List ℕ) → is_state l ≡ true → IsState l
unfolding is_state
state_facts l e =
    let a1 = eqb (length l) words_most in
    let a2 = leb (word l 0) 1 in
    let a3 = leb (word l 4) senders_most in
    let e3 = and_left (a1 && a2 && a3) (fit_to l (word l 4)) e in
    let e2 = and_left (a1 && a2) a3 e3 in
    record {
      many = eqb-true (length l) words_most (and_left a1 a2 e2);
      test = leb-true (word l 0) 1 (and_right a1 a2 e2);
      few = leb-true (word l 4) senders_most (and_right (a1 && a2) a3 e3);
      fit = and_right (a1 && a2 && a3) (fit_to l (word l 4)) e;
    }

pub state_of_lem : (l : List ℕ) → IsState l → is_state l ≡ true
unfolding is_state
state_of_lem l f = rw (eq-eqb (length l) words_most f.many, le-leb (word l 0) 1 f.test, le-leb (word l 4) senders_most f.few, f.fit)
