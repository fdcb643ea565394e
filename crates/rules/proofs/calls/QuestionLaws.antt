-- Laws of the question: what is found by walking over senders and pieces to the first missing one. Assumes nothing.
use Rattle.std.specs.Prelude.{◌≡◌, refl, ◌≢◌, Bool, false, cond, List, ℕ, zero, suc, ◌+◌, ◌-◌, ◌≤◌, ◌<◌, ltb, get_or, Some, None, Ok, Err}
use Rattle.std.proofs.Common.{sym, ap, ◌∙◌, ⊎_elim}
use Rattle.std.proofs.Math.Bool.{true}
use native.Mathlib.Omega.{arith}
use borrow.Author.Tests.{lt-ltb, le-ltb, ltb-true, eqb-true}
use Rattle.octets.specs.Split.{eq_or_ne, true_or_false}
use Rattle.refusal.specs.declared.Refusal.TheVariants as refusals
use Rattle.cut.proofs.PossibleLaws.{several_facts, several_most}
use Rattle.map.specs.Map.{bit, holds, lowest}
use Rattle.map.proofs.MapLaws.{full_only, lowest_first_lem, holds_not}
use Rattle.state.specs.declared.Message.{Message}
use Rattle.state.specs.declared.Sender.{Sender}
use Rattle.state.specs.declared.Receiver.{Receiver}
use Rattle.rules.specs.calls.First.{checked}
use Rattle.state.specs.Limits.{valid}
use Rattle.rules.specs.calls.Question.{first_open, pieces_of, question_answer}
use Rattle.state.specs.State.{no_sender, sender_at, first_where}
use Rattle.state.proofs.WithinLaws.{MessageWithin, message_facts, SenderWithin, valid_sender}

-- ---- the first of the table of which something holds

-- It holds of none: the number of those looked at.
pub first_none_of : (f : Sender → Bool) (l : List Sender) (k : ℕ) → ((j : ℕ) → j < k → f (get_or l j no_sender) ≡ false) → first_where f l k ≡ k
unfolding first_where
first_none_of f l zero h = refl
first_none_of f l (suc k) h =
    let before : first_where f l k ≡ k = first_none_of f l k (λ j q. h j (omega arith)) in
    rw (before, le-ltb k k (omega arith), h k (omega arith))

pub first_of : (f : Sender → Bool) (l : List Sender) (k i : ℕ) → i < k → ((j : ℕ) → j < i → f (get_or l j no_sender) ≡ false)
    → f (get_or l i no_sender) ≡ true → first_where f l k ≡ i
unfolding first_where
first_of f l zero i q h e = absurd (omega arith)
first_of f l (suc k) i q h e = ⊎_elim
    (λ (x : i ≡ k).
    let before : first_where f l k ≡ k = first_none_of f l k (λ j r. h j (omega arith)) in
    rw (before, le-ltb k k (omega arith), ap (λ (y : ℕ). f (get_or l y no_sender)) (sym x) ∙ e) (sym x))
    (λ (x : i ≢ k).
    let less : i < k = omega arith in
    rw (first_of f l k i less h e, lt-ltb i k less))
    (eq_or_ne i k)

-- The first sender of which something holds is one of which it holds.
pub first_holds : (f : Sender → Bool) (l : List Sender) (k : ℕ) → first_where f l k < k → f (get_or l (first_where f l k) no_sender) ≡ true
unfolding first_where
first_holds f l zero h = absurd (omega arith)
first_holds f l (suc k) h = by (first_where f l k) (ltb (first_where f l k) k) refl (f (get_or l k no_sender)) refl (first_holds f l k) h
  where
    by : (i : ℕ) (b : Bool) → ltb i k ≡ b → (c : Bool) → f (get_or l k no_sender) ≡ c → (i < k → f (get_or l i no_sender) ≡ true)
        → cond b i (cond c k (suc k)) < suc k → f (get_or l (cond b i (cond c k (suc k))) no_sender) ≡ true
    by i true e c g earlier q = earlier (ltb-true i k e)
    by i false e true g earlier q = g
    by i false e false g earlier q = absurd (omega arith)

-- ---- the pieces of one sender

-- The first k pieces are held.
abbrev pub Held : Sender → ℕ → Type 0
Held s k = (j : ℕ) → j < k → holds s.message.map (j + 1) ≡ true

bit_of : (s : Sender) (k : ℕ) → Held s k → (j : ℕ) → j < k → bit j s.message.map ≡ 1
bit_of s k h j q =
    let same : j + 1 - 1 ≡ j = omega arith in
    eqb-true (bit j s.message.map) 1 (rw same at (h j q))

-- Of an open message of a valid state not every piece is held, and no more than 64 are looked for.
module _ (clock : ℕ) (m : Message) (f : MessageWithin clock m) where
  few_pieces : m.tbn ≤ 64
  few_pieces = several_most m.n m.tbn m.u (several_facts m.n m.tbn m.u f.cut)

  not_all : ((k : ℕ) → k < m.tbn → bit k m.map ≡ 1) → ⊥
  not_all h = omega (arith, f.not_full, full_only m.tbn m.map (omega (arith, f.not_full)) h)

pub all_held : (clock : ℕ) (s : Sender) → SenderWithin clock s → Held s (pieces_of s) → s.«open» ≡ false
all_held clock s f h = ⊎_elim
    (λ (o : s.«open» ≡ true). absurd (not_all clock s.message (message_facts clock s.message (f.message o)) (bit_of s s.message.tbn (rw o at h))))
    (λ (o : s.«open» ≡ false). o)
    (true_or_false s.«open»)

some_piece : (s : Sender) (k : ℕ) → k < pieces_of s → s.«open» ≡ true
some_piece s k q = ⊎_elim
    (λ (o : s.«open» ≡ true). o)
    (λ (o : s.«open» ≡ false).
    let none : k < 0 = rw o at q in
    absurd (omega arith))
    (true_or_false s.«open»)

-- ---- the answer, by where the walk ended

module _ (w : Receiver) (ok : valid w ≡ true) where
  pub question_none : (i : ℕ) → i ≡ w.count → ((j : ℕ) → j < i → (sender_at w j).«open» ≡ false) → Ok None ≡ question_answer w
  unfolding question_answer checked
  question_none i e h =
      let none : first_open w ≡ w.count = first_none_of (λ s. s.«open») w.senders w.count (rw e at h) in
      rw (ok, none, le-ltb w.count w.count (omega arith))

  pub question_piece : (i k : ℕ) → i < w.count → ((j : ℕ) → j < i → (sender_at w j).«open» ≡ false) → k < pieces_of (sender_at w i)
      → Held (sender_at w i) k → holds (sender_at w i).message.map (k + 1) ≡ false → Ok (Some (record { sender = i; piece = k + 1 })) ≡ question_answer w
  unfolding question_answer checked
  question_piece i k q h p held miss =
      let s = sender_at w i in
      let o : s.«open» ≡ true = some_piece s k p in
      let here : first_open w ≡ i = first_of (λ s. s.«open») w.senders w.count i q h o in
      let few : s.message.tbn ≤ 64
      = few_pieces w.clock s.message (message_facts w.clock s.message ((valid_sender w ok i q).message o)) in
      let within : k < s.message.tbn = rw o at p in
      let same : k + 1 - 1 ≡ k = omega arith in
      let low : lowest 64 s.message.map ≡ k
      = lowest_first_lem 64 k s.message.map (omega arith) (bit_of s k held) (rw same at (holds_not s.message.map (k + 1) miss)) in
      rw (ok, here, lt-ltb i w.count q, low)

pub question_nine : (w : Receiver) → valid w ≡ false → Err refusals.State ≡ question_answer w
unfolding question_answer checked
question_nine w e = rw e
