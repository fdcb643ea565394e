-- "… are written 0": what is not looked at is 0 from setup on, and every call leaves it so. Assumes nothing.
use Rattle.std.specs.Prelude.{◌≡◌, refl, ◌≢◌, List, length, get_or, set, replicate}
use Rattle.std.proofs.Common.{◌∙◌, ⊎_elim, arith, length-set, get_or-set_same, get_or-set_other}
use Prim.Native.Nat.{ℕ, zero, suc, ◌≤◌, ◌<◌}
use Rattle.std.proofs.lemmas.List.{get_or-replicate}
use Rattle.std.proofs.Math.ListN.{get_or-eq_default}
use Rattle.octets.specs.Split.{lt_or_le, eq_or_ne, cond_case}
use Rattle.groups.proofs.GroupsLaws.{kept_twice, kept_none}
use Rattle.signal.specs.Alive.{body_of}
use Rattle.header.specs.Head.{head_of}
use Rattle.state.specs.declared.Address.{Address}
use Rattle.state.specs.declared.Sender.{Sender}
use Rattle.state.specs.declared.Receiver.{Receiver}
use Rattle.answers.specs.declared.Answer.{Answer}
use Rattle.answers.specs.declared.Noted.{Noted}
use Rattle.answers.specs.declared.Setup.{Setup}
use Rattle.answers.specs.declared.Started.{Started}
use Rattle.answers.specs.declared.Ticked.{Ticked}
use Rattle.rules.specs.calls.Admit.{sender_after, admitted}
use Rattle.rules.specs.calls.Alike.{seen, Zeroed}
use Rattle.rules.specs.calls.Alive.{alive_rows, heard_by, alive_answer}
use Rattle.rules.specs.calls.Clock.{clock_rows, aged, aged_senders, ticked, not_ticked, clock_answer}
use Rattle.rules.proofs.calls.AliveLaws.{alive_facts}
use Rattle.rules.proofs.calls.ClockLaws.{aged_later}
use Rattle.rules.proofs.calls.FirstLaws.{check_case}
use Rattle.state.specs.Table.{found}
use Rattle.rules.specs.calls.Message.{message_rows, with_sender, taken, refused, message_answer}
use Rattle.rules.proofs.calls.MessageLaws.{taken_facts}
use Rattle.state.specs.Limits.{given}
use Rattle.rules.specs.calls.Setup.{new_senders, setup_within, setup_state, setup_answer}
use Rattle.state.specs.State.{senders_most, no_address, no_sender, new_sender, sender_at}
use Rattle.rules.proofs.calls.SeenLaws.{ChangesSeen, changes_zero, changes_aged, changes_heard, changes_after}

-- In every place of a table what is not looked at is 0.
abbrev ZeroTable : List Sender → Type 0
ZeroTable l = (j : ℕ) → seen (get_or l j no_sender) ≡ get_or l j no_sender

-- From place k on all is 0.
abbrev ZeroPast : List Sender → ℕ → Type 0
ZeroPast l k = (j : ℕ) → k ≤ j → get_or l j no_sender ≡ no_sender

zero_new : (a : Address) → seen (new_sender a) ≡ new_sender a
unfolding seen
zero_new a = refl

zero_none : (s : Sender) → s ≡ no_sender → seen s ≡ s
zero_none s e = rw e (zero_new no_address)

zero_set : (l : List Sender) (i : ℕ) (s : Sender) → seen s ≡ s → ZeroTable l → ZeroTable (set l i s)
zero_set l i s e z j = ⊎_elim
    (λ (q : j ≡ i). rw q (⊎_elim
    (λ (h : i < length l). rw (get_or-set_same l i s no_sender h) e)
    (λ (h : length l ≤ i). zero_none _ (get_or-eq_default (set l i s) no_sender (rw length-set h)))
    (lt_or_le i (length l))))
    (λ (n : j ≢ i). rw (get_or-set_other l i j s no_sender n) (z j))
    (eq_or_ne j i)

past_set : (l : List Sender) (k i : ℕ) (s : Sender) → i < k → ZeroPast l k → ZeroPast (set l i s) k
past_set l k i s h z j q = get_or-set_other l i j s no_sender (λ e. omega arith) ∙ z j q

-- Setup.

past_empty : ZeroPast (replicate senders_most no_sender) 0
past_empty j h = ⊎_elim
    (λ (q : j < senders_most). get_or-replicate senders_most j no_sender no_sender q)
    (λ (q : senders_most ≤ j). get_or-eq_default (replicate senders_most no_sender) no_sender q)
    (lt_or_le j senders_most)

zero_senders : (l : List Address) (k : ℕ) → ZeroTable (new_senders l k)
unfolding new_senders
zero_senders l zero = λ j. zero_none _ (past_empty j (omega arith))
zero_senders l (suc k) = zero_set (new_senders l k) k (new_sender (given l k)) (zero_new (given l k)) (zero_senders l k)

past_senders : (l : List Address) (k : ℕ) → ZeroPast (new_senders l k) k
unfolding new_senders
past_senders l zero = past_empty
past_senders l (suc k) = past_set (new_senders l k) (suc k) k (new_sender (given l k)) (omega arith) (λ j h. past_senders l k j (omega arith))

pub zeroed_setup : (q : Setup) → Zeroed (setup_answer q).state
unfolding setup_answer setup_state
zeroed_setup q = cond_case (λ (x : Started). Zeroed x.state) (setup_within q) _ _
    (λ e. record {
      groups_zero = kept_twice q.groups;
      sender_zero = λ k h. zero_senders q.senders q.count k;
      past_zero = past_senders q.senders q.count;
    })
    (λ e. record { groups_zero = kept_none; sender_zero = λ k h. absurd (omega arith); past_zero = past_empty })

-- The calls.

module _ (w : Receiver) (z : Zeroed w) where
  -- Of places past the senders too.
  pub zeroed_all : (k : ℕ) → seen (sender_at w k) ≡ sender_at w k
  zeroed_all k = ⊎_elim
      (λ (h : k < w.count). z.sender_zero k h)
      (λ (h : w.count ≤ k). zero_none (sender_at w k) (z.past_zero k h))
      (lt_or_le k w.count)

  zeroed_changed : (f : Sender → Sender) → ChangesSeen f → (i : ℕ) → i < w.count → Zeroed (with_sender w i (f (sender_at w i)))
  unfolding with_sender
  zeroed_changed f law i h = record {
    groups_zero = z.groups_zero;
    sender_zero = λ k q. zero_set w.senders i (f (sender_at w i)) (changes_zero f law (sender_at w i) (zeroed_all i)) zeroed_all k;
    past_zero = past_set w.senders w.count i (f (sender_at w i)) h z.past_zero;
  }

  pub zeroed_message : (room : ℕ) (packet : List ℕ) → Zeroed (message_answer w room packet).state
  unfolding message_answer taken refused admitted
  zeroed_message room packet =
      let h = head_of packet in
      check_case (λ (x : Answer). Zeroed x.state) (message_rows w room packet) _ _
      (λ e. zeroed_changed (λ s. sender_after w.n1 w.clock s h) (changes_after h w.n1 w.clock) (found w h)
      (taken_facts w room packet e).0.registered)
      (λ r e. z)

  pub zeroed_alive : (packet : List ℕ) → Zeroed (alive_answer w packet).state
  unfolding alive_answer
  zeroed_alive packet =
      let b = body_of packet in
      check_case (λ (x : Noted). Zeroed x.state) (alive_rows w packet) _ _
      (λ e. zeroed_changed (λ s. heard_by w.clock s b) (changes_heard w.clock b) (found w (head_of packet))
      (alive_facts w packet e).registered)
      (λ r e. z)

  zero_aged : (t now k : ℕ) → ZeroTable (aged_senders t now w.senders k)
  unfolding aged_senders
  zero_aged t now zero = zeroed_all
  zero_aged t now (suc k) = zero_set (aged_senders t now w.senders k) k (aged t now (sender_at w k))
      (changes_zero (aged t now) (changes_aged t now) (sender_at w k) (zeroed_all k)) (zero_aged t now k)

  pub zeroed_clock : (now : ℕ) → Zeroed (clock_answer w now).state
  unfolding clock_answer ticked not_ticked
  zeroed_clock now = check_case (λ (x : Ticked). Zeroed x.state) (clock_rows w now) _ _
      (λ e. record {
        groups_zero = z.groups_zero;
        sender_zero = λ k h. zero_aged w.t now w.count k;
        past_zero = λ k h. aged_later w.t now w.senders w.count k h ∙ z.past_zero k h;
      })
      (λ r e. z)
