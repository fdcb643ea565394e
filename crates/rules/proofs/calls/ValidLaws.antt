-- A valid state stays valid: the state that setup returns and the one that every call returns pass 9, so that no past
-- ever meets 9. Assumes nothing.
use Rattle.std.specs.Prelude.{◌≡◌, refl, Bool, true, false, not, ◌&&◌, ◌||◌, List, ℕ, zero, suc, ◌≤◌, ◌<◌, eqb, leb, ltb, get_or, set}
use Rattle.std.proofs.Common.{ap, ◌∙◌, ⊎_elim, arith, le-leb, lt-ltb, ltb-false}
use Rattle.std.proofs.Math.Bool.{and-true}
use Rattle.std.proofs.lemmas.Bool.{false≢true, not-true}
use Rattle.octets.specs.Split.{true_or_false, cond_case, both, and_left, and_right}
use Rattle.ring.specs.Ring.{is_number}
use Rattle.groups.specs.declared.Groups.{Groups}
use Rattle.groups.specs.Groups.{each_group, groups_within}
use Rattle.groups.proofs.GroupsLaws.{kept_within}
use Rattle.signal.specs.declared.Body.{Body}
use Rattle.signal.specs.Alive.{body_of}
use Rattle.header.specs.Codes.{is_user, is_mode, is_pri}
use Rattle.header.specs.Head.{head_of, is_fixed}
use Rattle.state.specs.declared.Address.{Address}
use Rattle.state.specs.declared.Sender.{Sender}
use Rattle.state.specs.declared.Receiver.{Receiver}
use Rattle.answers.specs.declared.Answer.{Answer}
use Rattle.answers.specs.declared.Noted.{Noted}
use Rattle.answers.specs.declared.Setup.{Setup}
use Rattle.answers.specs.declared.Started.{Started}
use Rattle.rules.specs.calls.Admit.{admitted, sender_after}
use Rattle.rules.proofs.calls.AdmitValidLaws.{after_stays}
use Rattle.rules.specs.calls.Alive.{heard_by, alive_rows, alive_answer}
use Rattle.rules.specs.calls.Clock.{drops, dies, aged, aged_senders, ticked, not_ticked, clock_answer}
use Rattle.rules.proofs.calls.ClockLaws.{aged_done, clock_back_lem, clock_on}
use Rattle.rules.proofs.calls.FirstLaws.{check_case}
use Rattle.state.specs.Limits.{clock_most, is_address, last_within, sender_within, address_at, senders_within, settings_of, settings_within, valid, given, addresses_within}
use Rattle.state.proofs.LimitsLaws.{new_ext}
use Rattle.state.specs.Table.{found}
use Rattle.rules.specs.calls.Message.{head_within, message_rows, message_number, with_sender, taken, refused, message_answer}
use Rattle.rules.proofs.calls.MessageLaws.{or_false, taken_facts}
use Rattle.rules.specs.calls.Setup.{setup_within, new_senders, setup_state, setup_answer}
use Rattle.rules.proofs.calls.SetupLaws.{setup_facts}
use Rattle.state.specs.State.{senders_most, no_sender, new_sender, sender_at, empty_receiver}
use Rattle.state.proofs.WithinLaws.{message_later, Stays, senders_stay, set_place, written_place, valid_settings, valid_senders, valid_length}

-- ---- setup

-- "An empty state, with no senders, is what a refused setup returns …; 9 lets it pass."
pub empty_valid : valid empty_receiver ≡ true
unfolding valid settings_of groups_within each_group senders_within
empty_valid = refl

-- "nobody is heard, nothing is open and every last version and number is 0": only the address of a new sender can be
-- outside its limits.
new_within : (clock : ℕ) (a : Address) → sender_within clock (new_sender a) ≡ is_address a
unfolding sender_within last_within
new_within clock a = simp and-true

-- So 9 asks of the new table what 10 asked of the addresses given.
new_senders_lem : (l : List Address) (m : List Sender) (k : ℕ) → ((j : ℕ) → j < k → get_or m j no_sender ≡ new_sender (given l j))
    → senders_within 0 m k ≡ addresses_within l k
unfolding senders_within addresses_within
new_senders_lem l m zero f = refl
new_senders_lem l m (suc k) f =
    let same : (j : ℕ) → j < suc k → address_at m j ≡ given l j = λ j h. ap (λ (s : Sender). s.address) (f j h) in
    let new = new_ext (address_at m) (given l) k (given l k) (λ j h. same j (omega arith)) in
    rw (new_senders_lem l m k (λ j h. f j (omega arith)), same k (omega arith), new, f k (omega arith), new_within)

setup_state_lem : (q : Setup) → setup_within q ≡ true → valid (setup_state q) ≡ true
unfolding setup_state valid settings_of new_senders
setup_state_lem q e =
    let l = q.senders in
    let facts = setup_facts q e in
    let place = written_place (new_senders l) (λ k. new_sender (given l k)) (λ k. refl) q.count in
    let senders = new_senders_lem l (new_senders l q.count) q.count (λ j h. place j h (omega (arith, facts.count))) in
    rw (le-leb q.count senders_most facts.count, facts.n1, facts.t, kept_within q.groups, facts.groups, lt-ltb 0 q.count facts.count_some) (senders ∙ facts.addresses)

pub setup_valid : (q : Setup) → valid (setup_answer q).state ≡ true
unfolding setup_answer
setup_valid q = cond_case (λ (x : Started). valid x.state ≡ true) (setup_within q) _ _ (setup_state_lem q) (λ _. empty_valid)

-- ---- another record for one sender

-- The message call and the alive call write one sender's record.
sender_valid : (w : Receiver) (i : ℕ) (s : Sender) → Stays w.clock w.clock (sender_at w i) s → valid w ≡ true → valid (with_sender w i s) ≡ true
unfolding with_sender valid
sender_valid w i s stays v =
    let l = w.senders in
    both (settings_within w) (senders_within w.clock (set l i s) w.count) (valid_settings w v)
    (senders_stay w.clock w.clock l (set l i s) w.count
    (λ j h. set_place (Stays w.clock w.clock (get_or l j no_sender)) l i j s (omega (arith, valid_length w v))
    (λ e. rw e stays) (record { address = refl; within = λ f. f }))
    (valid_senders w v))

-- ---- the message call

taken_valid : (w : Receiver) (room : ℕ) (packet : List ℕ) → valid w ≡ true → message_number w room packet ≡ 0
    → valid (taken w (found w (head_of packet)) (sender_at w (found w (head_of packet))) (head_of packet)).state ≡ true
unfolding taken admitted head_within
taken_valid w room packet v e =
    let h = head_of packet in
    let i = found w h in
    let s = sender_at w i in
    let facts = taken_facts w room packet e in
    let head = facts.0.head_within_lem in
    let a1 = is_fixed packet && is_pri h.given.pri && is_mode h.given.mode in
    let a2 = is_user h.given.tcd in
    let a3 = is_number h.given.number.0 in
    sender_valid w i (sender_after w.n1 w.clock s h)
    (after_stays w.n1 w.clock s h facts.1 (and_right (a1 && a2) a3 head) (and_right a1 a2 (and_left (a1 && a2) a3 head)))
    v

pub message_valid : (w : Receiver) (room : ℕ) (packet : List ℕ) → valid w ≡ true → valid (message_answer w room packet).state ≡ true
unfolding message_answer refused
message_valid w room packet v = check_case (λ (x : Answer). valid x.state ≡ true) (message_rows w room packet) _ _
    (taken_valid w room packet v)
    (λ r _. v)

-- ---- the alive call

-- An alive sender is stamped with the clock, and of a dead one no stamp is looked at.
heard_stays : (clock : ℕ) (s : Sender) (b : Body) → Stays clock clock s (heard_by clock s b)
unfolding heard_by
heard_stays clock s b = cond_case (Stays clock clock s) (eqb b.mode 1) _ _
    (λ _. record {
      address = refl;
      within = λ f. record { address = f.address; last = f.last; message = f.message; heard = λ _. omega arith };
    })
    (λ _. record {
      address = refl;
      within = λ f. record { address = f.address; last = f.last; message = f.message; heard = λ z. absurd (false≢true z) };
    })

pub alive_valid : (w : Receiver) (packet : List ℕ) → valid w ≡ true → valid (alive_answer w packet).state ≡ true
unfolding alive_answer
alive_valid w packet v =
    let i = found w (head_of packet) in
    check_case (λ (x : Noted). valid x.state ≡ true) (alive_rows w packet) _ _
    (λ _. sender_valid w i (heard_by w.clock (sender_at w i) (body_of packet)) (heard_stays w.clock (sender_at w i) (body_of packet)) v)
    (λ r _. v)

-- ---- the clock call

-- What is not dropped and not dead keeps its stamp, which lies no later than the clock lay.
aged_stays : (t clock now : ℕ) (s : Sender) → clock ≤ now → Stays clock now s (aged t now s)
unfolding aged
aged_stays t clock now s h = record {
  address = refl;
  within = λ f. record {
    address = f.address;
    last = f.last;
    message = λ e.
        let kept = not-true (drops t now s) (and_right s.«open» (not (drops t now s)) e) in
        rw kept (message_later clock now s.message h (f.message (and_left s.«open» (not (drops t now s)) e)));
    heard = λ e.
        let lives = not-true (dies now s) (and_right s.alive (not (dies now s)) e) in
        rw lives (omega (arith, f.heard (and_left s.alive (not (dies now s)) e)));
  };
}

-- Of the settings only the clock moves, and 21 holds it to its limit.
settings_later : (test : Bool) (n1 t clock now count : ℕ) (groups : Groups) → now ≤ clock_most
    → settings_of test n1 t clock count groups ≡ true → settings_of test n1 t now count groups ≡ true
unfolding settings_of
settings_later test n1 t clock now count groups h e = rw (le-leb now clock_most h) (⊎_elim
    (λ (f : leb clock clock_most ≡ true). rw f at e)
    (λ (f : leb clock clock_most ≡ false). absurd (false≢true (rw f at e)))
    (true_or_false (leb clock clock_most)))

ticked_valid : (w : Receiver) (now : ℕ) → valid w ≡ true → w.clock ≤ now → now ≤ clock_most → valid (ticked w now).state ≡ true
unfolding ticked valid
ticked_valid w now v forth below =
    let l = w.senders in
    let k = w.count in
    let m = aged_senders w.t now l k in
    both (settings_of w.test w.n1 w.t now k w.groups) (senders_within now m k)
    (settings_later w.test w.n1 w.t w.clock now k w.groups below (valid_settings w v))
    (senders_stay w.clock now l m k
    (λ j h. rw (aged_done w.t now l k j (valid_length w v) h) (aged_stays w.t w.clock now (get_or l j no_sender) forth))
    (valid_senders w v))

pub clock_valid : (w : Receiver) (now : ℕ) → valid w ≡ true → valid (clock_answer w now).state ≡ true
unfolding not_ticked
clock_valid w now v = ⊎_elim
    (λ (back : ltb now w.clock || ltb clock_most now ≡ true). rw (← clock_back_lem w now v back) v)
    (λ (on : ltb now w.clock || ltb clock_most now ≡ false).
    let f = or_false (ltb now w.clock) (ltb clock_most now) on in
    rw (← clock_on w now v on) (ticked_valid w now v (ltb-false now w.clock f.0) (ltb-false clock_most now f.1)))
    (true_or_false (ltb now w.clock || ltb clock_most now))
