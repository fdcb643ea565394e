-- "given exactly when": each call gives a number if and only if the number's row applies and no row before it does, on
-- arbitrary arguments; and "A refusal alters no state, stamp, clock, storage or buffer." Assumes nothing.
--
-- For each call, `…_refuses` says what is answered where a number is given, whole, and `…_given` that it is told nowhere
-- else. `…_with` is the first for a refusal that is known.
use Rattle.std.specs.Prelude.{◌≡◌, Bool, true, false, cond, List, ℕ, ◌<◌, ltb, length, Option, Ok, Err}
use Rattle.std.proofs.Math.Path.{refl}
use Rattle.std.proofs.Common.{sym, ◌∙◌, arith}
use Rattle.octets.specs.Split.{cond_case}
use Rattle.refusal.specs.declared.Refusal.{Refusal}
use Rattle.refusal.specs.declared.Refusal.TheVariants as refusals
use Rattle.refusal.specs.Numbers.{number_of}
use Rattle.header.specs.declared.Head.{Head}
use Rattle.header.specs.Head.{head_of}
use Rattle.state.specs.declared.Receiver.{Receiver}
use Rattle.state.specs.declared.Sender.{Sender}
use Rattle.answers.specs.declared.Answer.{Answer}
use Rattle.answers.specs.declared.Listener.{Listener}
use Rattle.answers.specs.declared.MissingPiece.{MissingPiece}
use Rattle.answers.specs.declared.Outcome.{Outcome}
use Rattle.answers.specs.declared.Setup.{Setup}
use Rattle.answers.specs.declared.Started.{Started}
use Rattle.answers.specs.Told.{least_refusal, RefusedAs, message_told, group_told, call_number, clock_told, question_told, outcome_told, refusal}
use Rattle.rules.specs.calls.Admit.{sender_rows, admitted, fills}
use Rattle.rules.specs.calls.Alive.{alive_rows, not_noted, alive_answer}
use Rattle.rules.specs.calls.Clock.{clock_rows, ticked, not_ticked, clock_answer}
use Rattle.rules.specs.calls.First.{Row, checked, Given, by_check}
use Rattle.rules.proofs.calls.FirstLaws.{given_first, first_given, checked_given, given_refusal, check_case, above, rises}
use Rattle.state.specs.Table.{found}
use Rattle.rules.specs.calls.Message.{message_rows, taken, refused, verdict_at, message_answer, message_storage}
use Rattle.rules.specs.calls.Multicast.{Tables, verdict_in, listening, multicast_rows, cast_outcome, kept_by, group_answer, multicast_answer, multicast_tables}
use Rattle.rules.specs.calls.Question.{question_rows, first_open, question_answer}
use Rattle.rules.specs.calls.Setup.{setup_within, setup_state, setup_answer}
use Rattle.state.specs.State.{sender_at, empty_receiver}

-- ---- for every call

-- An answer that is made by the first of some rows: `a` where none applies, and `f r` where r is given.
module _ {A : Type 0} (rs : List Row) (a : A) (f : Refusal → A) where
  abbrev Answer_by : A
  Answer_by = by_check (checked rs) a f

  given_refused : (r : Refusal) → Given rs (number_of r) → Answer_by ≡ f r
  given_refused r g = rw (checked_given rs r (given_first rs (number_of r) g))

  -- Where `a` tells no refusal and `f r` tells the number of r, a refusal with k is told only where k is given.
  refused_given : (told : A → ℕ) → told a < least_refusal → ((r : Refusal) → told (f r) ≡ number_of r) → (k : ℕ) → RefusedAs (told Answer_by) k → Given rs k
  refused_given told low same k = check_case (λ (x : A). RefusedAs (told x) k → Given rs k) rs a f
      (λ e x. absurd (omega (arith, low, x.0, x.1)))
      (λ r e x. first_given rs k (e ∙ sym (same r) ∙ x.0) (λ z. omega (arith, x.1, z)))

-- A number that is given is a refusal's, of which what is known of each holds.
by_given : (P : Refusal → Type 0) (rs : List Row) → ((r : Refusal) → Given rs (number_of r) → P r) → (k : ℕ) → Given rs k
    → (r : Refusal) × ((number_of r ≡ k) × P r)
by_given P rs with_refusal k g =
    let is = given_refusal rs k g in
    (is.0, (is.1, with_refusal is.0 (rw is.1 g)))

-- ---- the message call: 9 and 11 to 20

module _ (w : Receiver) (storage packet : List ℕ) where
  abbrev h : Head
  h = head_of packet

  abbrev s : Sender
  s = sender_at w (found w h)

  pub message_rises : rises (message_rows w (length storage) packet) ≡ true
  unfolding message_rows sender_rows rises above
  message_rises = refl

  taken_told : (message_told (taken w (found w h) s h)).outcome.number < least_refusal
  unfolding taken admitted
  taken_told = cond_case (λ (o : Outcome). (outcome_told o).number < least_refusal) (fills s h) _ _ (λ _. omega arith) (λ _. omega arith)

  abbrev no : Refusal → Answer
  no r = refused w (refusal r (verdict_at w h))

  pub message_with : (r : Refusal) → Given (message_rows w (length storage) packet) (number_of r)
      → (message_answer w (length storage) packet ≡ refused w (refusal r (verdict_at w h))) × (message_storage w storage packet ≡ storage)
  unfolding message_answer message_storage
  message_with r g = (
    given_refused (message_rows w (length storage) packet) _ no r g,
    given_refused (message_rows w (length storage) packet) _ (λ j. storage) r g,
  )

  pub message_refuses : (k : ℕ) → Given (message_rows w (length storage) packet) k → (r : Refusal) × ((number_of r ≡ k)
      × ((message_answer w (length storage) packet ≡ refused w (refusal r (verdict_at w h))) × (message_storage w storage packet ≡ storage)))
  message_refuses = by_given
      (λ r. (message_answer w (length storage) packet ≡ refused w (refusal r (verdict_at w h))) × (message_storage w storage packet ≡ storage))
      (message_rows w (length storage) packet) message_with

  pub message_given : (k : ℕ) → RefusedAs (message_told (message_answer w (length storage) packet)).outcome.number k → Given (message_rows w (length storage) packet) k
  unfolding message_answer refused
  message_given =
      refused_given (message_rows w (length storage) packet) _ no (λ a. (message_told a).outcome.number) taken_told (λ r. refl)

-- ---- the alive call: 9, 12, 13, 14, 22

module _ (w : Receiver) (packet : List ℕ) where
  pub alive_rises : rises (alive_rows w packet) ≡ true
  unfolding alive_rows rises above
  alive_rises = refl

  pub alive_with : (r : Refusal) → Given (alive_rows w packet) (number_of r) → alive_answer w packet ≡ not_noted w r
  unfolding alive_answer
  alive_with = given_refused (alive_rows w packet) _ (not_noted w)

  pub alive_refuses : (k : ℕ) → Given (alive_rows w packet) k → (r : Refusal) × ((number_of r ≡ k) × (alive_answer w packet ≡ not_noted w r))
  alive_refuses = by_given (λ r. alive_answer w packet ≡ not_noted w r) (alive_rows w packet) alive_with

  pub alive_given : (k : ℕ) → RefusedAs (call_number (alive_answer w packet).call) k → Given (alive_rows w packet) k
  unfolding alive_answer
  alive_given = refused_given (alive_rows w packet) _ (not_noted w) (λ a. call_number a.call) (omega arith) (λ r. refl)

-- ---- the clock call: 9, 21

module _ (w : Receiver) (now : ℕ) where
  pub clock_rises : rises (clock_rows w now) ≡ true
  unfolding rises above
  clock_rises = refl

  pub clock_with : (r : Refusal) → Given (clock_rows w now) (number_of r) → clock_answer w now ≡ not_ticked w r
  unfolding clock_answer
  clock_with = given_refused (clock_rows w now) _ (not_ticked w)

  pub clock_refuses : (k : ℕ) → Given (clock_rows w now) k → (r : Refusal) × ((number_of r ≡ k) × (clock_answer w now ≡ not_ticked w r))
  clock_refuses = by_given (λ r. clock_answer w now ≡ not_ticked w r) (clock_rows w now) clock_with

  pub clock_given : (k : ℕ) → RefusedAs (clock_told (clock_answer w now)).number k → Given (clock_rows w now) k
  unfolding clock_answer ticked not_ticked
  clock_given = refused_given (clock_rows w now) _ (not_ticked w) (λ a. (clock_told a).number) (omega arith) (λ r. refl)

-- ---- the question: 9

module _ (w : Receiver) where
  pub question_with : (r : Refusal) → Given (question_rows w) (number_of r) → question_answer w ≡ Err r
  unfolding question_answer
  question_with = given_refused (question_rows w) _ Err

  pub question_refuses : (k : ℕ) → Given (question_rows w) k → (r : Refusal) × ((number_of r ≡ k) × (question_answer w ≡ Err r))
  question_refuses = by_given (λ r. question_answer w ≡ Err r) (question_rows w) question_with

  pub question_given : (k : ℕ) → RefusedAs (question_told (question_answer w)).number k → Given (question_rows w) k
  unfolding question_answer
  question_given = refused_given (question_rows w) _ Err (λ a. (question_told a).number)
      (cond_case (λ (m : Option MissingPiece). (question_told (Ok m)).number < least_refusal) (ltb (first_open w) w.count) _ _ (λ _. omega arith) (λ _. omega arith))
      (λ r. refl)

-- ---- the multicast call: 9, 26, 12 to 14, 25, 15 to 17

module _ (w : Receiver) (t : Tables) (g : ℕ) (packet : List ℕ) where
  abbrev heard : Listener
  heard = listening w (head_of packet)

  abbrev unheard : Refusal → Outcome
  unheard r = refusal r (verdict_in heard t g (head_of packet))

  outcome_refused_lem : (r : Refusal) → Given (multicast_rows w t g packet) (number_of r) → cast_outcome heard t g packet (head_of packet) ≡ unheard r
  unfolding cast_outcome
  outcome_refused_lem = given_refused (multicast_rows w t g packet) _ unheard

  pub multicast_with : (r : Refusal) → Given (multicast_rows w t g packet) (number_of r)
      → (multicast_answer w t g packet ≡ group_answer (refusal r (verdict_in (listening w (head_of packet)) t g (head_of packet)))) × (multicast_tables w t g packet ≡ t)
  unfolding multicast_answer multicast_tables kept_by
  multicast_with r given = (rw (outcome_refused_lem r given), rw (outcome_refused_lem r given))

  pub multicast_refuses : (k : ℕ) → Given (multicast_rows w t g packet) k → (r : Refusal) × ((number_of r ≡ k)
      × ((multicast_answer w t g packet ≡ group_answer (refusal r (verdict_in (listening w (head_of packet)) t g (head_of packet)))) × (multicast_tables w t g packet ≡ t)))
  multicast_refuses = by_given
      (λ r. (multicast_answer w t g packet ≡ group_answer (refusal r (verdict_in (listening w (head_of packet)) t g (head_of packet)))) × (multicast_tables w t g packet ≡ t))
      (multicast_rows w t g packet) multicast_with

  pub multicast_given : (k : ℕ) → RefusedAs (group_told (multicast_answer w t g packet)).outcome.number k → Given (multicast_rows w t g packet) k
  unfolding multicast_answer cast_outcome
  multicast_given = refused_given (multicast_rows w t g packet) _ unheard (λ o. (outcome_told o).number) (omega arith) (λ r. refl)

-- ---- setup: 10

-- "10: setup outside its limits: empty state"
pub setup_refuses : (q : Setup) → setup_within q ≡ false → setup_answer q ≡ record { call = Err refusals.Setup; state = empty_receiver }
unfolding setup_answer
setup_refuses q e = rw e

pub setup_given : (q : Setup) (k : ℕ) → RefusedAs (call_number (setup_answer q).call) k → (k ≡ 10) × (setup_within q ≡ false)
unfolding setup_answer
setup_given q k = by (setup_within q)
  where
    by : (b : Bool) → RefusedAs (call_number (cond {A = Started} b (record { call = Ok tt; state = setup_state q }) (record { call = Err refusals.Setup; state = empty_receiver })).call) k
        → (k ≡ 10) × (b ≡ false)
    by true r = absurd (omega (arith, r.0, r.1))
    by false r = (sym r.0, refl)
