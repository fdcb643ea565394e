-- After every call, what the log says of a sender is what the state holds of it. Assumes nothing.
use Rattle.std.specs.Prelude.{ℕ, ◌<◌, ◌≡◌, ◌≢◌, Bool, true, false, not, cond, ◌&&◌, ◌||◌, length}
use Rattle.std.proofs.Math.Path.{refl, ap}
use Rattle.std.proofs.Common.{sym, ◌∙◌, arith}
use Rattle.std.proofs.Math.Logic.{⊎_elim}
use Rattle.std.proofs.Math.Bool.{and-true, and-false}
use mathlib.Core.List.{List, [], ◌∷◌, ◌++◌, Memᴰ}
use Rattle.std.proofs.Math.Dec.{eqb, ltb}
use borrow.Author.Tests.{eqb-true, ne_eqb}
use Rattle.octets.specs.Split.{eq_or_ne, true_or_false, same_test, never_both, both, and_left, and_right}
use Rattle.header.specs.Head.{head_of}
use Rattle.signal.specs.Alive.{body_of}
use Rattle.map.specs.Map.{bit}
use Rattle.map.proofs.MapLaws.{bit_zero}
use Rattle.state.specs.declared.Address.{Address}
use Rattle.state.specs.declared.Receiver.{Receiver}
use Rattle.state.specs.Limits.{same_address, clock_most, valid}
use Rattle.state.specs.declared.Sender.{Sender}
use Rattle.state.specs.State.{no_sender, sender_at, Settings, with_heard}
use Rattle.state.specs.Table.{source}
use Rattle.answers.specs.declared.Noted.{Noted}
use Rattle.answers.specs.Told.{OutcomeTold, not_delivered, age_with, outcome_told, MessageTold, message_told, message_refused, call_number, clock_told}
use Rattle.rules.specs.calls.Alive.{alive_rows, heard_by, alive_answer}
use Rattle.rules.specs.calls.Clock.{drops, dies, aged, ticked, not_ticked, clock_answer}
use Rattle.rules.proofs.calls.ClockLaws.{clock_back_lem, clock_on, map_bit}
use Rattle.rules.specs.calls.First.{first}
use Rattle.rules.proofs.calls.FirstLaws.{refusal_given, given_number, check_case}
use Rattle.rules.specs.calls.Message.{message_rows, message_number, verdict_at, message_answer, refused}
use Rattle.rules.specs.pasts.Past.{World, Event, message, alive, clock, aside, step, answer_to, said}
use Rattle.promised.specs.Judged.{in_order, is_from, sent_from}
use Rattle.promised.specs.AlivePast.{is_signal}
use Rattle.promised.proofs.AlivePastLaws.{Being, living, being, sender_by, signal_own, signal_none, heeded_other, being_step}
use Rattle.promised.specs.Log.{told_by, Exchange, exchange, time_of, Name, name_of, Delivery, deliveries, last_of, open_of, stamp_of, Life, dead, heard_at, life_of}
use Rattle.promised.proofs.LogLaws.{Tells, message_each, clock_each, last_with, after_own, after_clock}
use Rattle.promised.proofs.SafeLaws.{in_order_size, from_accepted}
use Rattle.promised.specs.View.{View, view, sees, outcome_view, step_view}
use Rattle.promised.proofs.ViewLaws.{Registered, registered_view, registered_outcome, out_of_order, found_own}

-- The sender's record holds what the log says of the sender.
abbrev pub TellsLog : Address → ℕ → List Exchange → World → Type 0
TellsLog a i log w = Tells (last_of a (deliveries log)) (time_of log) (open_of a i log) (stamp_of a log) (view w i)

-- ---- a refused packet

module _ (w : World) (p : List ℕ) (ne : message_number w.state (length w.storage) p ≢ 0) where
  pub refused_told : message_told (answer_to w p)
      ≡ message_refused (message_number w.state (length w.storage) p) (age_with (message_number w.state (length w.storage) p) (verdict_at w.state (head_of p)))
  unfolding message_answer refused
  refused_told =
      let given = refusal_given (message_rows w.state (length w.storage) p) ne in
      rw (given.1.0, given.1.1)

  pub refused_above : 8 < message_number w.state (length w.storage) p
  refused_above = given_number (message_rows w.state (length w.storage) p) ne

-- ---- a call with a packet

module _ (g : Settings) (a : Address) (i : ℕ) (w : World) (r : Registered g a i w) (log : List Exchange) (t : TellsLog a i log w) (p : List ℕ) where
  abbrev v : View
  v = view w i

  abbrev x : Exchange
  x = exchange (message p) (told_by (message p) (said w (message p)))

  abbrev o : OutcomeTold
  o = (message_told (answer_to w p)).outcome

  abbrev last : Name
  last = last_of a (deliveries log)

  -- What a delivery to this sender makes its last version and number.
  last_own : (o : OutcomeTold) (part : List ℕ) (ds : List Delivery) → sent_from a p ≡ true
      → last_of a (cond {A = List Delivery} (eqb o.number 1) (record { sender = source (head_of p); name = name_of p; octets = part; verdict = o.verdict } ∷ []) [] ++ ds) ≡ last_with o p (last_of a ds)
  unfolding last_of
  last_own o part ds own = ⊎_elim (λ (e : eqb o.number 1 ≡ true). rw (e, own)) (λ (e : eqb o.number 1 ≡ false). rw e) (true_or_false (eqb o.number 1))

  own_packet : is_from a p ≡ true → TellsLog a i (x ∷ log) (step w (message p))
  unfolding deliveries time_of open_of stamp_of said is_from sees step_view
  own_packet mine =
      let own = and_right (in_order p) (same_address a (source (head_of p))) mine in
      let is : (answer_to w p).outcome ≡ outcome_view g v p = registered_outcome g a i w r p mine in
      rw (registered_view g a i w r (message p), mine, last_own o (said w (message p)).1 (deliveries log) own, own, is)
      (after_own last (time_of log) (open_of a i log) (stamp_of a log) g v p t (in_order_size p (and_left (in_order p) (same_address a (source (head_of p))) mine)))

  -- A packet that is not in order meets 12 or 13, and one from elsewhere is another's.
  pub refused_packet : sent_from a p ≡ true → is_from a p ≡ false → message_number w.state (length w.storage) p ≢ 0
  unfolding is_from
  refused_packet own e = out_of_order w.state (length w.storage) p r.sound.is_valid r.sound.room (⊎_elim
      (λ (so : in_order p ≡ true). absurd (never_both (both (in_order p) (same_address a (source (head_of p))) so own) e))
      (λ f. f)
      (true_or_false (in_order p)))

  last_other : (o : OutcomeTold) (part : List ℕ) (ds : List Delivery) → sent_from a p ≡ false
      → last_of a (cond {A = List Delivery} (eqb o.number 1) (record { sender = source (head_of p); name = name_of p; octets = part; verdict = o.verdict } ∷ []) [] ++ ds) ≡ last_of a ds
  unfolding last_of
  last_other o part ds other = ⊎_elim (λ (e : eqb o.number 1 ≡ true). rw (e, other)) (λ (e : eqb o.number 1 ≡ false). rw e) (true_or_false (eqb o.number 1))

  other_packet : is_from a p ≡ false → TellsLog a i (x ∷ log) (step w (message p))
  unfolding deliveries time_of open_of stamp_of said sees step_view
  other_packet e = rw (registered_view g a i w r (message p), e) (⊎_elim
      (λ (own : sent_from a p ≡ true).
      let ne = refused_packet own e in
      let k = message_number w.state (length w.storage) p in
      let above : 8 < k = refused_above w p ne in
      let is : outcome_told (answer_to w p).outcome ≡ not_delivered k (age_with k (verdict_at w.state (head_of p))) = ap (λ (m : MessageTold). m.outcome) (refused_told w p ne) in
      rw (own, is, ne_eqb k 0 ne, ne_eqb k 1 (λ z. omega (arith, above))) t)
      (λ (other : sent_from a p ≡ false). rw (last_other o (said w (message p)).1 (deliveries log) other, other) t)
      (true_or_false (sent_from a p)))

  pub log_message : TellsLog a i (x ∷ log) (step w (message p))
  log_message = ⊎_elim own_packet other_packet (true_or_false (is_from a p))

  -- A packet that is told 0 met no number.
  stored_none : o.number ≡ 0 → message_number w.state (length w.storage) p ≡ 0
  stored_none zero = ⊎_elim
      (λ none. none)
      (λ (ne : message_number w.state (length w.storage) p ≢ 0).
      let is : o.number ≡ message_number w.state (length w.storage) p = ap (λ (m : MessageTold). m.outcome.number) (refused_told w p ne) in
      absurd (omega (arith, is, refused_above w p ne, zero)))
      (eq_or_ne (message_number w.state (length w.storage) p) 0)

-- ---- a clock call

module _ (w : World) (ok : valid w.state ≡ true) (ms : ℕ) where
  abbrev back : Bool
  back = ltb ms w.state.clock || ltb clock_most ms

  -- What it is told, for the sender at place i.
  pub clock_number : (clock_told (clock_answer w.state ms)).number ≡ cond back 21 0
  unfolding ticked not_ticked
  clock_number = ⊎_elim
      (λ (e : back ≡ true). rw (← clock_back_lem w.state ms ok e, e))
      (λ (e : back ≡ false). rw (← clock_on w.state ms ok e, e))
      (true_or_false back)

  pub clock_dropped : (i : ℕ) → i < w.state.count → bit i (clock_answer w.state ms).dropped ≡ cond (not back && drops w.state.t ms (sender_at w.state i)) 1 0
  unfolding ticked not_ticked
  clock_dropped i here = ⊎_elim
      (λ (e : back ≡ true). rw (← clock_back_lem w.state ms ok e, e) (bit_zero i))
      (λ (e : back ≡ false). rw (← clock_on w.state ms ok e, e) (map_bit (drops w.state.t ms) w.state.senders w.state.count i here))
      (true_or_false back)

  pub clock_dead : (i : ℕ) → i < w.state.count → bit i (clock_answer w.state ms).dead ≡ cond (not back && dies ms (sender_at w.state i)) 1 0
  unfolding ticked not_ticked
  clock_dead i here = ⊎_elim
      (λ (e : back ≡ true). rw (← clock_back_lem w.state ms ok e, e) (bit_zero i))
      (λ (e : back ≡ false). rw (← clock_on w.state ms ok e, e) (map_bit (dies ms) w.state.senders w.state.count i here))
      (true_or_false back)

is_one : (b : Bool) → eqb (cond {A = ℕ} b 1 0) 1 ≡ b
is_one true = refl
is_one false = refl

pub is_done : (b : Bool) (ms now : ℕ) → cond (eqb (cond {A = ℕ} b 21 0) 0) ms now ≡ cond b now ms
is_done true ms now = refl
is_done false ms now = refl

module _ (g : Settings) (a : Address) (i : ℕ) (w : World) (r : Registered g a i w) (log : List Exchange) (t : TellsLog a i log w) where
  -- A call after which the sender's view is as before, and of which the log says nothing of the sender.
  same_view : (e : Event) → step_view g (view w i) (sees a e) ≡ view w i → view (step w e) i ≡ view w i
  same_view e still = registered_view g a i w r e ∙ still

  -- What holds of the packets of the open message, and of one that is stored by this call, holds of all that are then
  -- open.
  pub open_each : (P : List ℕ → Type 0) → ((o : List ℕ) → Memᴰ o (open_of a i log) → P o) → (e : Event)
      → ((p : List ℕ) → message p ≡ e → is_from a p ≡ true → (message_told (answer_to w p)).outcome.number ≡ 0 → P p)
      → (o : List ℕ) → Memᴰ o (open_of a i (exchange e (told_by e (said w e)) ∷ log)) → P o
  unfolding open_of said
  open_each P old (message p) new = message_each P a (open_of a i log) old p (message_told (answer_to w p)).outcome.number
      (λ own zero. new p refl (from_accepted g a i w r p own (stored_none g a i w r log t p zero)) zero)
  open_each P old (alive p) new = old
  open_each P old (clock ms) new = clock_each P a (open_of a i log) old (eqb (bit i (clock_answer w.state ms).dropped) 1)
  open_each P old (aside call) new = old

  pub log_step : (e : Event) → TellsLog a i (exchange e (told_by e (said w e)) ∷ log) (step w e)
  log_step (message p) = log_message g a i w r log t p
  log_step (alive p) = unfold deliveries time_of open_of stamp_of in rw (same_view (alive p) (unfold sees step_view in refl)) t
  log_step (clock ms) =
      let ok = r.sound.is_valid in
      let back = ltb ms w.state.clock || ltb clock_most ms in
      unfold deliveries time_of open_of stamp_of said view sees step_view in
      rw (
        registered_view g a i w r (clock ms),
        clock_number w ok ms,
        is_done back ms (time_of log),
        clock_dropped w ok ms i r.here,
        is_one (not back && drops w.state.t ms (sender_at w.state i)),
        ap (λ (x : Settings). x.t) r.settings,
      )
      (after_clock (last_of a (deliveries log)) (time_of log) (open_of a i log) (stamp_of a log) g (view w i) t ms)
  log_step (aside call) = unfold deliveries time_of open_of stamp_of in rw (same_view (aside call) (unfold sees step_view in refl)) t

-- ---- who is alive

-- What is kept of a sender's being alive, as the log says it.
abbrev pub living_of : Life → Sender
living_of l = with_heard no_sender l.alive (record { stamp = l.stamp; timeout = l.timeout })

abbrev pub LivesLog : Address → ℕ → List Exchange → World → Type 0
LivesLog a i log w = living (sender_at w.state i) ≡ living_of (life_of a i log)

pub alive_number : (w : Receiver) (packet : List ℕ) → call_number (alive_answer w packet).call ≡ first (alive_rows w packet)
unfolding alive_answer
alive_number w packet = check_case (λ (a : Noted). call_number a.call ≡ first (alive_rows w packet)) (alive_rows w packet) _ _ (λ e. sym e) (λ r e. sym e)

heard_log : (now : ℕ) (l : Life) (packet : List ℕ) → heard_by now (living_of l) (body_of packet) ≡ living_of (heard_at now packet)
unfolding heard_by
heard_log now l packet = ⊎_elim
    (λ (e : eqb (body_of packet).mode 1 ≡ true). rw e)
    (λ (e : eqb (body_of packet).mode 1 ≡ false). rw e)
    (true_or_false (eqb (body_of packet).mode 1))

aged_log : (ms : ℕ) (l : Life) → aged 0 ms (living_of l) ≡ living_of (cond (dies ms (living_of l)) dead l)
unfolding aged
aged_log ms l = ⊎_elim
    (λ (e : dies ms (living_of l) ≡ true). rw (e, and-false l.alive))
    (λ (e : dies ms (living_of l) ≡ false). rw (e, and-true l.alive))
    (true_or_false (dies ms (living_of l)))

module _ (g : Settings) (a : Address) (i : ℕ) (w : World) (r : Registered g a i w) (log : List Exchange) (time : w.state.clock ≡ time_of log) (t : LivesLog a i log w) where
  signal_told : (packet : List ℕ) → is_signal a packet ≡ sent_from a packet && eqb (call_number (alive_answer w.state packet).call) 0
  signal_told packet = rw (alive_number w.state packet) (same_test (is_signal a packet) (sent_from a packet && eqb (first (alive_rows w.state packet)) 0)
      (λ e.
      let own = signal_own a packet e in
      let at = found_own w.state r.sound.is_valid i r.here packet (rw r.address own) in
      both (sent_from a packet) (eqb (first (alive_rows w.state packet)) 0) own
      (rw (signal_none a packet w.state e r.sound.is_valid (rw at r.here))))
      (λ e. ⊎_elim
      (λ s. s)
      (λ (no : is_signal a packet ≡ false). absurd (never_both (and_left (sent_from a packet) (eqb (first (alive_rows w.state packet)) 0) e)
      (heeded_other a packet w.state no (eqb-true _ 0 (and_right (sent_from a packet) (eqb (first (alive_rows w.state packet)) 0) e)))))
      (true_or_false (is_signal a packet))))

  kept_life : (e : Event) → living (sender_at (step w e).state i) ≡ sender_by a (being w i) e
  unfolding being
  kept_life e = ap (λ (l : Being). l.sender) (being_step w r.sound i r.here e) ∙ rw r.address

  pub life_log : (e : Event) → LivesLog a i (exchange e (told_by e (said w e)) ∷ log) (step w e)
  unfolding sender_by life_of said being
  life_log (message packet) = kept_life (message packet) ∙ t
  life_log (alive packet) =
      let heard = sent_from a packet && eqb (call_number (alive_answer w.state packet).call) 0 in
      kept_life (alive packet) ∙ rw (t, ← time, signal_told packet) (⊎_elim
      (λ (e : heard ≡ true). rw e (heard_log w.state.clock (life_of a i log) packet))
      (λ (e : heard ≡ false). rw e)
      (true_or_false heard))
  life_log (clock ms) =
      let back = ltb ms w.state.clock || ltb clock_most ms in
      let old : dies ms (sender_at w.state i) ≡ dies ms (living_of (life_of a i log)) = ap (dies ms) t in
      kept_life (clock ms) ∙ rw (clock_dead w r.sound.is_valid ms i r.here, is_one (not back && dies ms (sender_at w.state i)), old, t) (⊎_elim
      (λ (e : back ≡ true). rw e)
      (λ (e : back ≡ false). rw e (aged_log ms (life_of a i log)))
      (true_or_false back))
  life_log (aside call) = kept_life (aside call) ∙ t
