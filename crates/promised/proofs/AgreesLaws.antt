-- After every past, state and log agree: the state has setup's arguments, the log's time, and of each sender what the
-- log says of it. Assumes nothing.
use Rattle.std.specs.Prelude.{ℕ, ◌≤◌, ◌<◌, ◌≡◌, true, false, ◌||◌, length}
use Rattle.std.proofs.Math.Path.{refl, ap}
use Rattle.std.proofs.Common.{sym, subst, ◌∙◌, arith, get_or-take}
use Rattle.std.proofs.Math.Logic.{⊎_elim}
use mathlib.Core.List.Memᴰ
use mathlib.Core.List.{List, [], ◌∷◌, Memᴰ}
use Rattle.std.proofs.Math.Dec.{ltb}
use Rattle.std.proofs.Math.ListN.{length-take}
use Rattle.octets.specs.Split.{lt_or_le, true_or_false, never_both}
use Rattle.header.specs.Codes.{within}
use Rattle.groups.specs.Groups.{kept}
use Rattle.groups.proofs.GroupsLaws.{kept_none}
use Rattle.state.specs.declared.Receiver.{Receiver}
use Rattle.state.specs.declared.Sender.{Sender}
use Rattle.state.specs.Limits.{given, address_at, clock_most}
use Rattle.state.proofs.LimitsLaws.{addresses_few}
use Rattle.state.specs.State.{no_address, Settings, settings_from}
use Rattle.answers.specs.declared.Setup.{Setup}
use Rattle.rules.proofs.calls.ChangesLaws.{message_only, alive_only}
use Rattle.rules.specs.calls.Clock.{ticked, not_ticked}
use Rattle.rules.proofs.calls.ClockLaws.{clock_back_lem, clock_on}
use Rattle.rules.specs.calls.Setup.{setup_within, settings_by, setup_state, setup_answer}
use Rattle.rules.proofs.calls.SetupLaws.{setup_facts}
use Rattle.rules.specs.pasts.Past.{World, Event, message, alive, clock, aside, step, said, Start}
use Rattle.rules.proofs.pasts.PastLaws.{Sound, start_sound, start_clock, start_sender, same_settings, same_count, step_sound}
use Rattle.promised.proofs.AlivePastLaws.{living}
use Rattle.promised.specs.Judged.{is_from}
use Rattle.promised.specs.Log.{told_by, Exchange, exchange, time_by, time_of, deliveries, last_of, open_of, stamp_of, life_of}
use Rattle.promised.proofs.KeptLaws.{TellsLog, open_each, log_step, LivesLog, life_log, clock_number, is_done}
use Rattle.promised.proofs.SafeLaws.{start_inv}
use Rattle.promised.specs.Says.{senders_of, groups_of}
use Rattle.promised.specs.View.{view}
use Rattle.promised.proofs.ViewLaws.{same_address_lem, Registered}

pub record Agrees (q : Setup) (log : List Exchange) (w : World) : Type 0 where
  pub sound : Sound w
  pub count : w.state.count ≡ length (senders_of q)
  pub settings : setup_within q ≡ true → settings_from w.state ≡ settings_by q
  pub groups : w.state.groups ≡ kept (groups_of q)
  pub address : (i : ℕ) → i < w.state.count → address_at w.state.senders i ≡ given (senders_of q) i
  pub time : w.state.clock ≡ time_of log
  pub tells : (i : ℕ) → i < w.state.count → TellsLog (given (senders_of q) i) i log w
  pub lives : (i : ℕ) → i < w.state.count → LivesLog (given (senders_of q) i) i log w
  pub from : (i : ℕ) → i < w.state.count → (p : List ℕ) → Memᴰ p (open_of (given (senders_of q) i) i log) → is_from (given (senders_of q) i) p ≡ true

-- ---- at setup

module _ (q : Setup) where
  -- An accepted setup was given as many addresses as it says.
  given_all : setup_within q ≡ true → q.count ≤ length q.senders
  given_all e = ⊎_elim
      (λ (few : length q.senders < q.count). absurd (never_both (setup_facts q e).addresses (addresses_few q.senders q.count few)))
      (λ h. h)
      (lt_or_le (length q.senders) q.count)

  start_count : (setup_answer q).state.count ≡ length (senders_of q)
  unfolding setup_answer setup_state senders_of
  start_count = ⊎_elim
      (λ (e : setup_within q ≡ true). rw (e, length-take q.count q.senders) (omega (arith, given_all e)))
      (λ (e : setup_within q ≡ false). rw e)
      (true_or_false (setup_within q))

  start_given : (i : ℕ) → i < (setup_answer q).state.count → given q.senders i ≡ given (senders_of q) i
  unfolding setup_answer setup_state senders_of
  start_given i here = ⊎_elim
      (λ (e : setup_within q ≡ true). rw e (sym (get_or-take q.count q.senders i no_address (rw e at here))))
      (λ (e : setup_within q ≡ false). let none : i < 0 = rw e at here in absurd (omega arith))
      (true_or_false (setup_within q))

  start_settings : setup_within q ≡ true → settings_from (setup_answer q).state ≡ settings_by q
  unfolding setup_answer setup_state
  start_settings e = rw e

  start_groups : (setup_answer q).state.groups ≡ kept (groups_of q)
  unfolding setup_answer setup_state groups_of
  start_groups = ⊎_elim
      (λ (e : setup_within q ≡ true). rw e)
      (λ (e : setup_within q ≡ false). rw e (sym kept_none))
      (true_or_false (setup_within q))

pub agrees_start : (w : World) (s : Start w) → Agrees s.given [] w
unfolding time_of life_of view last_of deliveries open_of stamp_of
agrees_start w s = record {
  sound = start_sound w s;
  count = ap (λ (x : Receiver). x.count) s.state ∙ start_count s.given;
  settings = λ e. ap settings_from s.state ∙ start_settings s.given e;
  groups = ap (λ (x : Receiver). x.groups) s.state ∙ start_groups s.given;
  address = λ i here. ap (λ (x : Sender). x.address) (start_sender w s i here) ∙ start_given s.given i (subst (λ (x : Receiver). i < x.count) s.state here);
  time = start_clock w s;
  tells = λ i here. new_tells i here;
  lives = λ i here. ap living (start_sender w s i here);
  from = λ i here p none. absurd (Memᴰ.not-nil none);
}
  where
    new_tells : (i : ℕ) → i < w.state.count → TellsLog (given (senders_of s.given) i) i [] w
    new_tells i here =
        let is = start_sender w s i here in
        record {
          same_last = ap (λ (x : Sender). x.last) is;
          same_time = start_clock w s;
          same_open = ap (λ (x : Sender). x.«open») is;
          inv = start_inv w s i here;
          same_held = λ o. absurd (never_both o (ap (λ (x : Sender). x.«open») is));
          same_stamp = λ o. absurd (never_both o (ap (λ (x : Sender). x.«open») is));
        }

-- ---- after one more call

module _ (q : Setup) (log : List Exchange) (w : World) (a : Agrees q log w) where
  -- The sender at place i is registered there.
  pub agrees_place : (i : ℕ) → i < w.state.count → Registered (settings_from w.state) (given (senders_of q) i) i w
  agrees_place i here = record { sound = a.sound; here = here; settings = refl; address = a.address i here }

  clock_step : (e : Event) → (step w e).state.clock ≡ time_by w.state.clock e (told_by e (said w e))
  unfolding step said
  clock_step (message packet) = (message_only w.state (length w.storage) packet).same_clock
  clock_step (alive packet) = (alive_only w.state packet).same_clock
  clock_step (clock ms) =
      let back = ltb ms w.state.clock || ltb clock_most ms in
      rw (clock_number w a.sound.is_valid ms, is_done back ms w.state.clock) (⊎_elim
      (λ (e : back ≡ true). unfold not_ticked in rw (← clock_back_lem w.state ms a.sound.is_valid e, e))
      (λ (e : back ≡ false). unfold ticked in rw (← clock_on w.state ms a.sound.is_valid e, e))
      (true_or_false back))
  clock_step (aside call) = refl

  pub agrees_step : (e : Event) → Agrees q (exchange e (told_by e (said w e)) ∷ log) (step w e)
  unfolding time_of
  agrees_step e =
      let here : (i : ℕ) → i < (step w e).state.count → i < w.state.count = λ i less. omega (arith, less, same_count w e) in
      record {
        sound = step_sound w e a.sound;
        count = same_count w e ∙ a.count;
        settings = λ within. same_settings w e ∙ a.settings within;
        groups = ap (λ (x : Settings). x.groups) (same_settings w e) ∙ a.groups;
        address = λ i less. same_address_lem w a.sound i (here i less) e ∙ a.address i (here i less);
        time = clock_step e ∙ ap (λ (t : ℕ). time_by t e (told_by e (said w e))) a.time;
        tells = λ i less. log_step (settings_from w.state) (given (senders_of q) i) i w (agrees_place i (here i less)) log (a.tells i (here i less)) e;
        from = λ i less. open_each (settings_from w.state) (given (senders_of q) i) i w (agrees_place i (here i less)) log (a.tells i (here i less))
            (λ p. is_from (given (senders_of q) i) p ≡ true) (a.from i (here i less)) e (λ p _ mine _. mine);
        lives = λ i less. life_log (settings_from w.state) (given (senders_of q) i) i w (agrees_place i (here i less)) log a.time (a.lives i (here i less)) e;
      }
