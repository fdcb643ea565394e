-- Of every past: the state stays valid, and the storage and the table of senders are of the size that they had. So no
-- past meets 9 or 11.
use Rattle.std.specs.Prelude.{ℕ, ◌*◌, ◌<◌, ◌≡◌, refl, Bool, true, false, List, [], ◌∷◌, eqb, length}
use Rattle.std.proofs.Common.{sym, ap, subst, ◌∙◌, arith}
use Rattle.octets.proofs.RunLaws.{length_laid}
use Rattle.octets.specs.Split.{cond_case}
use Rattle.header.specs.Head.{head_of}
use Rattle.state.specs.declared.Receiver.{Receiver}
use Rattle.state.specs.Limits.{valid, given}
use Rattle.state.specs.State.{new_sender, empty_receiver, sender_at, Settings, settings_from}
use Rattle.state.proofs.WithinLaws.{written_place}
use Rattle.answers.specs.declared.Started.{Started}
use Rattle.answers.specs.declared.Ticked.{Ticked}
use Rattle.rules.proofs.calls.ChangesLaws.{message_only, alive_only}
use Rattle.rules.specs.calls.Clock.{clock_rows, clock_answer, ticked, not_ticked}
use Rattle.rules.proofs.calls.FirstLaws.{check_case}
use Rattle.rules.specs.calls.Message.{area, message_rows, message_storage, storage_after}
use Rattle.rules.specs.pasts.Past.{World, Event, message, alive, clock, aside, step, after, Start}
use Rattle.rules.specs.calls.Setup.{setup_within, new_senders, setup_state, setup_answer}
use Rattle.rules.proofs.calls.SetupLaws.{setup_count}
use Rattle.rules.proofs.calls.ValidLaws.{setup_valid, message_valid, alive_valid, clock_valid}

-- What every past keeps.
pub record Sound (w : World) : Type 0 where
  pub is_valid : valid w.state ≡ true
  pub room : length w.storage ≡ w.state.count * area

pub start_sound : (w : World) → Start w → Sound w
start_sound w s = record { is_valid = rw s.state (setup_valid s.given); room = s.room }

-- "At setup the clock is 0,
pub start_clock : (w : World) → Start w → w.state.clock ≡ 0
unfolding setup_state setup_answer
start_clock w s = rw s.state (cond_case (λ (x : Started). x.state.clock ≡ 0) (setup_within s.given) _ _ (λ _. refl) (λ _. refl))

-- nobody is heard, nothing is open and every last version and number is 0."
pub start_sender : (w : World) (s : Start w) (i : ℕ) → i < w.state.count → sender_at w.state i ≡ new_sender (given s.given.senders i)
unfolding setup_state setup_answer new_senders
start_sender w s i less = by (setup_within s.given) refl
  where
    by : (b : Bool) → setup_within s.given ≡ b → sender_at w.state i ≡ new_sender (given s.given.senders i)
    by true e =
        let q = s.given in
        let is : w.state ≡ setup_state q = s.state ∙ rw e in
        let here : i < q.count = subst (λ (x : Receiver). i < x.count) is less in
        ap (λ (x : Receiver). sender_at x i) is
        ∙ written_place (new_senders q.senders) (λ j. new_sender (given q.senders j)) (λ j. refl) q.count i here (omega (arith, setup_count q e))
    by false e =
        let is : w.state ≡ empty_receiver = s.state ∙ rw e in
        absurd (omega (arith, less, ap (λ (x : Receiver). x.count) is))

-- ---- what a call keeps

-- No message call changes how many octets there are.
pub length_after : (storage : List ℕ) (i : ℕ) (packet : List ℕ) → length (storage_after storage i (head_of packet) packet) ≡ length storage
unfolding storage_after
length_after storage i packet = cond_case (λ (x : List ℕ). length x ≡ length storage) (eqb (head_of packet).cut.tbn 1) _ _ (λ _. refl) (λ _. length_laid storage _ _)

pub same_room : (w : Receiver) (storage packet : List ℕ) → length (message_storage w storage packet) ≡ length storage
unfolding message_storage
same_room w storage packet = check_case (λ (x : List ℕ). length x ≡ length storage) (message_rows w (length storage) packet) _ _ (λ _. length_after storage _ packet) (λ r _. refl)

clock_settings : (w : Receiver) (now : ℕ) → settings_from (clock_answer w now).state ≡ settings_from w
unfolding clock_answer ticked not_ticked
clock_settings w now =
    check_case (λ (a : Ticked). settings_from a.state ≡ settings_from w) (clock_rows w now) (ticked w now) (not_ticked w) (λ _. refl) (λ r _. refl)

pub same_settings : (w : World) (e : Event) → settings_from (step w e).state ≡ settings_from w.state
unfolding step
same_settings w (message packet) = (message_only w.state (length w.storage) packet).same_settings
same_settings w (alive packet) = (alive_only w.state packet).same_settings
same_settings w (clock now) = clock_settings w.state now
same_settings w (aside call) = refl

pub same_count : (w : World) (e : Event) → (step w e).state.count ≡ w.state.count
same_count w e = ap (λ (g : Settings). g.count) (same_settings w e)

step_valid : (w : World) (e : Event) → valid w.state ≡ true → valid (step w e).state ≡ true
unfolding step
step_valid w (message packet) v = message_valid w.state (length w.storage) packet v
step_valid w (alive packet) v = alive_valid w.state packet v
step_valid w (clock now) v = clock_valid w.state now v
step_valid w (aside call) v = v

step_room : (w : World) (e : Event) → length (step w e).storage ≡ length w.storage
unfolding step
step_room w (message packet) = same_room w.state w.storage packet
step_room w (alive packet) = refl
step_room w (clock now) = refl
step_room w (aside call) = refl

pub step_sound : (w : World) (e : Event) → Sound w → Sound (step w e)
step_sound w e s = record {
  is_valid = step_valid w e s.is_valid;
  room = step_room w e ∙ s.room ∙ ap (λ (k : ℕ). k * area) (sym (same_count w e));
}

pub after_sound : (w : World) (es : List Event) → Sound w → Sound (after w es)
unfolding after
after_sound w [] s = s
after_sound w (e ∷ es) s = after_sound (step w e) es (step_sound w e s)

pub after_count : (w : World) (es : List Event) → (after w es).state.count ≡ w.state.count
unfolding after
after_count w [] = refl
after_count w (e ∷ es) = after_count (step w e) es ∙ same_count w e

-- So no past meets 9 or 11.
pub past_sound : (w : World) → Start w → (es : List Event) → Sound (after w es)
past_sound w s es = after_sound w es (start_sound w s)
