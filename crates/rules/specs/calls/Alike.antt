-- "The record of a message not open, the stamp and al_tm_out of a sender not alive, and places past the senders are
-- written 0 and never looked at." What is looked at, when two states and two answers are alike in it, and when the rest
-- is 0.
use Rattle.std.specs.Prelude.{◌≡◌, cond, ℕ, ◌≤◌, ◌<◌}
use Rattle.groups.specs.Groups.{kept}
use Rattle.state.specs.declared.Sender.{Sender}
use Rattle.state.specs.declared.Receiver.{Receiver}
use Rattle.answers.specs.declared.Answer.{Answer}
use Rattle.answers.specs.declared.Noted.{Noted}
use Rattle.answers.specs.declared.Ticked.{Ticked}
use Rattle.state.specs.State.{no_message, no_heard, no_sender, sender_at, Settings, settings_from, with_groups, with_message, with_heard}

-- What is looked at of a sender: not "the record of a message not open", nor "the stamp and al_tm_out of a sender not
-- alive".
unfoldable pub seen : Sender → Sender
seen s =
    let message = cond s.«open» s.message no_message in
    let heard = cond s.alive s.heard no_heard in
    with_heard (with_message s s.«open» message) s.alive heard

-- ---- "never looked at"

-- What is looked at of the settings: of the groups not "places past the count".
abbrev pub seen_settings : Receiver → Settings
seen_settings w = with_groups (settings_from w) (kept w.groups)

-- Two states with the same in all that is looked at. Of "places past the senders" nothing is said.
pub record Alike (w v : Receiver) : Type 0 where
  pub same_settings : seen_settings w ≡ seen_settings v
  pub same_clock : w.clock ≡ v.clock
  pub same_seen : (k : ℕ) → k < w.count → seen (sender_at w k) ≡ seen (sender_at v k)

-- Two answers that say the same and leave states that are alike: of the message call, the alive call and the clock
-- call.
pub record AlikeAnswer (a b : Answer) : Type 0 where
  pub same_outcome : a.outcome ≡ b.outcome
  pub same_held : a.held ≡ b.held
  pub same_dropped : a.dropped ≡ b.dropped
  pub same_lies : a.lies ≡ b.lies
  pub alike_state : Alike a.state b.state

pub record AlikeNoted (a b : Noted) : Type 0 where
  pub same_call : a.call ≡ b.call
  pub alike_state : Alike a.state b.state

pub record AlikeTicked (a b : Ticked) : Type 0 where
  pub same_call : a.call ≡ b.call
  pub same_dropped : a.dropped ≡ b.dropped
  pub same_dead : a.dead ≡ b.dead
  pub alike_state : Alike a.state b.state

-- ---- "are written 0"

-- A state in which all that is not looked at is 0: "The record of a message not open, the stamp and al_tm_out of a
-- sender not alive", "and places past the senders"; 02, Item 5: of the groups, "places past the count".
pub record Zeroed (w : Receiver) : Type 0 where
  pub groups_zero : kept w.groups ≡ w.groups
  pub sender_zero : (k : ℕ) → k < w.count → seen (sender_at w k) ≡ sender_at w k
  pub past_zero : (k : ℕ) → w.count ≤ k → sender_at w k ≡ no_sender
