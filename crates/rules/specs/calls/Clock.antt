-- The clock call: "Only the clock call moves time: whole ms, 0 to 1,099,511,627,776, never back, equal allowed."
use Rattle.std.specs.Prelude.{ℕ, zero, suc, ◌+◌, ◌-◌, ◌*◌, ◌^◌, Bool, not, cond, ◌&&◌, ◌||◌, List, [], ◌∷◌, leb, ltb, get_or, set, Ok, Err}
use Rattle.refusal.specs.declared.Refusal.{Refusal}
use Rattle.refusal.specs.declared.Refusal.TheVariants as refusals
use Rattle.state.specs.declared.Sender.{Sender}
use Rattle.state.specs.declared.Receiver.{Receiver}
use Rattle.answers.specs.declared.Ticked.{Ticked}
use Rattle.rules.specs.calls.First.{Row, row, checked, by_check}
use Rattle.state.specs.Limits.{valid, clock_most}
use Rattle.state.specs.State.{no_message, no_heard, no_sender, settings_from, state_of, with_message, with_heard}

-- "21: clock back or above its limit"
abbrev pub clock_rows : Receiver → ℕ → List Row
clock_rows w ms = row refusals.State (not (valid w)) ∷ row refusals.Clock (ltb ms w.clock || ltb clock_most ms) ∷ []

-- "It drops each open message whose age is T or more"
abbrev pub drops : ℕ → ℕ → Sender → Bool
drops t ms s = s.«open» && leb t (ms - s.message.stamp)

-- "and calls dead each alive sender whose age is al_tm_out or more", which is in seconds; "al_tm_out 0 is dead at the
-- next clock call."
abbrev pub dies : ℕ → Sender → Bool
dies ms s = s.alive && leb (1000 * s.heard.timeout) (ms - s.heard.stamp)

-- "The record of a message not open, the stamp and al_tm_out of a sender not alive … are written 0".
abbrev pub dropped_if : Bool → Sender → Sender
dropped_if so s = with_message s (s.«open» && not so) (cond so no_message s.message)

abbrev pub dead_if : Bool → Sender → Sender
dead_if so s = with_heard s (s.alive && not so) (cond so no_heard s.heard)

unfoldable pub aged : ℕ → ℕ → Sender → Sender
aged t now s = dead_if (dies now s) (dropped_if (drops t now s) s)

-- The first k senders aged.
unfoldable pub aged_senders : ℕ → ℕ → List Sender → ℕ → List Sender
aged_senders t ms l zero = l
aged_senders t ms l (suc k) = set (aged_senders t ms l k) k (aged t ms (get_or l k no_sender))

-- "reports both as 16-bit maps, first sender lowest": the first k senders of which something holds.
unfoldable pub map_where : (Sender → Bool) → List Sender → ℕ → ℕ
map_where f l zero = 0
map_where f l (suc k) = map_where f l k + cond (f (get_or l k no_sender)) (2 ^ k) 0

unfoldable pub ticked : Receiver → ℕ → Ticked
ticked w now = record {
  call = Ok tt;
  dropped = map_where (drops w.t now) w.senders w.count;
  dead = map_where (dies now) w.senders w.count;
  state = state_of (settings_from w) now (aged_senders w.t now w.senders w.count);
}

unfoldable pub not_ticked : Receiver → Refusal → Ticked
not_ticked w r = record { call = Err r; dropped = 0; dead = 0; state = w }

unfoldable pub clock_answer : Receiver → ℕ → Ticked
clock_answer w ms = by_check (checked (clock_rows w ms)) (ticked w ms) (not_ticked w)
