-- Who is alive after a past: D.5 with 01's rules, said of the calls since setup alone, in the order of time. No state
-- is looked at.
use Rattle.std.specs.Prelude.{ℕ, ◌-◌, ◌*◌, ◌<◌, ◌≡◌, Bool, true, false, cond, ◌&&◌, ◌||◌, ltb}
use mathlib.Core.List.{List, [], ◌∷◌, ◌++◌, foldl, Memᴰ}
use Rattle.signal.specs.Alive.{body_of}
use Rattle.state.specs.declared.Address.{Address}
use Rattle.state.specs.Limits.{clock_most}
use Rattle.promised.specs.Judged.{has_length, is_alive, has_body, has_section, sent_from}
use Rattle.rules.specs.pasts.Past.{Event, message, alive, clock, aside}

-- ---- time

-- "21: clock back or above its limit"
abbrev pub back_or_above : ℕ → ℕ → Bool
back_or_above t now = ltb now t || ltb clock_most now

-- "Only the clock call moves time: whole ms, 0 to 1,099,511,627,776, never back, equal allowed."
unfoldable pub moved_by : ℕ → Event → ℕ
moved_by t (message packet) = t
moved_by t (alive packet) = t
moved_by t (clock now) = cond (back_or_above t now) t now
moved_by t (aside call) = t

-- The time after calls that began at the time t.
abbrev pub time_after : ℕ → List Event → ℕ
time_after = foldl moved_by

-- The times that were told in clock calls among them and not refused.
unfoldable pub clock_times : ℕ → List Event → List ℕ
clock_times t [] = []
clock_times t (message packet ∷ es) = clock_times t es
clock_times t (alive packet ∷ es) = clock_times t es
clock_times t (clock now ∷ es) = cond (back_or_above t now) (clock_times t es) (now ∷ clock_times now es)
clock_times t (aside call ∷ es) = clock_times t es

-- ---- signals

-- "An alive PDU is 128 to 1,472 octets, its length equal to BSIZE and ML, CBN = TBN = 1, code 60,003, group 0, layout
-- by 5.3. …", with a fault section behind it or none, from this address: none of 12, 13, 22 and 24 applies to it. "No
-- number check."
unfoldable pub is_signal : Address → List ℕ → Bool
is_signal a packet = has_length 128 1472 packet && is_alive packet && has_body packet && has_section packet && sent_from a packet

-- ---- who is alive

-- After the calls es the sender with the address a is alive, by one packet among them. "Never heard: dead."
pub record AliveBy (a : Address) (es : List Event) : Type 0 where
  pub before : List Event
  pub packet : List ℕ
  pub later : List Event
  pub split : es ≡ before ++ (alive packet ∷ later)
  pub signal : is_signal a packet ≡ true
  -- "Mode 1: the sender is alive, stamped with the clock and al_tm_out (unit by 5.3)." "At setup the clock is 0".
  pub says : (body_of packet).mode ≡ 1
  pub stamp : ℕ
  pub stamped : stamp ≡ time_after 0 before
  -- It is the last signal from there: "Modes 2 and 3: dead from then on", and another of mode 1 is stamped anew.
  pub since : (other : List ℕ) → Memᴰ (alive other) later → is_signal a other ≡ false
  -- No clock call called it dead: it "calls dead each alive sender whose age is al_tm_out or more", which is in
  -- seconds; "al_tm_out 0 is dead at the next clock call."
  pub young : (now : ℕ) → Memᴰ now (clock_times stamp later) → now - stamp < 1000 * (body_of packet).timeout
