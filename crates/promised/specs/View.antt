-- One sender's view of a past: what its packets can see and change. It serves the proofs: no statement speaks of it.
use Rattle.std.specs.Prelude.{ℕ, ◌*◌, cond, ◌||◌, List, eqb, ltb}
use Rattle.octets.specs.Run.{run}
use Rattle.header.specs.Head.{head_of}
use Rattle.state.specs.declared.Address.{Address}
use Rattle.state.specs.declared.Sender.{Sender}
use Rattle.state.specs.Limits.{clock_most}
use Rattle.state.specs.State.{no_sender, sender_at, Settings, with_message, with_last}
use Rattle.answers.specs.declared.Outcome.{Outcome}
use Rattle.rules.specs.calls.Admit.{sender_rows, admitted, admission}
use Rattle.rules.specs.calls.Clock.{aged}
use Rattle.rules.specs.calls.First.{first}
use Rattle.rules.specs.calls.Message.{area, storage_after}
use Rattle.promised.specs.Judged.{is_from}
use Rattle.rules.specs.pasts.Past.{World, Event, message, alive, clock, aside}

pub record View : Type 0 where
  pub sender : Sender
  pub now : ℕ
  pub octets : List ℕ

-- What joining looks at of a sender's record: all but who it is and whether it is alive.
abbrev pub joining : Sender → Sender
joining s = with_last (with_message no_sender s.«open» s.message) s.last

unfoldable pub view : World → ℕ → View
view w i = record { sender = joining (sender_at w.state i); now = w.state.clock; octets = run (i * area) area w.storage }

-- ---- what a call is to the sender with this address

pub data Seen : Type 0 where
  own : List ℕ → Seen
  time : ℕ → Seen
  other : Seen

unfoldable pub sees : Address → Event → Seen
sees a (message packet) = cond (is_from a packet) (own packet) other
sees a (alive packet) = other
sees a (clock now) = time now
sees a (aside call) = other

-- ---- what it does

-- 15 to 20
abbrev pub number_of : Settings → View → List ℕ → ℕ
number_of g v packet = first (sender_rows g.test g.n1 v.sender (head_of packet))

-- What is answered.
abbrev pub outcome_view : Settings → View → List ℕ → Outcome
outcome_view g v packet = (admission g.test g.n1 v.now v.sender (head_of packet)).outcome

unfoldable pub put : Settings → View → List ℕ → View
put g v packet = record {
  sender = (admitted g.n1 v.now v.sender (head_of packet)).sender;
  now = v.now;
  octets = storage_after v.octets 0 (head_of packet) packet;
}

unfoldable pub next_view : Settings → View → List ℕ → View
next_view g v packet = cond (eqb (number_of g v packet) 0) (put g v packet) v

unfoldable pub tick_view : Settings → View → ℕ → View
tick_view g v now =
    cond (ltb now v.now || ltb clock_most now) v (record { sender = joining (aged g.t now v.sender); now = now; octets = v.octets })

unfoldable pub step_view : Settings → View → Seen → View
step_view g v (own packet) = next_view g v packet
step_view g v (time now) = tick_view g v now
step_view g v other = v
