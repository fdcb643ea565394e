-- What the calls since setup and their answers say of a sender: what was last delivered to it, what is open, when it
-- was last heard, and what time it is. No state is looked at. A log has the calls with what each was told, the latest
-- first.
use Rattle.std.specs.Prelude.{ℕ, Bool, true, false, not, cond, ◌&&◌, List, [], ◌∷◌, ◌++◌, map, eqb}
use Rattle.ring.specs.declared.Number.{Number}
use Rattle.ring.specs.declared.Version.{Version}
use Rattle.header.specs.Head.{head_of}
use Rattle.signal.specs.Alive.{body_of}
use Rattle.map.specs.Map.{bit}
use Rattle.state.specs.declared.Address.{Address}
use Rattle.state.specs.Limits.{same_address}
use Rattle.state.specs.Table.{source}
use Rattle.promised.specs.Judged.{sent_from}
use Rattle.answers.specs.Told.{MessageTold, message_told, GroupTold, group_told, call_number, ClockTold, clock_told, QuestionTold, question_told}
use Rattle.rules.specs.calls.Multicast.{Tables}
use Rattle.rules.specs.pasts.Past.{Event, message, alive, clock, aside, question, multicast, Said, Answers}

-- ---- a log

-- What a call is told: 01's number and values, and to a packet the octets that are handed over; to one to a group, the two
-- tables that are left, too.
abbrev pub ToldOf : Event → Type 0
ToldOf (message packet) = MessageTold × List ℕ
ToldOf (alive packet) = ℕ
ToldOf (clock ms) = ClockTold
ToldOf (aside question) = QuestionTold
ToldOf (aside (multicast t g packet)) = GroupTold × Tables × List ℕ

abbrev pub told_by : (e : Event) → Said e → ToldOf e
told_by (message packet) r = (message_told r.0, r.1)
told_by (alive packet) r = call_number r.call
told_by (clock ms) r = clock_told r
told_by (aside question) r = question_told r
told_by (aside (multicast t g packet)) r = (group_told r.0, r.1, r.2)

-- A call, and what it was told.
pub record Exchange : Type 0 where
  pub call : Event
  pub told : ToldOf call

abbrev pub exchange : (e : Event) → ToldOf e → Exchange
exchange e t = record { call = e; told = t }

-- What is in the log after more calls, in the order of time.
unfoldable pub logged : List Exchange → (es : List Event) → Answers es → List Exchange
logged log [] rs = log
logged log (e ∷ es) rs = logged (exchange e (told_by e rs.0) ∷ log) es rs.1

-- The calls of a log.
abbrev pub calls : List Exchange → List Event
calls = map (λ x. x.call)

-- ---- time

-- "Only the clock call moves time"; a refusal alters no clock.
abbrev pub time_by : ℕ → (e : Event) → ToldOf e → ℕ
time_by t (message packet) told = t
time_by t (alive packet) told = t
time_by t (clock ms) told = cond (eqb told.number 0) ms t
time_by t (aside call) told = t

-- "At setup the clock is 0".
unfoldable pub time_of : List Exchange → ℕ
time_of [] = 0
time_of (x ∷ before) = time_by (time_of before) x.call x.told

-- ---- what was delivered

-- The version and number of a message.
pub record Name : Type 0 where
  pub version : Version
  pub number : Number

abbrev pub name_of : List ℕ → Name
name_of packet = record { version = (head_of packet).given.version; number = (head_of packet).given.number }

abbrev pub no_name : Name
no_name = record { version = record { 0 = 0 }; number = record { 0 = 0 } }

-- What was delivered, of whom, and with which verdict.
pub record Delivery : Type 0 where
  pub sender : Address
  pub name : Name
  pub octets : List ℕ
  pub verdict : ℕ

-- "1 delivered"
abbrev pub delivered_by : (e : Event) → ToldOf e → List Delivery
delivered_by (message packet) told =
    cond (eqb told.0.outcome.number 1)
    (record { sender = source (head_of packet); name = name_of packet; octets = told.1; verdict = told.0.outcome.verdict } ∷ [])
    []
delivered_by (alive packet) told = []
delivered_by (clock ms) told = []
delivered_by (aside call) told = []

-- All deliveries, the latest first.
unfoldable pub deliveries : List Exchange → List Delivery
deliveries [] = []
deliveries (x ∷ before) = delivered_by x.call x.told ++ deliveries before

-- "For each sender the last delivered version RV and number R are kept." "5 unchecked": "Delivery leaves RV and R." At
-- setup "every last version and number is 0."
unfoldable pub last_of : Address → List Delivery → Name
last_of a [] = no_name
last_of a (d ∷ before) = cond (same_address a d.sender && not (eqb d.verdict 5)) d.name (last_of a before)

-- ---- what was delivered to groups

-- What was delivered, of whom, to which group, with which priority and which verdict.
pub record Cast : Type 0 where
  pub sender : Address
  pub group : ℕ
  pub pri : ℕ
  pub name : Name
  pub verdict : ℕ

-- "1 delivered"
abbrev pub cast_by : (e : Event) → ToldOf e → List Cast
cast_by (message packet) told = []
cast_by (alive packet) told = []
cast_by (clock ms) told = []
cast_by (aside question) told = []
cast_by (aside (multicast t g packet)) told =
    cond (eqb told.0.outcome.number 1)
    (record { sender = source (head_of packet); group = g; pri = (head_of packet).given.pri; name = name_of packet; verdict = told.0.outcome.verdict } ∷ [])
    []

-- All of them, the latest first.
unfoldable pub casts : List Exchange → List Cast
casts [] = []
casts (x ∷ before) = cast_by x.call x.told ++ casts before

-- Whether it is of this sender, group and priority, and not unchecked.
abbrev pub counts : Address → (group pri : ℕ) → Cast → Bool
counts a g pri d = same_address a d.sender && eqb g d.group && eqb pri d.pri && not (eqb d.verdict 5)

-- 02, Item 5: "The last version and number are kept for each sender, group and priority"; they began as `first`.
unfoldable pub last_cast : Address → (group pri : ℕ) → (first : Name) → List Cast → Name
last_cast a g pri first [] = first
last_cast a g pri first (d ∷ before) = cond (counts a g pri d) d.name (last_cast a g pri first before)

-- ---- what is open

-- The open message is said by the packets accepted since it opened, the latest first. Whether it has this version and
-- number:
abbrev pub same_message : List (List ℕ) → Name → Bool
same_message [] name = false
same_message (p ∷ packets) name =
    eqb (head_of p).given.version.0 name.version.0 && eqb (head_of p).given.number.0 name.number.0

-- "nothing open, it opens. Another version than the open one, or the same version and a" newer "number: the open message
-- is dropped … and the new one opens. Same version and number: a new piece is added."
abbrev pub accepted_with : List (List ℕ) → List ℕ → List (List ℕ)
accepted_with packets packet = packet ∷ cond (same_message packets (name_of packet)) packets []

-- "0 stored"; "1 delivered": "nothing is then open". A refusal changes nothing.
abbrev pub open_after : ℕ → List (List ℕ) → List ℕ → List (List ℕ)
open_after number packets packet = cond (eqb number 0) (accepted_with packets packet) (cond (eqb number 1) [] packets)

-- The clock call "drops each open message whose age is T or more … and reports" it at its sender's place i.
abbrev pub open_by : Address → ℕ → List (List ℕ) → (e : Event) → ToldOf e → List (List ℕ)
open_by a i packets (message packet) told = cond (sent_from a packet) (open_after told.0.outcome.number packets packet) packets
open_by a i packets (alive packet) told = packets
open_by a i packets (clock ms) told = cond (eqb (bit i told.dropped) 1) [] packets
open_by a i packets (aside call) told = packets

-- The packets of the sender with this address, at this place, accepted since its open message opened; none where
-- nothing is open.
unfoldable pub open_of : Address → ℕ → List Exchange → List (List ℕ)
open_of a i [] = []
open_of a i (x ∷ before) = open_by a i (open_of a i before) x.call x.told

abbrev pub is_open : List (List ℕ) → Bool
is_open [] = false
is_open (p ∷ packets) = true

-- "A fragment that is stored sets the message's stamp to the clock."
abbrev pub stamp_by : Address → (t stamp : ℕ) (e : Event) → ToldOf e → ℕ
stamp_by a t stamp (message packet) told = cond (sent_from a packet && eqb told.0.outcome.number 0) t stamp
stamp_by a t stamp (alive packet) told = stamp
stamp_by a t stamp (clock ms) told = stamp
stamp_by a t stamp (aside call) told = stamp

unfoldable pub stamp_of : Address → List Exchange → ℕ
stamp_of a [] = 0
stamp_of a (x ∷ before) = stamp_by a (time_of before) (stamp_of a before) x.call x.told

-- ---- who is alive

pub record Life : Type 0 where
  pub alive : Bool
  pub stamp : ℕ
  pub timeout : ℕ

-- "Never heard: dead."
abbrev pub dead : Life
dead = record { alive = false; stamp = 0; timeout = 0 }

-- "Mode 1: the sender is alive, stamped with the clock and al_tm_out (unit by 5.3). Modes 2 and 3: dead from then on"
abbrev pub heard_at : ℕ → List ℕ → Life
heard_at t packet = cond (eqb (body_of packet).mode 1) (record { alive = true; stamp = t; timeout = (body_of packet).timeout }) dead

-- The clock call "calls dead each alive sender whose age is al_tm_out or more, and reports" it at its place i.
abbrev pub life_by : Address → (i t : ℕ) → Life → (e : Event) → ToldOf e → Life
life_by a i t life (message packet) told = life
life_by a i t life (alive packet) told = cond (sent_from a packet && eqb told 0) (heard_at t packet) life
life_by a i t life (clock ms) told = cond (eqb (bit i told.dead) 1) dead life
life_by a i t life (aside call) told = life

unfoldable pub life_of : Address → ℕ → List Exchange → Life
life_of a i [] = dead
life_of a i (x ∷ before) = life_by a i (time_of before) (life_of a i before) x.call x.told
