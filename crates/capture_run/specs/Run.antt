-- A run of the program: "The program reads tagged fields", and takes a turn for each. Between two setups its turns are
-- the calls of a past: "A past is a setup, storage of its right length with any octets in it, and then calls, each
-- given the state and storage that the one before left." Proved in RunLaws.antt. That such a past is a course, of which
-- the demands speak, is `start_course` and `a_course` of `promises`.
use Rattle.std.specs.Prelude.{ℕ, ◌+◌, ◌*◌, ◌≤◌, ◌≡◌, true, false, List, [], ◌∷◌, ◌++◌, length, take, drop, Option, Some, Result, Ok}
use Rattle.state.specs.declared.Receiver.{Receiver}
use Rattle.state.specs.State.{empty_receiver}
use Rattle.answers.specs.Told.{message_told, call_number, clock_told}
use Rattle.rules.specs.calls.Message.{area}
use Rattle.rules.specs.calls.Setup.{setup_within}
use Rattle.rules.specs.pasts.Past.{World, Event, message, alive, clock, aside, after, Said, Answers, answers, Start}
use Rattle.capture_fields.specs.declared.Kind.{Kind}
use Rattle.capture_fields.specs.declared.Kind.TheVariants as kind
use Rattle.capture_fields.specs.declared.Unread.{Unread}
use Rattle.capture_fields.specs.declared.Whole.{Whole}
use Rattle.capture_fields.specs.Field.{head_size, next_of, contents_of, setup_of, clock_of}
use Rattle.capture_lines.specs.declared.Line.{Line}
use Rattle.capture_lines.specs.declared.Line.TheVariants as line
use Rattle.capture_run.specs.declared.Turn.{Turn}
use Rattle.capture_run.specs.Turn.{length_shown, turn_of, storage_of, turn_by, turn_storage, wanted_by, lent_of}

-- ---- what is held between turns

-- The state in use, and the room of which a part is lent to it.
pub record Held : Type 0 where
  pub state : Receiver
  pub room : List ℕ

-- "for each of 1 to 4 senders": there is room for four, and the state in use has no more.
pub record Fits (p : Held) : Type 0 where
  pub room_for_four : length p.room ≡ 4 * area
  pub at_most_four : p.state.count ≤ 4

-- "The storage is exactly 16,384 octets for each sender": so many octets of the room, from its front, are lent; those
-- behind them are not.
abbrev pub lent_in : Held → ℕ
lent_in p = lent_of p.state.count (length p.room)

abbrev pub behind_in : Held → List ℕ
behind_in p = drop (lent_in p) p.room

-- What a call is given: the state in use, and what is lent to it.
abbrev pub world_in : Held → World
world_in p = record { state = p.state; storage = take (lent_in p) p.room }

-- "Before a setup the empty state serves", whatever stands in the room.
abbrev pub at_first : List ℕ → Held
at_first room = record { state = empty_receiver; room = room }

-- ---- what is read

-- Of the octets that are still to come a turn reads a head, and as many behind it as belong to it.
abbrev pub read_of : List ℕ → List ℕ
read_of s = take (head_size + wanted_by (take head_size s) (next_of (take head_size s))) s

-- That is exactly the field at their front, so the next one begins right behind it; and where there is no whole field,
-- the turn sees the same as if all were at hand.
pub record ReadsField (s : List ℕ) : Type 0 where
  pub same_next : next_of (read_of s) ≡ next_of s
  pub same_contents : (f : Whole) → next_of s ≡ Ok (Some f) → contents_of (read_of s) f.size ≡ contents_of s f.size
  pub all_of_it : (f : Whole) → next_of s ≡ Ok (Some f) → length (read_of s) ≡ head_size + f.size

abbrev pub EveryRead : Type 0
EveryRead = (s : List ℕ) → ReadsField s

-- ---- a turn

-- The turn on what was read, with what is lent. Then the state that it leaves is in use, and the octets that were lent
-- stand again in front of those that were not.
abbrev pub turn_in : Held → List ℕ → Result (Option Turn) Unread
turn_in p s = turn_by p.state (world_in p).storage s (next_of s)

abbrev pub left_by : Held → List ℕ → Turn → Held
left_by p s t = record {
  state = t.state;
  room = turn_storage p.state (world_in p).storage s (next_of s) ++ behind_in p;
}

-- A whole field: what it is for, and its contents.
pub data Field : Type 0 where
  whole : Kind → List ℕ → Field

abbrev pub line_at : Held → Field → Line
line_at p (whole k c) = (turn_of p.state (world_in p).storage k c).line

abbrev pub left_at : Held → Field → Held
left_at p (whole k c) = record {
  state = (turn_of p.state (world_in p).storage k c).state;
  room = storage_of p.state (world_in p).storage k c ++ behind_in p;
}

-- ---- a run

-- What a run of fields leaves, and the lines that it prints.
unfoldable pub ran : Held → List Field → Held
ran p [] = p
ran p (f ∷ fs) = ran (left_at p f) fs

unfoldable pub printed : Held → List Field → List Line
printed p [] = []
printed p (f ∷ fs) = line_at p f ∷ printed (left_at p f) fs

-- ---- the calls of a run

-- "Tag 2 message PDU, 3 clock (8 octets), 4 alive PDU". A setup is no call of a past.
unfoldable pub calls_in : List Field → List Event
calls_in [] = []
calls_in (whole kind.Setup c ∷ fs) = calls_in fs
calls_in (whole kind.Message c ∷ fs) = message c ∷ calls_in fs
calls_in (whole kind.Clock c ∷ fs) = clock (clock_of c) ∷ calls_in fs
calls_in (whole kind.Alive c ∷ fs) = alive c ∷ calls_in fs

-- "P answer verdict held length (…; length of a delivery, otherwise 0)", but with 17 an age (02, Item 6); "C answer, dropped map, dead map …; A answer":
-- by what is told of the answer. The program asks no question.
abbrev pub line_told : (e : Event) → Said e → List Line
line_told (message packet) r =
    let t = message_told r.0 in
    line.Message t.outcome.number t.outcome.verdict t.held (length_shown t.outcome (length r.1)) ∷ []
line_told (alive packet) r = line.Alive (call_number r.call) ∷ []
line_told (clock now) r = line.Clock (clock_told r).number (clock_told r).dropped (clock_told r).dead ∷ []
line_told (aside call) r = []

-- The lines of a run without an accepted setup: "S answer" is "S 10" then.
unfoldable pub lines_told : (fs : List Field) → Answers (calls_in fs) → List Line
unfolding calls_in
lines_told [] rs = []
lines_told (whole kind.Setup c ∷ fs) rs = line.Setup 10 ∷ lines_told fs rs
lines_told (whole kind.Message c ∷ fs) rs = line_told (message c) rs.0 ++ lines_told fs rs.1
lines_told (whole kind.Clock c ∷ fs) rs = line_told (clock (clock_of c)) rs.0 ++ lines_told fs rs.1
lines_told (whole kind.Alive c ∷ fs) rs = line_told (alive c) rs.0 ++ lines_told fs rs.1

-- ---- between two setups

-- No field is an accepted setup: "a refused setup leaves the state in use".
abbrev pub StateStays : Field → Type 0
StateStays (whole kind.Setup c) = setup_within (setup_of c) ≡ false
StateStays (whole kind.Message c) = Unit {0}
StateStays (whole kind.Clock c) = Unit {0}
StateStays (whole kind.Alive c) = Unit {0}

abbrev pub AllOf : (Field → Type 0) → List Field → Type 0
AllOf P [] = Unit {0}
AllOf P (f ∷ fs) = P f × AllOf P fs

-- The turns are the calls of a past, "each given the state and storage that the one before left": after them stands
-- what those calls leave, each line says what is told of its call's answer, and no octet behind what is lent changes.
pub record IsPast (p : Held) (fs : List Field) : Type 0 where
  pub left : world_in (ran p fs) ≡ after (world_in p) (calls_in fs)
  pub told : printed p fs ≡ lines_told fs (answers (world_in p) (calls_in fs))
  pub stays : behind_in (ran p fs) ≡ behind_in p
  pub fits : Fits (ran p fs)

abbrev pub BetweenSetups : Type 0
BetweenSetups = (p : Held) → Fits p → (fs : List Field) → AllOf StateStays fs → IsPast p fs

-- ---- how a past begins in a run

-- An accepted setup begins a past. "storage of its right length with any octets in it": the room stays as it is.
pub record Begins (p q : Held) : Type 0 where
  pub started : Start (world_in q)
  pub same_room : q.room ≡ p.room
  pub fits : Fits q

abbrev pub AtSetup : Type 0
AtSetup = (p : Held) → Fits p → (c : List ℕ) → setup_within (setup_of c) ≡ true
    → (line_at p (whole kind.Setup c) ≡ line.Setup 0) × Begins p (left_at p (whole kind.Setup c))

-- "An empty state, with no senders, is what a refused setup returns": so the empty state, with nothing lent, begins one
-- too.
abbrev pub BeforeSetup : Type 0
BeforeSetup = (room : List ℕ) → length room ≡ 4 * area → Begins (at_first room) (at_first room)

-- ---- the whole run

-- What is held is what a past left. So each line of a run is said by 01's numbers: that of an accepted setup by
-- AtSetup, any other by BetweenSetups, from what is held on.
pub record OfPast (p : Held) : Type 0 where
  pub start : World
  pub calls : List Event
  pub started : Start start
  pub left : world_in p ≡ after start calls
  pub fits : Fits p

abbrev pub EveryRun : Type 0
EveryRun = (room : List ℕ) → length room ≡ 4 * area → (fs : List Field) → OfPast (ran (at_first room) fs)

-- What is held is what a run of n whole fields left, from the empty state and this room on: the loop of the program
-- keeps to it. Which fields they are no contract can say, since none says what was read.
pub record OfRun (room : List ℕ) (n : ℕ) (p : Held) : Type 0 where
  pub room_for_four : length room ≡ 4 * area
  pub fields : List Field
  pub as_many : length fields ≡ n
  pub left : p ≡ ran (at_first room) fields

-- Whatever was read: if the run goes on, a whole field was at its front, and the turn is that field's.
pub record IsTurn (p : Held) (s : List ℕ) (t : Turn) : Type 0 where
  pub field : Whole
  pub at_front : next_of s ≡ Ok (Some field)
  pub says : t.line ≡ line_at p (whole field.kind (contents_of s field.size))
  pub leaves : left_by p s t ≡ left_at p (whole field.kind (contents_of s field.size))

abbrev pub EveryTurn : Type 0
EveryTurn = (p : Held) (s : List ℕ) (t : Turn) → turn_in p s ≡ Ok (Some t) → IsTurn p s t
