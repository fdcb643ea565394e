-- "A past is a setup, storage of its right length with any octets in it, and then calls, each given the state and
-- storage that the one before left." Here a call is known by its public contract alone, as a relation between what it
-- was given, what it answered and what it left: so a course is that of any program whose calls meet the contracts. That
-- ours do is shown by the functions of src/.
use Rattle.std.specs.Prelude.{ℕ, ◌*◌, ◌≡◌, Bool, List, [], ◌∷◌, Result, length}
use Rattle.refusal.specs.declared.Refusal.{Refusal}
use Rattle.header.specs.declared.Given.{Given}
use Rattle.cut.specs.Cutter.{cutter_answer, cutter_buffer}
use Rattle.fault.specs.declared.Error.{Error}
use Rattle.fault.specs.declared.reading.Report.{Report}
use Rattle.fault.specs.Reading.{reading_of, dead_at, error_at, options_of}
use Rattle.fault.specs.Writing.{writing_of, buffer_of}
use Rattle.state.specs.declared.Receiver.{Receiver}
use Rattle.state.specs.Held.{held_at}
use Rattle.answers.specs.declared.Answer.{Answer}
use Rattle.answers.specs.declared.GroupAnswer.{GroupAnswer}
use Rattle.answers.specs.Told.{Missing}
use Rattle.answers.specs.declared.Noted.{Noted}
use Rattle.answers.specs.declared.Setup.{Setup}
use Rattle.answers.specs.declared.Started.{Started}
use Rattle.answers.specs.declared.Ticked.{Ticked}
use Rattle.answers.specs.declared.Where.{Where}
use Rattle.rules.specs.calls.Alive.{alive_answer}
use Rattle.rules.specs.calls.Clock.{clock_answer}
use Rattle.rules.specs.calls.Message.{area, message_answer, message_storage}
use Rattle.rules.specs.calls.Multicast.{Tables, multicast_answer, multicast_tables}
use Rattle.rules.specs.calls.Part.{part_of}
use Rattle.rules.specs.pasts.Past.{World, Event, message, alive, clock, aside, question, multicast, Said, Answers}
use Rattle.rules.specs.calls.Question.{question_answer}
use Rattle.rules.specs.calls.Setup.{setup_answer}
use Rattle.tally.specs.declared.Tally.{Tally}
use Rattle.tally.specs.Tally.{counted}

abbrev pub world : Receiver → List ℕ → World
world state storage = record { state = state; storage = storage }

-- ---- each call, by its contract

-- "a setup, storage of its right length with any octets in it"
pub record SetupMeets (q : Setup) (r : Started) (w : World) : Type 0 where
  pub answered : r ≡ setup_answer q
  pub handed_on : w.state ≡ r.state
  pub room : length w.storage ≡ w.state.count * area

-- Made at the world w, it answered r and left the world v.
pub record MessageMeets (w : World) (packet : List ℕ) (r : Answer) (v : World) : Type 0 where
  pub answered : r ≡ message_answer w.state (length w.storage) packet
  pub stored : v.storage ≡ message_storage w.state w.storage packet
  pub handed_on : v.state ≡ r.state

-- "The maintenance tally is one record of the caller's, counted up where it stands": the message call with a tally
-- lent, which was t when the call was made and is s when it has answered.
pub record TallyMeets (t : Tally) (w : World) (packet : List ℕ) (r : Answer) (s : Tally) (v : World) : Type 0 where
  pub called : MessageMeets w packet r v
  pub tallied : s ≡ counted t r.outcome

pub record PartMeets (place : Where) (packet storage part : List ℕ) : Type 0 where
  pub handed_over : part ≡ part_of place packet storage

-- To the other calls no storage is lent.
pub record AliveMeets (w : World) (packet : List ℕ) (r : Noted) (v : World) : Type 0 where
  pub answered : r ≡ alive_answer w.state packet
  pub stays : v.storage ≡ w.storage
  pub handed_on : v.state ≡ r.state

pub record ClockMeets (w : World) (ms : ℕ) (r : Ticked) (v : World) : Type 0 where
  pub answered : r ≡ clock_answer w.state ms
  pub stays : v.storage ≡ w.storage
  pub handed_on : v.state ≡ r.state

pub record QuestionMeets (w : World) (r : Missing) (v : World) : Type 0 where
  pub answered : r ≡ question_answer w.state
  pub stays : v ≡ w

-- 02, Item 5: a packet to a group, with the tables t lent, which it left as `left`.
pub record GroupMeets (w : World) (t : Tables) (g : ℕ) (packet : List ℕ) (r : GroupAnswer) (left : Tables) (v : World) : Type 0 where
  pub answered : r ≡ multicast_answer w.state t g packet
  pub kept : left ≡ multicast_tables w.state t g packet
  pub stays : v ≡ w

-- 02, Item 1: the maintenance page asks how many pieces the sender at a place has. That stands in no past: it changes
-- nothing.
pub record HeldMeets (w : World) (place held : ℕ) : Type 0 where
  pub answered : held ≡ held_at w.state place

-- The cutter stands in no past: it makes packets.
pub record CutterMeets (g : Given) (m : List ℕ) (u c : ℕ) (buffer : List ℕ) (r : Result ℕ Refusal) (left : List ℕ) : Type 0 where
  pub answered : r ≡ cutter_answer g m u c (length buffer)
  pub written : left ≡ cutter_buffer g m u c buffer

-- 02, Item 2: nor do the calls of the fault section, which are given no state.
pub record ReadMeets (s : List ℕ) (r : Result Report Refusal) : Type 0 where
  pub answered : r ≡ reading_of s

pub record DeadMeets (s : List ℕ) (k : ℕ) (dead : Bool) : Type 0 where
  pub answered : dead ≡ dead_at s k

pub record ErrorMeets (s : List ℕ) (k : ℕ) (e : Error) : Type 0 where
  pub answered : e ≡ error_at s k

pub record OptionsMeets (s part : List ℕ) : Type 0 where
  pub handed_over : part ≡ options_of s

-- What a section is written from: "the module count, the bits as a lent slice of L octets, the errors as lent 16-bit pairs,
-- the name, the options".
pub record Parts : Type 0 where
  pub modules : ℕ
  pub bits : List ℕ
  pub numbers : List ℕ
  pub name : List ℕ
  pub options : List ℕ

abbrev pub parts : ℕ → (bits numbers name options : List ℕ) → Parts
parts modules bits numbers name options = record { modules = modules; bits = bits; numbers = numbers; name = name; options = options }

pub record WriteMeets (p : Parts) (buffer : List ℕ) (r : Result ℕ Refusal) (left : List ℕ) : Type 0 where
  pub answered : r ≡ writing_of p.modules p.bits p.numbers p.options (length buffer)
  pub written : left ≡ buffer_of p.modules p.bits p.numbers p.name p.options buffer

-- ---- a course

-- What the call e said at the world w, and the world that it left; a message call and a multicast call, with the part that is
-- then handed over.
abbrev pub Meets : (w : World) (e : Event) → Said e → World → Type 0
Meets w (message packet) r v = MessageMeets w packet r.0 v × PartMeets r.0.lies packet v.storage r.1
Meets w (alive packet) r v = AliveMeets w packet r v
Meets w (clock ms) r v = ClockMeets w ms r v
Meets w (aside question) r v = QuestionMeets w r v
Meets w (aside (multicast t g packet)) r v = GroupMeets w t g packet r.0 r.1 v × PartMeets r.0.lies packet v.storage r.2

-- Calls from the world w on, in the order of time, "each given the state and storage that the one before left"; v is
-- what the last one left.
abbrev pub Course : (w : World) (es : List Event) → Answers es → World → Type 0
Course w [] rs v = v ≡ w
Course w (e ∷ es) rs v = (u : World) × Meets w e rs.0 u × Course u es rs.1 v

-- Whatever was answered on the way.
abbrev pub Leads : World → List Event → World → Type 0
Leads w es v = (rs : Answers es) × Course w es rs v

abbrev pub messages_of : List ℕ → List ℕ → List Event
messages_of first second = message first ∷ message second ∷ []
