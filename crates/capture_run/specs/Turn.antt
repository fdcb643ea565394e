-- One field of a run: what it does to the state and the storage, and the line that it gives.
use Rattle.std.specs.Prelude.{ℕ, ◌*◌, min, cond, List, eqb, length, Option, None, Some, Result, Ok, Err}
use Rattle.state.specs.declared.Receiver.{Receiver}
use Rattle.answers.specs.declared.Answer.{Answer}
use Rattle.answers.specs.declared.Noted.{Noted}
use Rattle.answers.specs.declared.Started.{Started}
use Rattle.answers.specs.declared.Ticked.{Ticked}
use Rattle.answers.specs.Told.{OutcomeTold, message_told, call_number, clock_told}
use Rattle.rules.specs.calls.Alive.{alive_answer}
use Rattle.rules.specs.calls.Clock.{clock_answer}
use Rattle.rules.specs.calls.Message.{area, message_answer, message_storage}
use Rattle.rules.specs.calls.Part.{part_of}
use Rattle.rules.specs.calls.Setup.{setup_answer}
use Rattle.capture_fields.specs.declared.Kind.{Kind}
use Rattle.capture_fields.specs.declared.Kind.TheVariants as kind
use Rattle.capture_fields.specs.declared.Unread.{Unread}
use Rattle.capture_fields.specs.declared.Unread.TheVariants as unread
use Rattle.capture_fields.specs.declared.Whole.{Whole}
use Rattle.capture_lines.specs.declared.Line.{Line}
use Rattle.capture_lines.specs.declared.Line.TheVariants as line
use Rattle.capture_run.specs.declared.Turn.{Turn}
use Rattle.capture_fields.specs.Field.{size_of, head_size, contents_of, setup_of, clock_of}

-- ---- one call

-- "S answer"; "a refused setup leaves the state in use"
abbrev pub started_turn : Receiver → Started → Turn
started_turn w a = record {
  state = cond (eqb (call_number a.call) 0) a.state w;
  line = line.Setup (call_number a.call);
}

-- 02, Item 6: with 17 "the program prints it as the P line's length": how far back the number lies.
abbrev pub length_shown : OutcomeTold → ℕ → ℕ
length_shown t n = cond (eqb t.number 17) t.age n

-- "P answer verdict held length (held: pieces then held for the PDU's sender, 0 on a refusal; length of a delivery,
-- otherwise 0)"
abbrev pub answered_turn : Answer → List ℕ → Turn
answered_turn a delivered = record {
  state = a.state;
  line = line.Message (message_told a).outcome.number (message_told a).outcome.verdict (message_told a).held (length_shown (message_told a).outcome (length delivered));
}

-- "C answer, dropped map, dead map (both 0 on a refusal)"
abbrev pub ticked_turn : Ticked → Turn
ticked_turn a = record { state = a.state; line = line.Clock (clock_told a).number (clock_told a).dropped (clock_told a).dead }

-- "A answer"
abbrev pub noted_turn : Noted → Turn
noted_turn a = record { state = a.state; line = line.Alive (call_number a.call) }

-- ---- one field

-- What a field with these contents does.
unfoldable pub turn_of : Receiver → List ℕ → Kind → List ℕ → Turn
turn_of w storage kind.Setup c = started_turn w (setup_answer (setup_of c))
turn_of w storage kind.Message c =
    answered_turn (message_answer w (length storage) c) (part_of (message_answer w (length storage) c).lies c (message_storage w storage c))
turn_of w storage kind.Clock c = ticked_turn (clock_answer w (clock_of c))
turn_of w storage kind.Alive c = noted_turn (alive_answer w c)

-- What it leaves in the storage.
unfoldable pub storage_of : Receiver → List ℕ → Kind → List ℕ → List ℕ
storage_of w storage kind.Setup c = storage
storage_of w storage kind.Message c = message_storage w storage c
storage_of w storage kind.Clock c = storage
storage_of w storage kind.Alive c = storage

-- The field at the front of what was read: "A bad or cut field ends the run", and so does nothing more to read.
unfoldable pub turn_by : Receiver → List ℕ → List ℕ → Result (Option Whole) Unread → Result (Option Turn) Unread
turn_by w storage s (Err why) = Err why
turn_by w storage s (Ok None) = Ok None
turn_by w storage s (Ok (Some f)) = Ok (Some (turn_of w storage f.kind (contents_of s f.size)))

unfoldable pub turn_storage : Receiver → List ℕ → List ℕ → Result (Option Whole) Unread → List ℕ
turn_storage w storage s (Err why) = storage
turn_storage w storage s (Ok None) = storage
turn_storage w storage s (Ok (Some f)) = storage_of w storage f.kind (contents_of s f.size)

-- "with the line "E"": nothing more to read ends the run without a line.
abbrev pub line_in : Result (Option Turn) Unread → Option Line
line_in (Err why) = Some line.End
line_in (Ok None) = None
line_in (Ok (Some t)) = Some t.line

-- ---- what is read and lent

-- How many octets of contents belong to a head: none to one that is cut or bad.
unfoldable pub wanted_by : List ℕ → Result (Option Whole) Unread → ℕ
wanted_by s (Err unread.Cut) = cond (eqb (length s) head_size) (size_of s) 0
wanted_by s (Err unread.Bad) = 0
wanted_by s (Ok f) = 0

-- "The storage is exactly 16,384 octets for each sender", as far as there is room.
abbrev pub lent_of : ℕ → ℕ → ℕ
lent_of count room = min (count * area) room
