-- What the calls for a board answer and leave: 01's numbers and values of what the same call answers by value, at the
-- state that the lent words are. Words that are no state meet 9, and stay.
use Rattle.std.specs.Prelude.{ℕ, ◌+◌, ◌-◌, false, cond, List, [], ◌∷◌, Result, Ok, Err, eqb, length, replicate, set}
use Rattle.refusal.specs.declared.Refusal.{Refusal}
use Rattle.refusal.specs.Numbers.{number_of}
use Rattle.header.specs.Places.{header_size}
use Rattle.refusal.specs.declared.Refusal.TheVariants as refusals
use Rattle.answers.specs.declared.Answer.{Answer}
use Rattle.answers.specs.declared.Dropped.{Dropped}
use Rattle.answers.specs.declared.GroupAnswer.{GroupAnswer}
use Rattle.answers.specs.declared.Outcome.{Outcome}
use Rattle.answers.specs.declared.Outcome.TheVariants.{Refused}
use Rattle.answers.specs.declared.Setup.{Setup}
use Rattle.answers.specs.declared.Where.{Where}
use Rattle.answers.specs.declared.Where.TheVariants.{Nothing, Packet, Storage}
use Rattle.answers.specs.declared.Ticked as by_value
use Rattle.answers.specs.Told as by-value-missing
use Rattle.answers.specs.Told.{outcome_told, outcome_refused, where_told, call_number, question_told}
use Rattle.cut.specs.Cutter.{cutter_told}
use Rattle.fault.specs.declared.reading.Report as by-value-report
use Rattle.fault.specs.Places.{count_at}
use Rattle.fault.specs.Reading.{options_of}
use Rattle.fault.specs.Writing.{writing_told}
use Rattle.rules.specs.calls.Admit.{none_dropped}
use Rattle.rules.specs.calls.Alive.{alive_answer}
use Rattle.rules.specs.calls.Clock.{clock_answer}
use Rattle.rules.specs.calls.Message.{message_answer, message_storage}
use Rattle.rules.specs.calls.Multicast.{Tables, multicast_answer, multicast_tables}
use Rattle.rules.specs.calls.Question.{question_answer}
use Rattle.rules.specs.calls.Setup.{setup_answer}
use Rattle.state.specs.Held.{held_at}
use Rattle.tally.specs.declared.Tally.{Tally}
use Rattle.tally.specs.Tally.{stopping}
use Rattle.words.specs.Words.{words_most, word, is_state, state_in, words_of}
use Rattle.board.specs.declared.Cutting.{Cutting}
use Rattle.board.specs.declared.Options.{Options}
use Rattle.board.specs.declared.Report.{Report}
use Rattle.board.specs.declared.Told.{Told}
use Rattle.board.specs.declared.Missing.{Missing}
use Rattle.board.specs.declared.Ticked.{Ticked}
use Rattle.board.specs.declared.Written.{Written}

-- ---- setup

-- "10: setup outside its limits": another number of words than a state has is outside them too.
unfoldable pub setup_for : List ℕ → Setup → ℕ
setup_for l q = cond (eqb (length l) words_most) (call_number (setup_answer q).call) 10

-- The words of the state that setup gives, "empty state" on a refusal; other than so many words stay.
unfoldable pub setup_words : List ℕ → Setup → List ℕ
setup_words l q = cond (eqb (length l) words_most) (words_of (setup_answer q).state) l

-- ---- the message call

-- Where the delivered octets start, and how many they are: "the part of the lent packet behind its header", or of the
-- storage.
abbrev pub part_start : Where → ℕ
part_start Nothing = 0
part_start Packet = header_size
part_start (Storage start n) = start

abbrev pub part_length : Where → ℕ → ℕ
part_length Nothing size = 0
part_length Packet size = size - header_size
part_length (Storage start n) size = n

abbrev pub in_numbers : Outcome → ℕ → Dropped → Where → ℕ → Told
in_numbers o held dropped lies size = record {
  number = (outcome_told o).number;
  verdict = (outcome_told o).verdict;
  held = held;
  slice = (where_told lies).slice;
  skipped = (outcome_told o).skipped;
  age = (outcome_told o).age;
  dropped_version = dropped.version.0;
  dropped_number = dropped.number.0;
  start = part_start lies;
  length = part_length lies size;
}

-- "nothing more", of a refusal but 17.
abbrev pub refused_with : ℕ → Told
refused_with k = record {
  number = k;
  verdict = 0;
  held = 0;
  slice = 0;
  skipped = 0;
  age = 0;
  dropped_version = 0;
  dropped_number = 0;
  start = 0;
  length = 0;
}

abbrev pub told_of : Answer → ℕ → Told
told_of a size = in_numbers a.outcome a.held a.dropped a.lies size

unfoldable pub message_for : List ℕ → ℕ → List ℕ → Told
message_for l room packet = cond (is_state l) (told_of (message_answer (state_in l) room packet) (length packet)) (refused_with 9)

-- What the call would answer by value: the outcome that is counted.
unfoldable pub outcome_for : List ℕ → ℕ → List ℕ → Outcome
outcome_for l room packet = cond (is_state l) (message_answer (state_in l) room packet).outcome (Refused refusals.State 0)

unfoldable pub storage_for : List ℕ → List ℕ → List ℕ → List ℕ
storage_for l storage packet = cond (is_state l) (message_storage (state_in l) storage packet) storage

-- ---- the multicast call

-- In the numbers and values of a message call's answer: nothing is held for it, and nothing dropped.
abbrev pub group_told_of : GroupAnswer → ℕ → Told
group_told_of a size = in_numbers a.outcome 0 none_dropped a.lies size

unfoldable pub multicast_for : List ℕ → Tables → ℕ → List ℕ → Told
multicast_for l t g packet = cond (is_state l) (group_told_of (multicast_answer (state_in l) t g packet) (length packet)) (refused_with 9)

unfoldable pub tables_for : List ℕ → Tables → ℕ → List ℕ → Tables
tables_for l t g packet = cond (is_state l) (multicast_tables (state_in l) t g packet) t

-- ---- the alive call

unfoldable pub alive_for : List ℕ → List ℕ → ℕ
alive_for l packet = cond (is_state l) (call_number (alive_answer (state_in l) packet).call) 9

-- ---- the clock call

abbrev pub not_ticked : ℕ → Ticked
not_ticked k = record { number = k; dropped = 0; dead = 0 }

abbrev pub ticked_of : by_value.Ticked → Ticked
ticked_of a = record { number = call_number a.call; dropped = a.dropped; dead = a.dead }

unfoldable pub clock_for : List ℕ → ℕ → Ticked
clock_for l ms = cond (is_state l) (ticked_of (clock_answer (state_in l) ms)) (not_ticked 9)

-- ---- the question

abbrev pub none_missing : ℕ → Missing
none_missing k = record { number = k; «open» = false; sender = 0; piece = 0 }

abbrev pub missing_of : by-value-missing.Missing → Missing
missing_of a = record { number = (question_told a).number; «open» = (question_told a).«open»; sender = (question_told a).sender; piece = (question_told a).piece }

unfoldable pub question_for : List ℕ → Missing
question_for l = cond (is_state l) (missing_of (question_answer (state_in l))) (none_missing 9)

-- ---- how many pieces are held

-- What is kept in the state that the words are. It is not asked whether they are one: no 9.
abbrev pub held_for : List ℕ → ℕ → ℕ
held_for l i = held_at (state_in l) i

-- ---- the cutter

abbrev pub cutting_of : Result ℕ Refusal → Cutting
cutting_of c = record { number = (cutter_told c).number; length = (cutter_told c).length }

-- ---- the fault section

-- "counts and name by value"; 24 says nothing more.
abbrev pub reported : Result by-value-report.Report Refusal → Report
reported (Ok r) = record { number = 0; modules = r.modules; errors = r.errors; options = r.options; name = r.name }
reported (Err e) = record { number = number_of e; modules = 0; errors = 0; options = 0; name = replicate 8 0 }

-- "the options as a returned part": where they start, and how many octets they are.
unfoldable pub options_for : List ℕ → Options
options_for s = cond (eqb (length (options_of s)) 0) (record { start = 0; length = 0 }) (record { start = count_at s + 4; length = length (options_of s) })

abbrev pub written_of : Result ℕ Refusal → Written
written_of w = record { number = (writing_told w).number; length = (writing_told w).length }

-- ---- the tally

-- Two words: "one count of answers 0 and 1, one of refusals".
abbrev pub tally_in : List ℕ → Tally
tally_in t = record { answers = word t 0; refusals = word t 1 }

abbrev pub tally_words : Tally → List ℕ
tally_words t = t.answers ∷ t.refusals ∷ []

-- "counted up where it stands … each stopping at 4,294,967,295": the words after the message call.
unfoldable pub tally_for : List ℕ → List ℕ → ℕ → List ℕ → List ℕ
tally_for t l room packet =
    cond (outcome_refused (outcome_for l room packet)) (set t 1 (stopping (word t 1 + 1))) (set t 0 (stopping (word t 0 + 1)))
