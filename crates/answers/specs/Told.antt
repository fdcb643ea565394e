-- "If an answer is an enum, a definition lists this paper's number and values for each of its cases": one for each
-- call, but the cutter's, which stands beside it in `cut`.
use Rattle.std.specs.Prelude.{ℕ, ◌≤◌, ◌≡◌, Bool, true, false, cond, eqb, Option, Some, None, Result, Ok, Err}
use Rattle.refusal.specs.declared.Refusal.{Refusal}
use Rattle.refusal.specs.Numbers.{number_of, number_in}
use Rattle.ring.specs.declared.Verdict.{Verdict}
use Rattle.ring.specs.Check.{verdict_number, verdict_skipped, verdict_age}
use Rattle.answers.specs.declared.Answer.{Answer}
use Rattle.answers.specs.declared.Asked.{Asked}
use Rattle.answers.specs.declared.GroupAnswer.{GroupAnswer}
use Rattle.answers.specs.declared.MissingPiece.{MissingPiece}
use Rattle.answers.specs.declared.Outcome.{Outcome}
use Rattle.answers.specs.declared.Outcome.TheVariants as outcome
use Rattle.answers.specs.declared.Ticked.{Ticked}
use Rattle.answers.specs.declared.Where.{Where}
use Rattle.answers.specs.declared.Where.TheVariants as lies

-- ---- refusals

-- The numbers of refusals begin at 9: "0 stored, done or written; 1 delivered".
abbrev pub least_refusal : ℕ
least_refusal = 9

-- The number that was told is k, and a refusal's: no other case is told so (ToldLaws).
abbrev pub RefusedAs : (told k : ℕ) → Type 0
RefusedAs told k = (told ≡ k) × (least_refusal ≤ k)

-- ---- the message call: the outcome

pub record OutcomeTold : Type 0 where
  pub number : ℕ
  pub verdict : ℕ
  -- how many numbers were skipped
  pub skipped : ℕ
  -- how far back a repeat lies
  pub age : ℕ

-- "Verdicts: …, 0 where nothing is delivered."
abbrev pub not_delivered : (number age : ℕ) → OutcomeTold
not_delivered k age = record { number = k; verdict = 0; skipped = 0; age = age }

-- "1 delivered. Verdicts: 1 first, 2 next, 3 restart, 4 gap, 5 unchecked"; "gap, with (SEQ − R − 1) modulo M numbers
-- skipped". No repeat is delivered, so the age is 0.
abbrev pub delivered_as : Verdict → OutcomeTold
delivered_as v = record { number = 1; verdict = verdict_number v; skipped = verdict_skipped v; age = verdict_age v }

-- "0 stored …; 1 delivered", and for a refusal its number.
abbrev pub outcome_told : Outcome → OutcomeTold
outcome_told (outcome.Refused r age) = not_delivered (number_of r) age
outcome_told outcome.Stored = not_delivered 0 0
outcome_told (outcome.Delivered v) = delivered_as v

-- 02, Item 6: "The receiver passes it on with refusal 17, multicast too". "In every other answer it is 0." So of what is
-- refused only 17 needs to know what the number check says, v.
abbrev pub age_with : ℕ → Verdict → ℕ
age_with k v = cond (eqb k 17) (verdict_age v) 0

abbrev pub refusal : Refusal → Verdict → Outcome
refusal r v = outcome.Refused r (age_with (number_of r) v)

-- What is delivered has a verdict.
abbrev pub HasVerdict : OutcomeTold → Type 0
HasVerdict t = t.number ≡ 1 → 1 ≤ t.verdict

-- Why it was refused, if it was.
abbrev pub refused_by : Outcome → Option Refusal
refused_by (outcome.Refused r age) = Some r
refused_by outcome.Stored = None
refused_by (outcome.Delivered v) = None

-- The number of a refusal, 0 where there is none.
abbrev pub refused_number : Outcome → ℕ
refused_number (outcome.Refused r age) = number_of r
refused_number outcome.Stored = 0
refused_number (outcome.Delivered v) = 0

abbrev pub outcome_refused : Outcome → Bool
outcome_refused (outcome.Refused r age) = true
outcome_refused outcome.Stored = false
outcome_refused (outcome.Delivered v) = false

-- ---- the message call: what is handed over

-- "handed over as a part of the packet or of the storage": of neither (0), the packet (1) or the storage (2). This
-- paper has no number for it.
pub record WhereTold : Type 0 where
  pub slice : ℕ
  pub start : ℕ
  pub length : ℕ

-- "any other answer gives an empty part"
abbrev pub nothing_handed : WhereTold
nothing_handed = record { slice = 0; start = 0; length = 0 }

-- "a one-piece message comes back as the part of the lent packet behind its header": where it starts and ends is not
-- told.
abbrev pub where_told : Where → WhereTold
where_told lies.Nothing = nothing_handed
where_told lies.Packet = record { slice = 1; start = 0; length = 0 }
where_told (lies.Storage start length) = record { slice = 2; start = start; length = length }

-- ---- the message call: all of it

pub record MessageTold : Type 0 where
  pub outcome : OutcomeTold
  -- "pieces then held for the PDU's sender, 0 on a refusal"
  pub held : ℕ
  -- "its version and number stand in the answer (both 0 if none)"
  pub dropped_version : ℕ
  pub dropped_number : ℕ
  pub lies : WhereTold

abbrev pub message_told : Answer → MessageTold
message_told a = record {
  outcome = outcome_told a.outcome;
  held = a.held;
  dropped_version = a.dropped.version.0;
  dropped_number = a.dropped.number.0;
  lies = where_told a.lies;
}

-- "nothing more"
abbrev pub message_refused : (number age : ℕ) → MessageTold
message_refused k age = record {
  outcome = not_delivered k age;
  held = 0;
  dropped_version = 0;
  dropped_number = 0;
  lies = nothing_handed;
}

-- ---- the multicast call: "by the definition that gives the peer-to-peer answer's numbers and values"

pub record GroupTold : Type 0 where
  pub outcome : OutcomeTold
  pub lies : WhereTold

abbrev pub group_told : GroupAnswer → GroupTold
group_told a = record { outcome = outcome_told a.outcome; lies = where_told a.lies }

-- "nothing more"
abbrev pub group_refused : (number age : ℕ) → GroupTold
group_refused k age = record { outcome = not_delivered k age; lies = nothing_handed }

-- ---- setup and the alive call: "S answer", "A answer"

-- What became of a call that takes no message.
abbrev pub Call : Type 0
Call = Result (Unit {0}) Refusal

-- "0 stored, done or written"
abbrev pub call_number : Call → ℕ
call_number c = number_in c

-- ---- the clock call: "C answer, dropped map, dead map"

pub record ClockTold : Type 0 where
  pub number : ℕ
  pub dropped : ℕ
  pub dead : ℕ

abbrev pub clock_told : Ticked → ClockTold
clock_told a = record { number = call_number a.call; dropped = a.dropped; dead = a.dead }

-- "(both 0 on a refusal)"
abbrev pub clock_refused : ℕ → ClockTold
clock_refused k = record { number = k; dropped = 0; dead = 0 }

-- ---- the question: "The answer is sender and piece, or "none open"."

pub record QuestionTold : Type 0 where
  pub number : ℕ
  -- whether a message is open
  pub «open» : Bool
  pub sender : ℕ
  pub piece : ℕ

abbrev pub none_open : ℕ → QuestionTold
none_open k = record { number = k; «open» = false; sender = 0; piece = 0 }

-- Nothing is missing where no message is open.
abbrev pub Missing : Type 0
Missing = Result (Option MissingPiece) Refusal

abbrev pub question_told : Missing → QuestionTold
question_told (Err r) = none_open (number_of r)
question_told (Ok None) = none_open 0
question_told (Ok (Some m)) = record { number = 0; «open» = true; sender = m.sender; piece = m.piece }

-- The same as the code has it.
abbrev pub asked_of : Missing → Asked
asked_of a = record { number = (question_told a).number; «open» = (question_told a).«open»; sender = (question_told a).sender; piece = (question_told a).piece }

-- ---- what the numbers tell

-- A refusal has a refusal's number. No two such answers are told alike (ToldLaws).
abbrev pub OutcomeTells : Outcome → Type 0
OutcomeTells (outcome.Refused r age) = least_refusal ≤ number_of r
OutcomeTells outcome.Stored = Unit {0}
OutcomeTells (outcome.Delivered v) = Unit {0}

abbrev pub CallTells : Call → Type 0
CallTells (Ok x) = Unit {0}
CallTells (Err r) = least_refusal ≤ number_of r

abbrev pub MissingTells : Missing → Type 0
MissingTells (Err r) = least_refusal ≤ number_of r
MissingTells (Ok m) = Unit {0}
