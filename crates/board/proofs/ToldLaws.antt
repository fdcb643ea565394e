-- C is told what the call by value tells, number by number; where delivered octets start and end stands in PartLaws.
-- Assumes nothing.
use Rattle.std.specs.Prelude.{ℕ, ◌≡◌, refl, true, Result, Ok, Err, length, replicate}
use Rattle.std.proofs.Common.{ap}
use Rattle.refusal.specs.declared.Refusal.{Refusal}
use Rattle.refusal.specs.Numbers.{number_in}
use Rattle.answers.specs.declared.Answer.{Answer}
use Rattle.answers.specs.declared.Ticked as by_value
use Rattle.answers.specs.Told as by-value-missing
use Rattle.answers.specs.Told.{WhereTold, where_told, MessageTold, message_told, ClockTold, clock_told, QuestionTold, question_told}
use Rattle.fault.specs.declared.reading.Report as by-value-report
use Rattle.fault.specs.Reading.{reading_of}
use Rattle.fault.specs.Section.{Section, octets_of, is_within}
use Rattle.fault.specs.Writing.{WritingTold, writing_told}
use Rattle.fault.proofs.ReadingLaws.{section_is, report_back}
use Rattle.fault.proofs.SectionLaws.{within_facts}
use Rattle.board.specs.declared.Told.{Told}
use Rattle.board.specs.declared.Missing.{Missing}
use Rattle.board.specs.declared.Report.{Report}
use Rattle.board.specs.declared.Ticked.{Ticked}
use Rattle.board.specs.declared.Written.{Written}
use Rattle.board.specs.Calls.{told_of, ticked_of, missing_of, reported, written_of}

-- ---- the message call

abbrev message_back : Told → WhereTold → MessageTold
message_back t lies = record {
  outcome = record { number = t.number; verdict = t.verdict; skipped = t.skipped; age = t.age };
  held = t.held;
  dropped_version = t.dropped_version;
  dropped_number = t.dropped_number;
  lies = lies;
}

pub message_same : (a : Answer) (size : ℕ) → message_back (told_of a size) (where_told a.lies) ≡ message_told a
message_same a size = refl

pub slice_same : (a : Answer) (size : ℕ) → (told_of a size).slice ≡ (where_told a.lies).slice
slice_same a size = refl

-- ---- the clock call, and the question

abbrev clock_back : Ticked → ClockTold
clock_back t = record { number = t.number; dropped = t.dropped; dead = t.dead }

pub clock_same : (a : by_value.Ticked) → clock_back (ticked_of a) ≡ clock_told a
clock_same a = refl

abbrev question_back : Missing → QuestionTold
question_back t = record { number = t.number; «open» = t.«open»; sender = t.sender; piece = t.piece }

pub question_same : (a : by-value-missing.Missing) → question_back (missing_of a) ≡ question_told a
question_same a = refl

-- ---- reading a fault section

pub report_same : (r : Result by-value-report.Report Refusal) → (reported r).number ≡ number_in r
report_same (Ok r) = refl
report_same (Err e) = refl

-- "counts and name by value": C is told each that the call by value gives,
abbrev counts_back : Report → by-value-report.Report
counts_back t = record { modules = t.modules; errors = t.errors; options = t.options; name = t.name }

pub counts_same : (r : by-value-report.Report) → counts_back (reported (Ok r)) ≡ r
counts_same r = refl

-- with a refusal none,
pub none_same : (e : Refusal) → counts_back (reported (Err e)) ≡ record { modules = 0; errors = 0; options = 0; name = replicate 8 0 }
none_same e = refl

-- and of a section's octets what the section says.
pub section_same : (x : Section) → is_within x ≡ true → reported (reading_of (octets_of x))
    ≡ record { number = 0; modules = length x.dead; errors = length x.errors; options = length x.options; name = x.name }
unfolding reading_of
section_same x is = rw (section_is (octets_of x) (x, is, refl)) (ap (λ r. reported (Ok r)) (report_back x (within_facts x is)))

-- ---- writing a fault section

abbrev written_back : Written → WritingTold
written_back t = record { number = t.number; length = t.length }

pub written_same : (w : Result ℕ Refusal) → written_back (written_of w) ≡ writing_told w
written_same w = refl
