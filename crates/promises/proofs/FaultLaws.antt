-- What 02, Item 2 asks of the fault section, proved from the contracts of its calls. Assumes nothing.
use Rattle.std.specs.Prelude.{ℕ, ◌*◌, ◌≤◌, ◌≡◌, Bool, not, cond, List, [], ◌∷◌, ◌++◌, Result, Ok, Err, ltb}
use Rattle.std.proofs.Math.Path.{refl, ap}
use Rattle.std.proofs.Common.{sym, subst, ◌∙◌, ⊎_elim, zero-add, arith}
use Rattle.std.proofs.Math.Bool.{true, false}
use Rattle.std.proofs.Math.ListN.{length, drop}
use borrow.Author.Tests.{ltb-false, le-ltb}
use Rattle.octets.specs.Answer.{one_answer}
use Rattle.octets.specs.Run.{run, laid}
use Rattle.octets.proofs.RunLaws.{laid_fits}
use Rattle.octets.specs.Split.{true_or_false}
use Rattle.refusal.specs.declared.Refusal.{Refusal}
use Rattle.refusal.specs.Numbers.{number_in}
use Rattle.fault.specs.declared.Error.{Error}
use Rattle.fault.specs.declared.reading.Report.{Report}
use Rattle.fault.specs.Places.{modules_in}
use Rattle.fault.specs.Reading.{is_section, report_of, reading_of, report, refused as unread, no_error, error_at}
use Rattle.fault.proofs.ReadingLaws.{is_section_lem, section_is, report_back, options_back, dead_back, error_back}
use Rattle.fault.proofs.RoundLaws.{given_size, given_within_lem, given_same, size_same, parts_keep, numbers_are}
use Rattle.fault.specs.Section.{Section, bits_size, bits_of, numbers_of, octets_of, is_within}
use Rattle.fault.proofs.SectionLaws.{Within, within_facts, within_is, section_size, bits_there, says_modules}
use Rattle.fault.specs.Writing.{section_given, size_given, keeps_rules, writing_of, buffer_of, writing_told}
use Rattle.fault.proofs.WritingLaws.{keeps_facts, given_modules, given_bits, given_numbers}
use Rattle.refusal.specs.declared.Refusal.TheVariants as refusals
use Rattle.answers.specs.Told.{RefusedAs}
use Rattle.rules.specs.calls.First.{Row, row, first}
use Rattle.rules.proofs.calls.FirstLaws.{first_given, given_first, given_above, above}
use Rattle.promises.specs.Course.{ReadMeets, Parts, WriteMeets}
use Rattle.promises.specs.Demands.{Refuses, ReadRefuses, WriteRefuses, ReadsExactly, ReadsAll, PartsOf, WrittenAs, WritesSections, WritesAll, ReadFrom, WritesSame, NoneShort, OneReading, OneWriting}

-- ---- refusals

-- A number that is the first of its table's.
refuses_first : (table : List Row) (number : ℕ) (left : ℕ → Type 0) → above 8 table ≡ true → number ≡ first table
    → ((k : ℕ) → RefusedAs number k → left k) → Refuses table number left
refuses_first table number left high is nothing = record {
  only_if = λ k a. first_given table k (sym is ∙ a.0) (λ z. omega (arith, z, a.1));
  if_first = λ k g. (is ∙ given_first table k g, omega (arith, given_above 8 table k high g));
  nothing = nothing;
}

pub read_refuses : ReadRefuses
unfolding reading_of report_of
read_refuses s r m = refuses_first (row refusals.Fault (not (is_section s)) ∷ []) (number_in r) (λ k. r ≡ unread) (unfold above in refl) number nothing
  where
    number : number_in r ≡ first (row refusals.Fault (not (is_section s)) ∷ [])
    number = ap (number_in {A = Report}) m.answered ∙ by (is_section s)
      where
        by : (b : Bool) → number_in (cond b (Ok (report_of s)) unread) ≡ first (row refusals.Fault (not b) ∷ [])
        by true = unfold first in refl
        by false = unfold first in refl

    nothing : (k : ℕ) → RefusedAs (number_in r) k → r ≡ unread
    nothing k a = m.answered ∙ by (is_section s) (sym (ap (number_in {A = Report}) m.answered) ∙ a.0)
      where
        by : (b : Bool) → number_in (cond b (Ok (report_of s)) unread) ≡ k → cond b (Ok (report_of s)) unread ≡ unread
        by true e = absurd (omega (arith, e, a.1))
        by false e = refl

-- What is told of a writing, by whether it is short and whether it keeps the rules.
answer_by : (short keeps : Bool) (size : ℕ) → Result ℕ Refusal
answer_by short keeps size = cond short (Err refusals.Writing) (cond keeps (Ok size) (Err refusals.Fault))

buffer_by : (short keeps : Bool) (buffer after : List ℕ) → List ℕ
buffer_by short keeps buffer after = cond short buffer (cond keeps after buffer)

abbrev table : (short keeps : Bool) → List Row
table short keeps = row refusals.Writing short ∷ row refusals.Fault (not keeps) ∷ []

told_first : (short keeps : Bool) (size : ℕ) → (writing_told (answer_by short keeps size)).number ≡ first (table short keeps)
unfolding answer_by first
told_first true keeps size = refl
told_first false true size = refl
told_first false false size = refl

told_refused : (short keeps : Bool) (size : ℕ) (buffer after : List ℕ) (k : ℕ) → RefusedAs (writing_told (answer_by short keeps size)).number k
    → ((writing_told (answer_by short keeps size)).length ≡ 0) × (buffer_by short keeps buffer after ≡ buffer)
unfolding answer_by buffer_by
told_refused true keeps size buffer after k a = (refl, refl)
told_refused false true size buffer after k a = absurd (omega (arith, a.0, a.1))
told_refused false false size buffer after k a = (refl, refl)

module _ (p : Parts) (buffer : List ℕ) (r : Result ℕ Refusal) (left : List ℕ) (m : WriteMeets p buffer r left) where
  abbrev size : ℕ
  size = size_given p.modules p.numbers p.options

  abbrev short : Bool
  short = ltb (length buffer) size

  abbrev keeps : Bool
  keeps = keeps_rules size p.modules p.bits p.numbers

  abbrev made : Section
  made = section_given p.modules p.bits p.numbers p.name p.options

  answer_is : r ≡ answer_by short keeps size
  unfolding answer_by writing_of
  answer_is = m.answered

  left_is : left ≡ buffer_by short keeps buffer (laid buffer 0 (octets_of made))
  unfolding buffer_by buffer_of
  left_is = m.written

  pub refuses_both : Refuses (table short keeps) (writing_told r).number (λ k. ((writing_told r).length ≡ 0) × (left ≡ buffer))
  refuses_both = refuses_first (table short keeps) (writing_told r).number _ (unfold above in refl)
      (ap (λ (x : Result ℕ Refusal). (writing_told x).number) answer_is ∙ told_first short keeps size)
      (λ k a.
      let b = told_refused short keeps size buffer (laid buffer 0 (octets_of made)) k (sym (ap (λ (x : Result ℕ Refusal). (writing_told x).number) answer_is) ∙ a.0, a.1) in
      (ap (λ (x : Result ℕ Refusal). (writing_told x).length) answer_is ∙ b.0, left_is ∙ b.1))

  -- Where it is long enough and the rules are kept.
  pub written_as : short ≡ false → keeps ≡ true → length (octets_of made) ≡ size → WrittenAs (octets_of made) buffer r left
  unfolding answer_by buffer_by
  written_as long holds same =
      let room : size ≤ length buffer = ltb-false (length buffer) size long in
      record {
        told = ap writing_told answer_is ∙ rw (long, holds, same);
        begins = left_is ∙ rw (long, holds) (laid_fits buffer 0 (octets_of made) (omega (arith, same, room)) ∙ ap (λ (k : ℕ). octets_of made ++ drop k buffer) (zero-add (length (octets_of made))));
      }

  -- It was written only then.
  not_refused : (a b : Bool) (k : ℕ) → (writing_told (answer_by a b k)).number ≡ 0 → (a ≡ false) × (b ≡ true)
  unfolding answer_by
  not_refused true b k e = absurd (omega (arith, e))
  not_refused false true k e = (refl, refl)
  not_refused false false k e = absurd (omega (arith, e))

  pub was_written : (writing_told r).number ≡ 0 → (short ≡ false) × (keeps ≡ true)
  was_written e = not_refused short keeps size (sym (ap (λ (x : Result ℕ Refusal). (writing_told x).number) answer_is) ∙ e)

pub write_refuses : WriteRefuses
write_refuses p buffer r left m = refuses_both p buffer r left m

-- ---- reading

number_0 : (b : Bool) (x : Report) → number_in (cond b (Ok x) unread) ≡ 0 → b ≡ true
number_0 true x e = refl
number_0 false x e = absurd (omega (arith, e))

pub reads_exactly : ReadsExactly
unfolding reading_of report_of
reads_exactly s r m = (
  λ e. is_section_lem s (number_0 (is_section s) (report_of s) (sym (ap (number_in {A = Report}) m.answered) ∙ e)),
  λ is. ap (number_in {A = Report}) m.answered ∙ rw (section_is s is),
)

pub reads_all : ReadsAll
unfolding reading_of
reads_all x is =
    let w = within_facts x is in
    record {
      counts = λ r m. m.answered ∙ rw (section_is (octets_of x) (x, is, refl)) (ap Ok (report_back x w));
      modules = λ k b m. m.answered ∙ dead_back x w k;
      errors = λ k e m. m.answered ∙ error_back x w k;
      options = λ part m. m.handed_over ∙ options_back x w;
    }

-- ---- writing

pub writes_sections : WritesSections
writes_sections p t buffer r left m e =
    let made_of = was_written p buffer r left m e in
    let k = keeps_facts (size p buffer r left m) p.modules p.bits p.numbers made_of.1 in
    let eight = t.name_octets.0 in
    let w = given_within_lem p.modules p.bits p.numbers p.name p.options k t.bits_octets eight t.name_octets.1 t.options_octets in (
      made p buffer r left m,
      within_is (made p buffer r left m) w,
      record {
        modules = sym (given_modules _ p.modules p.bits p.numbers p.name p.options k t.bits_octets);
        bits = sym (given_bits _ p.modules p.bits p.numbers p.name p.options k t.bits_octets);
        numbers = sym (given_numbers p.numbers k.even);
        name = refl;
        options = refl;
      },
      written_as p buffer r left m made_of.0 made_of.1 (given_size p.modules p.bits p.numbers p.name p.options k t.bits_octets eight),
    )

parts_of : Section → Parts
parts_of x = record { modules = length x.dead; bits = bits_of x.dead; numbers = numbers_of x.errors; name = x.name; options = x.options }

written_whole : (x : Section) → Within x → (buffer : List ℕ) (r : Result ℕ Refusal) (left : List ℕ) → WriteMeets (parts_of x) buffer r left → length (octets_of x) ≤ length buffer
    → WrittenAs (octets_of x) buffer r left
unfolding parts_of
written_whole x w buffer r left m room =
    let p = parts_of x in
    let same : made p buffer r left m ≡ x = given_same x w in
    let fits : size p buffer r left m ≡ length (octets_of x) = size_same x w in
    subst (λ (y : Section). WrittenAs (octets_of y) buffer r left) same
    (written_as p buffer r left m (le-ltb (length buffer) (size p buffer r left m) (rw fits room)) (parts_keep x w) (ap (λ (y : Section). length (octets_of y)) same ∙ sym fits))

parts_same : (x : Section) (p : Parts) → PartsOf x p → p ≡ parts_of x
unfolding parts_of
parts_same x p o = rw (← o.bits, ← o.modules, ← o.numbers, ← o.name, ← o.options)

pub writes_all : WritesAll
writes_all x is p o buffer r left m room =
    written_whole x (within_facts x is) buffer r left (subst (λ (q : Parts). WriteMeets q buffer r left) (parts_same x p o) m) room

-- What is read from a section are its parts.
read_parts : (x : Section) → is_within x ≡ true → (r : Report) → ReadMeets (octets_of x) (Ok r) → (p : Parts) → ReadFrom (octets_of x) r p → PartsOf x p
read_parts x is r m p f =
    let w = within_facts x is in
    let says : r ≡ report x = let same = (reads_all x is).counts (Ok r) m in cc in
    let errors : r.errors ≡ length x.errors = ap (λ (y : Report). y.errors) says in
    let count : r.modules ≡ modules_in (octets_of x) = ap (λ (y : Report). y.modules) says ∙ sym (says_modules x w) in
    record {
      modules = f.modules ∙ ap (λ (y : Report). y.modules) says;
      bits = f.bits ∙ ap (λ (k : ℕ). run 4 (bits_size k) (octets_of x)) count ∙ bits_there x w;
      numbers = numbers_are x.errors no_error p.numbers (f.numbers ∙ ap (λ (k : ℕ). 2 * k) errors)
          (λ k h.
          let g = f.errors k (error_at (octets_of x) k) (rw errors h) (record { answered = refl }) in
          (g.0 ∙ ap (λ (e : Error). e.«module») (error_back x w k), g.1 ∙ ap (λ (e : Error). e.error) (error_back x w k)));
      name = f.name ∙ ap (λ (y : Report). y.name) says;
      options = (reads_all x is).options p.options f.options;
    }

pub writes_same : WritesSame
writes_same s r m =
    let x = (reads_exactly s (Ok r) m).0 refl in
    subst
    (λ (t : List ℕ). ReadMeets t (Ok r) → (p : Parts) → ReadFrom t r p → (buffer : List ℕ) (a : Result ℕ Refusal) (left : List ℕ) → WriteMeets p buffer a left → length t ≤ length buffer
    → WrittenAs t buffer a left)
    x.2 (λ n p f. writes_all x.0 x.1 p (read_parts x.0 x.1 r n p f)) m

-- ---- the rest

pub none_short : NoneShort
none_short s h = ⊎_elim
    (λ (e : is_section s ≡ true).
    let x = is_section_lem s e in
    let w = within_facts x.0 x.1 in
    absurd (omega (arith, h, ap length x.2, section_size x.0, w.name_eight)))
    (λ (e : is_section s ≡ false). e)
    (true_or_false (is_section s))

pub one_reading : OneReading
one_reading s = (
  λ r t m n. one_answer m.answered n.answered,
  λ k a b m n. one_answer m.answered n.answered,
  λ k e f m n. one_answer m.answered n.answered,
  λ part other m n. one_answer m.handed_over n.handed_over,
)

pub one_writing : OneWriting
one_writing p buffer r t left right m n = (one_answer m.answered n.answered, one_answer m.written n.written)
