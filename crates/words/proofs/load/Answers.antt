-- The words where they stand. Assumes nothing.
use Rattle.std.proofs.Common.{sym, ap, ◌∙◌, ◌≡◌, ◌+◌, ◌-◌, drop, arith, ⊎_elim}
use Rattle.words.specs.Words.{each, record_in}
use Rattle.words.proofs.WordsLaws.{record_there, record_past, record_taken}
use Rattle.words.proofs.load.Goals as goal

pub returns-in_default : goal.returns-in_default
returns-in_default c =
    let a = c.args in
    sym (record_past a.words.now a.i (⊎_elim (λ x. omega (arith, c.first_of-at.ensures, x)) (λ x. omega (arith, c.first_of-at.ensures, x)) c.in_default.ensures.lookup.0))

pub returns : goal.returns
returns c =
    let l = c.args.words.now in
    let at = c.first_of-at.result in
    let found = c.in-Some.ensures.lookup.0 in
    let ten : (at + 10) - at ≡ each = omega arith in
    let read : record_in c.in-Some.record.now ≡ record_in (drop at l) = ap record_in found.2 ∙ rw ten (record_taken (drop at l)) in
    read ∙ rw c.first_of-at.ensures (sym (record_there l c.args.i (omega (arith, c.first_of-at.ensures, found.1))))
