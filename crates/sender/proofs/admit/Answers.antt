-- Refused, or admitted. Assumes nothing.
use mathlib.Core.Path.{sym, ◌∙◌}
use Rattle.rules.proofs.calls.FirstLaws.{none_checked}
use Rattle.rules.proofs.calls.AdmitLaws.{admitted_facts, admission_yes, admission_no}
use Rattle.sender.proofs.admit.Goals as goal

pub returns-in-Err : goal.returns-in-Err
returns-in-Err c =
    let a = c.args in
    c.refused_by.ensures ∙ admission_no a.test a.n1 a.clock a.s a.h _ (sym c.check.ensures ∙ c.in-Err.is)

pub admitted_by-requires : goal.admitted_by-requires
admitted_by-requires c =
    let a = c.args in
    (admitted_facts a.test a.n1 a.s a.h (none_checked _ (sym c.check.ensures ∙ c.in_default.is))).cut_possible

pub returns : goal.returns
returns c =
    let a = c.args in
    c.admitted_by.ensures ∙ sym (admission_yes a.test a.n1 a.clock a.s a.h (sym c.check.ensures ∙ c.in_default.is))
