-- The loop has laid down i octets of the run. Assumes nothing.
use Rattle.std.proofs.Common.{sym, ◌∙◌, ◌≡◌, ◌+◌, ◌≤◌, length, length-set, arith, add-one}
use lib.Seq.{paste-suc}
use borrow.Author.Tests.{leb-true}
use Rattle.octets.proofs.RunLaws.{laid_unfit, laid_paste}
use Rattle.octets.proofs.lay_once.Goals as goal

pub loop-i-preserved : goal.loop-i-preserved
loop-i-preserved c =
    let l = c.loop-i in
    let a = c.args in
    let fits : a.at + length a.run.now ≤ length a.s.now = leb-true _ _ (sym c.ends_within.ensures ∙ c.if-ends_within.true) in
    (rw (l.invariant.0, add-one l.i) (paste-suc a.s.now a.at a.run.now l.i 0 (omega arith) (omega arith)), simp length-set l.invariant.1)

pub returns-after-loop-i : goal.returns-after-loop-i
returns-after-loop-i c =
    let l = c.loop-i in
    let a = c.args in
    let e : l.i ≡ length a.run.now = omega arith in
    rw e at l.invariant.0 ∙ laid_paste a.s.now a.at a.run.now (leb-true _ _ (sym c.ends_within.ensures ∙ c.if-ends_within.true))

pub returns-else-ends_within : goal.returns-else-ends_within
returns-else-ends_within c = sym (laid_unfit _ _ _ (sym c.ends_within.ensures ∙ c.if-ends_within.false))
