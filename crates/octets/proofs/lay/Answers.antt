-- The run is laid down exactly where it ends within the slice. Assumes nothing.
use Rattle.std.proofs.Common.{sym, ◌∙◌, ◌+◌, ◌≤◌, length, arith, refl}
use borrow.Author.Tests.{leb-true}
use Rattle.std.proofs.lemmas.Slice.{put_mid-paste}
use Rattle.octets.proofs.RunLaws.{laid_unfit, laid_paste, laid_empty}
use Rattle.octets.proofs.lay.Goals as goal

pub returns-then-n-eq0 : goal.returns-then-n-eq0
returns-then-n-eq0 c = sym (laid_empty _ _ _ c.if-n-eq0.true)

pub returns-then-ends_within : goal.returns-then-ends_within
returns-then-ends_within c =
    let a = c.args in
    let fits : a.at + length a.run.now ≤ length a.s.now = leb-true _ _ (sym c.ends_within.ensures ∙ c.if-ends_within.true) in
    put_mid-paste a.at _ a.s.now _ a.run.now (length a.run.now) c.copy_from_slice.ensures.after (omega arith) refl ∙ laid_paste a.s.now a.at a.run.now fits

pub returns-else-ends_within : goal.returns-else-ends_within
returns-else-ends_within c = sym (laid_unfit _ _ _ (sym c.ends_within.ensures ∙ c.if-ends_within.false))
