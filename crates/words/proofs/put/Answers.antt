-- Ten words are laid down, where there is room. Assumes nothing.
use Rattle.std.proofs.Common.{sym, ◌∙◌, refl, arith}
use Rattle.std.proofs.lemmas.Slice.{put_mid-paste}
use Rattle.octets.proofs.RunLaws.{laid_past, laid_paste}
use Rattle.words.specs.Words.{record_words}
use Rattle.words.proofs.put.Goals as goal

pub returns-then-at-words : goal.returns-then-at-words
returns-then-at-words c =
    let a = c.args in
    let run = record_words a.r in
    let at = c.first_of-at.result in
    put_mid-paste at _ a.words.now _ run 10 c.copy_from_slice.ensures.after (omega arith) refl ∙ laid_paste a.words.now at run (omega arith) ∙ rw c.first_of-at.ensures

pub returns-else-at-words : goal.returns-else-at-words
returns-else-at-words c =
    let a = c.args in
    sym (laid_past a.words.now _ (record_words a.r) (omega (arith, c.first_of-at.ensures, c.if-at-words.false)))
