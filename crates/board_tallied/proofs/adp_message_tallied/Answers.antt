-- The call, and one of two counts. Assumes nothing.
use mathlib.Core.Path.{ap}
use Rattle.board.specs.declared.Told.{Told}
use Rattle.board.proofs.TalliedLaws.{tally_answer, tally_refusal}
use Rattle.board_tallied.proofs.adp_message_tallied.Goals as goal

pub returns-then-r-le1 : goal.returns-then-r-le1
returns-then-r-le1 c =
    let m = c.adp_message-r in
    let a = c.args in record {
      answer = m.ensures.answer;
      left = m.ensures.left;
      stored = m.ensures.stored;
      tallied = tally_answer a.tally.now a.state.now a.storage.now a.packet.now _ _ (ap (λ (t : Told). t.number) m.ensures.answer) c.if-r-le1.true c.one_more.ensures;
    }

pub returns-else-r-le1 : goal.returns-else-r-le1
returns-else-r-le1 c =
    let m = c.adp_message-r in
    let a = c.args in record {
      answer = m.ensures.answer;
      left = m.ensures.left;
      stored = m.ensures.stored;
      tallied = tally_refusal a.tally.now a.state.now a.storage.now a.packet.now _ _ (ap (λ (t : Told). t.number) m.ensures.answer) c.if-r-le1.false c.one_more-else-r-le1.ensures;
    }
