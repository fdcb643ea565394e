-- The relation is the contract. Assumes nothing.
use Rattle.promises.proofs.board_message.Goals as goal

pub returns : goal.returns
returns c =
    let m = c.adp_message.ensures in record { answer = m.answer; left = m.left; stored = m.stored; meets = (m.answer, m.left, m.stored) }
