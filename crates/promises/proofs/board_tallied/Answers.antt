-- The relation is the contract. Assumes nothing.
use Rattle.promises.proofs.board_tallied.Goals as goal

pub returns : goal.returns
returns c =
    let m = c.adp_message_tallied.ensures in record { answer = m.answer; left = m.left; kept = m.stored; tallied = m.tallied; message = (m.answer, m.left, m.stored) }
