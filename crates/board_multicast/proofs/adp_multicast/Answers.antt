-- The header is read, the words looked at once, and the packet taken. Assumes nothing.
use Rattle.board_multicast.proofs.HeardLaws.{met}
use Rattle.board_multicast.proofs.adp_multicast.Goals as goal

pub returns : goal.returns
returns c =
    let both = met _ _ _ _ _ _ _ _ c.read_head-h.ensures c.of.ensures c.look-found.ensures c.listener-s.ensures _ _ _ _ (c.take-outcome.ensures.answer, (c.take-outcome.ensures.versions, c.take-outcome.ensures.numbers)) c.handed.ensures _ c.in_numbers.ensures in
    record { answer = both.0; versions = both.1.0; numbers = both.1.1 }
