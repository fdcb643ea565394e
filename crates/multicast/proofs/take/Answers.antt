-- The entry is written where the delivery is kept, and otherwise nothing. Assumes nothing.
use Rattle.multicast.proofs.LentLaws.{left_written, left_same}
use Rattle.multicast.proofs.take.Goals as goal

pub returns-then-is_kept : goal.returns-then-is_kept
returns-then-is_kept c =
    let both = left_written _ _ _ _ _ _ c.outcome-outcome.ensures _ c.is_kept.ensures c.if-is_kept.true _ c.place-place.ensures _ _ c.put.ensures c.put-then-is_kept.ensures in
    record { answer = both.0; versions = both.1.0; numbers = both.1.1 }

pub returns-else-is_kept : goal.returns-else-is_kept
returns-else-is_kept c =
    let both = left_same _ _ _ _ _ _ c.outcome-outcome.ensures _ c.is_kept.ensures c.if-is_kept.false in
    record { answer = both.0; versions = both.1.0; numbers = both.1.1 }
