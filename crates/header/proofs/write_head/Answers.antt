-- The three parts one after the other are the header. Assumes nothing.
use mathlib.Core.Path.{sym}
use native.Mathlib.Omega.{arith}
use Rattle.header.proofs.HeadLaws.{headed_short, filled_headed}
use Rattle.header.proofs.write_head.Goals as goal

pub returns-then-buffer-ge-SIZE : goal.returns-then-buffer-ge-SIZE
returns-then-buffer-ge-SIZE c =
    rw (c.write_back.ensures, c.write_middle.ensures, c.write_front.ensures) (filled_headed _ _ c.if-buffer-ge-SIZE.true)

pub returns-else-buffer-ge-SIZE : goal.returns-else-buffer-ge-SIZE
returns-else-buffer-ge-SIZE c = sym (headed_short _ _ (omega arith))
