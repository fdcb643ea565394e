-- Word by word. Assumes nothing.
use Rattle.board_clock.specs.private.Aged.{aged_by}
use Rattle.board_clock.proofs.aged.Goals as goal

pub returns : goal.returns
unfolding aged_by
returns c = rw (c.unless.ensures, c.unless-2.ensures, c.unless-3.ensures, c.unless-4.ensures, c.unless-5.ensures, c.unless-6.ensures, c.unless-7.ensures, c.unless-8.ensures)
