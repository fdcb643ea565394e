-- Each field is laid down at its place; INQ_ID and GTID as octets of 0. Assumes nothing.
use Rattle.octets.specs.Number.{octets}
use Rattle.header.specs.private.Filled.{fill}
use Rattle.header.proofs.write_middle.Goals as goal

pub returns : goal.returns
unfolding fill octets
returns c =
    rw (c.lay-2.ensures, c.write2-2.ensures, c.write2.ensures, c.lay.ensures, c.write4-3.ensures, c.write4-2.ensures, c.write4.ensures)
