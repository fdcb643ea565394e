-- The 12 octets are a number of 8 and one of 4. Assumes nothing.
use Rattle.octets.proofs.NumberLaws.{number_zero}
use Rattle.header.proofs.no_inquiry.Goals as goal

pub returns : goal.returns
returns c = rw (c.read8.ensures, c.read4.ensures) (number_zero 8 4 c.args.packet.now _)
