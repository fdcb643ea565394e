-- The library's number of the octets is ours. Assumes nothing.
use Rattle.std.proofs.Common.{◌∙◌}
use Rattle.octets.proofs.NumberLaws.{be_number}
use Rattle.octets.proofs.read2.Goals as goal

pub returns : goal.returns
returns c = c.from_be_bytes.ensures ∙ be_number 1 _ ∙ c.array.ensures
