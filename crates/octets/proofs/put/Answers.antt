-- Past the end there is no place. Assumes nothing.
use Rattle.std.proofs.Common.{sym}
use Rattle.std.proofs.lemmas.List.{set_past}
use Rattle.octets.proofs.put.Goals as goal

pub returns-else-k-s : goal.returns-else-k-s
returns-else-k-s g c = sym (set_past _ _ _ c.if-k-s.false)
