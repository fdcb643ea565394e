-- The test is that of the definition. Assumes nothing.
use mathlib.Core.Path.{refl}
use Rattle.rules.specs.calls.Multicast.{one_piece}
use Rattle.multicast.proofs.one_piece.Goals as goal

pub returns : goal.returns
unfolding one_piece
returns c = refl
