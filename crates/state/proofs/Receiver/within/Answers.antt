-- The pass judges the state. Assumes nothing.
use Rattle.state.proofs.TableLaws.{look_valid}
use Rattle.state.proofs.Receiver.within.Goals as goal

pub returns : goal.returns
returns c = look_valid _ _ _ c.look-look.ensures
