-- A number of three octets, so nothing overflows. Assumes nothing.
use mathlib.Core.Path.{refl}
use Rattle.state.specs.Key.{key_of}
use borrow.Author.Rules.{rules}
use Rattle.state.proofs.Address.key.Goals as goal

pub returns : goal.returns
unfolding key_of
returns c = record { value = refl; narrow = search rules }
