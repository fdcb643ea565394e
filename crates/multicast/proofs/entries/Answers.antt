-- The product of two octets fits a machine word. Assumes nothing.
use mathlib.Core.Path.{refl}
use native.Mathlib.Omega.{arith}
use Rattle.multicast.proofs.LentLaws.{octets_product}
use Rattle.multicast.proofs.entries.Goals as goal

pub overflow_mul-result : goal.overflow_mul-result
overflow_mul-result c = omega (arith, octets_product c.args.senders c.args.groups (omega arith) (omega arith))

pub overflow_mul-result-2 : goal.overflow_mul-result-2
overflow_mul-result-2 c = omega (arith, octets_product c.args.senders c.args.groups (omega arith) (omega arith))

pub returns : goal.returns
returns c = refl
