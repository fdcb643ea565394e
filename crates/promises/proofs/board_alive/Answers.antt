-- The relation is the contract, and a packet is octets. Assumes nothing.
use mathlib.Core.Path.{refl}
use native.Mathlib.Omega.{arith}
use Rattle.promises.proofs.board_alive.Goals as goal

pub returns : goal.returns
returns c =
    let m = c.adp_alive.ensures in
    let octets = c.shared_slice_known-1.given in record {
      answer = m.answer;
      left = m.left;
      meets = λ storage. (m.answer, m.left, refl, record { small = λ i. omega (arith, octets i) });
    }
