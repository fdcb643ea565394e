-- Why a contract that equates leaves nothing open. Assumes nothing.
use Rattle.std.specs.Prelude.{◌≡◌}
use Rattle.std.proofs.Common.{sym, ◌∙◌}

-- Two answers that meet a contract of the form "the answer is what the definition says" are equal. Every public
-- function has such a contract for its answer, and another for each lent slice that it may write (the gate's check
-- `contracts`).
pub one_answer {ℓ} : {A : Type ℓ} {x y said : A} → x ≡ said → y ≡ said → x ≡ y
one_answer e f = e ∙ sym f
