-- The trailing ones are the pieces before the lowest missing one. Assumes nothing.
use Rattle.std.proofs.Common.{◌∙◌, ap, arith, ℕ, ◌+◌}
use Rattle.map.proofs.MapLaws.{code_lowest}
use Rattle.map.proofs.lowest_missing.Goals as goal

pub returns : goal.returns
returns c = ap (λ (k : ℕ). k + 1) (c.trailing_ones.ensures ∙ code_lowest 64 c.args.map (omega arith))
