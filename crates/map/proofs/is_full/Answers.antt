-- No word is the full map of more than 64 pieces. Assumes nothing.
use mathlib.Core.Path.{◌≡◌, sym, ◌∙◌}
use native.Mathlib.Omega.{arith}
use borrow.Author.Tests.{ne_eqb}
use Rattle.map.specs.Map.{full_map}
use Rattle.map.proofs.MapLaws.{full_above, full_is}
use Rattle.map.proofs.is_full.Goals as goal

pub returns-then-t-gt-MOST_PIECES : goal.returns-then-t-gt-MOST_PIECES
returns-then-t-gt-MOST_PIECES c =
    let a = c.args in
    let above = full_above a.map a.t (omega arith) c.if-t-gt-MOST_PIECES.true in
    sym (full_is a.map a.t ∙ ne_eqb a.map (full_map a.t) (λ (e : a.map ≡ full_map a.t). omega arith))

pub returns : goal.returns
returns c = let a = c.args in rw (c.full.ensures, full_is a.map a.t)
