-- Every word is below the full map of more than 64 pieces. Assumes nothing.
use mathlib.Core.Path.{sym}
use native.Mathlib.Omega.{arith}
use mathlib.Core.Bool.{and-true}
use borrow.Author.Tests.{lt-ltb}
use Rattle.map.proofs.MapLaws.{full_above, partial_is}
use Rattle.map.proofs.is_partial.Goals as goal

pub returns-then-t-gt-MOST_PIECES : goal.returns-then-t-gt-MOST_PIECES
returns-then-t-gt-MOST_PIECES c =
    let a = c.args in
    rw (partial_is a.map a.t, lt-ltb _ _ (full_above a.map a.t (omega arith) c.if-t-gt-MOST_PIECES.true)) (sym (and-true _))

pub returns : goal.returns
returns c = let a = c.args in rw (c.full.ensures, partial_is a.map a.t)
