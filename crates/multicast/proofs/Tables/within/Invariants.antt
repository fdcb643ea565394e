-- After so many turns the entries before this place have been judged. Assumes nothing.
use Rattle.std.proofs.Common.{◌≡◌}
use Rattle.rules.specs.calls.Multicast.{each_entry}
use Rattle.multicast.specs.Lent.{tables}
use Rattle.multicast.proofs.Tables.within.Given as goal

abbrev pub invariant-loop-place : goal.invariant-loop-place
invariant-loop-place l = l.within ≡ each_entry (tables l.self.versions.now l.self.numbers.now) l.place
