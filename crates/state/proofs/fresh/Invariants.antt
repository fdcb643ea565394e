-- The first numbers have been compared. Assumes nothing.
use Rattle.std.proofs.Common.{◌≡◌}
use Rattle.state.specs.Key.{new_key}
use Rattle.state.proofs.fresh.Given as goal

abbrev pub invariant-loop-other : goal.invariant-loop-other
invariant-loop-other l = l.new ≡ new_key l.seen l.other-index l.key
