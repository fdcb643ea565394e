-- After i turns the first i senders are aged. Assumes nothing.
use Prim.Native.Nat.{◌≤◌}
use mathlib.Core.Path.{◌≡◌}
use Rattle.state.specs.State.{senders_most}
use Rattle.words.specs.Words.{word}
use Rattle.words_look.proofs.LookLaws.{Held}
use Rattle.board_clock.proofs.TickedLaws.{Aging}
use Rattle.board_clock.proofs.adp_clock.Given as goal

abbrev pub invariant-loop-i : goal.invariant-loop-i
invariant-loop-i l =
    (h : Held l.initial.state) × Aging l.initial.state l.ms h l.state l.dropped l.dead l.i × (l.count ≡ word l.initial.state 4) × (l.t ≡ word l.initial.state 2)
    × (l.count ≤ senders_most)
