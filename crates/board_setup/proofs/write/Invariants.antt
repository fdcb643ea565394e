-- After i turns the settings and the first i senders are written. Assumes nothing.
use mathlib.Core.Path.{◌≡◌}
use mathlib.Core.List.{◌++◌}
use lib.ListN.{length, drop}
use Rattle.words.specs.Words.{place, words_most, front}
use Rattle.board_setup.proofs.write.Given as goal

abbrev pub invariant-loop-i : goal.invariant-loop-i
invariant-loop-i l =
    (length l.initial.words ≡ words_most) × (length l.words ≡ words_most) × (l.words ≡ front l.state l.i ++ drop (place l.i) l.initial.words)
