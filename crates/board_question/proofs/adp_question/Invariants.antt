-- After i turns nothing of the first i senders is open. Assumes nothing.
use mathlib.Core.Path.{◌≡◌}
use Rattle.words.specs.Words.{word}
use Rattle.words_look.proofs.LookLaws.{Held}
use Rattle.board_question.proofs.MissingLaws.{NoneTo}
use Rattle.board_question.proofs.adp_question.Given as goal

abbrev pub invariant-loop-i : goal.invariant-loop-i
invariant-loop-i l = (h : Held l.state) × (l.count ≡ word l.state 4) × NoneTo l.state l.i
