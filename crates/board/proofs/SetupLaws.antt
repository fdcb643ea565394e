-- Setup into words that are not a state's is told as a setup outside its limits. Assumes nothing.
use Rattle.std.specs.Prelude.{ℕ, ◌≡◌, ◌≢◌, false, List, length}
use Rattle.std.proofs.Common.{ne_eqb}
use Rattle.answers.specs.declared.Setup.{Setup}
use Rattle.answers.specs.Told.{call_number}
use Rattle.rules.proofs.calls.ExactlyLaws.{setup_refuses}
use Rattle.rules.specs.calls.Setup.{setup_within, setup_answer}
use Rattle.words.specs.Words.{words_most}
use Rattle.board.specs.Calls.{setup_for}

-- Another number of words than a state has is refused as any setup outside its limits is.
pub setup_outside : (l : List ℕ) (q bad : Setup) → length l ≢ words_most → setup_within bad ≡ false → setup_for l q ≡ call_number (setup_answer bad).call
unfolding setup_for
setup_outside l q bad many e = rw (ne_eqb (length l) words_most many, setup_refuses bad e)
