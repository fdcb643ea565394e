-- The pieces of a message cut one after the other into the same buffer, and a header by itself.
use Rattle.std.specs.Prelude.{ℕ, zero, suc, ◌+◌, ◌%◌, ◌^◌, List, Result, length}
use Rattle.refusal.specs.declared.Refusal.{Refusal}
use Rattle.header.specs.declared.Given.{Given}
use Rattle.header.specs.declared.Head.{Head}
use Rattle.cut.specs.Cutter.{cutter_answer, cutter_buffer, cutter_told}
use Rattle.promised.specs.Needed.{headed}

-- The header values of the first sender's message with this number.
abbrev pub given_of : ℕ → Given
given_of number = headed 1 1 number 0

-- Its header, with what the cut makes.
abbrev pub head_for : ℕ → ℕ → ℕ → ℕ → ℕ → Head
head_for number ml bsize cbn tbn = record { given = given_of number; cut = record { ml = ml; bsize = bsize; cbn = cbn; tbn = tbn } }

-- What the buffer holds once the pieces 1 to c are cut.
unfoldable pub cuts_buffer : Given → List ℕ → ℕ → List ℕ → ℕ → List ℕ
cuts_buffer g m u b zero = b
cuts_buffer g m u b (suc c) = cutter_buffer g m u (suc c) (cuts_buffer g m u b c)

abbrev pub cut_sum : ℕ → Result ℕ Refusal → ℕ
cut_sum sum a = (sum + ((cutter_told a).number + (cutter_told a).length)) % 2 ^ 64

-- The sum of what was answered for them.
unfoldable pub cuts_sum : Given → List ℕ → ℕ → List ℕ → ℕ → ℕ
cuts_sum g m u b zero = 0
cuts_sum g m u b (suc c) = cut_sum (cuts_sum g m u b c) (cutter_answer g m u (suc c) (length (cuts_buffer g m u b c)))
