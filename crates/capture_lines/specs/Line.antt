-- "Lines, in decimal with one blank between: S answer; P answer verdict held length …; C answer, dropped map, dead map
-- …; A answer." "A bad or cut field ends the run with the line "E"."
use Rattle.std.specs.Prelude.{ℕ, zero, suc, ◌+◌, ◌-◌, ◌/◌, ◌%◌, cond, List, [], ◌∷◌, ◌++◌, ltb, length, replicate}
use Rattle.std.specs.List.{flat_map}
use Rattle.octets.specs.Run.{laid}
use Rattle.capture_lines.specs.declared.Line.{Line}
use Rattle.capture_lines.specs.declared.Line.TheVariants.{Setup, Message, Clock, Alive, End}
use Rattle.capture_lines.specs.declared.Text.{Text}

-- A number "in decimal", in ASCII, of at most f + 1 digits.
unfoldable pub decimal : ℕ → ℕ → List ℕ
decimal zero n = (48 + n % 10) ∷ []
decimal (suc f) n = cond (ltb n 10) ((48 + n) ∷ []) (decimal f (n / 10) ++ ((48 + n % 10) ∷ []))

-- "with one blank between": a blank and a number of 64 bits, which has at most 20 digits.
unfoldable pub word_of : ℕ → List ℕ
word_of n = (32 ∷ []) ++ decimal 19 n

-- A line's octets: a letter, its numbers, and the newline that ends it.
abbrev pub line_with : ℕ → List ℕ → List ℕ
line_with letter numbers = (letter ∷ flat_map word_of numbers) ++ (10 ∷ [])

unfoldable pub line_of : Line → List ℕ
line_of (Setup answer) = line_with 83 (answer ∷ [])
line_of (Message answer verdict held n) = line_with 80 (answer ∷ verdict ∷ held ∷ n ∷ [])
line_of (Clock answer dropped dead) = line_with 67 (answer ∷ dropped ∷ dead ∷ [])
line_of (Alive answer) = line_with 65 (answer ∷ [])
line_of End = line_with 69 []

-- ---- a line as the code hands it over

-- Room for every line.
abbrev pub room : ℕ
room = 96

-- The octets, with zeros behind them, and how many they are.
unfoldable pub text_of : List ℕ → Text
text_of s = record { octets = s ++ replicate (room - length s) 0; length = length s }

-- A text with more octets.
unfoldable pub added : Text → List ℕ → Text
added t p = record { octets = laid t.octets t.length p; length = t.length + length p }
