-- The calls for C are calls of a course: made at words that are a state, a board's call is the call by value at the state
-- that the words are, and leaves words that are the state which that call leaves. So what is promised of courses is
-- promised of every board whose calls meet their contracts. Proved in BoardLaws.
use Rattle.std.specs.Prelude.{ℕ, ◌*◌, ◌≡◌, true, List, [], ◌∷◌, length}
use Rattle.octets.specs.Number.{Octets}
use Rattle.answers.specs.declared.Setup.{Setup}
use Rattle.answers.specs.Told.{call_number}
use Rattle.rules.specs.calls.Alive.{alive_answer}
use Rattle.rules.specs.calls.Clock.{clock_answer}
use Rattle.rules.specs.calls.Message.{area, message_answer}
use Rattle.rules.specs.calls.Multicast.{Tables}
use Rattle.rules.specs.calls.Setup.{setup_answer}
use Rattle.rules.specs.pasts.Past.{World, Event, message, alive, clock, aside, question, multicast, Said, Answers}
use Rattle.words.specs.Words.{words_most, is_state, state_in, left_by}
use Rattle.board.specs.declared.Told.{Told}
use Rattle.board.specs.declared.Missing.{Missing}
use Rattle.board.specs.declared.Ticked.{Ticked}
use Rattle.board.specs.Calls.{setup_for, setup_words, told_of, message_for, storage_for, alive_for, ticked_of, clock_for, missing_of, question_for, group_told_of, multicast_for, tables_for}
use Rattle.promises.specs.Course.{world, SetupMeets, Course}

-- What a board holds: the words of its state, and the storage.
pub record Board : Type 0 where
  pub words : List ℕ
  pub storage : List ℕ

abbrev pub board : List ℕ → List ℕ → Board
board words storage = record { words = words; storage = storage }

-- The world that it is.
abbrev pub world_of : Board → World
world_of b = world (state_in b.words) b.storage

-- ---- each call, by its contract

abbrev pub InNumbers : Event → Type 0
InNumbers (message packet) = Told
InNumbers (alive packet) = ℕ
InNumbers (clock ms) = Ticked
InNumbers (aside question) = Missing
InNumbers (aside (multicast t g packet)) = Told × Tables

-- The call e, made at the board b, answered r and left the board c. A packet is octets.
abbrev pub BoardMeets : (b : Board) (e : Event) → InNumbers e → Board → Type 0
BoardMeets b (message packet) r c =
    (r ≡ message_for b.words (length b.storage) packet)
    × (c.words ≡ left_by b.words (message_answer (state_in b.words) (length b.storage) packet).state)
    × (c.storage ≡ storage_for b.words b.storage packet)
BoardMeets b (alive packet) r c =
    (r ≡ alive_for b.words packet) × (c.words ≡ left_by b.words (alive_answer (state_in b.words) packet).state)
    × (c.storage ≡ b.storage) × Octets packet
BoardMeets b (clock ms) r c =
    (r ≡ clock_for b.words ms) × (c.words ≡ left_by b.words (clock_answer (state_in b.words) ms).state) × (c.storage ≡ b.storage)
BoardMeets b (aside question) r c = (r ≡ question_for b.words) × (c.words ≡ b.words) × (c.storage ≡ b.storage)
BoardMeets b (aside (multicast t g packet)) r c =
    ((r.0 ≡ multicast_for b.words t g packet) × (r.1 ≡ tables_for b.words t g packet)) × (c.words ≡ b.words) × (c.storage ≡ b.storage)

-- "a setup, storage of its right length with any octets in it": adp_setup was called with as many words as a state has.
pub record BoardStarts (q : Setup) (l : List ℕ) (number : ℕ) (b : Board) : Type 0 where
  pub many : length l ≡ words_most
  pub answered : number ≡ setup_for l q
  pub left : b.words ≡ setup_words l q
  pub room : length b.storage ≡ (state_in b.words).count * area

-- ---- a board's calls

abbrev pub AllInNumbers : List Event → Type 0
AllInNumbers [] = Unit {0}
AllInNumbers (e ∷ es) = InNumbers e × AllInNumbers es

abbrev pub BoardCourse : (b : Board) (es : List Event) → AllInNumbers es → Board → Type 0
BoardCourse b [] rs c = c ≡ b
BoardCourse b (e ∷ es) rs c = (d : Board) × BoardMeets b e rs.0 d × BoardCourse d es rs.1 c

-- What the call by value answers, in numbers.
abbrev pub numbers_of : (e : Event) → Said e → InNumbers e
numbers_of (message packet) r = told_of r.0 (length packet)
numbers_of (alive packet) r = call_number r.call
numbers_of (clock ms) r = ticked_of r
numbers_of (aside question) r = missing_of r
numbers_of (aside (multicast t g packet)) r = (group_told_of r.0 (length packet), r.1)

abbrev pub all_numbers : (es : List Event) → Answers es → AllInNumbers es
all_numbers [] rs = tt
all_numbers (e ∷ es) rs = (numbers_of e rs.0, all_numbers es rs.1)

-- ---- the statements

-- adp_setup is a setup of a course.
abbrev pub BoardBegins : Type 0
BoardBegins = (q : Setup) (l : List ℕ) (number : ℕ) (b : Board) → BoardStarts q l number b
    → (is_state b.words ≡ true) × (number ≡ call_number (setup_answer q).call) × SetupMeets q (setup_answer q) (world_of b)

-- A board's calls from words that are a state are a course, and tell its answers.
abbrev pub BoardIsCourse : Type 0
BoardIsCourse = (b : Board) → is_state b.words ≡ true → (es : List Event) (rs : AllInNumbers es) (c : Board) → BoardCourse b es rs c
    → (is_state c.words ≡ true) × ((ts : Answers es) × Course (world_of b) es ts (world_of c) × (rs ≡ all_numbers es ts))
