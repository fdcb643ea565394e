-- "A past is a setup, storage of its right length with any octets in it, and then calls, each given the state and
-- storage that the one before left."
use Rattle.std.specs.Prelude.{ℕ, ◌*◌, ◌≡◌, List, [], ◌∷◌, length}
use Rattle.state.specs.declared.Receiver.{Receiver}
use Rattle.answers.specs.declared.Answer.{Answer}
use Rattle.answers.specs.declared.GroupAnswer.{GroupAnswer}
use Rattle.answers.specs.Told.{Missing}
use Rattle.answers.specs.declared.Noted.{Noted}
use Rattle.answers.specs.declared.Setup.{Setup}
use Rattle.answers.specs.declared.Ticked.{Ticked}
use Rattle.rules.specs.calls.Alive.{alive_answer}
use Rattle.rules.specs.calls.Clock.{clock_answer}
use Rattle.rules.specs.calls.Message.{area, message_answer, message_storage}
use Rattle.rules.specs.calls.Multicast.{Tables, multicast_answer, multicast_tables}
use Rattle.rules.specs.calls.Part.{part_of}
use Rattle.rules.specs.calls.Question.{question_answer}
use Rattle.rules.specs.calls.Setup.{setup_answer}

-- A receiver, and the storage that is lent to it.
pub record World : Type 0 where
  pub state : Receiver
  pub storage : List ℕ

-- A call that leaves the state and storage as they are: the question, and a packet to a group, with the two tables that are
-- lent for it. No promise about a sender's pieces speaks of one.
pub data Aside : Type 0 where
  question : Aside
  multicast : Tables → (group : ℕ) → List ℕ → Aside

-- A call, with any octets or any time.
pub data Event : Type 0 where
  message : List ℕ → Event
  alive : List ℕ → Event
  clock : ℕ → Event
  aside : Aside → Event

-- The world with another state.
abbrev pub with_state : World → Receiver → World
with_state w state = record { state = state; storage = w.storage }

-- "the state and storage that the one before left"
unfoldable pub step : World → Event → World
step w (message packet) = record {
  state = (message_answer w.state (length w.storage) packet).state;
  storage = message_storage w.state w.storage packet;
}
step w (alive packet) = with_state w (alive_answer w.state packet).state
step w (clock ms) = with_state w (clock_answer w.state ms).state
step w (aside call) = w

-- What calls leave, in the order of time.
unfoldable pub after : World → List Event → World
after w [] = w
after w (e ∷ es) = after (step w e) es

-- ---- what the calls say

-- What is answered to a packet, and the part that is then handed over.
abbrev pub answer_to : World → List ℕ → Answer
answer_to w packet = message_answer w.state (length w.storage) packet

abbrev pub part_to : World → List ℕ → List ℕ
part_to w packet = part_of (answer_to w packet).lies packet (message_storage w.state w.storage packet)

-- What is answered to a packet to a group, the tables that are left, and the part that is then handed over.
abbrev pub group_answer_to : World → Tables → ℕ → List ℕ → GroupAnswer
group_answer_to w t g packet = multicast_answer w.state t g packet

-- A message call says both, a multicast call all three.
abbrev pub Said : Event → Type 0
Said (message packet) = Answer × List ℕ
Said (alive packet) = Noted
Said (clock ms) = Ticked
Said (aside question) = Missing
Said (aside (multicast t g packet)) = GroupAnswer × Tables × List ℕ

unfoldable pub said : (w : World) (e : Event) → Said e
said w (message packet) = (answer_to w packet, part_to w packet)
said w (alive packet) = alive_answer w.state packet
said w (clock ms) = clock_answer w.state ms
said w (aside question) = question_answer w.state
said w (aside (multicast t g packet)) =
    (group_answer_to w t g packet, multicast_tables w.state t g packet, part_of (group_answer_to w t g packet).lies packet w.storage)

-- What each of the calls says, in the order of time.
abbrev pub Answers : List Event → Type 0
Answers [] = Unit {0}
Answers (e ∷ es) = Said e × Answers es

unfoldable pub answers : (w : World) (es : List Event) → Answers es
answers w [] = tt
answers w (e ∷ es) = (said w e, answers (step w e) es)

-- ---- how a past begins

-- "a setup, storage of its right length with any octets in it"; the setup may have been refused.
pub record Start (w : World) : Type 0 where
  pub given : Setup
  pub state : w.state ≡ (setup_answer given).state
  pub room : length w.storage ≡ w.state.count * area
