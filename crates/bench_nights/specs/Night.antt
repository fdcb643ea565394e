-- A night: a receiver is set up and given packets, one behind the other. What it does to state and storage is `after`
-- of `rules`.
use Rattle.std.specs.Prelude.{ℕ, ◌+◌, ◌*◌, ◌%◌, ◌^◌, List, [], ◌∷◌, length, take, drop, map}
use Rattle.std.specs.List.{range_with_len}
use Rattle.groups.specs.Groups.{no_groups}
use Rattle.state.specs.declared.Address.{Address}
use Rattle.state.specs.State.{senders_most}
use Rattle.answers.specs.declared.Answer.{Answer}
use Rattle.answers.specs.declared.Outcome.{Outcome}
use Rattle.answers.specs.declared.Setup.{Setup}
use Rattle.answers.specs.Told.{refused_number, outcome_told}
use Rattle.rules.specs.calls.Message.{message_answer, message_storage}
use Rattle.rules.specs.calls.Part.{part_of}
use Rattle.rules.specs.pasts.Past.{World, Event, message, alive, clock, aside, step}
use Rattle.rules.specs.calls.Setup.{setup_answer}

-- ---- what it starts with

abbrev pub node_of : ℕ → Address
node_of k = record { field = record { 0 = 1 }; node = record { 0 = k } }

-- The nodes 1 to 16, one in each place.
abbrev pub nodes : List Address
nodes = map (λ i. node_of (i + 1)) (range_with_len 0 senders_most)

-- A node whose senders are the nodes 1 to `count` of data field 1.
abbrev pub board_of : ℕ → ℕ → ℕ → ℕ → Setup
board_of mode n1 t count = record { mode = mode; n1 = n1; t = t; count = count; senders = nodes; groups = no_groups }

unfoldable pub begun : Setup → List ℕ → World
begun q storage = record { state = (setup_answer q).state; storage = storage }

-- ---- the packets

-- Message calls on the packets that lie one behind the other, each as long as its size says.
unfoldable pub packets_by : List ℕ → List ℕ → List Event
packets_by [] packets = []
packets_by (n ∷ sizes) packets = message (take n packets) ∷ packets_by sizes (drop n packets)

-- ---- the number that is answered

-- The sum with one more answer in it: a refusal's number or a delivery's verdict, a repeat's age, the pieces held, and the
-- length that was handed over.
abbrev pub summed : ℕ → Outcome → ℕ → ℕ → ℕ
summed sum o held n = ((sum + (refused_number o + (outcome_told o).verdict + (outcome_told o).age + held * 256)) % 2 ^ 64 + n) % 2 ^ 64

abbrev pub sum_with : ℕ → Answer → List ℕ → ℕ
sum_with sum a delivered = summed sum a.outcome a.held (length delivered)

unfoldable pub sum_by : ℕ → World → Event → ℕ
sum_by sum w (message packet) =
    let a = message_answer w.state (length w.storage) packet in
    sum_with sum a (part_of a.lies packet (message_storage w.state w.storage packet))
sum_by sum w (alive packet) = sum
sum_by sum w (clock now) = sum
sum_by sum w (aside call) = sum

-- Over calls, "each given the state and storage that the one before left".
unfoldable pub night_sum : ℕ → World → List Event → ℕ
night_sum sum w [] = sum
night_sum sum w (e ∷ es) = night_sum (sum_by sum w e) (step w e) es
