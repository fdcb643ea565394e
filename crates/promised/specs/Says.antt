-- What a receiver says, by the past alone: what each call is told, from setup's arguments and the log of the calls
-- before it. No state stands here. A call after a setup meets neither 9 nor 11.
use Rattle.std.specs.Prelude.{ℕ, zero, suc, ◌+◌, ◌-◌, ◌*◌, ◌^◌, Bool, true, false, not, cond, ◌&&◌, ◌||◌, List, [], ◌∷◌, eqb, leb, ltb, length, take, drop}
use Rattle.refusal.specs.declared.Refusal.TheVariants as refusals
use Rattle.octets.specs.FirstPlace.{first_place}
use Rattle.ring.specs.declared.Verdict.{Verdict}
use Rattle.ring.specs.Check.{check, is_repeat, is_unchecked}
use Rattle.ring.specs.Ring.{newer}
use Rattle.header.specs.Head.{head_of}
use Rattle.groups.specs.declared.Groups.{Groups}
use Rattle.groups.specs.Groups as groups
use Rattle.groups.specs.Groups.{no_groups}
use Rattle.cut.specs.Pieces.{joined}
use Rattle.cut.specs.Possible.{possible}
use Rattle.state.specs.declared.Address.{Address}
use Rattle.state.specs.Limits.{same_address, given}
use Rattle.state.specs.Table.{source}
use Rattle.answers.specs.declared.Setup.{Setup}
use Rattle.answers.specs.Told.{not_delivered, delivered_as, age_with, WhereTold, nothing_handed, MessageTold, message_refused, GroupTold, group_refused, ClockTold, clock_refused, QuestionTold, none_open}
use Rattle.rules.specs.calls.First.{Row, row, first}
use Rattle.rules.specs.calls.Multicast.{Tables, entry_place, entry_at, with_entry, tables_within, one_piece}
use Rattle.rules.specs.calls.Setup.{setup_within}
use Rattle.rules.specs.pasts.Past.{Event, message, alive, clock, aside, question, multicast}
use Rattle.promised.specs.Join.{kin_of, number_in, behind}
use Rattle.promised.specs.Judged.{has_length, is_message, is_alive, has_body, has_section}
use Rattle.promised.specs.Log.{ToldOf, Exchange, exchange, Name, no_name, name_of, time_of, deliveries, last_of, same_message, accepted_with, open_of, is_open, stamp_of, Life, life_of}

-- ---- the senders

-- "1 to 16 senders"; none where setup is refused: "An empty state, with no senders, is what a refused setup returns".
unfoldable pub senders_of : Setup → List Address
senders_of q = cond (setup_within q) (take q.count q.senders) []

-- Where a sender stands in the table.
abbrev pub place_of : List Address → Address → ℕ
place_of l a = first_place (λ i. same_address (given l i) a) (length l)

-- ---- the message call

-- The open message "has the same version and a" newer "number", by 02, Item 3.
abbrev pub newer_is_open : List (List ℕ) → Name → Bool
newer_is_open [] name = false
newer_is_open (p ∷ packets) name = eqb (head_of p).given.version.0 name.version.0 && newer (head_of p).given.number name.number

-- "TCD, n, TBN or u differ" from those of the open message.
abbrev pub differs : List (List ℕ) → List ℕ → Bool
differs [] packet = false
differs (p ∷ packets) packet =
    not (eqb (kin_of p).tcd (kin_of packet).tcd && eqb (kin_of p).n (kin_of packet).n && eqb (kin_of p).tbn (kin_of packet).tbn && eqb (kin_of p).u (kin_of packet).u)

-- Whether piece c is among the accepted ones.
unfoldable pub has_piece : List (List ℕ) → ℕ → Bool
has_piece [] c = false
has_piece (p ∷ packets) c = eqb (number_in p) c || has_piece packets c

-- The octets of piece c, as its packet brought them.
unfoldable pub octets_of : List (List ℕ) → ℕ → List ℕ
octets_of [] c = []
octets_of (p ∷ packets) c = cond (eqb (number_in p) c) (behind p) (octets_of packets c)

-- 15 to 20, where `packets` is the open message of the packet's sender and `verdict` what the number check says of it.
abbrev pub later_rows : Setup → Verdict → List (List ℕ) → List ℕ → List Row
later_rows q verdict packets packet =
    -- "test message at an online node": "0 online, 1 test"
    row refusals.Test (eqb (head_of packet).given.mode 1 && eqb q.mode 0)
    -- "cut not possible"
    ∷ row refusals.Cut (not (possible (head_of packet).cut))
    -- "number check says repeat"
    ∷ row refusals.Repeat (is_repeat verdict)
    -- "open message has the same version and a" newer "number"
    ∷ row refusals.Older (newer_is_open packets (name_of packet))
    -- "same version and number, but TCD, n, TBN or u differ"
    ∷ row refusals.Differs (same_message packets (name_of packet) && differs packets packet)
    -- "piece already held (octets not compared)"
    ∷ row refusals.Held (same_message packets (name_of packet) && has_piece packets (number_in packet))
    ∷ []

-- 12 to 14, and those behind them.
abbrev pub rows_for : Setup → Verdict → List (List ℕ) → List ℕ → List Row
rows_for q verdict packets packet =
    -- "PDU too short (64 …), too long (1,460 …), or length unlike BSIZE"
    row refusals.Length (not (has_length 64 1460 packet))
    -- "a fixed field of 5.1, PRI, MODE, code, or SEQ (0 or above M …) out of range"
    ∷ row refusals.Header (not (is_message packet))
    -- "sender not registered"
    ∷ row refusals.Sender (leb (length (senders_of q)) (place_of (senders_of q) (source (head_of packet))))
    ∷ later_rows q verdict packets packet

-- "the open message is dropped, its version and number stand in the answer (both 0 if none …)"
abbrev pub dropped_name : List (List ℕ) → List ℕ → Name
dropped_name [] packet = no_name
dropped_name (p ∷ packets) packet = cond (same_message (p ∷ packets) (name_of packet)) no_name (name_of p)

-- "handed over as a part of the packet or of the storage": "16,384 octets for each sender, in table order".
abbrev pub lies_in : ℕ → List ℕ → WhereTold
lies_in i packet = cond (eqb (kin_of packet).tbn 1) (record { slice = 1; start = 0; length = 0 }) (record { slice = 2; start = i * 16384; length = (kin_of packet).n })

-- An accepted packet of the sender at place i, where `with` are those accepted since its message opened, itself among
-- them: "The message is delivered at the piece that fills the map, in whatever order pieces came"; "any other answer
-- gives an empty part".
abbrev pub accepted : ℕ → Verdict → Name → List (List ℕ) → List ℕ → MessageTold × List ℕ
accepted i verdict dropped with packet = cond (eqb (length with) (kin_of packet).tbn) (
  record {
    outcome = delivered_as verdict;
    held = 0;
    dropped_version = dropped.version.0;
    dropped_number = dropped.number.0;
    lies = lies_in i packet;
  },
  joined (kin_of packet).tbn (octets_of with),
) (
  record {
    outcome = not_delivered 0 0;
    held = length with;
    dropped_version = dropped.version.0;
    dropped_number = dropped.number.0;
    lies = nothing_handed;
  },
  [],
)

-- "The lowest number that applies is given.", and with 17 how far back the number lies.
abbrev pub message_by : Setup → ℕ → Verdict → List (List ℕ) → List ℕ → MessageTold × List ℕ
message_by q i verdict packets packet =
    let k = first (rows_for q verdict packets packet) in
    cond (eqb k 0) (accepted i verdict (dropped_name packets packet) (accepted_with packets packet) packet) (message_refused k (age_with k verdict), [])

-- What the number check says of a message, after deliveries.
abbrev pub verdict_after : Setup → Name → Name → Verdict
verdict_after q last name = check q.n1 last.version last.number name.version name.number

unfoldable pub message_says : Setup → List Exchange → List ℕ → MessageTold × List ℕ
message_says q log packet =
    let a = source (head_of packet) in
    let i = place_of (senders_of q) a in
    message_by q i (verdict_after q (last_of a (deliveries log)) (name_of packet)) (open_of a i log) packet

-- ---- the multicast call

-- "0 to 8 registered groups"; none where setup is refused.
unfoldable pub groups_of : Setup → Groups
groups_of q = cond (setup_within q) q.groups no_groups

-- Both tables are "senders × groups × 8 long", and no entry is outside its limits.
abbrev pub has_tables : Setup → Tables → Bool
has_tables q t = tables_within (length (senders_of q) * (groups_of q).count * 8) t

-- 26, 12 to 14, 25 and 15 to 17, where `right` says whether 26 passes the tables and `verdict` what the number check says.
abbrev pub rows_cast : Setup → Bool → Verdict → ℕ → List ℕ → List Row
rows_cast q right verdict g packet =
    row refusals.Tables (not right)
    -- "a PDU may be 1,472 octets here"
    ∷ row refusals.Length (not (has_length 64 1472 packet))
    ∷ row refusals.Header (not (is_message packet))
    ∷ row refusals.Sender (leb (length (senders_of q)) (place_of (senders_of q) (source (head_of packet))))
    -- "25 group not registered, after 14"
    ∷ row refusals.Group (leb (groups_of q).count (groups.place_of (groups_of q) g))
    ∷ row refusals.Test (eqb (head_of packet).given.mode 1 && eqb q.mode 0)
    -- "16 unless CBN = TBN = 1 and p = n"
    ∷ row refusals.Cut (not (one_piece (head_of packet).cut))
    ∷ row refusals.Repeat (is_repeat verdict)
    ∷ []

-- The entry of the packet's sender, group and priority, and what stands there.
abbrev pub entry_for : Setup → ℕ → List ℕ → ℕ
entry_for q g packet = entry_place (groups_of q).count (place_of (senders_of q) (source (head_of packet))) (groups.place_of (groups_of q) g) (head_of packet).given.pri

abbrev pub name_at : Tables → ℕ → Name
name_at t k = record { version = (entry_at t k).version; number = (entry_at t k).number }

-- "The message is handed over as the part of the packet behind its header"; "A delivery that is not unchecked writes its version
-- and number into its one entry; nothing else of state, tables or storage changes."
abbrev pub cast_by : Setup → Bool → Verdict → Tables → ℕ → List ℕ → GroupTold × Tables × List ℕ
cast_by q right verdict t g packet =
    let k = first (rows_cast q right verdict g packet) in
    cond (eqb k 0) (
      record { outcome = delivered_as verdict; lies = record { slice = 1; start = 0; length = 0 } },
      cond (is_unchecked verdict) t (with_entry t (entry_for q g packet) (name_of packet).version (name_of packet).number),
      drop 64 packet,
    ) (group_refused k (age_with k verdict), t, [])

-- Whatever tables are lent.
unfoldable pub cast_says : Setup → Tables → ℕ → List ℕ → GroupTold × Tables × List ℕ
cast_says q t g packet = cast_by q (has_tables q t) (verdict_after q (name_at t (entry_for q g packet)) (name_of packet)) t g packet

-- ---- the alive call

unfoldable pub alive_says : Setup → List ℕ → ℕ
alive_says q packet = first (
    -- "too short (… alive 128), too long (… alive 1,472)"
    row refusals.Length (not (has_length 128 1472 packet))
    -- "Code in 13 means … in an alive signal not 60,003."
    ∷ row refusals.Header (not (is_alive packet))
    ∷ row refusals.Sender (leb (length (senders_of q)) (place_of (senders_of q) (source (head_of packet))))
    -- "alive ML, CBN, TBN, group or body wrong"
    ∷ row refusals.Alive (not (has_body packet))
    -- 02, Item 2: "24 for a fault section that breaks these rules, after 22"
    ∷ row refusals.Fault (not (has_section packet))
    ∷ [])

-- ---- the clock call

-- "16-bit maps, first sender lowest": the places below k at which something holds.
unfoldable pub map_of : (ℕ → Bool) → ℕ → ℕ
map_of f zero = 0
map_of f (suc k) = map_of f k + cond (f k) (2 ^ k) 0

-- "each open message whose age is T or more"
abbrev pub is_dropped : Setup → List Exchange → ℕ → ℕ → Bool
is_dropped q log ms i =
    let a = given (senders_of q) i in
    is_open (open_of a i log) && leb q.t (ms - stamp_of a log)

-- "each alive sender whose age is al_tm_out or more", which is in seconds.
abbrev pub is_old : Life → ℕ → Bool
is_old life ms = life.alive && leb (1000 * life.timeout) (ms - life.stamp)

-- "21: clock back or above its limit"
unfoldable pub clock_says : Setup → List Exchange → ℕ → ClockTold
clock_says q log ms =
    cond (ltb ms (time_of log) || ltb 1099511627776 ms) (clock_refused 21) (record {
      number = 0;
      dropped = map_of (is_dropped q log ms) (length (senders_of q));
      dead = map_of (λ i. is_old (life_of (given (senders_of q) i) i log) ms) (length (senders_of q));
    })

-- ---- the question

-- The pieces of the open message.
abbrev pub pieces_in : List (List ℕ) → ℕ
pieces_in [] = 0
pieces_in (p ∷ packets) = (kin_of p).tbn

-- "which piece is its lowest missing one?"
abbrev pub lowest_of : List (List ℕ) → ℕ
lowest_of packets = first_place (λ k. not (has_piece packets (k + 1))) (pieces_in packets) + 1

-- "of the first sender in table order with an open message"
unfoldable pub question_says : Setup → List Exchange → QuestionTold
question_says q log =
    let open_at : ℕ → List (List ℕ) = λ i. open_of (given (senders_of q) i) i log in
    let i = first_place (λ i. is_open (open_at i)) (length (senders_of q)) in
    cond (ltb i (length (senders_of q))) (record { number = 0; «open» = true; sender = i; piece = lowest_of (open_at i) }) (none_open 0)

-- ---- how many pieces are held

-- 02, Item 1: "how many pieces each sender has": as many as were accepted since its open message opened. None past the
-- senders.
unfoldable pub held_says : Setup → List Exchange → ℕ → ℕ
held_says q log i = cond (ltb i (length (senders_of q))) (length (open_of (given (senders_of q) i) i log)) 0

-- ---- all of them

unfoldable pub says : Setup → List Exchange → (e : Event) → ToldOf e
says q log (message packet) = message_says q log packet
says q log (alive packet) = alive_says q packet
says q log (clock ms) = clock_says q log ms
says q log (aside question) = question_says q log
says q log (aside (multicast t g packet)) = cast_says q t g packet

-- The log of the calls after a setup: setup's arguments and the calls, and nothing else.
unfoldable pub log_of : Setup → List Exchange → List Event → List Exchange
log_of q log [] = log
log_of q log (e ∷ es) = log_of q (exchange e (says q log e) ∷ log) es
