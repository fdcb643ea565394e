-- The conditions of delivery can be met, and each is needed: what is said of that, and the pasts that show it, one for
-- each condition, and one more where the numbers have come round. So the theorem says something, and asks for nothing
-- that could be left out. The conditions are those of `Delivery`, one by one, and are said by setup's arguments and the
-- log alone; a world stands here only so that the calls' answers can be computed. Nothing is proved here; `NeededLaws`
-- proves it by computing.
use Rattle.std.specs.Prelude.{ℕ, ◌*◌, ◌≤◌, ◌<◌, ◌≡◌, ◌≢◌, true, false, ◌&&◌, eqb, length, replicate}
use mathlib.Core.List.{List, [], ◌∷◌, ◌++◌, Memᴰ}
use Rattle.ring.specs.declared.Verdict.{Verdict}
use Rattle.ring.specs.Check.{is_repeat}
use Rattle.header.specs.Codes.{within}
use Rattle.header.specs.declared.Given.{Given}
use Rattle.header.specs.Head.{head_of}
use Rattle.cut.specs.Cutter.{pdu}
use Rattle.groups.specs.Groups.{no_groups}
use Rattle.state.specs.declared.Address.{Address}
use Rattle.state.specs.Limits.{given}
use Rattle.answers.specs.declared.Setup.{Setup}
use Rattle.answers.specs.Told.{OutcomeTold, delivered_as, MessageTold, message_told}
use Rattle.rules.specs.calls.Message.{area}
use Rattle.rules.specs.calls.Setup.{setup_answer}
use Rattle.rules.specs.pasts.Past.{World, Event, message, clock, aside, question, after, answer_to, part_to, Answers, answers, Start}
use Rattle.promised.specs.Delivery.{Sent, sent_by, PieceOf, name_in, open_for, verdict_for, May, Between, OnlyPieces, Arrives, Once}
use Rattle.promised.specs.Judged.{is_from}
use Rattle.promised.specs.Log.{Exchange, logged, calls}
use Rattle.promised.specs.Says.{senders_of, newer_is_open}

-- ---- an example

-- A setup, the place of the message's sender in its table, the message and its cut, the calls before it and those
-- since, the piece that then comes, what the theorem promises of it, and what is answered: "0 stored … 1 delivered", or
-- the number of a refusal.
pub record Example : Type 0 where
  pub setup : Setup
  pub place : ℕ
  pub given : Given
  pub octets : List ℕ
  pub u : ℕ
  pub past : List Event
  pub since : List Event
  pub piece : ℕ
  pub promised : ℕ
  pub answered : ℕ

abbrev pub sent : Example → Sent
sent e = sent_by e.given e.octets e.u

abbrev pub packet : Example → List ℕ
packet e = pdu e.given e.octets e.u e.piece

-- "a setup, storage of its right length with any octets in it": here with 0.
unfoldable pub start : Setup → World
start q = record { state = (setup_answer q).state; storage = replicate ((setup_answer q).state.count * area) 0 }

-- What the past left, and its log.
abbrev pub before : Example → World
before e = after (start e.setup) e.past

abbrev pub log : Example → List Exchange
log e = logged [] e.past (answers (start e.setup) e.past)

-- What the calls since were answered.
abbrev pub answers_since : (e : Example) → Answers e.since
answers_since e = answers (before e) e.since

-- What the number check says of the message after the past.
abbrev pub verdict : Example → Verdict
verdict e = verdict_for e.setup (log e) (sent e)

-- What the piece finds, what its call is told, and the part that is then handed over.
abbrev pub finds : Example → World
finds e = after (before e) e.since

abbrev pub outcome : Example → OutcomeTold
outcome e = (message_told (answer_to (finds e) (packet e))).outcome

abbrev pub part : Example → List ℕ
part e = part_to (finds e) (packet e)

-- What the theorem promises of it.
abbrev pub Promise : Example → Type 0
Promise e = Arrives (sent e) (verdict e) e.since e.piece (outcome e) (part e) × Once (sent e) e.since (outcome e)

-- ---- the conditions, in the order of the demand

pub data Condition : Type 0 where
  registered length_within unit_within version_not_0 unheard no_repeat none_newer admits only_pieces kept : Condition

-- Of a packet of the sender nothing is asked.
abbrev pub NoneAsked : List ℕ → MessageTold → Type 0
NoneAsked p told = Unit {0}

-- Together they are what the theorem asks for, no less (`conditions_may`, `conditions_between`) and no more
-- (`asked_conditions`).
abbrev pub Fulfilled : Condition → Example → Type 0
-- "a registered sender's message"
Fulfilled registered e = (e.place < length (senders_of e.setup)) × (given (senders_of e.setup) e.place ≡ (sent e).address)
-- "n … (0 to 16,384)"
Fulfilled length_within e = length e.octets ≤ 16384
-- "and u the piece length, 256 to 1,396"
Fulfilled unit_within e = within 256 1396 e.u ≡ true
-- "If its version is not 0,"
Fulfilled version_not_0 e = (sent e).version.0 ≢ 0
-- "no packet with this version and number came from this sender before,"
Fulfilled unheard e = (p : List ℕ) → Memᴰ (message p) (calls (log e)) → is_from (sent e).address p ≡ true
    → (head_of p).given.version.0 ≡ (sent e).version.0 → (head_of p).given.number.0 ≢ (sent e).number.0
-- "the number check does not call it a repeat,"
Fulfilled no_repeat e = is_repeat (verdict e) ≡ false
-- 02, Item 3: "no newer number of that version is open", "for the sender,"
Fulfilled none_newer e = newer_is_open (open_for (sent e) e.place (log e)) (name_in (sent e)) ≡ false
-- "the mode admits it,"
Fulfilled admits e = eqb (sent e).mode 1 && eqb e.setup.mode 0 ≡ false
-- "nothing else of that sender comes between"
Fulfilled only_pieces e = (p : List ℕ) → Memᴰ (message p) e.since → is_from (sent e).address p ≡ true → (c : ℕ) × PieceOf (sent e) c p
-- "no clock call drops it"
Fulfilled kept e = Between NoneAsked (sent e) e.place (log e) e.since (answers_since e)

-- ---- what is said

-- All that the theorem asks for, and the message is delivered.
pub record Met (e : Example) : Type 0 where
  pub started : Start (start e.setup)
  pub version : (sent e).version.0 ≢ 0
  pub may : May e.setup (log e) (sent e) e.place
  pub between : Between (OnlyPieces (sent e)) (sent e) e.place (log e) e.since (answers_since e)
  pub is_piece : PieceOf (sent e) e.piece (packet e)
  pub delivered : (outcome e ≡ delivered_as (verdict e)) × (part e ≡ e.octets)

-- All that the theorem asks for but one condition, and not what it promises.
pub record Needed (x : Condition) (e : Example) : Type 0 where
  pub started : Start (start e.setup)
  pub is_piece : PieceOf (sent e) e.piece (packet e)
  pub others : (y : Condition) → y ≢ x → Fulfilled y e
  pub fails : ¬ Fulfilled x e
  pub broken : ¬ Promise e

-- ---- the setups

abbrev pub address : ℕ → Address
address node = record { field = record { 0 = 1 }; node = record { 0 = node } }

-- "setup online, N1 16, T 15000, sender field 1 node 7", as in 01's listing, and node 8 besides: node 7 stands at place
-- 0 of the table, node 8 at place 1. Mode: "0 online, 1 test".
abbrev pub setup_in : (mode : ℕ) → Setup
setup_in mode = record { mode = mode; n1 = 16; t = 15000; count = 2; senders = address 7 ∷ address 8 ∷ []; groups = no_groups }

abbrev pub online : Setup
online = setup_in 0

abbrev pub test : Setup
test = setup_in 1

-- ---- the messages

-- The header values of a message from a node.
abbrev pub headed : (node version number mode : ℕ) → Given
headed node version number mode = record {
  field = record { 0 = 1 };
  node = record { 0 = node };
  da = 0;
  version = record { 0 = version };
  number = record { 0 = number };
  mctl = 0;
  tcd = 1;
  mode = mode;
  pri = 0;
}

-- Octets of one piece, and of two, where u is 256.
abbrev pub short : List ℕ
short = 7 ∷ []

abbrev pub long : List ℕ
long = replicate 256 7 ++ (8 ∷ [])

-- Piece c of them comes from a node, with a number of version 5.
abbrev pub comes : (node number : ℕ) → List ℕ → ℕ → Event
comes node number octets c = message (pdu (headed node 5 number 0) octets 256 c)

-- A message of one piece comes from node 8, with a number of version 5: delivery is promised.
abbrev pub single : Setup → (number mode : ℕ) → List Event → (answered : ℕ) → Example
single q number mode past answered = record {
  setup = q;
  place = 1;
  given = headed 8 5 number mode;
  octets = short;
  u = 256;
  past = past;
  since = [];
  piece = 1;
  promised = 1;
  answered = answered;
}

-- With number 100.
abbrev pub lone : Setup → (mode : ℕ) → List Event → (answered : ℕ) → Example
lone q mode past answered = single q 100 mode past answered

-- The first piece of several comes from node 7, with number 100 of version 5: it is to be stored.
abbrev pub opening : List ℕ → (u answered : ℕ) → Example
opening octets u answered = record {
  setup = online;
  place = 0;
  given = headed 7 5 100 0;
  octets = octets;
  u = u;
  past = [];
  since = [];
  piece = 1;
  promised = 0;
  answered = answered;
}

-- Piece c of two comes from node 8, with the same number.
abbrev pub one_of_two : (c : ℕ) (past since : List Event) (promised answered : ℕ) → Example
one_of_two c past since promised answered = record {
  setup = online;
  place = 1;
  given = headed 8 5 100 0;
  octets = long;
  u = 256;
  past = past;
  since = since;
  piece = c;
  promised = promised;
  answered = answered;
}

-- ---- the conditions can be met

-- "in any order and some of them more than once, with other senders' packets between": node 8's message before it was
-- delivered, and a message of node 7 is open. At 1 ms the second piece comes, and comes again. A clock call at 15,000
-- ms drops node 7's message, which is T old, and leaves this one, which is T − 1 old. Then a piece of node 7's comes
-- again, and a question, and then the first piece: delivered.
unfoldable pub example : Example
example = one_of_two 1
    (comes 8 99 short 1 ∷ comes 7 100 long 1 ∷ clock 1 ∷ [])
    (comes 8 100 long 2 ∷ comes 8 100 long 2 ∷ clock 15000 ∷ comes 7 100 long 1 ∷ aside question ∷ []) 1 1

-- "the mode admits it": a test message at a test node. Delivered.
unfoldable pub tested : Example
tested = lone test 1 [] 1

-- "no newer number of that version is open", where the numbers have come round: M is open, 1 comes. Delivered.
unfoldable pub came_round : Example
came_round = single online 1 0 (comes 8 2147483647 long 1 ∷ []) 1

-- ---- each is needed

-- The example in which one condition alone fails.
unfoldable pub without : Condition → Example
-- "a registered sender's message": node 9 is not in the table. 14, not delivered.
without registered = record {
  setup = online;
  place = 0;
  given = headed 9 5 100 0;
  octets = short;
  u = 256;
  past = [];
  since = [];
  piece = 1;
  promised = 1;
  answered = 14;
}
-- "n … (0 to 16,384)": one octet more, in 12 pieces. 16, not stored.
without length_within = opening (replicate 16385 7) 1396 16
-- "u the piece length, 256 to 1,396": one octet less, in two pieces. 16, not stored.
without unit_within = opening (replicate 256 7) 255 16
-- "If its version is not 0": V_SEQ 0 and SEQ 1 are not checked. Delivered again, not 17.
without version_not_0 = record {
  setup = online;
  place = 0;
  given = headed 7 0 1 0;
  octets = short;
  u = 256;
  past = [];
  since = message (pdu (headed 7 0 1 0) short 256 1) ∷ [];
  piece = 1;
  promised = 17;
  answered = 1;
}
-- "no packet with this version and number came from this sender before": a first piece did, with other octets.
-- Delivered with those, not stored.
without unheard = one_of_two 2 (comes 8 100 (replicate 257 9) 1 ∷ []) [] 0 1
-- "the number check does not call it a repeat": the number after it was delivered. 17, not delivered.
without no_repeat = lone online 0 (comes 8 101 short 1 ∷ []) 17
-- "no newer number of that version is open": the number after it is. 18, not delivered.
without none_newer = lone online 0 (comes 8 101 long 1 ∷ []) 18
-- "the mode admits it": `tested` at an online node. 15, not delivered.
without admits = lone online 1 [] 15
-- "nothing else of that sender comes between": the next message does, which drops the open one and is delivered. 17,
-- not delivered.
without only_pieces = one_of_two 2 [] (comes 8 100 long 1 ∷ comes 8 101 short 1 ∷ []) 1 17
-- "no clock call drops it": after the first piece node 7's message opens at 1 ms. A clock call at 15,000 ms drops this
-- one, which is T old, and leaves node 7's. The second piece opens the message again: stored, not delivered.
without kept = one_of_two 2 [] (comes 8 100 long 1 ∷ clock 1 ∷ comes 7 100 long 1 ∷ clock 15000 ∷ []) 1 0

-- "no newer number of that version is open", once more, where the numbers have come round: 1 is, and M comes. 18, not
-- delivered.
unfoldable pub turned : Example
turned = single online 2147483647 0 (comes 8 1 long 1 ∷ []) 18
