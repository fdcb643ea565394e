-- Small pasts, each call with the answer that 01 gives to it, written out in numbers and octets: one table. The answers
-- were worked out by hand from the sentences that stand above them. Nothing is proved here; `ListingsLaws` computes.
use Rattle.std.specs.Prelude.{ℕ, ◌+◌, ◌-◌, ◌*◌, Bool, true, false, cond, ◌&&◌, List, [], ◌∷◌, ◌++◌, map, eqb, length, replicate, set, take}
use Rattle.octets.specs.Run.{run, laid}
use Rattle.header.specs.declared.Given.{Given}
use Rattle.header.specs.Head.{header}
use Rattle.header.specs.Places.{Field, place}
use Rattle.header.specs.Places.Field.{h_type, domain, data_field, inq_id, ver as VER, gtid, pver, fui}
use Rattle.groups.specs.Groups.{no_groups}
use Rattle.signal.specs.AlivePlaces.{alive_place}
use Rattle.signal.specs.AlivePlaces.AliveField.{al_tm_out, al_mode, al_protocol, al_ver}
use Rattle.state.specs.declared.Address.{Address}
use Rattle.answers.specs.declared.Setup.{Setup}
use Rattle.answers.specs.Told.{MessageTold, GroupTold, ClockTold, QuestionTold, message_told, group_told, call_number, clock_told, question_told}
use Rattle.rules.specs.calls.Multicast.{Tables}
use Rattle.rules.specs.calls.Setup.{setup_answer}
use Rattle.rules.specs.pasts.Past.{World, Event, message, alive, clock, aside, question, multicast, step, Said, said}

-- ---- what a call is told

-- "P answer verdict held length", with the skipped numbers, how old a repeat was, the dropped version and number, and the
-- octets themselves for the length; "C answer, dropped map, dead map"; "A answer"; of the question whether a message is open,
-- its sender and the piece; and to a packet to a group the number, the verdict, the skipped numbers, how old, the octets and
-- the two tables left.
pub data Line : Type 0 where
  told_packet : (answer verdict skipped age held dropped_version dropped_number : ℕ) → List ℕ → Line
  told_clock : (answer dropped dead : ℕ) → Line
  told_alive : (answer : ℕ) → Line
  told_question : (answer : ℕ) → Bool → (sender piece : ℕ) → Line
  told_group : (answer verdict skipped age : ℕ) (part versions numbers : List ℕ) → Line

abbrev pub message_line : MessageTold → List ℕ → Line
message_line t part =
    told_packet t.outcome.number t.outcome.verdict t.outcome.skipped t.outcome.age t.held t.dropped_version t.dropped_number part

abbrev pub clock_line : ClockTold → Line
clock_line t = told_clock t.number t.dropped t.dead

abbrev pub question_line : QuestionTold → Line
question_line t = told_question t.number t.«open» t.sender t.piece

abbrev pub group_line : GroupTold → List ℕ → Tables → Line
group_line t part left = told_group t.outcome.number t.outcome.verdict t.outcome.skipped t.outcome.age part left.versions left.numbers

abbrev pub line : (e : Event) → Said e → Line
line (message packet) s = message_line (message_told s.0) s.1
line (alive packet) s = told_alive (call_number s.call)
line (clock now) s = clock_line (clock_told s)
line (aside question) s = question_line (question_told s)
line (aside (multicast t g packet)) s = group_line (group_told s.0) s.2 s.1

-- ---- two lines are the same

unfoldable pub same : List ℕ → List ℕ → Bool
same [] [] = true
same [] (y ∷ ys) = false
same (x ∷ xs) [] = false
same (x ∷ xs) (y ∷ ys) = eqb x y && same xs ys

-- What a line says, as numbers, its kind before them.
abbrev pub numbers : Line → List ℕ
numbers (told_packet k v skipped age held version number part) = 2 ∷ k ∷ v ∷ skipped ∷ age ∷ held ∷ version ∷ number ∷ part
numbers (told_clock k dropped dead) = 3 ∷ k ∷ dropped ∷ dead ∷ []
numbers (told_alive k) = 4 ∷ k ∷ []
numbers (told_question k so i c) = 5 ∷ k ∷ cond so 1 0 ∷ i ∷ c ∷ []
numbers (told_group k v skipped age part versions seqs) = 6 ∷ k ∷ v ∷ skipped ∷ age ∷ length part ∷ part ++ length versions ∷ versions ++ seqs

-- ---- a past, and whether the answers are those that stand beside its calls

-- A setup and its number; how many octets of storage there are; the calls, each with what it is told; and places of the
-- storage with octets that stand there afterwards.
pub record Listing : Type 0 where
  pub setup : Setup
  pub answer : ℕ
  pub room : ℕ
  pub calls : List (Event × Line)
  pub left : List (ℕ × List ℕ)

unfoldable pub holds : List ℕ → List (ℕ × List ℕ) → Bool
holds storage [] = true
holds storage (x ∷ xs) = same (run x.0 (length x.1) storage) x.1 && holds storage xs

-- "each given the state and storage that the one before left"
unfoldable pub told : World → List (Event × Line) → List (ℕ × List ℕ) → Bool
told w [] left = holds w.storage left
told w (c ∷ cs) left = same (numbers (line c.0 (said w c.0))) (numbers c.1) && told (step w c.0) cs left

-- "storage of its right length with any octets in it": 170 in each, so that stray memory is seen.
unfoldable pub met : Listing → Bool
met r =
    eqb (call_number (setup_answer r.setup).call) r.answer
    && told (record { state = (setup_answer r.setup).state; storage = replicate r.room 170 }) r.calls r.left

unfoldable pub all : List Listing → Bool
all [] = true
all (r ∷ rs) = met r && all rs

-- ---- setups

abbrev pub address : (field node : ℕ) → Address
address field node = record { field = record { 0 = field }; node = record { 0 = node } }

abbrev pub table : ℕ → List Address → Setup
table count senders = record { mode = 0; n1 = 16; t = 15000; count = count; senders = senders; groups = no_groups }

abbrev pub one : (mode n1 t : ℕ) → Setup
one mode n1 t = record { mode = mode; n1 = n1; t = t; count = 1; senders = address 1 7 ∷ []; groups = no_groups }

-- "setup online, N1 16, T 15000, sender field 1 node 7"
abbrev pub raft : Setup
raft = one 0 16 15000

-- The same with node 8 besides.
abbrev pub pair : Setup
pair = table 2 (address 1 7 ∷ address 1 8 ∷ [])

-- The nodes 1 to 16.
abbrev pub sixteen : List Address
sixteen =
    address 1 1 ∷ address 1 2 ∷ address 1 3 ∷ address 1 4 ∷ address 1 5 ∷ address 1 6 ∷ address 1 7 ∷ address 1 8 ∷ address 1 9
    ∷ address 1 10 ∷ address 1 11 ∷ address 1 12 ∷ address 1 13 ∷ address 1 14 ∷ address 1 15 ∷ address 1 16 ∷ []

-- "16,384 octets for each sender"
abbrev pub past : Setup → List (Event × Line) → Listing
past q calls = record { setup = q; answer = 0; room = q.count * 16384; calls = calls; left = [] }

-- The same, with octets of the storage afterwards.
abbrev pub leaving : Setup → List (Event × Line) → List (ℕ × List ℕ) → Listing
leaving q calls left = record { setup = q; answer = 0; room = q.count * 16384; calls = calls; left = left }

-- A setup alone.
abbrev pub only : Setup → (answer : ℕ) → Listing
only q answer = record { setup = q; answer = answer; room = 0; calls = []; left = [] }

-- ---- packets

abbrev pub given : (node da version number tcd mode pri : ℕ) → Given
given node da version number tcd mode pri = record {
  field = record { 0 = 1 };
  node = record { 0 = node };
  da = da;
  version = record { 0 = version };
  number = record { 0 = number };
  mctl = 0;
  tcd = tcd;
  mode = mode;
  pri = pri;
}

-- A header with ML, BSIZE, CBN and TBN as they are written here, and octets behind it.
abbrev pub packet : Given → (ml bsize cbn tbn : ℕ) → List ℕ → List ℕ
packet g ml bsize cbn tbn octets = header (record { given = g; cut = record { ml = ml; bsize = bsize; cbn = cbn; tbn = tbn } }) ++ octets

abbrev pub comes : (node version number ml bsize cbn tbn : ℕ) → List ℕ → Event
comes node version number ml bsize cbn tbn octets = message (packet (given node 0 version number 1 0 0) ml bsize cbn tbn octets)

-- A message of one octet.
abbrev pub lone : (node version number octet : ℕ) → Event
lone node version number octet = comes node version number 65 65 1 1 (octet ∷ [])

-- Number 100 of version 5 from node 7, of one octet: with a code, mode and PRI; with one octet of it changed.
abbrev pub coded : (tcd mode pri : ℕ) → Event
coded tcd mode pri = message (packet (given 7 0 5 100 tcd mode pri) 65 65 1 1 (1 ∷ []))

abbrev pub changed : Field → (octet : ℕ) → Event
changed f octet = message (laid (packet (given 7 0 5 100 1 0 0) 65 65 1 1 (1 ∷ [])) (place f).0 (octet ∷ []))

-- The first and the second piece of a message of 300 octets, u 256.
abbrev pub front : (node version number octet : ℕ) → Event
front node version number octet = comes node version number 364 320 1 2 (replicate 256 octet)

abbrev pub back : (node version number octet : ℕ) → Event
back node version number octet = comes node version number 364 108 2 2 (replicate 44 octet)

abbrev pub both : (octet octet' : ℕ) → List ℕ
both octet octet' = replicate 256 octet ++ replicate 44 octet'

-- The three pieces of a message of 600 octets, u 256.
abbrev pub piece1 : Event
piece1 = comes 7 5 100 664 320 1 3 (11 ∷ 12 ∷ 13 ∷ replicate 253 1)

abbrev pub piece2 : Event
piece2 = comes 7 5 100 664 320 2 3 (replicate 256 2)

abbrev pub piece3 : Event
piece3 = comes 7 5 100 664 152 3 3 (replicate 85 3 ++ (31 ∷ 32 ∷ 33 ∷ []))

abbrev pub three : List ℕ
three = (11 ∷ 12 ∷ 13 ∷ replicate 253 1) ++ replicate 256 2 ++ replicate 85 3 ++ (31 ∷ 32 ∷ 33 ∷ [])

-- Piece c of a message of 16,384 octets in 12, and its last; in 64.
abbrev pub of_twelve : ℕ → Event
of_twelve c = comes 7 5 100 16448 1460 c 12 (replicate 1396 c)

abbrev pub twelfth : Event
twelfth = comes 7 5 100 16448 1092 12 12 (replicate 1028 12)

abbrev pub twelve : List ℕ
twelve =
    replicate 1396 1 ++ replicate 1396 2 ++ replicate 1396 3 ++ replicate 1396 4 ++ replicate 1396 5 ++ replicate 1396 6
    ++ replicate 1396 7 ++ replicate 1396 8 ++ replicate 1396 9 ++ replicate 1396 10 ++ replicate 1396 11 ++ replicate 1028 12

abbrev pub of64 : ℕ → Event
of64 c = comes 7 5 100 16448 320 c 64 (replicate 256 c)

-- ---- packets to groups

-- Nodes 7 and 8 are heard by a node in these groups.
abbrev pub grouped : (mode n1 count : ℕ) → List ℕ → Setup
grouped mode n1 count numbers = record {
  mode = mode;
  n1 = n1;
  t = 15000;
  count = 2;
  senders = address 1 7 ∷ address 1 8 ∷ [];
  groups = record { count = count; list = map (λ x. record { 0 = x }) numbers };
}

-- In the groups 9 and 3: 2 × 2 × 8 entries.
abbrev pub nine_and_three : Setup
nine_and_three = grouped 0 16 2 (9 ∷ 3 ∷ [])

abbrev pub empty : (entries : ℕ) → Tables
empty n = record { versions = replicate n 0; numbers = replicate n 0 }

-- Tables with a version and a number at one place.
abbrev pub holding : Tables → (place version number : ℕ) → Tables
holding t k version number = record { versions = set t.versions k version; numbers = set t.numbers k number }

abbrev pub to_group : Tables → (group : ℕ) → List ℕ → Event
to_group t g octets = aside (multicast t g octets)

-- A message of one octet.
abbrev pub casts : Tables → (group node version number pri octet : ℕ) → Event
casts t g node version number pri octet = to_group t g (packet (given node 65537 version number 1 0 pri) 65 65 1 1 (octet ∷ []))

-- From node 8 to group 3: with a mode, ML, BSIZE, CBN and TBN.
abbrev pub cut_so : (mode ml bsize cbn tbn : ℕ) → List ℕ → Event
cut_so mode ml bsize cbn tbn octets = to_group (empty 32) 3 (packet (given 8 65537 5 100 1 mode 5) ml bsize cbn tbn octets)

-- ---- alive signals

-- A PDU with the alive header's fields (5.3) laid down in it; "other places of the alive header may hold anything".
abbrev pub alive_laid : (timeout : List ℕ) (mode protocol ver : ℕ) → List ℕ → List ℕ
alive_laid timeout mode protocol ver s =
    laid (laid (laid (laid s (alive_place al_tm_out).0 timeout) (alive_place al_mode).0 (mode ∷ [])) (alive_place al_protocol).0 (protocol ∷ []))
    (alive_place al_ver).0 (ver ∷ [])

-- Of so many octets, with a destination, a code, ML, BSIZE, CBN and TBN. SEQ is "not looked at in alive signals".
abbrev pub headed : (octets node da tcd ml bsize cbn tbn : ℕ) → List ℕ
headed octets node da tcd ml bsize cbn tbn = packet (given node da 0 0 tcd 0 1) ml bsize cbn tbn (replicate (octets - 64) 9)

abbrev pub signals : (node timeout mode : ℕ) → Event
signals node timeout mode = alive (alive_laid (0 ∷ 0 ∷ 0 ∷ timeout ∷ []) mode 4 1 (headed 128 node 0 60003 128 128 1 1))

-- Node 7's, alive for two seconds: with another header; with another al_protocol and al_ver.
abbrev pub signal : (octets node da tcd ml bsize cbn tbn : ℕ) → Event
signal octets node da tcd ml bsize cbn tbn = alive (alive_laid (0 ∷ 0 ∷ 0 ∷ 2 ∷ []) 1 4 1 (headed octets node da tcd ml bsize cbn tbn))

-- One with these octets behind the first 128, for 2 seconds.
abbrev pub behind : (mode : ℕ) → List ℕ → Event
behind mode section =
    let size = 128 + length section in
    alive (alive_laid (0 ∷ 0 ∷ 0 ∷ 2 ∷ []) mode 4 1 (headed 128 7 0 60003 size size 1 1) ++ section)

abbrev pub speaks : (protocol ver : ℕ) → Event
speaks protocol ver = alive (alive_laid (0 ∷ 0 ∷ 0 ∷ 2 ∷ []) 1 protocol ver (headed 128 7 0 60003 128 128 1 1))

-- ---- lines

-- "P answer verdict held length": nothing skipped, nothing dropped.
abbrev pub P : (answer verdict held : ℕ) → List ℕ → Line
P answer verdict held part = told_packet answer verdict 0 0 held 0 0 part

-- "P 0 0 1 0"
abbrev pub stored : (held : ℕ) → Line
stored held = P 0 0 held []

-- "P 1 1 0 4500"
abbrev pub delivered : (verdict : ℕ) → List ℕ → Line
delivered verdict part = P 1 verdict 0 part

-- "P 16 0 0 0"
abbrev pub refused : ℕ → Line
refused k = P k 0 0 []

-- 02, Item 6: "P 17 0 0 d"
abbrev pub repeated : (age : ℕ) → Line
repeated age = told_packet 17 0 0 age 0 0 0 []

-- "gap, with (SEQ − R − 1) modulo M numbers skipped"
abbrev pub gap : (skipped : ℕ) → List ℕ → Line
gap skipped part = told_packet 1 4 skipped 0 0 0 0 part

-- "the open message is dropped, its version and number stand in the answer …, and the new one opens."
abbrev pub dropping : (version number : ℕ) → Line
dropping version number = told_packet 0 0 0 0 1 version number []

abbrev pub C : (answer dropped dead : ℕ) → Line
C answer dropped dead = told_clock answer dropped dead

abbrev pub A : (answer : ℕ) → Line
A answer = told_alive answer

-- "The answer is sender and piece, or "none open"."
abbrev pub missing : (sender piece : ℕ) → Line
missing sender piece = told_question 0 true sender piece

abbrev pub none_open : Line
none_open = told_question 0 false 0 0

abbrev pub heard : (verdict : ℕ) → List ℕ → Tables → Line
heard verdict part left = told_group 1 verdict 0 0 part left.versions left.numbers

abbrev pub unheard : ℕ → Tables → Line
unheard k left = told_group k 0 0 0 [] left.versions left.numbers

abbrev pub unheard_again : (age : ℕ) → Tables → Line
unheard_again age left = told_group 17 0 0 age [] left.versions left.numbers

-- ---- the table

pub data Name : Type 0 where
  the_listing out_of_range not_registered setup_limits refused_setup mode_as_given n1_as_given lowest_number : Name
  message_length packet_length piece_length cut_not_possible number_check how_old unchecked : Name
  any_order twelve_pieces sixty_four_pieces two_senders empty_part dropped newcomer_of_one open_message came_round : Name
  lowest_missing first_open sixteen_senders : Name
  alive_length alive_fields alive_fault seconds alive_stamp dead_by_mode dead_map : Name
  stamp drop_time clock_limits : Name
  group_setups group_places group_tables group_order : Name

unfoldable pub listings : Name → List Listing
-- "Input: setup online, N1 16, T 15000, sender field 1 node 7; PDUs of V_SEQ 5, SEQ 100, ML 4564, u 1332, numbers 1, 2,
-- 4, 3; clock 1000; number 3 again."
listings the_listing =
    past raft
    ((comes 7 5 100 4564 1396 1 4 (replicate 1332 1), P 0 0 1 [])
    ∷ (comes 7 5 100 4564 1396 2 4 (replicate 1332 2), P 0 0 2 [])
    ∷ (comes 7 5 100 4564 568 4 4 (replicate 504 4), P 0 0 3 [])
    ∷ (comes 7 5 100 4564 1396 3 4 (replicate 1332 3), P 1 1 0 (replicate 1332 1 ++ replicate 1332 2 ++ replicate 1332 3 ++ replicate 504 4))
    ∷ (clock 1000, C 0 0 0)
    ∷ (comes 7 5 100 4564 1396 3 4 (replicate 1332 3), P 17 0 0 [])
    ∷ [])
    ∷ []
-- "13: a fixed field of 5.1, PRI, MODE, code, or SEQ (0 or above M …) out of range": each fixed field; PRI 8, MODE 2;
-- the codes 0 and 60,000; SEQ 0 and M + 1. Then PRI 7 with code 59,999, and SEQ M.
listings out_of_range =
    past raft
    ((changed h_type 79, refused 13) ∷ (changed domain 1, refused 13) ∷ (changed inq_id 1, refused 13) ∷ (changed VER 1, refused 13)
    ∷ (changed gtid 1, refused 13) ∷ (changed pver 2, refused 13) ∷ (changed fui 1, refused 13)
    ∷ (coded 1 0 8, refused 13) ∷ (coded 1 2 0, refused 13) ∷ (coded 0 0 0, refused 13) ∷ (coded 60000 0 0, refused 13)
    ∷ (lone 7 5 0 1, refused 13) ∷ (lone 7 5 2147483648 1, refused 13)
    ∷ (coded 59999 0 7, delivered 1 (1 ∷ [])) ∷ (lone 7 6 2147483647 2, delivered 3 (2 ∷ []))
    ∷ [])
    ∷ []
-- "14: sender not registered"; "Data field numbers (1 to 255) and node numbers (1 to 4,095) are counted apart": node 8,
-- node 4,103, and data field 2.
listings not_registered =
    past raft
    ((lone 8 5 100 1, refused 14) ∷ (lone 4103 5 100 1, refused 14) ∷ (changed data_field 2, refused 14) ∷ (lone 7 5 100 1, delivered 1 (1 ∷ [])) ∷ [])
    ∷ []
-- "Setup takes the node's mode (online or test), N1 (1 to 1,024), the drop time T in ms (1 to 600,000) and 1 to 16
-- senders, each a data field and a node, no pair twice."; "10: setup outside its limits"
listings setup_limits =
    only (one 0 1 1) 0 ∷ only (one 1 1024 600000) 0 ∷ only (one 2 16 15000) 10
    ∷ only (one 0 0 15000) 10 ∷ only (one 0 1025 15000) 10 ∷ only (one 0 16 0) 10 ∷ only (one 0 16 600001) 10
    ∷ only (table 0 []) 10 ∷ only (table 16 sixteen) 0 ∷ only (table 17 (sixteen ++ (address 1 17 ∷ []))) 10
    ∷ only (table 1 (address 0 7 ∷ [])) 10 ∷ only (table 1 (address 255 4095 ∷ [])) 0 ∷ only (table 1 (address 256 7 ∷ [])) 10
    ∷ only (table 1 (address 1 0 ∷ [])) 10 ∷ only (table 1 (address 1 4096 ∷ [])) 10
    ∷ only (table 3 (address 1 7 ∷ address 1 8 ∷ address 1 7 ∷ [])) 10 ∷ only (table 3 (address 1 7 ∷ address 1 8 ∷ address 2 7 ∷ [])) 0
    ∷ []
-- "mode (…: 0 online, 1 test, any other meets 10)"; "An empty state, with no senders, is what a refused setup returns
-- …; 9 lets it pass."
listings refused_setup =
    record {
      setup = one 2 16 15000;
      answer = 10;
      room = 0;
      calls = (lone 7 5 100 1, refused 14) ∷ (signals 7 2 1, A 14) ∷ (clock 1000, C 0 0 0) ∷ (aside question, none_open) ∷ [];
      left = [];
    }
    ∷ []
-- "15: test message at an online node": a test node takes it, and an online message too.
listings mode_as_given =
    past (one 0 16 15000) ((coded 1 1 0, refused 15) ∷ (lone 7 5 101 2, delivered 1 (2 ∷ [])) ∷ [])
    ∷ past (one 1 16 15000) ((coded 1 1 0, delivered 1 (1 ∷ [])) ∷ (lone 7 5 101 2, delivered 2 (2 ∷ [])) ∷ [])
    ∷ []
-- "Let d be the remainder of R − SEQ by M, 0 to M − 1. d < N1: repeat. … Otherwise gap, with (SEQ − R − 1) modulo M
-- numbers skipped.": R 2000, with N1 1, 16 and 1,024.
listings n1_as_given =
    past (one 0 1 15000) ((lone 7 5 2000 1, delivered 1 (1 ∷ [])) ∷ (lone 7 5 2000 1, repeated 0) ∷ (lone 7 5 1985 2, gap 2147483631 (2 ∷ [])) ∷ [])
    ∷ past (one 0 16 15000) ((lone 7 5 2000 1, delivered 1 (1 ∷ [])) ∷ (lone 7 5 1985 2, repeated 15) ∷ (lone 7 5 1984 3, gap 2147483630 (3 ∷ [])) ∷ [])
    ∷ past (one 0 1024 15000) ((lone 7 5 2000 1, delivered 1 (1 ∷ [])) ∷ (lone 7 5 977 4, repeated 1023) ∷ (lone 7 5 976 5, gap 2147482622 (5 ∷ [])) ∷ [])
    ∷ []
-- "The lowest number that applies is given.": too short and all wrong; SEQ 0 of node 9; a test message of node 9; a
-- test message whose cut is not possible; number 100 again, its cut not possible; number 100 again under an open 110; an
-- older number, its piece held; another n, its piece held; its piece held.
listings lowest_number =
    past raft
    ((lone 7 5 100 1, delivered 1 (1 ∷ []))
    ∷ (front 7 5 110 1, stored 1)
    ∷ (message (0 ∷ []), refused 12)
    ∷ (lone 9 5 0 1, refused 13)
    ∷ (message (packet (given 9 0 5 111 1 1 0) 65 65 1 1 (1 ∷ [])), refused 14)
    ∷ (message (packet (given 7 0 5 111 1 1 0) 66 65 1 1 (1 ∷ [])), refused 15)
    ∷ (comes 7 5 100 66 65 1 1 (1 ∷ []), refused 16)
    ∷ (lone 7 5 100 1, repeated 0)
    ∷ (front 7 5 109 1, refused 18)
    ∷ (comes 7 5 110 365 320 1 2 (replicate 256 1), refused 19)
    ∷ (front 7 5 110 1, refused 20)
    ∷ [])
    ∷ []
-- "0 ≤ n ≤ 16,384": the first and the last piece of 16,385 octets in 12, and those of 16,384.
listings message_length =
    past raft
    ((comes 7 5 100 16449 1460 1 12 (replicate 1396 1), refused 16)
    ∷ (comes 7 5 100 16449 1093 12 12 (replicate 1029 12), refused 16)
    ∷ (of_twelve 1, stored 1)
    ∷ (twelfth, stored 2)
    ∷ [])
    ∷ []
-- "12: PDU too short (64 …), too long (1,460 …), or length unlike BSIZE": of 63, 67, 64, 1,460 and 1,461 octets; BSIZE
-- one more and one less.
listings packet_length =
    past raft
    ((message (take 63 (packet (given 7 0 5 100 1 0 0) 64 63 1 1 [])), refused 12)
    ∷ (comes 7 5 99 67 67 1 1 (7 ∷ 8 ∷ 9 ∷ []), delivered 1 (7 ∷ 8 ∷ 9 ∷ []))
    ∷ (comes 7 5 100 64 64 1 1 [], delivered 2 [])
    ∷ (comes 7 5 101 1460 1460 1 1 (replicate 1396 1), delivered 2 (replicate 1396 1))
    ∷ (comes 7 5 102 1461 1461 1 1 (replicate 1397 1), refused 12)
    ∷ (comes 7 5 102 65 66 1 1 (1 ∷ []), refused 12)
    ∷ (comes 7 5 102 65 64 1 1 (1 ∷ []), refused 12)
    ∷ [])
    ∷ []
-- "256 ≤ u ≤ 1,396": the first and the second piece of two, u 255; u 256; u 1,396; and the second of two, u 1,397.
listings piece_length =
    past raft
    ((comes 7 5 100 320 319 1 2 (replicate 255 1), refused 16)
    ∷ (comes 7 5 100 320 65 2 2 (2 ∷ []), refused 16)
    ∷ (comes 7 5 100 321 320 1 2 (replicate 256 3), stored 1)
    ∷ (comes 7 5 100 321 65 2 2 (4 ∷ []), delivered 1 (replicate 256 3 ++ (4 ∷ [])))
    ∷ (comes 7 5 101 1461 65 2 2 (6 ∷ []), stored 1)
    ∷ (comes 7 5 101 1461 1460 1 2 (replicate 1396 5), delivered 2 (replicate 1396 5 ++ (6 ∷ [])))
    ∷ (comes 7 5 102 1462 65 2 2 (7 ∷ []), refused 16)
    ∷ [])
    ∷ []
-- "Needed: 0 ≤ n … and 1 ≤ CBN ≤ TBN. With TBN = 1: p = n. With CBN < TBN: … (TBN − 1) × u < n ≤ TBN × u. With CBN =
-- TBN > 1: n − p is positive and divides evenly by TBN − 1, …, and 1 ≤ p ≤ u."
listings cut_not_possible =
    past raft
    ((comes 7 5 100 63 64 1 1 [], refused 16)
    ∷ (comes 7 5 100 364 320 0 2 (replicate 256 1), refused 16)
    ∷ (comes 7 5 100 364 320 3 2 (replicate 256 1), refused 16)
    ∷ (comes 7 5 100 66 65 1 1 (1 ∷ []), refused 16)
    -- n 256, 513 and 512 in two pieces of 256
    ∷ (comes 7 5 100 320 320 1 2 (replicate 256 1), refused 16)
    ∷ (comes 7 5 100 577 320 1 2 (replicate 256 1), refused 16)
    ∷ (comes 7 5 100 576 320 1 2 (replicate 256 1), stored 1)
    -- the last of two pieces: n 300 and p 300; n 512 and p 0; n 600 and p 301; n 600 and p 300
    ∷ (comes 7 5 101 364 364 2 2 (replicate 300 1), refused 16)
    ∷ (comes 7 5 101 576 64 2 2 [], refused 16)
    ∷ (comes 7 5 101 664 365 2 2 (replicate 301 1), refused 16)
    ∷ (comes 7 5 101 664 364 2 2 (replicate 300 2), dropping 5 100)
    -- the last of three: n 600 and p 89
    ∷ (comes 7 5 102 664 153 3 3 (replicate 89 1), refused 16)
    ∷ [])
    ∷ []
-- "2. RV = 0: first. 3. V_SEQ differs from RV: restart. 4. … d < N1: repeat. d = M − 1: next. Otherwise gap, with (SEQ
-- − R − 1) modulo M numbers skipped."; "In cases 2 to 4, delivery stores V_SEQ and SEQ."
listings number_check =
    past raft
    ((lone 7 5 100 1, delivered 1 (1 ∷ []))
    ∷ (lone 7 5 101 2, delivered 2 (2 ∷ []))
    ∷ (lone 7 5 104 3, gap 2 (3 ∷ []))
    ∷ (lone 7 5 89 4, repeated 15)
    ∷ (lone 7 5 105 5, delivered 2 (5 ∷ []))
    ∷ (lone 7 6 2147483647 6, delivered 3 (6 ∷ []))
    ∷ (lone 7 6 2147483647 6, repeated 0)
    ∷ (lone 7 6 1 7, delivered 2 (7 ∷ []))
    ∷ [])
    ∷ []
-- 02, Item 6: "how far back the number lies, 0 to N1 − 1", behind the number last delivered to its sender: of two senders; under
-- an open message, whose number is another; after an unchecked one; and round the ring's end. "In every other answer it is 0":
-- with 18 and 20, and with 15 and 16 though the number is a repeat's.
listings how_old =
    past pair
    ((lone 7 5 103 1, delivered 1 (1 ∷ []))
    ∷ (lone 8 5 203 2, delivered 1 (2 ∷ []))
    ∷ (lone 7 5 103 3, repeated 0)
    ∷ (lone 7 5 102 3, repeated 1)
    ∷ (lone 7 5 88 3, repeated 15)
    ∷ (lone 8 5 200 3, repeated 3)
    ∷ (front 7 5 110 4, stored 1)
    ∷ (lone 7 5 103 5, repeated 0)
    ∷ (front 7 5 100 5, repeated 3)
    ∷ (front 7 5 109 5, refused 18)
    ∷ (front 7 5 110 5, refused 20)
    ∷ (message (packet (given 7 0 5 100 1 1 0) 65 65 1 1 (1 ∷ [])), refused 15)
    ∷ (comes 7 5 100 66 65 1 1 (1 ∷ []), refused 16)
    ∷ (lone 7 0 1 6, told_packet 1 5 0 0 0 5 110 (6 ∷ []))
    ∷ (lone 7 5 100 7, repeated 3)
    ∷ (lone 7 6 4 8, delivered 3 (8 ∷ []))
    ∷ (lone 7 6 2147483646 9, repeated 5)
    ∷ (lone 7 6 2147483636 9, repeated 15)
    ∷ (lone 7 6 2147483635 9, gap 2147483630 (9 ∷ []))
    ∷ [])
    ∷ []
-- "1. V_SEQ = 0 and SEQ = 1: unchecked. Delivery leaves RV and R. 2. RV = 0: first. 3. V_SEQ differs from RV: restart."
listings unchecked =
    past raft
    ((lone 7 0 1 1, delivered 5 (1 ∷ []))
    ∷ (lone 7 5 100 2, delivered 1 (2 ∷ []))
    ∷ (lone 7 0 1 3, delivered 5 (3 ∷ []))
    ∷ (lone 7 5 100 4, repeated 0)
    ∷ (lone 7 5 101 5, delivered 2 (5 ∷ []))
    ∷ (lone 7 0 2 6, delivered 3 (6 ∷ []))
    ∷ (lone 7 0 2 7, delivered 1 (7 ∷ []))
    ∷ [])
    ∷ []
-- "The message is delivered at the piece that fills the map, in whatever order pieces came; nothing is then open."
listings any_order =
    past raft ((piece2, stored 1) ∷ (piece3, stored 2) ∷ (piece1, delivered 1 three) ∷ (aside question, none_open) ∷ [])
    ∷ past raft ((piece3, stored 1) ∷ (piece1, stored 2) ∷ (piece3, refused 20) ∷ (piece2, delivered 1 three) ∷ [])
    ∷ []
-- "n 16384, u 1396: 12 pieces, last BSIZE 1092."
listings twelve_pieces =
    past raft
    ((of_twelve 1, stored 1) ∷ (of_twelve 2, stored 2) ∷ (of_twelve 3, stored 3) ∷ (of_twelve 4, stored 4) ∷ (of_twelve 5, stored 5) ∷ (of_twelve 6, stored 6)
    ∷ (of_twelve 7, stored 7) ∷ (of_twelve 8, stored 8) ∷ (of_twelve 9, stored 9) ∷ (of_twelve 10, stored 10) ∷ (of_twelve 11, stored 11)
    ∷ (aside question, missing 0 12) ∷ (twelfth, delivered 1 twelve) ∷ [])
    ∷ []
-- "n 16384, u 256: 64 pieces."; "piece c at bit c − 1, bit 0 lowest": the last and the first. "A piece of several
-- changes exactly its p octets in its sender's area."
listings sixty_four_pieces =
    leaving raft
    ((of64 64, stored 1) ∷ (aside question, missing 0 1) ∷ (of64 1, stored 2) ∷ (aside question, missing 0 2) ∷ (of64 64, refused 20) ∷ [])
    ((0, replicate 256 1 ++ (170 ∷ [])) ∷ (16127, 170 ∷ replicate 256 64) ∷ [])
    ∷ []
-- "For each sender the last delivered version RV and number R are kept."; "A sender has at most one open message"; "The
-- storage is exactly 16,384 octets for each sender, in table order."
listings two_senders =
    past pair
    ((front 7 5 100 1, stored 1)
    ∷ (back 8 5 100 4, stored 1)
    ∷ (back 7 5 100 2, delivered 1 (both 1 2))
    ∷ (front 8 5 100 3, delivered 1 (both 3 4))
    ∷ (lone 7 5 101 5, delivered 2 (5 ∷ []))
    ∷ (lone 8 5 102 6, gap 1 (6 ∷ []))
    ∷ [])
    ∷ []
-- "any other answer gives an empty part", though storage and packet hold octets; "A refusal alters no … storage".
listings empty_part =
    leaving raft
    ((front 7 5 100 1, stored 1)
    ∷ (back 7 5 100 2, delivered 1 (both 1 2))
    ∷ (front 7 5 101 3, stored 1)
    ∷ (front 7 5 101 4, refused 20)
    ∷ (back 7 5 100 5, repeated 0)
    ∷ (lone 7 5 100 6, repeated 0)
    ∷ [])
    ((0, both 3 2 ++ (170 ∷ [])) ∷ [])
    ∷ []
-- "Another version than the open one, or the same version and a" newer "number: the open message is dropped, its version
-- and number stand in the answer (both 0 if none …), and the new one opens."; "join the PDU that caused the drop". Of
-- the second sender.
listings dropped =
    leaving pair
    ((front 8 5 100 1, stored 1)
    ∷ (front 8 4 200 2, dropping 5 100)
    ∷ (back 8 4 201 4, dropping 4 200)
    ∷ (front 8 4 201 3, delivered 1 (both 3 4))
    ∷ [])
    ((16383, (170 ∷ []) ++ both 3 4 ++ (170 ∷ [])) ∷ [])
    ∷ []
-- The same of a newcomer of one piece: (104 − 101 − 1) numbers are skipped. "A message of one piece is delivered at
-- once and storage is untouched."
listings newcomer_of_one =
    leaving raft
    ((lone 7 5 101 1, delivered 1 (1 ∷ []))
    ∷ (front 7 5 103 2, stored 1)
    ∷ (lone 7 5 104 3, told_packet 1 4 2 0 0 5 103 (3 ∷ []))
    ∷ (back 7 5 103 4, repeated 1)
    ∷ (aside question, none_open)
    ∷ [])
    ((0, replicate 256 2 ++ (170 ∷ [])) ∷ [])
    ∷ []
-- "18: open message has the same version and a" newer "number; 19: same version and number, but TCD, n, TBN or u differ;
-- 20: piece already held (octets not compared)"
listings open_message =
    past raft
    ((front 7 5 100 1, stored 1)
    ∷ (lone 7 5 99 9, refused 18)
    ∷ (message (packet (given 7 0 5 100 2 0 0) 364 108 2 2 (replicate 44 9)), refused 19)
    ∷ (comes 7 5 100 365 109 2 2 (replicate 45 9), refused 19)
    ∷ (comes 7 5 100 364 107 2 2 (replicate 43 9), refused 19)
    ∷ (comes 7 5 100 364 364 1 1 (replicate 300 9), refused 19)
    ∷ (front 7 5 100 9, refused 20)
    ∷ (back 7 5 100 2, delivered 1 (both 1 2))
    ∷ [])
    ∷ []
-- 02, Item 3: "the newcomer is newer when (SEQ − open SEQ) modulo M is 1 to 1,073,741,823, and older when it is larger."
listings came_round =
    -- "open M, 1 comes: replaced." What comes of M is then older, and once 1 is delivered a repeat.
    past raft
    ((front 7 5 2147483647 1, stored 1)
    ∷ (front 7 5 1 2, dropping 5 2147483647)
    ∷ (back 7 5 2147483647 3, refused 18)
    ∷ (back 7 5 1 4, delivered 1 (both 2 4))
    ∷ (back 7 5 2147483647 3, repeated 1)
    ∷ [])
    -- "Open 1, M comes: 18."
    ∷ past raft ((front 7 5 1 1, stored 1) ∷ (front 7 5 2147483647 2, refused 18) ∷ (lone 7 5 2147483647 3, refused 18) ∷ (back 7 5 1 4, delivered 1 (both 1 4)) ∷ [])
    -- 1,073,741,824 on, and 1,073,741,823 on: ending below M, at M and above it
    ∷ past raft
    ((front 7 5 1 1, stored 1)
    ∷ (front 7 5 1073741825 2, refused 18)
    ∷ (front 7 5 1073741824 2, dropping 5 1)
    ∷ (front 7 5 1 3, refused 18)
    ∷ (front 7 5 2147483647 3, dropping 5 1073741824)
    ∷ (front 7 5 1073741824 4, refused 18)
    ∷ (front 7 5 1073741823 4, dropping 5 2147483647)
    ∷ (front 7 5 2147483647 5, refused 18)
    ∷ (front 7 5 2147483646 5, dropping 5 1073741823)
    ∷ [])
    -- 17 still comes first: R is 2. Another version always replaces.
    ∷ past raft
    ((lone 7 5 2 1, delivered 1 (1 ∷ []))
    ∷ (front 7 5 3 2, stored 1)
    ∷ (lone 7 5 2147483647 3, repeated 2)
    ∷ (lone 7 5 2147483632 3, refused 18)
    ∷ (front 7 6 2147483647 4, dropping 5 3)
    ∷ (front 7 5 4 5, dropping 6 2147483647)
    ∷ [])
    ∷ []
-- "which piece is its lowest missing one? The answer is sender and piece, or "none open"." What the clock call dropped
-- is not delivered: its number is no repeat, and none of its pieces is held.
listings lowest_missing =
    past raft
    ((aside question, none_open)
    ∷ (piece1, stored 1)
    ∷ (aside question, missing 0 2)
    ∷ (piece3, stored 2)
    ∷ (aside question, missing 0 2)
    ∷ (clock 15000, C 0 1 0)
    ∷ (aside question, none_open)
    ∷ (piece2, stored 1)
    ∷ (aside question, missing 0 1)
    ∷ [])
    ∷ []
-- "of the first sender in table order with an open message"; the second's is dropped, the first's not.
listings first_open =
    past pair
    ((front 8 5 100 3, stored 1)
    ∷ (aside question, missing 1 2)
    ∷ (clock 1000, C 0 0 0)
    ∷ (back 7 5 100 2, stored 1)
    ∷ (aside question, missing 0 1)
    ∷ (clock 15000, C 0 2 0)
    ∷ (clock 16000, C 0 1 0)
    ∷ [])
    ∷ []
-- "1 to 16 senders"; "as 16-bit maps, first sender lowest"
listings sixteen_senders =
    past (table 16 sixteen) ((signals 16 2 1, A 0) ∷ (signals 2 2 1, A 0) ∷ (signals 17 2 1, A 14) ∷ (clock 2000, C 0 0 32770) ∷ (aside question, none_open) ∷ [])
    ∷ []
-- "An alive PDU is 128 to 1,472 octets, its length equal to BSIZE and ML"; "12: PDU too short (…; alive 128), too long
-- (…; alive 1,472), or length unlike BSIZE". Octets 9 are no fault section (24).
listings alive_length =
    past raft
    ((signal 127 7 0 60003 127 127 1 1, A 12)
    ∷ (signal 128 7 0 60003 128 128 1 1, A 0)
    ∷ (signal 1472 7 0 60003 1472 1472 1 1, A 24)
    ∷ (signal 1473 7 0 60003 1473 1473 1 1, A 12)
    ∷ (signal 128 7 0 60003 128 129 1 1, A 12)
    ∷ [])
    ∷ []
-- "code 60,003" (13); "14: sender not registered"; "its length equal to … ML, CBN = TBN = 1, …, group 0, layout by 5.3.
-- al_protocol is 4, al_ver 1, al_mode 1 to 3" (22). The group is the last two octets of DA.
listings alive_fields =
    past raft
    ((signal 128 7 0 60004 128 128 1 1, A 13)
    ∷ (signal 128 8 1 60003 128 128 1 1, A 14)
    ∷ (signal 128 7 0 60003 129 128 1 1, A 22)
    ∷ (signal 128 7 0 60003 128 128 2 1, A 22)
    ∷ (signal 128 7 0 60003 128 128 1 2, A 22)
    ∷ (signal 128 7 1 60003 128 128 1 1, A 22)
    ∷ (signal 128 7 256 60003 128 128 1 1, A 22)
    ∷ (signal 128 7 65536 60003 128 128 1 1, A 0)
    ∷ (speaks 5 1, A 22)
    ∷ (speaks 4 2, A 22)
    ∷ (signals 7 2 0, A 22)
    ∷ (signals 7 2 4, A 22)
    ∷ [])
    ∷ []
-- 02, Item 2: "The section ends the PDU exactly, or is absent in a PDU of 128 octets". "L is (modules + 31) / 32 × 4, …, so 33
-- modules give 8. Module X has bit (X − 1) mod 8, lowest first, of octet (X − 1) / 8, set when dead; bits above the count …
-- must be 0", "module, from 1", "the total of 1,344 octets decides". "24 for a fault section that breaks these rules, after 22".
listings alive_fault =
    past raft
    ((behind 1 (replicate 1 0), A 24)
    ∷ (behind 1 (replicate 19 0), A 24)
    ∷ (behind 1 (replicate 20 0), A 0)
    ∷ (behind 1 (replicate 21 0), A 24)
    -- 32 modules, 33 with the last of them dead, a bit for module 34, and five octets for 33
    ∷ (behind 1 (0 ∷ 0 ∷ 0 ∷ 32 ∷ 0 ∷ 0 ∷ 0 ∷ 128 ∷ replicate 16 0), A 0)
    ∷ (behind 1 (0 ∷ 0 ∷ 0 ∷ 33 ∷ 0 ∷ 0 ∷ 0 ∷ 0 ∷ 1 ∷ 0 ∷ 0 ∷ 0 ∷ replicate 16 0), A 0)
    ∷ (behind 1 (0 ∷ 0 ∷ 0 ∷ 33 ∷ 0 ∷ 0 ∷ 0 ∷ 0 ∷ 2 ∷ 0 ∷ 0 ∷ 0 ∷ replicate 16 0), A 24)
    ∷ (behind 1 (0 ∷ 0 ∷ 0 ∷ 33 ∷ 0 ∷ 0 ∷ 0 ∷ 0 ∷ 1 ∷ replicate 16 0), A 24)
    -- one error: of a module that is not counted, and of module 0
    ∷ (behind 1 (0 ∷ 0 ∷ 0 ∷ 0 ∷ 0 ∷ 0 ∷ 0 ∷ 1 ∷ (replicate 8 65 ++ (0 ∷ 7 ∷ 1 ∷ 2 ∷ 0 ∷ 0 ∷ 0 ∷ 0 ∷ []))), A 0)
    ∷ (behind 1 (0 ∷ 0 ∷ 0 ∷ 0 ∷ 0 ∷ 0 ∷ 0 ∷ 1 ∷ (replicate 8 65 ++ (0 ∷ 0 ∷ 1 ∷ 2 ∷ 0 ∷ 0 ∷ 0 ∷ 0 ∷ []))), A 24)
    -- two octets of options, one of them missing, and one that is not counted
    ∷ (behind 1 (replicate 19 0 ++ (2 ∷ 9 ∷ 9 ∷ [])), A 0)
    ∷ (behind 1 (replicate 19 0 ++ (2 ∷ 9 ∷ [])), A 24)
    ∷ (behind 1 (replicate 19 0 ++ (1 ∷ 9 ∷ 9 ∷ [])), A 24)
    -- 1,324 octets of options
    ∷ (behind 1 (replicate 18 0 ++ (5 ∷ 44 ∷ replicate 1324 9)), A 0)
    ∷ [])
    -- "after 22"; "in every mode"; "a refused signal leaves its sender as it was".
    ∷ past raft
    ((behind 1 (replicate 20 0), A 0)
    ∷ (behind 4 (replicate 21 0), A 22)
    ∷ (behind 2 (replicate 21 0), A 24)
    ∷ (behind 3 (replicate 21 0), A 24)
    ∷ (clock 1999, C 0 0 0)
    ∷ (behind 1 (replicate 21 0), A 24)
    ∷ (clock 2000, C 0 0 1)
    ∷ [])
    ∷ []
-- "calls dead each alive sender whose age is al_tm_out or more", which 5.3 has in seconds; "al_tm_out 0 is dead at the
-- next clock call."; "Never heard: dead", and not called so.
listings seconds =
    past raft ((clock 0, C 0 0 0) ∷ (signals 7 2 1, A 0) ∷ (clock 1999, C 0 0 0) ∷ (clock 2000, C 0 0 1) ∷ (clock 9000, C 0 0 0) ∷ [])
    ∷ past raft ((signals 7 0 1, A 0) ∷ (clock 0, C 0 0 1) ∷ [])
    -- 256 seconds
    ∷ past raft
    ((alive (alive_laid (0 ∷ 0 ∷ 1 ∷ 0 ∷ []) 1 4 1 (headed 128 7 0 60003 128 128 1 1)), A 0) ∷ (clock 255999, C 0 0 0) ∷ (clock 256000, C 0 0 1) ∷ [])
    ∷ []
-- "Mode 1: the sender is alive, stamped with the clock and al_tm_out"; "A refusal alters no … stamp"
listings alive_stamp =
    past raft
    ((clock 1000, C 0 0 0)
    ∷ (signals 7 2 1, A 0)
    ∷ (clock 2999, C 0 0 0)
    ∷ (signals 7 3 1, A 0)
    ∷ (clock 4000, C 0 0 0)
    ∷ (signals 7 2 4, A 22)
    ∷ (clock 5998, C 0 0 0)
    ∷ (clock 5999, C 0 0 1)
    ∷ [])
    ∷ []
-- "Modes 2 and 3: dead from then on"
listings dead_by_mode =
    past raft ((signals 7 2 1, A 0) ∷ (signals 7 2 2, A 0) ∷ (clock 2000, C 0 0 0) ∷ (signals 7 2 1, A 0) ∷ (signals 7 2 3, A 0) ∷ (clock 4000, C 0 0 0) ∷ [])
    ∷ []
-- "and reports both as 16-bit maps, first sender lowest"
listings dead_map =
    past pair ((signals 8 2 1, A 0) ∷ (clock 1000, C 0 0 0) ∷ (signals 7 2 1, A 0) ∷ (clock 2000, C 0 0 2) ∷ (clock 3000, C 0 0 1) ∷ [])
    ∷ []
-- "A fragment that is stored sets the message's stamp to the clock."; "It drops each open message whose age is T or
-- more"; "A refusal alters no state, stamp, …"
listings stamp =
    past raft
    ((piece1, stored 1)
    ∷ (clock 14999, C 0 0 0)
    ∷ (piece2, stored 2)
    ∷ (clock 15000, C 0 0 0)
    ∷ (piece1, refused 20)
    ∷ (clock 29998, C 0 0 0)
    ∷ (clock 29999, C 0 1 0)
    ∷ [])
    ∷ []
-- "the drop time T in ms (1 to 600,000)"
listings drop_time =
    past (one 0 16 1) ((piece1, stored 1) ∷ (clock 0, C 0 0 0) ∷ (clock 1, C 0 1 0) ∷ [])
    ∷ past (one 0 16 600000) ((clock 5000, C 0 0 0) ∷ (piece1, stored 1) ∷ (clock 604999, C 0 0 0) ∷ (clock 605000, C 0 1 0) ∷ (clock 605000, C 0 0 0) ∷ [])
    ∷ []
-- "whole ms, 0 to 1,099,511,627,776, never back, equal allowed"; "21: clock back or above its limit"
listings clock_limits =
    past raft
    ((clock 0, C 0 0 0)
    ∷ (clock 1000, C 0 0 0)
    ∷ (clock 1000, C 0 0 0)
    ∷ (clock 999, C 21 0 0)
    ∷ (clock 1099511627776, C 0 0 0)
    ∷ (clock 1099511627777, C 21 0 0)
    ∷ (clock 1099511627776, C 0 0 0)
    ∷ [])
    ∷ []
-- 02, Item 5: "0 to 8 registered groups (0 in the program), numbered 1 to 255"; "10 for groups outside these limits or named
-- twice". "Places past the count are … never looked at."
listings group_setups =
    only (grouped 0 16 0 []) 0 ∷ only (grouped 0 16 1 (1 ∷ [])) 0 ∷ only (grouped 0 16 1 (255 ∷ [])) 0 ∷ only (grouped 0 16 1 (0 ∷ [])) 10 ∷ only (grouped 0 16 1 (256 ∷ [])) 10
    ∷ only (grouped 0 16 8 (1 ∷ 2 ∷ 3 ∷ 4 ∷ 5 ∷ 6 ∷ 7 ∷ 8 ∷ [])) 0 ∷ only (grouped 0 16 9 (1 ∷ 2 ∷ 3 ∷ 4 ∷ 5 ∷ 6 ∷ 7 ∷ 8 ∷ 9 ∷ [])) 10
    ∷ only (grouped 0 16 8 (1 ∷ 2 ∷ 3 ∷ 4 ∷ 5 ∷ 6 ∷ 7 ∷ 0 ∷ [])) 10 ∷ only (grouped 0 16 8 (1 ∷ 2 ∷ 3 ∷ 4 ∷ 5 ∷ 6 ∷ 7 ∷ 1 ∷ [])) 10
    ∷ only (grouped 0 16 2 (4 ∷ 4 ∷ [])) 10 ∷ only (grouped 0 16 2 (4 ∷ 5 ∷ 4 ∷ 0 ∷ [])) 0
    ∷ []
-- "The last version and number are kept for each sender, group and priority … in that order": "(sender × groups + group) × 8 +
-- PRI". Node 8, group 3 and PRI 5 have place 29; another PRI, group or sender has another. "A delivery that is not unchecked
-- writes its version and number into its one entry".
listings group_places =
    let one = holding (empty 32) 29 5 100 in
    past nine_and_three
    ((casts (empty 32) 3 8 5 100 5 1, heard 1 (1 ∷ []) one)
    ∷ (casts one 3 8 5 100 5 2, unheard_again 0 one)
    ∷ (casts one 3 8 5 85 5 2, unheard_again 15 one)
    ∷ (casts one 3 8 5 100 4 3, heard 1 (3 ∷ []) (holding one 28 5 100))
    ∷ (casts one 9 8 5 100 5 4, heard 1 (4 ∷ []) (holding one 21 5 100))
    ∷ (casts one 3 7 5 100 5 5, heard 1 (5 ∷ []) (holding one 13 5 100))
    ∷ (casts one 3 8 5 101 5 6, heard 2 (6 ∷ []) (holding (empty 32) 29 5 101))
    ∷ (casts one 3 8 6 7 5 7, heard 3 (7 ∷ []) (holding (empty 32) 29 6 7))
    ∷ (casts one 3 8 5 103 5 8, told_group 1 4 2 0 (8 ∷ []) (set (replicate 32 0) 29 5) (set (replicate 32 0) 29 103))
    ∷ (casts one 3 8 0 1 5 9, heard 5 (9 ∷ []) one)
    ∷ [])
    -- N1 as given: 1, and 1,024
    ∷ past (grouped 0 1 2 (9 ∷ 3 ∷ []))
    ((casts one 3 8 5 100 5 2, unheard_again 0 one)
    ∷ (casts one 3 8 5 85 5 3, told_group 1 4 2147483631 0 (3 ∷ []) (set (replicate 32 0) 29 5) (set (replicate 32 0) 29 85))
    ∷ [])
    ∷ past (grouped 0 1024 2 (9 ∷ 3 ∷ [])) ((casts one 3 8 5 2147482724 5 2, unheard_again 1023 one) ∷ [])
    ∷ []
-- "26 a lent table of the wrong size, a SEQ above M, or 0 under a version not 0, before 12": in the first, a middle and the last
-- entry, none of them the packet's, which has place 29.
listings group_tables =
    let short : List ℕ = replicate 31 0 in
    let right : List ℕ = replicate 32 0 in
    let long : List ℕ = replicate 33 0 in
    let wrong : Tables → Event × Line = λ t. (casts t 3 8 5 100 5 1, unheard 26 t) in
    let passes : Tables → Event × Line = λ t. (casts t 3 8 5 100 5 1, heard 1 (1 ∷ []) (holding t 29 5 100)) in
    past nine_and_three
    (wrong (record { versions = short; numbers = right }) ∷ wrong (record { versions = long; numbers = right })
    ∷ wrong (record { versions = right; numbers = short }) ∷ wrong (record { versions = right; numbers = long })
    ∷ wrong (holding (empty 32) 0 5 2147483648) ∷ wrong (holding (empty 32) 15 0 2147483648) ∷ wrong (holding (empty 32) 31 5 4294967295)
    ∷ wrong (holding (empty 32) 0 1 0) ∷ wrong (holding (empty 32) 15 4294967295 0) ∷ wrong (holding (empty 32) 31 5 0)
    ∷ passes (holding (empty 32) 0 5 2147483647) ∷ passes (holding (empty 32) 15 0 100) ∷ passes (holding (empty 32) 31 5 1)
    ∷ (to_group (empty 31) 3 [], unheard 26 (empty 31)) ∷ (to_group (empty 32) 3 [], unheard 12 (empty 32))
    ∷ [])
    -- With no groups the tables are empty.
    ∷ past (grouped 0 16 0 []) ((casts (empty 0) 3 8 5 100 5 1, unheard 25 (empty 0)) ∷ (casts (empty 8) 3 8 5 100 5 1, unheard 26 (empty 8)) ∷ [])
    ∷ []
-- "a PDU may be 1,472 octets here"; "25 group not registered, after 14", and before 15; "16 unless CBN = TBN = 1 and p = n".
listings group_order =
    let none = empty 32 in
    let one = holding none 29 5 100 in
    past nine_and_three
    ((cut_so 0 1472 1472 1 1 (replicate 1408 4), heard 1 (replicate 1408 4) one)
    ∷ (cut_so 0 1473 1473 1 1 (replicate 1409 4), unheard 12 none)
    ∷ (cut_so 0 64 64 1 1 [], heard 1 [] one)
    ∷ (cut_so 0 64 65 1 1 [], unheard 12 none)
    ∷ (casts none 3 9 5 0 5 1, unheard 13 none)
    ∷ (casts none 77 9 5 100 5 1, unheard 14 none)
    ∷ (casts none 0 8 5 100 5 1, unheard 25 none)
    ∷ (to_group none 77 (packet (given 8 65537 5 100 1 1 5) 65 65 1 2 (1 ∷ [])), unheard 25 none)
    ∷ (cut_so 1 65 65 1 2 (1 ∷ []), unheard 15 none)
    ∷ (cut_so 0 65 65 1 2 (1 ∷ []), unheard 16 none) ∷ (cut_so 0 65 65 2 1 (1 ∷ []), unheard 16 none) ∷ (cut_so 0 65 65 0 1 (1 ∷ []), unheard 16 none)
    ∷ (cut_so 0 66 65 1 1 (1 ∷ []), unheard 16 none) ∷ (cut_so 0 63 64 1 1 [], unheard 16 none)
    ∷ (to_group one 3 (packet (given 8 65537 5 100 1 0 5) 66 65 1 1 (1 ∷ [])), unheard 16 one)
    ∷ [])
    ∷ past (grouped 1 16 2 (9 ∷ 3 ∷ [])) ((cut_so 1 65 65 1 1 (1 ∷ []), heard 1 (1 ∷ []) one) ∷ [])
    ∷ []
