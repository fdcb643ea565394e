-- The user's three demands, clause by clause, and what 02's requests add to them, each as a statement about every program
-- whose calls meet the public contracts (Course.antt). The words that they are written in stand in `promised`: Log and
-- Says (what is said by setup and calls alone), Join (safety), Delivery, Newcomer, AlivePast; and here in AsPrinted and
-- Counted. No state is named but where any state may come, and where 02 names the map. Proved in Kept.antt.
--
-- Of demand 1, "Nothing is read or written outside what was lent, and every call ends" is what the proof of every
-- function shows, contract or not.
use Rattle.std.specs.Prelude.{ℕ, ◌+◌, ◌*◌, ◌≤◌, ◌<◌, ◌≡◌, ◌≢◌, ◌⊎◌, Bool, true, false, not, cond, Result, Ok, eqb, ltb, length, take, drop, get_or, replicate}
use mathlib.Core.List.{List, [], ◌∷◌, ◌++◌, map, Memᴰ}
use Rattle.std.specs.Int.Count.{ones}
use Rattle.std.proofs.Math.Pow.{are_bytes}
use Rattle.octets.specs.Run.{run}
use Rattle.refusal.specs.declared.Refusal.{Refusal}
use Rattle.refusal.specs.Numbers.{number_in as answer_number}
use Rattle.ring.specs.Edges as newer_edges
use Rattle.ring.specs.Check.{is_repeat}
use Rattle.ring.specs.Printed.{CheckAsPrinted, NewerAsPrinted}
use Rattle.header.specs.declared.Given.{Given}
use Rattle.header.specs.Head.{head_of, header}
use Rattle.header.specs.Printed.{HeaderAsPrinted}
use Rattle.cut.specs.Cutter.{Words, cuts, cutter_told}
use Rattle.cut.specs.Edges.{all, edges}
use Rattle.cut.specs.Printed.{Limits, CutsAsPrinted, PossibleAsPrinted}
use Rattle.fault.specs.declared.Error.{Error}
use Rattle.fault.specs.declared.reading.Report.{Report}
use Rattle.fault.specs.Edges as fault_edges
use Rattle.fault.specs.Reading.{is_section, report, refused as unread, no_error}
use Rattle.fault.specs.Section.{Section, is_dead, bits_size, bits_of, numbers_of, octets_of, is_within, SectionOf}
use Rattle.fault.specs.Writing.{size_given, keeps_rules, writing_told}
use Rattle.groups.specs.Groups as groups
use Rattle.groups.specs.Groups.{number_at}
use Rattle.state.specs.Limits.{given}
use Rattle.state.specs.State.{empty_receiver, sender_at}
use Rattle.state.specs.Table.{source, found}
use Rattle.refusal.specs.declared.Refusal.TheVariants as refusals
use Rattle.answers.specs.declared.Setup.{Setup}
use Rattle.answers.specs.declared.Started.{Started}
use Rattle.answers.specs.Told.{RefusedAs, OutcomeTold, delivered_as, HasVerdict, nothing_handed, message_told, message_refused, group_told, group_refused, call_number, clock_told, clock_refused, question_told, none_open, OutcomeTells, CallTells, MissingTells}
use Rattle.rules.specs.calls.Alive.{alive_rows}
use Rattle.rules.specs.calls.Clock.{clock_rows}
use Rattle.rules.specs.calls.First.{Row, row}
use Rattle.rules.specs.calls.First as rows
use Rattle.rules.specs.calls.Message.{message_rows}
use Rattle.rules.specs.calls.Multicast.{Tables, entry_place, multicast_rows}
use Rattle.rules.specs.calls.Question.{question_rows}
use Rattle.rules.specs.calls.Setup.{setup_within}
use Rattle.rules.specs.pasts.Listings as listings
use Rattle.rules.specs.pasts.Past.{World, Event, message, alive, clock, aside, question, multicast, Said, Answers}
use Rattle.promised.specs.Age.{HowOld}
use Rattle.promised.specs.AlivePast.{AliveBy}
use Rattle.promised.specs.Delivery.{Sent, sent_by, Numbered, PieceOf, May, Between, OnlyPieces, verdict_for, OneApplies, Arrives, Once, Listed}
use Rattle.promised.specs.HandedOn.{HandedOn, last_heard, cast_after}
use Rattle.promised.specs.Join.{Joined}
use Rattle.promised.specs.Log.{told_by, Exchange, logged, Name, name_of, deliveries, last_of, casts, last_cast, accepted_with, open_of, life_of}
use Rattle.promised.specs.Newcomer.{Under, fresh_told, Newcomer}
use Rattle.promised.specs.Says.{senders_of, groups_of, place_of, has_tables, name_at, verdict_after, held_says, says, log_of}
use Rattle.promises.specs.AsPrinted.{CuttingAsPrinted}
use Rattle.promises.specs.Board.{BoardBegins, BoardIsCourse}
use Rattle.promises.specs.Counted.{TalliedIsCourse, OneCounted, AllCounted}
use Rattle.promises.specs.Course.{Meets, Course, SetupMeets, HeldMeets, CutterMeets, ReadMeets, DeadMeets, ErrorMeets, OptionsMeets, Parts, WriteMeets}

-- ---- demand 1

-- What may be told beside number k of a refusal, 02, Item 6: with 17, and with no other, how old the repeat was. What it is says
-- `AgeSaid`, and of a packet to a group `AgeHeard`.
abbrev pub age_only : ℕ → OutcomeTold → ℕ
age_only k t = cond (eqb k 17) t.age 0

-- The number that was answered,
abbrev pub number_in : (e : Event) → Said e → ℕ
number_in (message packet) r = (message_told r.0).outcome.number
number_in (alive packet) r = call_number r.call
number_in (clock ms) r = (clock_told r).number
number_in (aside question) r = (question_told r).number
number_in (aside (multicast t g packet)) r = (group_told r.0).outcome.number

-- and that nothing more was than number k, and with 17 an age: "any other answer gives an empty part", "(both 0 on a refusal)".
abbrev pub NothingMore : (e : Event) → Said e → ℕ → Type 0
NothingMore (message packet) r k = (message_told r.0 ≡ message_refused k (age_only k (message_told r.0).outcome)) × (r.1 ≡ [])
NothingMore (alive packet) r k = call_number r.call ≡ k
NothingMore (clock ms) r k = clock_told r ≡ clock_refused k
NothingMore (aside question) r k = question_told r ≡ none_open k
-- 02, Item 5: and no entry of either table changes.
NothingMore (aside (multicast t g packet)) r k = (group_told r.0 ≡ group_refused k (age_only k (group_told r.0).outcome)) × (r.1 ≡ t) × (r.2 ≡ [])

-- Number k was answered, and is a refusal's.
abbrev pub RefusedWith : (e : Event) → Said e → ℕ → Type 0
RefusedWith e r = RefusedAs (number_in e r)

-- The numbers of a call, with their conditions, in the order in which they are tried.
abbrev pub rows_of : World → Event → List Row
rows_of w (message packet) = message_rows w.state (length w.storage) packet
rows_of w (alive packet) = alive_rows w.state packet
rows_of w (clock ms) = clock_rows w.state ms
rows_of w (aside question) = question_rows w.state
rows_of w (aside (multicast t g packet)) = multicast_rows w.state t g packet

-- "Bad input meets the numbered refusal that the papers fix": of the number that was answered, that it is a refusal's
-- and k, exactly if the row of k is the first that applies. "returns: nothing more", and "A refusal changes neither the
-- state nor one octet of lent memory": what then is left.
pub record Refuses (table : List Row) (number : ℕ) (left : ℕ → Type 0) : Type 0 where
  pub only_if : (k : ℕ) → RefusedAs number k → rows.Given table k
  pub if_first : (k : ℕ) → rows.Given table k → RefusedAs number k
  pub nothing : (k : ℕ) → RefusedAs number k → left k

-- "Any octets may arrive, in any order of calls, at every public entry."
abbrev pub CallsRefuse : Type 0
CallsRefuse = (w : World) (e : Event) (r : Said e) (v : World) → Meets w e r v
    → Refuses (rows_of w e) (number_in e r) (λ k. NothingMore e r k × (v ≡ w))

-- "10: setup outside its limits: empty state"
abbrev pub SetupRefuses : Type 0
SetupRefuses = (q : Setup) (r : Started) (w : World) → SetupMeets q r w
    → Refuses (row refusals.Setup (not (setup_within q)) ∷ []) (call_number r.call) (λ k. w.state ≡ empty_receiver)

-- "23: cutter: n, u, piece number or a header value outside limits, or buffer short"
abbrev pub CutterRefuses : Type 0
CutterRefuses = (g : Given) (m : List ℕ) (u c : ℕ) (buffer : List ℕ) (r : Result ℕ Refusal) (left : List ℕ) → CutterMeets g m u c buffer r left
    → Refuses (row refusals.Writing (not (cuts g m u c (length buffer))) ∷ []) (cutter_told r).number (λ k. ((cutter_told r).length ≡ 0) × (left ≡ buffer))

-- A number is told by one case of an answer alone, since a refusal has one of 9 or more: what is said here of numbers
-- and values is said of the answers (`one_answer`, `one_group`, `one_call` and `one_missing` of `answers`).
abbrev pub Tells : (e : Event) → Said e → Type 0
Tells (message packet) r = OutcomeTells r.0.outcome
Tells (alive packet) r = CallTells r.call
Tells (clock ms) r = CallTells r.call
Tells (aside question) r = MissingTells r
Tells (aside (multicast t g packet)) r = OutcomeTells r.0.outcome

abbrev pub NumbersTell : Type 0
NumbersTell = ((w : World) (e : Event) (r : Said e) (v : World) → Meets w e r v → Tells e r)
    × ((q : Setup) (r : Started) (w : World) → SetupMeets q r w → CallTells r.call)

-- "Verdicts: 1 first, …, 0 where nothing is delivered", and 0 there alone.
abbrev pub VerdictTold : Type 0
VerdictTold = (w : World) (packet : List ℕ) (r : Said (message packet)) (v : World) → Meets w (message packet) r v
    → HasVerdict (message_told r.0).outcome

-- Any other outcome than a delivery hands over nothing: "any other answer gives an empty part".
abbrev pub NothingHanded : Type 0
NothingHanded = (w : World) (packet : List ℕ) (r : Said (message packet)) (v : World) → Meets w (message packet) r v
    → (message_told r.0).outcome.number ≢ 1 → ((message_told r.0).lies ≡ nothing_handed) × (r.1 ≡ [])

-- What is said of the calls after any past, by setup's arguments q and the log of the calls since.
abbrev pub AfterPast : (Setup → List Exchange → World → Type 0) → Type 0
AfterPast P = (q : Setup) (r : Started) (w : World) → SetupMeets q r w
    → (es : List Event) (rs : Answers es) (v : World) → Course w es rs v → P q (logged [] es rs) v

-- No past meets 9 or 11.
abbrev pub NeverNine : Type 0
NeverNine = AfterPast (λ q log v. (e : Event) (r : Said e) (u : World) → Meets v e r u → ¬ (RefusedWith e r 9) × ¬ (RefusedWith e r 11))

-- ---- what a receiver says

-- After any past every call is told what `says` says: 01's rules over setup's arguments and the log, with no state in
-- them.
abbrev pub EverySaid : Type 0
EverySaid = AfterPast (λ q log v. (e : Event) (r : Said e) (u : World) → Meets v e r u → told_by e r ≡ says q log e)

-- So all that was told is a function of setup's arguments and the calls. What the storage began with has no part in it.
abbrev pub LogIs : Type 0
LogIs = (q : Setup) (r : Started) (w : World) → SetupMeets q r w → (es : List Event) (rs : Answers es) (v : World) → Course w es rs v
    → logged [] es rs ≡ log_of q [] es

-- ---- demand 2

-- The cutter was called for piece c, within its limits and with a buffer in which any PDU has room, and this is what it
-- answered: as many octets as it told, from the beginning of what it left.
pub record Cut (g : Given) (octets : List ℕ) (u c : ℕ) (packet : List ℕ) : Type 0 where
  pub limits : Limits g (length octets) u c
  pub buffer : List ℕ
  pub room : 1460 ≤ length buffer
  pub left : List ℕ
  pub answer : Result ℕ Refusal
  pub called : CutterMeets g octets u c buffer answer left
  pub begins : packet ≡ take (cutter_told answer).length left

-- The pieces of a message in any order: first these, some of them more than once, and then the last missing one.
pub record AnyOrder (m : Sent) (order : List ℕ) (last : ℕ) : Type 0 where
  pub pieces : (c : ℕ) → Memᴰ c order → Numbered m c
  pub is_piece : Numbered m last
  pub missing : ¬ (Memᴰ last order)
  pub others : (c : ℕ) → Numbered m c → c ≢ last → Memᴰ c order

-- "Cut by our sender and joined by our receiver, a message of 0 to 16,384 octets comes back the same": with any header
-- values within their limits and any u, after any past that demand 3 admits. `Words` says that the values are of their
-- types.
abbrev pub ComesBack : Type 0
ComesBack = AfterPast (λ q log v. (g : Given) → Words g → (octets : List ℕ) (u : ℕ)
    → (i : ℕ) → May q log (sent_by g octets u) i
    → (packets : ℕ → List ℕ) → ((c : ℕ) → Numbered (sent_by g octets u) c → Cut g octets u c (packets c))
    → (order : List ℕ) (last : ℕ) → AnyOrder (sent_by g octets u) order last
    → let es = map (λ c. message (packets c)) order in
    (rs : Answers es) (x : World) → Course v es rs x → (a : Said (message (packets last))) (y : World) → Meets x (message (packets last)) a y
    → ((message_told a.0).outcome ≡ delivered_as (verdict_for q log (sent_by g octets u))) × (a.1 ≡ octets))

-- "the judging of alive signals": who is alive by what the calls were told is alive by the signals that came.
abbrev pub WhoIsAlive : Type 0
WhoIsAlive = (q : Setup) (r : Started) (w : World) → SetupMeets q r w → (es : List Event) (rs : Answers es) (v : World) → Course w es rs v
    → (i : ℕ) → i < length (senders_of q)
    → let a = given (senders_of q) i in
    ((life_of a i (logged [] es rs)).alive ≡ true → AliveBy a es) × (AliveBy a es → (life_of a i (logged [] es rs)).alive ≡ true)

-- ---- demand 3

-- "Let a receiver have any past at all … Now a registered sender's message arrives in its pieces, cut by the rules, in
-- any order and some of them more than once, with other senders' packets between. If …, then it is delivered once,
-- octet for octet, at the arrival of the last missing piece." Every other arrival of a piece is stored, or refused with
-- 20, or, if the version is not 0, with 17: one of the cases applies.
abbrev pub DeliveredOnce : Type 0
DeliveredOnce = AfterPast (λ q log v. (m : Sent) (i : ℕ) → May q log m i
    → (es : List Event) (ts : Answers es) (u : World) → Course v es ts u → Between (OnlyPieces m) m i log es ts
    → (c : ℕ) (packet : List ℕ) → PieceOf m c packet → (r : Said (message packet)) (x : World) → Meets u (message packet) r x
    → Arrives m (verdict_for q log m) es c (message_told r.0).outcome r.1
    × (m.version.0 ≢ 0 → Once m es (message_told r.0).outcome) × OneApplies m es c)

-- "delivered once", by the list of what was delivered in the calls since the past.
abbrev pub ListedOnce : Type 0
ListedOnce = AfterPast (λ q log v. (m : Sent) (i : ℕ) → May q log m i
    → (es : List Event) (ts : Answers es) (u : World) → Course v es ts u → Between (OnlyPieces m) m i log es ts
    → Listed m (verdict_for q log m) es (deliveries (logged [] es ts)))

-- "Whether or not those conditions hold, nothing is ever delivered but a join of pieces accepted since that message
-- last opened, one for each piece number."
abbrev pub Safety : Type 0
Safety = AfterPast (λ q log v. (packet : List ℕ) (r : Said (message packet)) (u : World) → Meets v (message packet) r u
    → (message_told r.0).outcome.number ≡ 1
    → let a = source (head_of packet) in
    Joined (accepted_with (open_of a (place_of (senders_of q) a) log) packet) packet r.1)

-- ---- 02, Item 1: the held count

-- "how many pieces each sender has": after any past the page is told as many as were accepted since the sender's message
-- opened, and 0 where none is open.
abbrev pub HeldSaid : Type 0
HeldSaid = AfterPast (λ q log v. (i held : ℕ) → HeldMeets v i held → held ≡ held_says q log i)

-- "Every call keeps it equal to the number of ones in the map".
abbrev pub HeldIsOnes : Type 0
HeldIsOnes = AfterPast (λ q log v. (i held : ℕ) → i < length (senders_of q) → HeldMeets v i held
    → let s = sender_at v.state i in
    held ≡ cond s.«open» (ones s.message.map) 0)

-- "a state where they differ meets 9": whatever the rest of it is, in every call.
abbrev pub DifferMeetsNine : Type 0
DifferMeetsNine = (w : World) (i : ℕ) → i < w.state.count
    → let s = sender_at w.state i in
    s.«open» ≡ true → s.message.held ≢ ones s.message.map
    → (e : Event) (r : Said e) (v : World) → Meets w e r v → RefusedWith e r 9

-- ---- 02, Item 2: the fault section

-- "Refusals: 24 for a fault section that breaks these rules, … read or written; 23 for a short buffer", 23 first.
abbrev pub ReadRefuses : Type 0
ReadRefuses = (s : List ℕ) (r : Result Report Refusal) → ReadMeets s r → Refuses (row refusals.Fault (not (is_section s)) ∷ []) (answer_number r) (λ k. r ≡ unread)

abbrev pub WriteRefuses : Type 0
WriteRefuses = (p : Parts) (buffer : List ℕ) (r : Result ℕ Refusal) (left : List ℕ) → WriteMeets p buffer r left
    → let size = size_given p.modules p.numbers p.options in
    Refuses (row refusals.Writing (ltb (length buffer) size) ∷ row refusals.Fault (not (keeps_rules size p.modules p.bits p.numbers)) ∷ []) (writing_told r).number
    (λ k. ((writing_told r).length ≡ 0) × (left ≡ buffer))

-- A section is accepted, and nothing else: both directions. What is read from it is what it says.
abbrev pub ReadsExactly : Type 0
ReadsExactly = (s : List ℕ) (r : Result Report Refusal) → ReadMeets s r → (answer_number r ≡ 0 → SectionOf s) × (SectionOf s → answer_number r ≡ 0)

pub record ReadBack (x : Section) : Type 0 where
  pub counts : (r : Result Report Refusal) → ReadMeets (octets_of x) r → r ≡ Ok (report x)
  pub modules : (k : ℕ) (b : Bool) → DeadMeets (octets_of x) k b → b ≡ is_dead x k
  pub errors : (k : ℕ) (e : Error) → ErrorMeets (octets_of x) k e → e ≡ get_or x.errors k no_error
  pub options : (part : List ℕ) → OptionsMeets (octets_of x) part → part ≡ x.options

abbrev pub ReadsAll : Type 0
ReadsAll = (x : Section) → is_within x ≡ true → ReadBack x

-- What is given is of its types, and is this section's.
pub record OfTypes (p : Parts) : Type 0 where
  pub bits_octets : are_bytes p.bits ≡ true
  pub name_octets : (length p.name ≡ 8) × (are_bytes p.name ≡ true)
  pub options_octets : are_bytes p.options ≡ true

pub record PartsOf (x : Section) (p : Parts) : Type 0 where
  pub modules : p.modules ≡ length x.dead
  pub bits : p.bits ≡ bits_of x.dead
  pub numbers : p.numbers ≡ numbers_of x.errors
  pub name : p.name ≡ x.name
  pub options : p.options ≡ x.options

-- It was written, and "Octets behind the section stay".
pub record WrittenAs (octets buffer : List ℕ) (r : Result ℕ Refusal) (left : List ℕ) : Type 0 where
  pub told : writing_told r ≡ record { number = 0; length = length octets }
  pub begins : left ≡ octets ++ drop (length octets) buffer

-- What is written is a section within the rules that has these parts, so that "Reading gives back what was written";
abbrev pub WritesSections : Type 0
WritesSections = (p : Parts) → OfTypes p → (buffer : List ℕ) (r : Result ℕ Refusal) (left : List ℕ) → WriteMeets p buffer r left
    → (writing_told r).number ≡ 0 → (x : Section) × (is_within x ≡ true) × PartsOf x p × WrittenAs (octets_of x) buffer r left

-- and every such section is written, where it has room.
abbrev pub WritesAll : Type 0
WritesAll = (x : Section) → is_within x ≡ true → (p : Parts) → PartsOf x p
    → (buffer : List ℕ) (r : Result ℕ Refusal) (left : List ℕ) → WriteMeets p buffer r left → length (octets_of x) ≤ length buffer
    → WrittenAs (octets_of x) buffer r left

-- "writing what was read gives the same octets": the counts, the name and the options as they were told, the bits as they
-- stand in the section, and the errors one by one.
pub record ReadFrom (s : List ℕ) (r : Report) (p : Parts) : Type 0 where
  pub modules : p.modules ≡ r.modules
  pub bits : p.bits ≡ run 4 (bits_size r.modules) s
  pub numbers : length p.numbers ≡ 2 * r.errors
  pub errors : (k : ℕ) (e : Error) → k < r.errors → ErrorMeets s k e
      → (get_or p.numbers (2 * k) 0 ≡ e.«module») × (get_or p.numbers (2 * k + 1) 0 ≡ e.error)
  pub name : p.name ≡ r.name
  pub options : OptionsMeets s p.options

abbrev pub WritesSame : Type 0
WritesSame = (s : List ℕ) (r : Report) → ReadMeets s (Ok r) → (p : Parts) → ReadFrom s r p
    → (buffer : List ℕ) (a : Result ℕ Refusal) (left : List ℕ) → WriteMeets p buffer a left → length s ≤ length buffer
    → WrittenAs s buffer a left

-- "129 to 147 octets of PDU are 24": nothing shorter than 20 octets is a section.
abbrev pub NoneShort : Type 0
NoneShort = (s : List ℕ) → length s < 20 → is_section s ≡ false

-- The table of edges.
abbrev pub EveryFaultEdge : Type 0
EveryFaultEdge = fault_edges.all fault_edges.edges ≡ true

-- ---- 02, Item 3: numbers that came round

-- What a packet is told after any past, where a message of its sender is open: "newer when (SEQ − open SEQ) modulo M is 1
-- to 1,073,741,823, and older when it is larger". Which of two numbers that makes the newer one is `NewerAsPrinted`.
abbrev pub NewcomerSaid : Type 0
NewcomerSaid = AfterPast (λ q log v. (packet : List ℕ) (r : Said (message packet)) (u : World) → Meets v (message packet) r u
    → (opened : Name) → Under q log packet opened → Newcomer (name_of packet) opened (fresh_told q log packet) (message_told r.0))

-- The table of edges.
abbrev pub EveryNewerEdge : Type 0
EveryNewerEdge = newer_edges.all newer_edges.edges ≡ true

-- ---- 02, Item 5: multicast groups

-- That each number is given exactly when its row is the first, and that a refusal changes no entry, stands in `CallsRefuse`;
-- that no past meets 9, in `NeverNine`; that demands 1 and 3, safety and the answers by the past hold with multicast calls of
-- anyone between, in their being calls of a past.

-- "Nothing else of state, tables or storage changes": the entries of another sender, group or priority never, whatever the state
-- and the tables.
abbrev pub OwnEntryOnly : Type 0
OwnEntryOnly = (w : World) (t : Tables) (g : ℕ) (packet : List ℕ) (r : Said (aside (multicast t g packet))) (v : World) → Meets w (aside (multicast t g packet)) r v
    → (i j p : ℕ) → j < w.state.groups.count → p < 8
    → ¬ ((i ≡ found w.state (head_of packet)) × (j ≡ groups.place_of w.state.groups g) × (p ≡ (head_of packet).given.pri))
    → let k = entry_place w.state.groups.count i j p in
    name_at r.1 k ≡ name_at t k

-- What is said after any past in which the tables were handed on: they began as `begun`, within 26's limits, and are now t.
abbrev pub WithTables : (Setup → Tables → List Exchange → World → Tables → Type 0) → Type 0
WithTables P = (q : Setup) (r : Started) (w : World) → SetupMeets q r w → (es : List Event) (rs : Answers es) (v : World) → Course w es rs v
    → (begun t : Tables) → has_tables q begun ≡ true → HandedOn begun es rs t → P q begun (logged [] es rs) v t

-- "The last version and number are kept for each sender, group and priority": each entry holds those of the last message that was
-- delivered there and not unchecked, and what it began with where none was.
abbrev pub EntryIsLast : Type 0
EntryIsLast = WithTables (λ q begun log v t. (i j p : ℕ) → i < length (senders_of q) → j < (groups_of q).count → p < 8
    → let k = entry_place (groups_of q).count i j p in
    name_at t k ≡ last_cast (given (senders_of q) i) (number_at (groups_of q) j) p (name_at begun k) (casts log))

-- Tables of zeros may begin.
abbrev pub ZerosPass : Type 0
ZerosPass = (q : Setup)
    → let n = length (senders_of q) * (groups_of q).count * 8 in
    has_tables q (record { versions = replicate n 0; numbers = replicate n 0 }) ≡ true

-- No such past meets 26.
abbrev pub NeverTwentySix : Type 0
NeverTwentySix = WithTables (λ q begun log v t. (g : ℕ) (packet : List ℕ) (r : Said (aside (multicast t g packet))) (u : World)
    → Meets v (aside (multicast t g packet)) r u → ¬ (RefusedWith (aside (multicast t g packet)) r 26))

-- What a packet to a group is told, by the past alone.
abbrev pub CastSaid : Type 0
CastSaid = WithTables (λ q begun log v t. (g : ℕ) (packet : List ℕ) (r : Said (aside (multicast t g packet))) (u : World)
    → Meets v (aside (multicast t g packet)) r u → told_by (aside (multicast t g packet)) r ≡ cast_after q begun log t g packet)

-- "Messages have one piece and 0 to 1,408 octets": the PDU of such a message, with header values within their limits.
pub record GroupPdu (g : Given) (octets packet : List ℕ) : Type 0 where
  pub octets_most : length octets ≤ 1408
  pub words : Words g
  pub data_field_octet : g.field.0 ≤ 255
  pub node : g.node.0 ≤ 4095
  pub number : (1 ≤ g.number.0) × (g.number.0 ≤ 2147483647)
  pub code : (1 ≤ g.tcd) × (g.tcd ≤ 59999)
  pub mode : g.mode ≤ 1
  pub pri : g.pri ≤ 7
  pub is : packet ≡ header (record { given = g; cut = record { ml = length octets + 64; bsize = length octets + 64; cbn = 1; tbn = 1 } }) ++ octets

-- Its sender and the group are registered, the node's mode admits it, and by the past it is no repeat.
pub record MayReach (q : Setup) (begun : Tables) (log : List Exchange) (g : ℕ) (packet : List ℕ) : Type 0 where
  pub known : place_of (senders_of q) (source (head_of packet)) < length (senders_of q)
  pub registered : groups.place_of (groups_of q) g < (groups_of q).count
  pub admitted : ((head_of packet).given.mode ≡ 0) ⊎ (q.mode ≡ 1)
  pub no_repeat : is_repeat (verdict_after q (last_heard q begun log g packet) (name_of packet)) ≡ false

-- Then it is delivered, octet for octet, with the check's verdict: those of our cutter in one piece, and 1,397 to 1,408 octets that
-- another sender wrote.
abbrev pub GroupDelivers : Type 0
GroupDelivers = WithTables (λ q begun log v t. (g : ℕ) (h : Given) (octets packet : List ℕ) → GroupPdu h octets packet → MayReach q begun log g packet
    → (r : Said (aside (multicast t g packet))) (u : World) → Meets v (aside (multicast t g packet)) r u
    → ((group_told r.0).outcome ≡ delivered_as (verdict_after q (last_heard q begun log g packet) (name_of packet))) × (r.2 ≡ octets))

abbrev pub CutToGroup : Type 0
CutToGroup = (g : Given) → Words g → (octets : List ℕ) (u : ℕ) (packet : List ℕ) → length octets ≤ u → Cut g octets u 1 packet → GroupPdu g octets packet

-- ---- 02, Item 6: how old was the repeat

-- "how far back the number lies, 0 to N1 − 1": behind the number last delivered of its sender,
abbrev pub AgeSaid : Type 0
AgeSaid = AfterPast (λ q log v. (packet : List ℕ) (r : Said (message packet)) (u : World) → Meets v (message packet) r u
    → HowOld q.n1 (last_of (source (head_of packet)) (deliveries log)).number (name_of packet).number (message_told r.0).outcome)

-- "multicast too": of its sender, to this group with its priority.
abbrev pub AgeHeard : Type 0
AgeHeard = WithTables (λ q begun log v t. (g : ℕ) (packet : List ℕ) (r : Said (aside (multicast t g packet))) (u : World)
    → Meets v (aside (multicast t g packet)) r u
    → HowOld q.n1 (last_heard q begun log g packet).number (name_of packet).number (group_told r.0).outcome)

-- ---- uniqueness, and the edges

-- "Uniqueness is itself proved": of two programs, or of one that runs twice, the same calls get the same answers and
-- leave the same world,
abbrev pub OneCourse : Type 0
OneCourse = (w : World) (es : List Event) (rs ts : Answers es) (v u : World) → Course w es rs v → Course w es ts u → (rs ≡ ts) × (v ≡ u)

abbrev pub OneStart : Type 0
OneStart = (q : Setup) (r t : Started) (w u : World) → SetupMeets q r w → SetupMeets q t u → w.storage ≡ u.storage → (r ≡ t) × (w ≡ u)

-- and the same cutting writes the same.
abbrev pub OneCutting : Type 0
OneCutting = (g : Given) (m : List ℕ) (u c : ℕ) (buffer : List ℕ) (r t : Result ℕ Refusal) (left right : List ℕ)
    → CutterMeets g m u c buffer r left → CutterMeets g m u c buffer t right → (r ≡ t) × (left ≡ right)

-- The fault section is read and written in one way.
abbrev pub OneReading : Type 0
OneReading = (s : List ℕ)
    → ((r t : Result Report Refusal) → ReadMeets s r → ReadMeets s t → r ≡ t)
    × ((k : ℕ) (a b : Bool) → DeadMeets s k a → DeadMeets s k b → a ≡ b)
    × ((k : ℕ) (e f : Error) → ErrorMeets s k e → ErrorMeets s k f → e ≡ f)
    × ((part other : List ℕ) → OptionsMeets s part → OptionsMeets s other → part ≡ other)

abbrev pub OneWriting : Type 0
OneWriting = (p : Parts) (buffer : List ℕ) (r t : Result ℕ Refusal) (left right : List ℕ) → WriteMeets p buffer r left → WriteMeets p buffer t right
    → (r ≡ t) × (left ≡ right)

-- "Proved together as one table with one claim over it (*)"
abbrev pub EveryEdge : Type 0
EveryEdge = all edges ≡ true

-- Small pasts are told what 01 gives, written out as numbers and octets, the full listing of 01 among them.
abbrev pub EveryListing : Type 0
EveryListing = (x : listings.Name) → listings.all (listings.listings x) ≡ true

-- ---- all of it

pub record Demands : Type 0 where
  pub calls_refuse : CallsRefuse
  pub setup_refuses : SetupRefuses
  pub cutter_refuses : CutterRefuses
  pub numbers_tell : NumbersTell
  pub verdict_told : VerdictTold
  pub none_handed : NothingHanded
  pub never_nine : NeverNine
  pub tallied_is_course : TalliedIsCourse
  pub one_counted : OneCounted
  pub all_counted : AllCounted
  pub board_begins : BoardBegins
  pub board_is_course : BoardIsCourse
  pub every_said : EverySaid
  pub log_is : LogIs
  pub header_printed : HeaderAsPrinted
  pub check_printed : CheckAsPrinted
  pub cuts_printed : CutsAsPrinted
  pub cutting_printed : CuttingAsPrinted
  pub possible_printed : PossibleAsPrinted
  pub comes_back : ComesBack
  pub alive_is : WhoIsAlive
  pub delivers : DeliveredOnce
  pub listed_once : ListedOnce
  pub is_safe : Safety
  pub held_said : HeldSaid
  pub held_is_ones : HeldIsOnes
  pub differ_meets_nine : DifferMeetsNine
  pub read_refuses : ReadRefuses
  pub write_refuses : WriteRefuses
  pub reads_exactly : ReadsExactly
  pub reads_all : ReadsAll
  pub writes_sections : WritesSections
  pub writes_all : WritesAll
  pub writes_same : WritesSame
  pub none_short : NoneShort
  pub every_fault_edge : EveryFaultEdge
  pub newer_printed : NewerAsPrinted
  pub newcomer_said : NewcomerSaid
  pub every_newer_edge : EveryNewerEdge
  pub own_entry_only : OwnEntryOnly
  pub entry_is_last : EntryIsLast
  pub zeros_pass : ZerosPass
  pub never_twenty_six : NeverTwentySix
  pub cast_said : CastSaid
  pub group_delivers : GroupDelivers
  pub cut_to_group : CutToGroup
  pub age_said : AgeSaid
  pub age_heard : AgeHeard
  pub one_reading : OneReading
  pub one_writing : OneWriting
  pub one_course : OneCourse
  pub one_start : OneStart
  pub one_cutting : OneCutting
  pub every_edge : EveryEdge
  pub every_listing : EveryListing
