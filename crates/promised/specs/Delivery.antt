-- Delivery: "Let a receiver have any past at all, state and storage handed on untouched. Now a registered sender's
-- message arrives in its pieces, cut by the rules, in any order and some of them more than once, with other senders'
-- packets between." The definitions that the theorem is stated with, each under the words that it renders.
use Rattle.std.specs.Prelude.{ℕ, ◌≤◌, ◌<◌, ◌≡◌, ◌≢◌, ◌⊎◌, Bool, true, false, cond, ◌&&◌, eqb, length, drop}
use mathlib.Core.List.{List, [], ◌∷◌, Memᴰ}
use Rattle.ring.specs.declared.Number.{Number}
use Rattle.ring.specs.declared.Version.{Version}
use Rattle.ring.specs.declared.Verdict.{Verdict}
use Rattle.ring.specs.Check.{is_repeat, verdict_number}
use Rattle.header.specs.Codes.{within}
use Rattle.header.specs.declared.Given.{Given}
use Rattle.header.specs.Head.{head_of}
use Rattle.header.specs.Places.{header_size}
use Rattle.cut.specs.Cutter.{cut_for}
use Rattle.cut.specs.Pieces.{pieces, piece}
use Rattle.map.specs.Map.{bit}
use Rattle.state.specs.declared.Address.{Address}
use Rattle.state.specs.Limits.{same_address, given}
use Rattle.answers.specs.declared.Setup.{Setup}
use Rattle.answers.specs.Told.{least_refusal, OutcomeTold, not_delivered, delivered_as, MessageTold}
use Rattle.rules.specs.pasts.Past.{Event, message, alive, clock, aside, Answers}
use Rattle.promised.specs.Judged.{is_from}
use Rattle.promised.specs.Log.{ToldOf, told_by, Exchange, exchange, calls, Name, Delivery, deliveries, last_of, same_message, open_of}
use Rattle.promised.specs.Says.{senders_of, newer_is_open, verdict_after}

-- ---- the message and its pieces

-- What is sent: from where, the header values that joining looks at, the octets, and the piece length of the cut.
pub record Sent : Type 0 where
  pub address : Address
  pub version : Version
  pub number : Number
  pub code : ℕ
  pub mode : ℕ
  pub octets : List ℕ
  pub u : ℕ

-- What is sent where the cutter is given these header values, these octets and this piece length.
abbrev pub sent_by : Given → List ℕ → ℕ → Sent
sent_by g octets u = record {
  address = record { field = g.field; node = g.node };
  version = g.version;
  number = g.number;
  code = g.tcd;
  mode = g.mode;
  octets = octets;
  u = u;
}

abbrev pub count : Sent → ℕ
count m = pieces (length m.octets) m.u

-- "CBN: piece number from 1. TBN: number of pieces."
abbrev pub Numbered : Sent → ℕ → Type 0
Numbered m c = (1 ≤ c) × (c ≤ count m)

-- "its pieces, cut by the rules": a PDU of piece c as any correct cutter could have made it. Neither 12 nor 13 applies
-- to it; what else its header holds is free.
pub record PieceOf (m : Sent) (c : ℕ) (packet : List ℕ) : Type 0 where
  pub numbered : Numbered m c
  pub from : is_from m.address packet ≡ true
  pub version : (head_of packet).given.version.0 ≡ m.version.0
  pub number : (head_of packet).given.number.0 ≡ m.number.0
  pub code : (head_of packet).given.tcd ≡ m.code
  pub mode : (head_of packet).given.mode ≡ m.mode
  pub cut : (head_of packet).cut ≡ cut_for (length m.octets) m.u c
  pub octets : drop header_size packet ≡ piece m.octets m.u c

-- Piece c comes with this call,
abbrev pub Brings : Sent → ℕ → Event → Type 0
Brings m c (message packet) = PieceOf m c packet
Brings m c (alive packet) = ⊥
Brings m c (clock ms) = ⊥
Brings m c (aside call) = ⊥

-- came with one of these.
abbrev pub Came : Sent → ℕ → List Event → Type 0
Came m c [] = ⊥
Came m c (e ∷ es) = Brings m c e ⊎ Came m c es

-- ---- the conditions

abbrev pub name_in : Sent → Name
name_in m = record { version = m.version; number = m.number }

-- The packets of its sender's open message, after the calls of a log.
abbrev pub open_for : Sent → ℕ → List Exchange → List (List ℕ)
open_for m i log = open_of m.address i log

-- What the number check says of it.
abbrev pub verdict_for : Setup → List Exchange → Sent → Verdict
verdict_for q log m = verdict_after q (last_of m.address (deliveries log)) (name_in m)

-- The message of the sender at place i of setup's table, after a past with this log.
pub record May (q : Setup) (log : List Exchange) (m : Sent) (i : ℕ) : Type 0 where
  -- "a registered sender's message"
  pub here : i < length (senders_of q)
  pub registered : given (senders_of q) i ≡ m.address
  -- "cut by the rules": "n … (0 to 16,384) and u the piece length, 256 to 1,396"
  pub length_within : length m.octets ≤ 16384
  pub unit_within : within 256 1396 m.u ≡ true
  -- "no packet with this version and number came from this sender before,"
  pub unheard : (packet : List ℕ) → Memᴰ (message packet) (calls log) → is_from m.address packet ≡ true
      → (head_of packet).given.version.0 ≡ m.version.0 → (head_of packet).given.number.0 ≢ m.number.0
  -- "the number check does not call it a repeat,"
  pub no_repeat : is_repeat (verdict_for q log m) ≡ false
  -- 02, Item 3: "no newer number of that version is open", "for the sender,"
  pub none_newer : newer_is_open (open_for m i log) (name_in m) ≡ false
  -- "the mode admits it,": not a "test message at an online node"
  pub admits : eqb m.mode 1 && eqb q.mode 0 ≡ false

-- A call that may come after the calls of a log, and what it was told; `own` is what is asked of a packet of that
-- sender. "no clock call drops it": while it is open, the call does not report it as dropped.
abbrev pub Allowed : (List ℕ → MessageTold → Type 0) → Sent → ℕ → List Exchange → (e : Event) → ToldOf e → Type 0
Allowed own m i log (message packet) told = is_from m.address packet ≡ true → own packet told.0
Allowed own m i log (alive packet) told = Unit {0}
Allowed own m i log (clock ms) told = same_message (open_for m i log) (name_in m) ≡ true → bit i told.dropped ≡ 0
Allowed own m i log (aside call) told = Unit {0}

-- Calls that may come, in the order of time, with what they were told.
abbrev pub Between : (List ℕ → MessageTold → Type 0) → Sent → ℕ → List Exchange → (es : List Event) → Answers es → Type 0
Between own m i log [] rs = Unit {0}
Between own m i log (e ∷ es) rs =
    Allowed own m i log e (told_by e rs.0) × Between own m i (exchange e (told_by e rs.0) ∷ log) es rs.1

-- "nothing else of that sender comes between"
abbrev pub OnlyPieces : Sent → List ℕ → MessageTold → Type 0
OnlyPieces m packet told = (c : ℕ) × PieceOf m c packet

-- The same where something else of that sender may come, if it is refused.
abbrev pub ElseRefused : Sent → List ℕ → MessageTold → Type 0
ElseRefused m packet told = ((c : ℕ) × PieceOf m c packet) ⊎ (((c : ℕ) → ¬ (PieceOf m c packet)) × (least_refusal ≤ told.outcome.number))

-- ---- the arrival of piece c, after the calls es since the past

-- It is the last missing piece.
abbrev pub LastMissing : Sent → List Event → ℕ → Type 0
LastMissing m es c = ¬ (Came m c es) × ((d : ℕ) → Numbered m d → d ≢ c → Came m d es)

-- Another one is missing too.
abbrev pub OneOfSeveral : Sent → List Event → ℕ → Type 0
OneOfSeveral m es c = ¬ (Came m c es) × ((d : ℕ) × Numbered m d × (d ≢ c) × ¬ (Came m d es))

-- It came before, and some piece is missing.
abbrev pub CameBefore : Sent → List Event → ℕ → Type 0
CameBefore m es c = Came m c es × ((d : ℕ) × Numbered m d × ¬ (Came m d es))

-- All came before.
abbrev pub AllCame : Sent → List Event → Type 0
AllCame m es = (d : ℕ) → Numbered m d → Came m d es

-- One of the four applies to every arrival: `one_applies` (CameLaws.antt).
pub data OneApplies (m : Sent) (es : List Event) (c : ℕ) : Type 0 where
  is_last : LastMissing m es c → OneApplies m es c
  is_one : OneOfSeveral m es c → OneApplies m es c
  came_before : CameBefore m es c → OneApplies m es c
  all_came : AllCame m es → OneApplies m es c

-- ---- what is promised

-- "then it is delivered …, octet for octet, at the arrival of the last missing piece": what the call with the PDU of
-- piece c is told, and the part that is then handed over. The verdict is what the check gave after the past.
pub record Arrives (m : Sent) (verdict : Verdict) (es : List Event) (c : ℕ) (outcome : OutcomeTold) (part : List ℕ) : Type 0 where
  pub delivered : LastMissing m es c → (outcome ≡ delivered_as verdict) × (part ≡ m.octets)
  pub stored : OneOfSeveral m es c → outcome ≡ not_delivered 0 0
  pub held : CameBefore m es c → outcome ≡ not_delivered 20 0

-- "once": all came before, so the message was delivered, and is the last that was: it lies 0 back. "If its version is not 0" is asked for this alone.
abbrev pub Once : Sent → List Event → OutcomeTold → Type 0
Once m es outcome = AllCame m es → outcome ≡ not_delivered 17 0

-- The deliveries of this message among others.
abbrev pub is_its : Sent → Delivery → Bool
is_its m d = same_address m.address d.sender && eqb d.name.version.0 m.version.0 && eqb d.name.number.0 m.number.0

unfoldable pub delivered_of : Sent → List Delivery → List Delivery
delivered_of m [] = []
delivered_of m (d ∷ ds) = cond (is_its m d) (d ∷ delivered_of m ds) (delivered_of m ds)

-- "delivered once": after the calls es since the past it stands once among their deliveries if all its pieces came, and
-- before that not at all.
pub record Listed (m : Sent) (verdict : Verdict) (es : List Event) (ds : List Delivery) : Type 0 where
  pub not_yet : ¬ (AllCame m es) → delivered_of m ds ≡ []
  pub once : m.version.0 ≢ 0 → AllCame m es
      → delivered_of m ds ≡ record { sender = m.address; name = name_in m; octets = m.octets; verdict = verdict_number verdict } ∷ []
