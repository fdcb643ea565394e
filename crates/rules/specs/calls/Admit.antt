-- What one sender's record makes of a PDU that has come as far as its sender: the numbers 15 to 20, and what an
-- admitted PDU does (D.4.4; "we follow the prose").
use Rattle.std.specs.Prelude.{ℕ, ◌+◌, Bool, true, false, not, cond, ◌&&◌, ◌||◌, List, [], ◌∷◌, eqb, ltb}
use Rattle.refusal.specs.declared.Refusal.TheVariants as refusals
use Rattle.ring.specs.declared.Verdict.{Verdict}
use Rattle.ring.specs.Check.{check, is_repeat, is_unchecked}
use Rattle.ring.specs.Ring.{newer}
use Rattle.header.specs.declared.Head.{Head}
use Rattle.cut.specs.Possible.{possible, unit, message_length}
use Rattle.map.specs.Map.{holds, marked, is_full}
use Rattle.state.specs.declared.Last.{Last}
use Rattle.state.specs.declared.Message.{Message}
use Rattle.state.specs.declared.Sender.{Sender}
use Rattle.answers.specs.declared.Admission.{Admission}
use Rattle.answers.specs.declared.Dropped.{Dropped}
use Rattle.answers.specs.declared.Outcome.{Outcome}
use Rattle.answers.specs.declared.Outcome.TheVariants.{Stored, Delivered}
use Rattle.answers.specs.Told.{refusal}
use Rattle.rules.specs.calls.First.{Row, row, checked, by_check}
use Rattle.state.specs.State.{no_message, with_message, with_last}

-- ---- the open message and the PDU

-- "the same version" as the open message's.
abbrev pub same_version : Sender → Head → Bool
same_version s h = eqb s.message.version.0 h.given.version.0

-- "Same version and number" as the open message's.
unfoldable pub rejoins : Sender → Head → Bool
rejoins s h = s.«open» && same_version s h && eqb s.message.number.0 h.given.number.0

-- 19 compares "TCD, n, TBN or u".
unfoldable pub same_cut : Message → Head → Bool
same_cut m h =
    eqb m.tcd h.given.tcd && eqb m.n (message_length h.cut) && eqb m.tbn h.cut.tbn && eqb m.u (unit h.cut)

-- What the number check says of the PDU, by the last delivered version and number.
abbrev pub verdict_by : ℕ → Last → Head → Verdict
verdict_by n1 l h = check n1 l.version l.number h.given.version h.given.number

abbrev pub verdict_of : ℕ → Sender → Head → Verdict
verdict_of n1 s h = verdict_by n1 s.last h

-- ---- the numbers

-- 15 to 20, of the sender's record alone.
unfoldable pub sender_rows : Bool → ℕ → Sender → Head → List Row
sender_rows test n1 s h =
    -- "test message at an online node"
    row refusals.Test (eqb h.given.mode 1 && not test)
    -- "cut not possible"
    ∷ row refusals.Cut (not (possible h.cut))
    -- "number check says repeat"
    ∷ row refusals.Repeat (is_repeat (verdict_of n1 s h))
    -- "open message has the same version and a" newer "number", by 02, Item 3
    ∷ row refusals.Older (s.«open» && same_version s h && newer s.message.number h.given.number)
    -- "same version and number, but TCD, n, TBN or u differ"
    ∷ row refusals.Differs (rejoins s h && not (same_cut s.message h))
    -- "piece already held (octets not compared)"
    ∷ row refusals.Held (rejoins s h && holds s.message.map h.cut.cbn)
    ∷ []

-- ---- what an admitted PDU does

-- "nothing open, it opens"; another version or a newer number: "the new one opens".
abbrev pub map_before : Sender → Head → ℕ
map_before s h = cond (rejoins s h) s.message.map 0

-- "Same version and number: a new piece is added."
unfoldable pub map_after : Sender → Head → ℕ
map_after s h = marked (map_before s h) h.cut.cbn

-- 02, Item 1: "Keep the number in the open message's record." A message that opens has none yet.
abbrev pub kept_before : Sender → Head → ℕ
kept_before s h = cond (rejoins s h) s.message.held 0

-- "Every call keeps it equal to the number of ones in the map": one more with each new piece. In a record outside its
-- limits it may stand at 255, the most that an octet holds, and stays there.
abbrev pub one_more : ℕ → ℕ
one_more k = cond (ltb k 255) (k + 1) k

unfoldable pub kept_after : Sender → Head → ℕ
kept_after s h = one_more (kept_before s h)

-- "The message is delivered at the piece that fills the map, in whatever order pieces came"
unfoldable pub fills : Sender → Head → Bool
fills s h = is_full (map_after s h) h.cut.tbn

abbrev pub none_dropped : Dropped
none_dropped = record { version = record { 0 = 0 }; number = record { 0 = 0 } }

-- "Another version than the open one, or the same version and a" newer "number: the open message is dropped, its version
-- and number stand in the answer (both 0 if none …)"
unfoldable pub dropped_by : Sender → Head → Dropped
dropped_by s h =
    cond (s.«open» && (not (same_version s h) || (same_version s h && newer h.given.number s.message.number)))
    (record { version = s.message.version; number = s.message.number })
    none_dropped

-- "In cases 2 to 4, delivery stores V_SEQ and SEQ." In case 1 "Delivery leaves RV and R."
abbrev pub last_by : Verdict → Sender → Head → Last
last_by v s h = cond (is_unchecked v) s.last (record { version = h.given.version; number = h.given.number })

-- "nothing is then open"
abbrev pub closed : Sender → Last → Sender
closed s l = with_last (with_message s false no_message) l

-- "kept with V_SEQ, SEQ, TCD, n, TBN, u and a 64-bit map of pieces held", and their number; "A fragment that is stored
-- sets the message's stamp to the clock."
abbrev pub message_of : (clock map held : ℕ) → Head → Message
message_of clock map held h = record {
  version = h.given.version;
  number = h.given.number;
  tcd = h.given.tcd;
  n = message_length h.cut;
  tbn = h.cut.tbn;
  held = held;
  u = unit h.cut;
  map = map;
  stamp = clock;
}

-- The message that is then open.
abbrev pub message_after : ℕ → Sender → Head → Message
message_after clock s h = message_of clock (map_after s h) (kept_after s h) h

abbrev pub opened : Sender → Message → Sender
opened s m = with_message s true m

-- The sender's record afterwards.
unfoldable pub sender_after : ℕ → ℕ → Sender → Head → Sender
sender_after n1 clock s h =
    cond (fills s h) (closed s (last_by (verdict_of n1 s h) s h)) (opened s (message_after clock s h))

-- "pieces then held for the PDU's sender": the number kept. "How many pieces are held is the count of ones in the map":
-- so it is in every record within its limits (`kept_ones`).
unfoldable pub held_after : Sender → Head → ℕ
held_after s h = cond (fills s h) 0 (kept_after s h)

-- What an admitted PDU does.
unfoldable pub admitted : ℕ → ℕ → Sender → Head → Admission
admitted n1 clock s h = record {
  outcome = cond (fills s h) (Delivered (verdict_of n1 s h)) Stored;
  held = held_after s h;
  dropped = dropped_by s h;
  sender = sender_after n1 clock s h;
}

-- "A refusal alters no state, stamp, …"
unfoldable pub not_admitted : Sender → Outcome → Admission
not_admitted s o = record { outcome = o; held = 0; dropped = none_dropped; sender = s }

unfoldable pub admission : Bool → ℕ → ℕ → Sender → Head → Admission
admission test n1 clock s h =
    by_check (checked (sender_rows test n1 s h)) (admitted n1 clock s h) (λ r. not_admitted s (refusal r (verdict_of n1 s h)))
