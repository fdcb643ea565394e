-- The multicast call. 02, Item 5: "Add the receiver for class Base-1 …, the group given by the caller from the receiving port.
-- Messages have one piece and 0 to 1,408 octets."
use Rattle.std.specs.Prelude.{ℕ, zero, suc, ◌+◌, ◌*◌, Bool, true, false, not, cond, ◌&&◌, List, [], ◌∷◌, ◌++◌, eqb, leb, length, get_or, set}
use Rattle.refusal.specs.declared.Refusal.TheVariants as refusals
use Rattle.ring.specs.declared.Number.{Number}
use Rattle.ring.specs.declared.Version.{Version}
use Rattle.ring.specs.declared.Verdict.{Verdict}
use Rattle.ring.specs.Check.{is_repeat, is_unchecked}
use Rattle.header.specs.declared.Cut.{Cut}
use Rattle.header.specs.declared.Head.{Head}
use Rattle.header.specs.Head.{head_of, length_outside}
use Rattle.header.specs.Places.{header_size}
use Rattle.groups.specs.Groups.{place_of}
use Rattle.state.specs.declared.Last.{Last}
use Rattle.state.specs.declared.Receiver.{Receiver}
use Rattle.state.specs.Limits.{last_within, valid}
use Rattle.state.specs.Table.{found}
use Rattle.answers.specs.declared.GroupAnswer.{GroupAnswer}
use Rattle.answers.specs.declared.Listener.{Listener}
use Rattle.answers.specs.declared.Outcome.{Outcome}
use Rattle.answers.specs.declared.Outcome.TheVariants.{Refused, Stored, Delivered}
use Rattle.answers.specs.Told.{refusal}
use Rattle.answers.specs.declared.Where.{Where}
use Rattle.answers.specs.declared.Where.TheVariants.{Nothing, Packet}
use Rattle.rules.specs.calls.Admit.{verdict_by}
use Rattle.rules.specs.calls.First.{Row, row, checked, by_check}
use Rattle.rules.specs.calls.Message.{head_within}

-- ---- the two lent tables

-- "The last version and number are kept for each sender, group and priority (D.3.1.2) in two lent tables of 32-bit numbers,
-- versions and SEQ".
pub record Tables : Type 0 where
  pub versions : List ℕ
  pub numbers : List ℕ

-- "PRI is 0 to 7"
abbrev pub priorities : ℕ
priorities = 8

-- "each senders × groups × 8 long"
abbrev pub entries_of : (senders groups : ℕ) → ℕ
entries_of senders groups = senders * groups * priorities

-- "in that order": "(sender × groups + group) × 8 + PRI, each from 0, in the order of setup".
unfoldable pub entry_place : (groups sender group pri : ℕ) → ℕ
entry_place groups i j pri = (i * groups + j) * priorities + pri

abbrev pub entry_at : Tables → ℕ → Last
entry_at t k = record { version = record { 0 = get_or t.versions k 0 }; number = record { 0 = get_or t.numbers k 0 } }

-- The tables with another entry at one place.
abbrev pub with_entry : Tables → ℕ → Version → Number → Tables
with_entry t k v s = record { versions = set t.versions k v.0; numbers = set t.numbers k s.0 }

-- "a SEQ above M, or 0 under a version not 0", anywhere: of the first k entries each is within the limits of a last number.
unfoldable pub each_entry : Tables → ℕ → Bool
each_entry t zero = true
each_entry t (suc k) = each_entry t k && last_within (entry_at t k)

-- "a lent table of the wrong size", which is n, "a SEQ above M, or 0 under a version not 0".
unfoldable pub tables_within : ℕ → Tables → Bool
tables_within n t = eqb (length t.versions) n && eqb (length t.numbers) n && each_entry t n

-- ---- the numbers

-- "a PDU may be 1,472 octets here"
abbrev pub most_cast : ℕ
most_cast = 1472

-- "CBN = TBN = 1 and p = n": n is ML − 64 and p BSIZE − 64.
unfoldable pub one_piece : Cut → Bool
one_piece c = eqb c.cbn 1 && eqb c.tbn 1 && eqb c.bsize c.ml

-- The entry of the packet's sender, group and priority.
abbrev pub place_for : Listener → ℕ → Head → ℕ
place_for s g h = entry_place s.groups.count s.at (place_of s.groups g) h.given.pri

-- "judged by the same check"
abbrev pub verdict_in : Listener → Tables → ℕ → Head → Verdict
verdict_in s t g h = verdict_by s.n1 (entry_at t (place_for s g h)) h

-- 9, 26, 12 to 14 and 25: "25 group not registered, after 14; 26 …, before 12".
abbrev pub early_cast_rows : Listener → Tables → ℕ → List ℕ → Head → List Row
early_cast_rows s t g packet h =
    row refusals.State (not s.valid)
    ∷ row refusals.Tables (not (tables_within (entries_of s.count s.groups.count) t))
    ∷ row refusals.Length (length_outside header_size most_cast (length packet) h)
    ∷ row refusals.Header (not (head_within packet h))
    -- "sender not registered"
    ∷ row refusals.Sender (leb s.count s.at)
    ∷ row refusals.Group (leb s.groups.count (place_of s.groups g))
    ∷ []

-- 15 to 17.
abbrev pub late_cast_rows : Listener → Tables → ℕ → Head → List Row
late_cast_rows s t g h =
    -- "test message at an online node"
    row refusals.Test (eqb h.given.mode 1 && not s.test)
    -- "16 unless CBN = TBN = 1 and p = n"
    ∷ row refusals.Cut (not (one_piece h.cut))
    -- "number check says repeat"
    ∷ row refusals.Repeat (is_repeat (verdict_in s t g h))
    ∷ []

unfoldable pub cast_rows : Listener → Tables → ℕ → List ℕ → Head → List Row
cast_rows s t g packet h = early_cast_rows s t g packet h ++ late_cast_rows s t g h

-- What is looked at of a state.
abbrev pub listening : Receiver → Head → Listener
listening w h = record { valid = valid w; test = w.test; n1 = w.n1; count = w.count; at = found w h; groups = w.groups }

abbrev pub multicast_rows : Receiver → Tables → ℕ → List ℕ → List Row
multicast_rows w t g packet = cast_rows (listening w (head_of packet)) t g packet (head_of packet)

-- ---- what becomes of a packet

unfoldable pub cast_outcome : Listener → Tables → ℕ → List ℕ → Head → Outcome
cast_outcome s t g packet h =
    by_check (checked (cast_rows s t g packet h)) (Delivered (verdict_in s t g h)) (λ r. refusal r (verdict_in s t g h))

-- "A delivery that is not unchecked writes its version and number into its one entry; nothing else of state, tables or storage
-- changes."
abbrev pub is_kept : Outcome → Bool
is_kept (Refused r age) = false
is_kept Stored = false
is_kept (Delivered v) = not (is_unchecked v)

unfoldable pub kept_by : Tables → ℕ → Outcome → Head → Tables
kept_by t k o h = cond (is_kept o) (with_entry t k h.given.version h.given.number) t

abbrev pub cast_tables : Listener → Tables → ℕ → List ℕ → Head → Tables
cast_tables s t g packet h = kept_by t (place_for s g h) (cast_outcome s t g packet h) h

-- "The message is handed over as the part of the packet behind its header".
abbrev pub handed_by : Outcome → Where
handed_by (Refused r age) = Nothing
handed_by Stored = Nothing
handed_by (Delivered v) = Packet

-- The answer of a packet of which this becomes.
abbrev pub group_answer : Outcome → GroupAnswer
group_answer o = record { outcome = o; lies = handed_by o }

-- ---- the call

unfoldable pub multicast_answer : Receiver → Tables → ℕ → List ℕ → GroupAnswer
multicast_answer w t g packet = group_answer (cast_outcome (listening w (head_of packet)) t g packet (head_of packet))

unfoldable pub multicast_tables : Receiver → Tables → ℕ → List ℕ → Tables
multicast_tables w t g packet = cast_tables (listening w (head_of packet)) t g packet (head_of packet)
