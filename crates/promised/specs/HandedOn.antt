-- 02, Item 5: the two lent tables in a past. They are "handed on untouched": each multicast call is given what the one before it
-- left.
use Rattle.std.specs.Prelude.{ℕ, ◌≡◌, true, List, [], ◌∷◌}
use Rattle.answers.specs.declared.Setup.{Setup}
use Rattle.answers.specs.Told.{GroupTold}
use Rattle.header.specs.Head.{head_of}
use Rattle.state.specs.Table.{source}
use Rattle.rules.specs.calls.Multicast.{Tables}
use Rattle.rules.specs.pasts.Past.{Event, message, alive, clock, aside, question, multicast, Answers}
use Rattle.promised.specs.Log.{Exchange, Name, name_of, casts, last_cast}
use Rattle.promised.specs.Says.{verdict_after, entry_for, name_at, cast_by}

-- Calls with what they said, from tables t on; u is what the last of them left.
abbrev pub HandedOn : Tables → (es : List Event) → Answers es → Tables → Type 0
HandedOn t [] rs u = u ≡ t
HandedOn t (message packet ∷ es) rs u = HandedOn t es rs.1 u
HandedOn t (alive packet ∷ es) rs u = HandedOn t es rs.1 u
HandedOn t (clock ms ∷ es) rs u = HandedOn t es rs.1 u
HandedOn t (aside question ∷ es) rs u = HandedOn t es rs.1 u
HandedOn t (aside (multicast lent g packet) ∷ es) rs u = (lent ≡ t) × HandedOn rs.0.1 es rs.1 u

-- What was last delivered of the packet's sender to this group with its priority, where the tables began as `first`.
abbrev pub last_heard : Setup → Tables → List Exchange → ℕ → List ℕ → Name
last_heard q first log g packet =
    last_cast (source (head_of packet)) g (head_of packet).given.pri (name_at first (entry_for q g packet)) (casts log)

-- What a packet to a group is told by the past alone: no table stands here, and no packet meets 26. The tables t are only
-- handed back, with the one entry changed.
abbrev pub cast_after : Setup → Tables → List Exchange → Tables → ℕ → List ℕ → GroupTold × Tables × List ℕ
cast_after q first log t g packet = cast_by q true (verdict_after q (last_heard q first log g packet) (name_of packet)) t g packet
