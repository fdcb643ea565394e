-- "A refusal changes neither the state nor one octet of lent memory, save a count of refusals": a course in which each
-- message call may be made directly or through the tally, and what the tally then says. Proved in CountedLaws.antt.
use Rattle.std.specs.Prelude.{ℕ, ◌+◌, ◌≤◌, min, ◌≡◌, ◌⊎◌, cond, List, [], ◌∷◌, leb}
use Rattle.answers.specs.declared.Answer.{Answer}
use Rattle.answers.specs.Told.{least_refusal, message_told}
use Rattle.rules.specs.pasts.Past.{World, Event, message, Said, Answers}
use Rattle.tally.specs.declared.Tally.{Tally}
use Rattle.promises.specs.Course.{TallyMeets, PartMeets, Meets, Course}

-- ---- calls, some of them through the tally

-- How a call is made: as it is, or a message call "by a thin layer above".
pub data Made : Type 0 where
  direct : Event → Made
  tallied : List ℕ → Made

-- The call that it is: a message call, if it is made through the tally.
abbrev pub call_of : Made → Event
call_of (direct e) = e
call_of (tallied packet) = message packet

abbrev pub calls_of : List Made → List Event
calls_of [] = []
calls_of (m ∷ ms) = call_of m ∷ calls_of ms

-- Made at the world w with the tally t, it said r and left the world v and the tally s. "It is kept by a thin layer
-- above": a call that is made directly is lent no tally.
abbrev pub MadeMeets : (t : Tally) (w : World) (m : Made) → Said (call_of m) → Tally → World → Type 0
MadeMeets t w (direct e) r s v = Meets w e r v × (s ≡ t)
MadeMeets t w (tallied packet) r s v = TallyMeets t w packet r.0 s v × PartMeets r.0.lies packet v.storage r.1

-- Calls from the world w and the tally t on, in the order of time, each given the state, storage and tally that the one
-- before left; v and s are what the last one left.
abbrev pub TalliedCourse : (t : Tally) (w : World) (ms : List Made) → Answers (calls_of ms) → Tally → World → Type 0
TalliedCourse t w [] rs s v = (s ≡ t) × (v ≡ w)
TalliedCourse t w (m ∷ ms) rs s v = (x : Tally) × (u : World) × MadeMeets t w m rs.0 x u × TalliedCourse x u ms rs.1 s v

-- A course in which some calls are made through the tally is a course, so all that is promised of courses is promised
-- of it.
abbrev pub TalliedIsCourse : Type 0
TalliedIsCourse = (t : Tally) (w : World) (ms : List Made) (rs : Answers (calls_of ms)) (s : Tally) (v : World)
    → TalliedCourse t w ms rs s v → Course w (calls_of ms) rs v

-- ---- one call

abbrev pub number_of : Answer → ℕ
number_of r = (message_told r).outcome.number

-- "A refusal changes neither the state nor one octet of lent memory, save a count of refusals", and "one count of
-- answers 0 and 1", "each stopping at 4,294,967,295": by the number that was told, which is one or the other.
pub record CountsOne (t : Tally) (w : World) (number : ℕ) (s : Tally) (v : World) : Type 0 where
  pub refusal : least_refusal ≤ number → (v ≡ w) × (s ≡ record { answers = t.answers; refusals = min (t.refusals + 1) 4294967295 })
  pub answer : number ≤ 1 → s ≡ record { answers = min (t.answers + 1) 4294967295; refusals = t.refusals }
  pub either : (number ≤ 1) ⊎ (least_refusal ≤ number)

abbrev pub OneCounted : Type 0
OneCounted = (t : Tally) (w : World) (packet : List ℕ) (r : Answer) (s : Tally) (v : World) → TallyMeets t w packet r s v → CountsOne t w (number_of r) s v

-- ---- a whole course

-- Of the calls through the tally, how many were told 0 or 1, and how many a refusal's number.
unfoldable pub answers_told : (ms : List Made) → Answers (calls_of ms) → ℕ
answers_told [] rs = 0
answers_told (direct e ∷ ms) rs = answers_told ms rs.1
answers_told (tallied packet ∷ ms) rs = cond (leb (number_of rs.0.0) 1) 1 0 + answers_told ms rs.1

unfoldable pub refusals_told : (ms : List Made) → Answers (calls_of ms) → ℕ
refusals_told [] rs = 0
refusals_told (direct e ∷ ms) rs = refusals_told ms rs.1
refusals_told (tallied packet ∷ ms) rs = cond (leb least_refusal (number_of rs.0.0)) 1 0 + refusals_told ms rs.1

-- "one count of answers 0 and 1, one of refusals, each stopping at 4,294,967,295": from any tally on that has not
-- passed it, as no record of two 32-bit numbers has.
abbrev pub AllCounted : Type 0
AllCounted = (t : Tally) → t.answers ≤ 4294967295 → t.refusals ≤ 4294967295
    → (w : World) (ms : List Made) (rs : Answers (calls_of ms)) (s : Tally) (v : World) → TalliedCourse t w ms rs s v
    → (s.answers ≡ min (t.answers + answers_told ms rs) 4294967295) × (s.refusals ≡ min (t.refusals + refusals_told ms rs) 4294967295)
