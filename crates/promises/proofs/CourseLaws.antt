-- The contracts fix one course: what every call answers and leaves is what `rules` says. So the theorems of `rules`
-- about pasts are about every program whose calls meet the contracts. Assumes nothing.
use Rattle.std.specs.Prelude.{ℕ, ◌≡◌, refl, List, [], ◌∷◌, Result}
use Rattle.std.proofs.Common.{sym, ap, subst, ◌∙◌}
use Rattle.octets.specs.Answer.{one_answer}
use Rattle.header.specs.declared.Given.{Given}
use Rattle.refusal.specs.declared.Refusal.{Refusal}
use Rattle.state.specs.declared.Receiver.{Receiver}
use Rattle.answers.specs.declared.Answer.{Answer}
use Rattle.answers.specs.declared.GroupAnswer.{GroupAnswer}
use Rattle.answers.specs.declared.Noted.{Noted}
use Rattle.answers.specs.declared.Setup.{Setup}
use Rattle.answers.specs.declared.Started.{Started}
use Rattle.answers.specs.declared.Ticked.{Ticked}
use Rattle.rules.specs.calls.Multicast.{Tables}
use Rattle.rules.specs.calls.Part.{part_of}
use Rattle.rules.specs.calls.Setup.{setup_answer}
use Rattle.rules.specs.pasts.Past.{World, Event, message, alive, clock, aside, question, multicast, step, after, Said, said, Answers, answers, Start}
use Rattle.rules.proofs.pasts.PastLaws.{Sound, past_sound}
use Rattle.promises.specs.Course.{world, SetupMeets, MessageMeets, CutterMeets, Meets, Course, Leads, messages_of}

-- ---- one call

pub same_world : {v : World} {state : Receiver} {storage : List ℕ} → v.state ≡ state → v.storage ≡ storage → v ≡ world state storage
same_world {v} {state} {storage} e f = ap (λ (x : Receiver). world x v.storage) e ∙ ap (world state) f

same_said : {r : Answer × List ℕ} {answer : Answer} {part : List ℕ} → r.0 ≡ answer → r.1 ≡ part → r ≡ (answer, part)
same_said {r} {answer} {part} e f = ap (λ (x : Answer). (x, r.1)) e ∙ ap (λ (x : List ℕ). (answer, x)) f

same_heard : {r : GroupAnswer × Tables × List ℕ} {answer : GroupAnswer} {left : Tables} {part : List ℕ} → r.0 ≡ answer → r.1 ≡ left → r.2 ≡ part
    → r ≡ (answer, left, part)
same_heard {r} {answer} {left} {part} e f g =
    ap (λ (x : GroupAnswer). (x, r.1, r.2)) e ∙ ap (λ (x : Tables). (answer, x, r.2)) f ∙ ap (λ (x : List ℕ). (answer, left, x)) g

same_part : {r answer : Answer} {storage left : List ℕ} (packet : List ℕ) → r ≡ answer → storage ≡ left
    → part_of r.lies packet storage ≡ part_of answer.lies packet left
same_part packet e f = rw (e, f)

pub one_call : (w : World) (e : Event) (r : Said e) (v : World) → Meets w e r v → (r ≡ said w e) × (v ≡ step w e)
unfolding said step
one_call w (message packet) r v m = (
  same_said m.0.answered (m.1.handed_over ∙ same_part packet m.0.answered m.0.stored),
  same_world (m.0.handed_on ∙ ap (λ (x : Answer). x.state) m.0.answered) m.0.stored,
)
one_call w (alive packet) r v m = (m.answered, same_world (m.handed_on ∙ ap (λ (x : Noted). x.state) m.answered) m.stays)
one_call w (clock now) r v m = (m.answered, same_world (m.handed_on ∙ ap (λ (x : Ticked). x.state) m.answered) m.stays)
one_call w (aside question) r v m = (m.answered, m.stays)
one_call w (aside (multicast t g packet)) r v m = (
  same_heard m.0.answered m.0.kept (m.1.handed_over ∙ rw (m.0.answered, m.0.stays)),
  m.0.stays,
)

pub a_call : (w : World) (e : Event) → Meets w e (said w e) (step w e)
unfolding said step
a_call w (message packet) = (record { answered = refl; stored = refl; handed_on = refl }, record { handed_over = refl })
a_call w (alive packet) = record { answered = refl; stays = refl; handed_on = refl }
a_call w (clock now) = record { answered = refl; stays = refl; handed_on = refl }
a_call w (aside question) = record { answered = refl; stays = refl }
a_call w (aside (multicast t g packet)) = (record { answered = refl; kept = refl; stays = refl }, record { handed_over = refl })

-- ---- a course

-- Every course is the one that `rules` speaks of …
pub one_course : (w : World) (es : List Event) (rs : Answers es) (v : World) → Course w es rs v → (rs ≡ answers w es) × (v ≡ after w es)
unfolding answers after
one_course w [] rs v c = (refl, c)
one_course w (e ∷ es) rs v c =
    let first = one_call w e rs.0 c.0 c.1 in
    let rest = one_course (step w e) es rs.1 v (subst (λ (x : World). Course x es rs.1 v) first.1 c.2) in
    (ap (λ (x : Said e). (x, rs.1)) first.0 ∙ ap (λ (x : Answers es). (said w e, x)) rest.0, rest.1)

-- … and that one is a course.
pub a_course : (w : World) (es : List Event) → Course w es (answers w es) (after w es)
unfolding answers after
a_course w [] = refl
a_course w (e ∷ es) = (step w e, a_call w e, a_course (step w e) es)

-- What one more call says and leaves.
pub next_call : (w : World) (es : List Event) (rs : Answers es) (v : World) → Course w es rs v → (e : Event) (r : Said e) (u : World) → Meets v e r u
    → (r ≡ said (after w es) e) × (u ≡ step (after w es) e)
next_call w es rs v c e r u m = one_call (after w es) e r u (subst (λ (x : World). Meets x e r u) (one_course w es rs v c).1 m)

-- Of two programs, or of one that runs twice: the same calls from the same world get the same answers and leave the
-- same world.
pub same_course : (w : World) (es : List Event) (rs ts : Answers es) (v u : World) → Course w es rs v → Course w es ts u → (rs ≡ ts) × (v ≡ u)
same_course w es rs ts v u c d =
    let first = one_course w es rs v c in
    let second = one_course w es ts u d in
    (one_answer first.0 second.0, one_answer first.1 second.1)

-- A packet, and then another: what the second call says, what then stands in the storage, and that this is a course.
pub two_messages : {w u v : World} {p q : List ℕ} {r t : Answer} → MessageMeets w p r u → MessageMeets u q t v
    → (t ≡ (said (step w (message p)) (message q)).0) × ((v.storage ≡ (after w (messages_of p q)).storage) × Leads w (messages_of p q) v)
unfolding answers
two_messages {w} {u} {v} {p} {q} {r} {t} m n =
    let first : Said (message p) = (r, part_of r.lies p u.storage) in
    let second : Said (message q) = (t, part_of t.lies q v.storage) in
    let rs : Answers (messages_of p q) = (first, (second, tt)) in
    let course : Course w (messages_of p q) rs v = (u, (m, record { handed_over = refl }), (v, (n, record { handed_over = refl }), refl)) in
    let one = one_course w (messages_of p q) rs v course in
    (ap (λ (x : Answers (messages_of p q)). x.1.0.0) one.0, (ap (λ (x : World). x.storage) one.1, (rs, course)))

-- ---- a past

-- The same setup, and storage with the same octets in it.
pub same_start : (q : Setup) (r t : Started) (w u : World) → SetupMeets q r w → SetupMeets q t u → w.storage ≡ u.storage → (r ≡ t) × (w ≡ u)
same_start q r t w u m n same =
    let is = one_answer m.answered n.answered in
    (is, same_world (m.handed_on ∙ ap (λ (x : Started). x.state) is ∙ sym n.handed_on) same)

abbrev pub course_start : (q : Setup) (r : Started) (w : World) → SetupMeets q r w → Start w
course_start q r w m = record { given = q; state = m.handed_on ∙ ap (λ (x : Started). x.state) m.answered; room = m.room }

-- Such a world is what a setup gave: so what is promised of courses from a setup on is promised of every past of
-- `rules`, by `a_course`.
pub start_course : (w : World) (s : Start w) → SetupMeets s.given (setup_answer s.given) w
start_course w s = record { answered = refl; handed_on = s.state; room = s.room }

-- What `rules` proves of every past is so of every course from a setup on, here that the state stays valid and the
-- storage keeps its size.
pub course_sound : (q : Setup) (r : Started) (w : World) → SetupMeets q r w → (es : List Event) (rs : Answers es) (v : World) → Course w es rs v → Sound v
course_sound q r w m es rs v c = subst Sound (sym (one_course w es rs v c).1) (past_sound w (course_start q r w m) es)

-- ---- the cutter

pub same_cutting : (g : Given) (m : List ℕ) (u c : ℕ) (buffer : List ℕ) (r t : Result ℕ Refusal) (left right : List ℕ)
    → CutterMeets g m u c buffer r left → CutterMeets g m u c buffer t right → (r ≡ t) × (left ≡ right)
same_cutting g m u c buffer r t left right a b = (one_answer a.answered b.answered, one_answer a.written b.written)
