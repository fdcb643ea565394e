-- Calls through the tally are calls of a course, and the tally counts them by their numbers. Assumes nothing.
use Rattle.std.specs.Prelude.{ℕ, ◌+◌, ◌≤◌, min, ◌≡◌, refl, ◌⊎◌, cond, List, [], ◌∷◌, leb}
use Rattle.std.proofs.Common.{ap, subst, ◌∙◌, inl, inr, arith, le-leb}
use Rattle.std.proofs.lemmas.Bool.{lt-leb}
use Rattle.answers.specs.declared.Answer.{Answer}
use Rattle.answers.specs.declared.Outcome.{Outcome}
use Rattle.answers.specs.declared.Outcome.TheVariants.{Refused, Stored, Delivered}
use Rattle.answers.specs.Told.{least_refusal, RefusedAs, outcome_told}
use Rattle.refusal.specs.Numbers.{number_of}
use Rattle.refusal.proofs.NumbersLaws.{nine_or_more}
use Rattle.rules.specs.pasts.Past.{World, step, after, said, answers}
use Rattle.tally.specs.declared.Tally.{Tally}
use Rattle.tally.specs.Tally.{counted}
use Rattle.tally.proofs.TallyLaws.{save_a_count}
use Rattle.promises.proofs.CourseLaws.{a_call, same_world}
use Rattle.promises.specs.Counted.{Made, direct, tallied, call_of, calls_of, TalliedCourse, TalliedIsCourse, OneCounted, answers_told, refusals_told, AllCounted}

-- ---- a course

pub tallied_is_course : TalliedIsCourse
tallied_is_course t w [] rs s v c = c.1
tallied_is_course t w (direct e ∷ ms) rs s v c = (c.1, c.2.0, tallied_is_course c.0 c.1 ms rs.1 s v c.3)
tallied_is_course t w (tallied packet ∷ ms) rs s v c = (c.1, (c.2.0.called, c.2.1), tallied_is_course c.0 c.1 ms rs.1 s v c.3)

-- There is such a course for any calls.
pub a_tallied_course : (t : Tally) (w : World) (ms : List Made)
    → (s : Tally) × TalliedCourse t w ms (answers w (calls_of ms)) s (after w (calls_of ms))
unfolding answers after
a_tallied_course t w [] = (t, (refl, refl))
a_tallied_course t w (direct e ∷ ms) =
    let rest = a_tallied_course t (step w e) ms in
    (rest.0, (t, step w e, (a_call w e, refl), rest.1))
a_tallied_course t w (tallied packet ∷ ms) =
    let m = a_call w (call_of (tallied packet)) in
    let x = counted t (said w (call_of (tallied packet))).0.outcome in
    let rest = a_tallied_course x (step w (call_of (tallied packet))) ms in
    (rest.0, (x, step w (call_of (tallied packet)), (record { called = m.0; tallied = refl }, m.1), rest.1))

-- ---- one call

-- A refusal has a refusal's number.
either_told : (o : Outcome) → ((outcome_told o).number ≤ 1) ⊎ (least_refusal ≤ (outcome_told o).number)
either_told (Refused r age) = inr (nine_or_more r)
either_told Stored = inl (omega arith)
either_told (Delivered v) = inl (omega arith)

answer_counted : (t : Tally) (o : Outcome) → (outcome_told o).number ≤ 1
    → counted t o ≡ record { answers = min (t.answers + 1) 4294967295; refusals = t.refusals }
answer_counted t (Refused r age) few = absurd (omega (arith, nine_or_more r, few))
answer_counted t Stored few = refl
answer_counted t (Delivered v) few = refl

pub one_counted : OneCounted
one_counted t w packet r s v m = record {
  refusal = λ more.
      let e : RefusedAs (outcome_told r.outcome).number (outcome_told r.outcome).number = (refl, more) in
      let c = save_a_count t w.state w.storage packet (outcome_told r.outcome).number
      (subst (λ (a : Answer). RefusedAs (outcome_told a.outcome).number (outcome_told r.outcome).number) m.called.answered e) in
      let same_answer = m.called.answered in (
        same_world (m.called.handed_on ∙ ap (λ (a : Answer). a.state) same_answer ∙ c.same_state) (m.called.stored ∙ c.same_storage),
        m.tallied ∙ ap (λ (a : Answer). counted t a.outcome) same_answer ∙ c.one_refusal_lem,
      );
  answer = λ few. m.tallied ∙ answer_counted t r.outcome few;
  either = either_told r.outcome;
}

-- ---- a whole course

answers_by_one : (t : Tally) → t.answers ≤ 4294967295 → (o : Outcome)
    → (counted t o).answers ≡ min (t.answers + cond (leb (outcome_told o).number 1) 1 0) 4294967295
answers_by_one t h (Refused r age) = rw (lt-leb (number_of r) 1 (omega (arith, nine_or_more r))) (omega (arith, h))
answers_by_one t h Stored = refl
answers_by_one t h (Delivered v) = refl

refusals_by_one : (t : Tally) → t.refusals ≤ 4294967295 → (o : Outcome)
    → (counted t o).refusals ≡ min (t.refusals + cond (leb least_refusal (outcome_told o).number) 1 0) 4294967295
refusals_by_one t h (Refused r age) = rw (le-leb 9 (number_of r) (nine_or_more r)) refl
refusals_by_one t h Stored = omega (arith, h)
refusals_by_one t h (Delivered v) = omega (arith, h)

-- Those of the first call and of the others.
in_turn : (a k n x y : ℕ) → x ≡ min (a + k) 4294967295 → y ≡ min (x + n) 4294967295 → y ≡ min (a + (k + n)) 4294967295
in_turn a k n x y e f = omega (arith, e, f)

pub all_counted : AllCounted
unfolding answers_told refusals_told
all_counted t a r w [] rs s v c = (omega (arith, a, ap (λ (x : Tally). x.answers) c.0), omega (arith, r, ap (λ (x : Tally). x.refusals) c.0))
all_counted t a r w (direct e ∷ ms) rs s v c =
    let same = c.2.1 in
    all_counted t a r c.1 ms rs.1 s v (subst (λ (x : Tally). TalliedCourse x c.1 ms rs.1 s v) same c.3)
all_counted t a r w (tallied packet ∷ ms) rs s v c =
    let m = c.2.0 in
    let o = rs.0.0.outcome in
    let one_answer = ap (λ (x : Tally). x.answers) m.tallied ∙ answers_by_one t a o in
    let one_refusal_lem = ap (λ (x : Tally). x.refusals) m.tallied ∙ refusals_by_one t r o in
    let rest = all_counted c.0 (omega (arith, one_answer)) (omega (arith, one_refusal_lem)) c.1 ms rs.1 s v c.3 in (
      in_turn t.answers _ (answers_told ms rs.1) c.0.answers s.answers one_answer rest.0,
      in_turn t.refusals _ (refusals_told ms rs.1) c.0.refusals s.refusals one_refusal_lem rest.1,
    )
