-- What is told tells the answer: each answer is read back from its number and values, so no other is told alike.
-- Assumes nothing.
use Rattle.std.specs.Prelude.{ℕ, ◌≡◌, refl, cond, ◌≢◌, eqb, Some, None, Ok, Err}
use Rattle.std.proofs.Common.{sym, ap, ◌∙◌, ⊎_elim, arith, ne_eqb}
use Rattle.refusal.specs.declared.Refusal.{Refusal}
use Rattle.refusal.specs.Numbers.{number_of}
use Rattle.refusal.proofs.NumbersLaws.{nine_or_more, refusal_from, refusal_back}
use Rattle.octets.specs.Split.{eq_or_ne}
use Rattle.ring.specs.declared.Verdict.{Verdict}
use Rattle.ring.specs.declared.Verdict.TheVariants.{Unchecked, First, Restart, Repeat, Next, Gap}
use Rattle.ring.specs.Check.{verdict_number, verdict_skipped, verdict_age}
use Rattle.state.specs.declared.Receiver.{Receiver}
use Rattle.answers.specs.declared.Answer.{Answer}
use Rattle.answers.specs.declared.GroupAnswer.{GroupAnswer}
use Rattle.answers.specs.declared.Outcome.{Outcome}
use Rattle.answers.specs.declared.Outcome.TheVariants as outcome
use Rattle.answers.specs.declared.Where.{Where}
use Rattle.answers.specs.declared.Where.TheVariants as lies
use Rattle.answers.specs.Told.{RefusedAs, OutcomeTold, outcome_told, age_with, refusal, WhereTold, where_told, MessageTold, message_told, GroupTold, group_told, Call, call_number, Missing, QuestionTold, question_told, OutcomeTells, CallTells, MissingTells}

-- ---- a refusal's number is told by no other case

pub refused_outcome : (o : Outcome) (k : ℕ) → RefusedAs (outcome_told o).number k
    → (r : Refusal) × ((number_of r ≡ k) × (o ≡ outcome.Refused r (outcome_told o).age))
refused_outcome (outcome.Refused r age) k t = (r, (t.0, refl))
refused_outcome outcome.Stored k t = absurd (omega (arith, t.0, t.1))
refused_outcome (outcome.Delivered v) k t = absurd (omega (arith, t.0, t.1))

pub refused_call : (c : Call) (k : ℕ) → RefusedAs (call_number c) k → (r : Refusal) × ((number_of r ≡ k) × (c ≡ Err r))
refused_call (Ok x) k t = absurd (omega (arith, t.0, t.1))
refused_call (Err r) k t = (r, (t.0, refl))

pub refused_missing : (m : Missing) (k : ℕ) → RefusedAs (question_told m).number k → (r : Refusal) × ((number_of r ≡ k) × (m ≡ Err r))
refused_missing (Err r) k t = (r, (t.0, refl))
refused_missing (Ok None) k t = absurd (omega (arith, t.0, t.1))
refused_missing (Ok (Some m)) k t = absurd (omega (arith, t.0, t.1))

-- ---- how old a repeat was

-- Of a refusal with another number than 17 what the check says is not asked,
pub refusal_plain : (r : Refusal) (v : Verdict) → number_of r ≢ 17 → refusal r v ≡ outcome.Refused r 0
refusal_plain r v other = rw (ne_eqb (number_of r) 17 other)

-- so two have one age if the check says the same of them where 17 is given.
pub age_same : (k : ℕ) (v u : Verdict) → (k ≡ 17 → v ≡ u) → age_with k v ≡ age_with k u
age_same k v u same = ⊎_elim (λ (e : k ≡ 17). ap (age_with k) (same e)) (λ (n : k ≢ 17). rw (ne_eqb k 17 n)) (eq_or_ne k 17)

-- ---- the outcome, read back

verdict_from : (number skipped age : ℕ) → Verdict
verdict_from n k d =
    cond (eqb n 1) First (cond (eqb n 2) Next (cond (eqb n 3) Restart (cond (eqb n 4) (Gap k) (cond (eqb n 5) Unchecked (Repeat d)))))

verdict_back : (v : Verdict) → verdict_from (verdict_number v) (verdict_skipped v) (verdict_age v) ≡ v
unfolding verdict_from
verdict_back Unchecked = refl
verdict_back First = refl
verdict_back Restart = refl
verdict_back (Repeat d) = refl
verdict_back Next = refl
verdict_back (Gap k) = refl

outcome_from : OutcomeTold → Outcome
outcome_from t =
    cond (eqb t.number 0) outcome.Stored
    (cond (eqb t.number 1) (outcome.Delivered (verdict_from t.verdict t.skipped t.age)) (outcome.Refused (refusal_from t.number) t.age))

outcome_back : (o : Outcome) → outcome_from (outcome_told o) ≡ o
unfolding outcome_from
outcome_back (outcome.Refused r age) =
    rw (ne_eqb (number_of r) 0 (λ z. omega (arith, z, nine_or_more r)), ne_eqb (number_of r) 1 (λ z. omega (arith, z, nine_or_more r)), refusal_back r)
outcome_back outcome.Stored = refl
outcome_back (outcome.Delivered v) = ap outcome.Delivered (verdict_back v)

pub one_outcome : (a b : Outcome) → outcome_told a ≡ outcome_told b → a ≡ b
one_outcome a b e = sym (outcome_back a) ∙ ap outcome_from e ∙ outcome_back b

-- "1 delivered"
pub delivered_outcome : (o : Outcome) → (outcome_told o).number ≡ 1 → (v : Verdict) × (o ≡ outcome.Delivered v)
delivered_outcome (outcome.Refused r age) e = absurd (omega (arith, nine_or_more r, e))
delivered_outcome outcome.Stored e = absurd (omega (arith, e))
delivered_outcome (outcome.Delivered v) e = (v, refl)

-- Each tells so.
pub outcome_tells : (o : Outcome) → OutcomeTells o
outcome_tells (outcome.Refused r age) = nine_or_more r
outcome_tells outcome.Stored = tt
outcome_tells (outcome.Delivered v) = tt

-- ---- the message call's answer, read back

where_from : WhereTold → Where
where_from t = cond (eqb t.slice 0) lies.Nothing (cond (eqb t.slice 1) lies.Packet (lies.Storage t.start t.length))

where_back : (p : Where) → where_from (where_told p) ≡ p
unfolding where_from
where_back lies.Nothing = refl
where_back lies.Packet = refl
where_back (lies.Storage start length) = refl

answer_from : MessageTold → Receiver → Answer
answer_from t w = record {
  outcome = outcome_from t.outcome;
  held = t.held;
  dropped = record { version = record { 0 = t.dropped_version }; number = record { 0 = t.dropped_number } };
  lies = where_from t.lies;
  state = w;
}

answer_back : (a : Answer) → answer_from (message_told a) a.state ≡ a
unfolding answer_from
answer_back a = rw (outcome_back a.outcome, where_back a.lies)

-- With the state, all of it is told.
pub one_answer : (a b : Answer) → message_told a ≡ message_told b → a.state ≡ b.state → a ≡ b
one_answer a b e f = sym (answer_back a) ∙ rw (e, f) (answer_back b)

-- ---- the multicast call's answer, read back

group_from : GroupTold → GroupAnswer
group_from t = record { outcome = outcome_from t.outcome; lies = where_from t.lies }

group_back : (a : GroupAnswer) → group_from (group_told a) ≡ a
unfolding group_from
group_back a = rw (outcome_back a.outcome, where_back a.lies)

pub one_group : (a b : GroupAnswer) → group_told a ≡ group_told b → a ≡ b
one_group a b e = sym (group_back a) ∙ ap group_from e ∙ group_back b

-- ---- the other calls

call_from : ℕ → Call
call_from k = cond (eqb k 0) (Ok tt) (Err (refusal_from k))

call_back : (c : Call) → call_from (call_number c) ≡ c
unfolding call_from
call_back (Ok x) = refl
call_back (Err r) = rw (ne_eqb (number_of r) 0 (λ z. omega (arith, z, nine_or_more r)), refusal_back r)

pub one_call : (a b : Call) → call_number a ≡ call_number b → a ≡ b
one_call a b e = sym (call_back a) ∙ ap call_from e ∙ call_back b

pub call_tells : (c : Call) → CallTells c
call_tells (Ok x) = tt
call_tells (Err r) = nine_or_more r

missing_from : QuestionTold → Missing
missing_from t = cond (eqb t.number 0) (Ok (cond t.«open» (Some (record { sender = t.sender; piece = t.piece })) None)) (Err (refusal_from t.number))

missing_back : (m : Missing) → missing_from (question_told m) ≡ m
unfolding missing_from
missing_back (Err r) = rw (ne_eqb (number_of r) 0 (λ z. omega (arith, z, nine_or_more r)), refusal_back r)
missing_back (Ok None) = refl
missing_back (Ok (Some m)) = refl

pub one_missing : (a b : Missing) → question_told a ≡ question_told b → a ≡ b
one_missing a b e = sym (missing_back a) ∙ ap missing_from e ∙ missing_back b

pub missing_tells : (m : Missing) → MissingTells m
missing_tells (Ok m) = tt
missing_tells (Err r) = nine_or_more r
