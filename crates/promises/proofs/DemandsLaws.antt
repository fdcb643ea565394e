-- The demands, proved: every course is the one that `rules` speaks of, and of that one `rules` has proved them. Assumes
-- nothing.
use Rattle.std.specs.Prelude.{ℕ, ◌+◌, ◌*◌, ◌≤◌, ◌≡◌, ◌≢◌, ◌⊎◌, Bool, true, false, not, cond, List, [], ◌∷◌, Result, Ok, Err, eqb, length}
use Rattle.std.proofs.Math.Path.{refl, sym}
use Rattle.std.proofs.Common.{ap, subst, ◌∙◌, inr, arith, eq-eqb}
use Rattle.std.proofs.Math.Logic.{inl}
use Rattle.std.proofs.lemmas.Bool.{not-true}
use Rattle.octets.specs.Split.{never_both, cond_case}
use Rattle.ring.specs.declared.Verdict.{Verdict}
use Rattle.ring.specs.declared.Verdict.TheVariants.{Unchecked, First, Restart, Repeat, Next, Gap}
use Rattle.ring.specs.Check.{verdict_number, is_repeat}
use Rattle.header.specs.declared.Head.{Head}
use Rattle.refusal.specs.declared.Refusal.{Refusal}
use Rattle.refusal.specs.declared.Refusal.TheVariants as refusals
use Rattle.refusal.specs.Numbers.{number_of}
use Rattle.refusal.proofs.NumbersLaws.{nine_or_more}
use Rattle.header.specs.Head.{head_of}
use Rattle.header.specs.Places.{header_size}
use Rattle.cut.specs.Cutter.{cuts, cutter_answer, cutter_buffer, cutter_told}
use Rattle.cut.specs.Pieces.{piece_length}
use Rattle.state.specs.declared.Address.{Address}
use Rattle.state.specs.declared.Receiver.{Receiver}
use Rattle.state.specs.declared.Sender.{Sender}
use Rattle.state.proofs.HeldLaws as held
use Rattle.state.specs.Limits.{given, valid}
use Rattle.state.specs.State.{sender_at, empty_receiver}
use Rattle.state.specs.Table.{source, found}
use Rattle.answers.specs.declared.Answer.{Answer}
use Rattle.answers.specs.declared.Outcome.{Outcome}
use Rattle.answers.specs.declared.Outcome.TheVariants as outcome
use Rattle.answers.specs.declared.Setup.{Setup}
use Rattle.answers.specs.declared.Where.TheVariants as lies
use Rattle.answers.specs.declared.Started.{Started}
use Rattle.answers.specs.Told.{RefusedAs, OutcomeTold, outcome_told, where_told, HasVerdict, MessageTold, message_told, message_refused, group_refused, call_number}
use Rattle.answers.proofs.ToldLaws.{outcome_tells, call_tells, missing_tells}
use Rattle.promised.specs.Age.{HowOld}
use Rattle.promised.proofs.AgeLaws.{message_age}
use Rattle.promised.specs.AlivePast.{AliveBy}
use Rattle.rules.specs.calls.Admit.{sender_rows, verdict_of, admitted, fills}
use Rattle.rules.proofs.calls.AdmitLaws.{admitted_facts}
use Rattle.rules.specs.calls.Alive.{alive_rows}
use Rattle.promised.proofs.CameLaws.{one_applies}
use Rattle.rules.specs.calls.Clock.{not_ticked}
use Rattle.promised.specs.Delivery.{Sent, Between, OnlyPieces, verdict_for, Arrives, Once, Listed}
use Rattle.promised.proofs.DeliveryLaws.{arrives_only}
use Rattle.promised.proofs.ListedLaws.{listed_only}
use Rattle.promised.proofs.AgreesLaws.{Agrees, agrees_start}
use Rattle.promised.specs.Newcomer.{fresh_told, Newcomer}
use Rattle.promised.proofs.NewcomerLaws as newcomer
use Rattle.promised.proofs.PastSaysLaws.{says_is, agrees_after, log_is, told_alive}
use Rattle.promised.proofs.MessageSaysLaws.{safe}
use Rattle.promised.specs.Says.{senders_of, place_of, says}
use Rattle.promised.proofs.SaysLaws.{held_says_lem}
use Rattle.promised.specs.Log.{told_by, Exchange, logged, name_of, deliveries, last_of, accepted_with, open_of, life_of}
use Rattle.rules.proofs.calls.ExactlyLaws.{message_with, message_given, alive_with, alive_given, clock_with, clock_given, question_with, question_given, multicast_with, multicast_given, setup_refuses, setup_given}
use Rattle.rules.specs.calls.First.{Row, row, Given}
use Rattle.rules.proofs.calls.FirstLaws.{above, given_above, first_neither, given_refusal, check_case}
use Rattle.promised.specs.Join.{Joined}
use Rattle.rules.specs.calls.Multicast.{cast_rows}
use Rattle.rules.specs.calls.Message.{area, message_rows, where_by, refused, packet_rows, message_number, taken, message_answer}
use Rattle.rules.specs.pasts.Past.{World, Event, message, alive, clock, aside, question, multicast, step, after, Said, said, Answers}
use Rattle.rules.proofs.pasts.PastLaws.{Sound}
use Rattle.rules.specs.calls.Setup.{setup_within}
use Rattle.promises.specs.Course.{SetupMeets, Course}
use Rattle.promises.proofs.CourseLaws.{one_call, one_course, next_call, course_start, course_sound}
use Rattle.promises.specs.Demands.{number_in, NothingMore, rows_of, Refuses, CallsRefuse, SetupRefuses, CutterRefuses, Tells, NumbersTell, VerdictTold, NothingHanded, NeverNine, EverySaid, LogIs, WhoIsAlive, DeliveredOnce, ListedOnce, Safety, HeldSaid, HeldIsOnes, DifferMeetsNine, NewcomerSaid, AgeSaid}

-- ---- demand 1

-- What holds of each refusal that is given holds of each number that is.
by_refusal : (rs : List Row) (P : ℕ → Type 0) → ((r : Refusal) → Given rs (number_of r) → P (number_of r)) → (k : ℕ) → Given rs k → P k
by_refusal rs P f k g =
    let is = given_refusal rs k g in
    subst P is.1 (f is.0 (subst (Given rs) (sym is.1) g))

-- Whether it is 17 is asked once or twice.
asked_once : (k age : ℕ) → cond (eqb k 17) age 0 ≡ cond (eqb k 17) (cond (eqb k 17) age 0) 0
asked_once k age = by (eqb k 17)
  where
    by : (b : Bool) → cond b age 0 ≡ cond b (cond b age 0) 0
    by true = refl
    by false = refl

said_given : (w : World) (e : Event) (k : ℕ) → RefusedAs (number_in e (said w e)) k → Given (rows_of w e) k
unfolding said
said_given w (message packet) = message_given w.state w.storage packet
said_given w (alive packet) = alive_given w.state packet
said_given w (clock now) = clock_given w.state now
said_given w (aside question) = question_given w.state
said_given w (aside (multicast t g packet)) = multicast_given w.state t g packet

-- What is said with a refusal that is given, and left.
said_refused : (w : World) (e : Event) (r : Refusal) → Given (rows_of w e) (number_of r)
    → (number_in e (said w e) ≡ number_of r) × (NothingMore e (said w e) (number_of r) × (step w e ≡ w))
unfolding said step
said_refused w (message packet) r g = unfold refused in
    let f = message_with w.state w.storage packet r g in
    (rw f.0, ((rw f.0 (ap (message_refused (number_of r)) (asked_once (number_of r) _)), rw f.0), rw (f.0, f.1)))
said_refused w (alive packet) r g =
    let f = alive_with w.state packet r g in
    (rw f, (rw f, rw f))
said_refused w (clock now) r g = unfold not_ticked in
    let f = clock_with w.state now r g in
    (rw f, (rw f, rw f))
said_refused w (aside question) r g =
    let f = question_with w.state r g in
    (rw f, (rw f, refl))
said_refused w (aside (multicast t g packet)) r given =
    let f = multicast_with w.state t g packet r given in
    (rw f.0, ((rw f.0 (ap (group_refused (number_of r)) (asked_once (number_of r) _)), f.1, rw f.0), refl))

said_refuses : (w : World) (e : Event) → Refuses (rows_of w e) (number_in e (said w e)) (λ k. NothingMore e (said w e) k × (step w e ≡ w))
said_refuses w e = record {
  only_if = said_given w e;
  if_first = by_refusal (rows_of w e) (λ k. RefusedAs (number_in e (said w e)) k) (λ r g. ((said_refused w e r g).0, nine_or_more r));
  nothing = λ k t.
      by_refusal (rows_of w e) (λ j. NothingMore e (said w e) j × (step w e ≡ w)) (λ r g. (said_refused w e r g).1) k (said_given w e k t);
}

pub calls_refuse : CallsRefuse
calls_refuse w e r v m =
    let is = one_call w e r v m in
    subst (λ (x : Said e). Refuses (rows_of w e) (number_in e x) (λ k. NothingMore e x k × (v ≡ w))) (sym is.0)
    (subst (λ (x : World). Refuses (rows_of w e) (number_in e (said w e)) (λ k. NothingMore e (said w e) k × (x ≡ w))) (sym is.1) (said_refuses w e))

-- One row, which applies or not.
one_row : (r : Refusal) (b : Bool) (number : ℕ) (left : Type 0) → ((j : ℕ) → RefusedAs number j → (j ≡ number_of r) × (b ≡ true)) → (b ≡ true → number ≡ number_of r)
    → (b ≡ true → left) → Refuses (row r b ∷ []) number (λ j. left)
one_row r b number left only must leaves = record {
  only_if = λ j a. unfold Given in inl ((only j a).1, sym (only j a).0);
  if_first = λ j g. unfold Given in from_row g;
  nothing = λ j a. leaves (only j a).1;
}
  where
    from_row : {j : ℕ} → ((b ≡ true) × (number_of r ≡ j)) ⊎ ((b ≡ false) × ⊥) → RefusedAs number j
    from_row (inl g) = (must g.0 ∙ g.1, omega (arith, nine_or_more r, g.1))
    from_row (inr g) = absurd g.1

pub setup_refuses_all : SetupRefuses
setup_refuses_all q r w m = one_row refusals.Setup (not (setup_within q)) (call_number r.call) (w.state ≡ empty_receiver)
    (λ j a. let f = setup_given q j (sym (ap (λ (x : Started). call_number x.call) m.answered) ∙ a.0, a.1) in (f.0, rw f.1))
    (λ b. ap (λ (x : Started). call_number x.call) (refused b))
    (λ b. m.handed_on ∙ ap (λ (x : Started). x.state) (refused b))
  where
    refused : not (setup_within q) ≡ true → r ≡ record { call = Err refusals.Setup; state = empty_receiver }
    refused b = m.answered ∙ setup_refuses q (not-true (setup_within q) b)

pub cutter_refuses_all : CutterRefuses
unfolding cutter_answer cutter_buffer
cutter_refuses_all g octets u c buffer r left m = one_row refusals.Writing (not written) (cutter_told r).number (((cutter_told r).length ≡ 0) × (left ≡ buffer))
    (λ j a. turned written j (sym (ap (λ (x : Result ℕ Refusal). (cutter_told x).number) m.answered) ∙ a.0, a.1))
    (λ b. ap (λ (x : Result ℕ Refusal). (cutter_told x).number) m.answered ∙ rw (not-true written b))
    (λ b. (ap (λ (x : Result ℕ Refusal). (cutter_told x).length) m.answered ∙ rw (not-true written b), m.written ∙ rw (not-true written b)))
  where
    written : Bool
    written = cuts g octets u c (length buffer)

    turned : (b : Bool) (j : ℕ) → RefusedAs (cutter_told (cond {A = Result ℕ Refusal} b (Ok (header_size + piece_length (length octets) u c)) (Err refusals.Writing))).number j
        → (j ≡ 23) × (not b ≡ true)
    turned true j a = absurd (omega (arith, a.0, a.1))
    turned false j a = (sym a.0, refl)

tells : (e : Event) (r : Said e) → Tells e r
tells (message packet) r = outcome_tells r.0.outcome
tells (alive packet) r = call_tells r.call
tells (clock now) r = call_tells r.call
tells (aside question) r = missing_tells r
tells (aside (multicast t g packet)) r = outcome_tells r.0.outcome

pub numbers_tell : NumbersTell
numbers_tell = (λ w e r v m. tells e r, λ q r w m. call_tells r.call)

-- What is no repeat has a verdict.
verdict_some : (v : Verdict) → is_repeat v ≡ false → 1 ≤ verdict_number v
verdict_some Unchecked e = omega arith
verdict_some First e = omega arith
verdict_some Restart e = omega arith
verdict_some (Repeat d) e = absurd (never_both refl e)
verdict_some Next e = omega arith
verdict_some (Gap k) e = omega arith

module _ (w : Receiver) (storage packet : List ℕ) where
  abbrev h : Head
  h = head_of packet

  abbrev s : Sender
  s = sender_at w (found w h)

  taken_verdict : message_number w (length storage) packet ≡ 0 → HasVerdict (outcome_told (taken w (found w h) s h).outcome)
  unfolding message_rows taken admitted
  taken_verdict none =
      let late = (first_neither (packet_rows (valid w) w.count (found w h) (length storage) packet h) (sender_rows w.test w.n1 s h) none).1 in
      cond_case (λ (o : Outcome). HasVerdict (outcome_told o)) (fills s h) _ _
      (λ _ _. verdict_some (verdict_of w.n1 s h) (admitted_facts w.test w.n1 s h late).no_repeat) (λ _ z. absurd (omega (arith, z)))

  message_verdict : HasVerdict (message_told (message_answer w (length storage) packet)).outcome
  unfolding message_answer refused
  message_verdict = check_case (λ (a : Answer). HasVerdict (message_told a).outcome) (message_rows w (length storage) packet) _ _
      taken_verdict
      (λ r e z. absurd (omega (arith, z, nine_or_more r)))

pub verdict_told : VerdictTold
unfolding said
verdict_told w packet r v m = subst (λ (x : Said (message packet)). HasVerdict (message_told x.0).outcome) (sym (one_call w (message packet) r v m).0)
    (message_verdict w.state w.storage packet)

-- A number is not given where its row does not apply and the others' numbers are above it,
not_given : (r : Refusal) (b : Bool) (rs : List Row) → b ≡ false → above (number_of r) rs ≡ true → ¬ (Given (row r b ∷ rs) (number_of r))
unfolding Given
not_given r b rs e a (inl g) = never_both g.0 e
not_given r b rs e a (inr g) = omega (arith, given_above (number_of r) rs (number_of r) a g.1)

-- nor where another's row comes first and it is not given behind.
pub not_behind : (j : ℕ) (r : Refusal) (b : Bool) (rs : List Row) → number_of r ≢ j → ¬ (Given rs j) → ¬ (Given (row r b ∷ rs) j)
unfolding Given
not_behind j r b rs ne none (inl g) = ne g.1
not_behind j r b rs ne none (inr g) = none g.1

not_above : (j : ℕ) (rs : List Row) → above j rs ≡ true → ¬ (Given rs j)
not_above j rs a g = omega (arith, given_above j rs j a g)

-- Neither 9 nor 11 is given where 9 does not apply, and 11 is not given behind.
neither : (b : Bool) (rs : List Row) → b ≡ true → above 9 rs ≡ true → ¬ (Given rs 11) → ¬ (Given (row refusals.State (not b) ∷ rs) 9) × ¬ (Given (row refusals.State (not b) ∷ rs) 11)
neither b rs e a none = (not_given refusals.State (not b) rs (rw e) a, not_behind 11 refusals.State (not b) rs (λ z. omega (arith, z)) none)

-- A valid state meets no 9, and storage of the right length no 11.
never_given : (w : World) → Sound w → (e : Event) → ¬ (Given (rows_of w e) 9) × ¬ (Given (rows_of w e) 11)
unfolding message_rows sender_rows alive_rows cast_rows above
never_given w s (message packet) = neither _ _ s.is_valid refl
    (not_given refusals.Storage (not (eqb (length w.storage) (w.state.count * area))) _ (rw (eq-eqb (length w.storage) (w.state.count * area) s.room)) refl)
never_given w s (alive packet) = neither _ _ s.is_valid refl (not_above 11 _ refl)
never_given w s (clock now) = neither _ _ s.is_valid refl (not_above 11 _ refl)
never_given w s (aside question) = neither _ _ s.is_valid refl (not_above 11 _ refl)
never_given w s (aside (multicast t g packet)) = neither _ _ s.is_valid refl (not_above 11 _ refl)

pub never_nine : NeverNine
never_nine q r w m es rs v c e a u meets =
    let never = never_given v (course_sound q r w m es rs v c) e in
    let only = (calls_refuse v e a u meets).only_if in
    (λ n. never.0 (only 9 n), λ n. never.1 (only 11 n))

-- ---- what a receiver says

module _ (q : Setup) (r : Started) (w : World) (m : SetupMeets q r w) (es : List Event) (rs : Answers es) (v : World) (c : Course w es rs v) where
  -- State and log of a course agree.
  pub course_agrees : Agrees q (logged [] es rs) v
  course_agrees =
      let one = one_course w es rs v c in
      subst (λ (x : World). Agrees q (logged [] es rs) x) (sym one.1)
      (subst (λ (x : Answers es). Agrees q (logged [] es x) (after w es)) (sym one.0)
      (agrees_after q [] w (agrees_start w (course_start q r w m)) es))

pub every_said : EverySaid
every_said q r w m es rs v c e a u meets =
    ap (told_by e) (one_call v e a u meets).0 ∙ says_is q (logged [] es rs) v (course_agrees q r w m es rs v c) e

pub held_said : HeldSaid
held_said q r w m es rs v c i k asked =
    asked.answered ∙ held_says_lem q (logged [] es rs) v (course_agrees q r w m es rs v c) i

pub held_is_ones : HeldIsOnes
held_is_ones q r w m es rs v c i k here asked =
    let a = course_agrees q r w m es rs v c in
    asked.answered ∙ held.held_is_ones v.state i a.sound.is_valid (omega (arith, here, a.count))

pub newcomer_said : NewcomerSaid
unfolding says
newcomer_said q r w m es rs v c packet a u meets opened under =
    subst (λ (t : MessageTold). Newcomer (name_of packet) opened (fresh_told q (logged [] es rs) packet) t)
    (ap (λ (t : MessageTold × List ℕ). t.0) (sym (every_said q r w m es rs v c (message packet) a u meets)))
    (newcomer.newcomer_said q (logged [] es rs) packet opened under)

pub age_said : AgeSaid
unfolding says
age_said q r w m es rs v c packet a u meets =
    let log = logged [] es rs in
    subst (HowOld q.n1 (last_of (source (head_of packet)) (deliveries log)).number (name_of packet).number)
    (ap (λ (t : MessageTold × List ℕ). t.0.outcome) (sym (every_said q r w m es rs v c (message packet) a u meets)))
    (message_age q log v (course_agrees q r w m es rs v c) packet)

-- Row 9 is the first of every call.
nine_first : (b : Bool) (rs : List Row) → b ≡ false → Given (row refusals.State (not b) ∷ rs) 9
unfolding Given
nine_first b rs e = inl (rw e, refl)

nine_given : (w : World) → valid w.state ≡ false → (e : Event) → Given (rows_of w e) 9
unfolding message_rows alive_rows cast_rows
nine_given w e (message packet) = nine_first _ _ e
nine_given w e (alive packet) = nine_first _ _ e
nine_given w e (clock now) = nine_first _ _ e
nine_given w e (aside question) = nine_first _ _ e
nine_given w e (aside (multicast t g packet)) = nine_first _ _ e

pub differ_meets_nine : DifferMeetsNine
differ_meets_nine w i here is differ e r v meets =
    (calls_refuse w e r v meets).if_first 9 (nine_given w (held.differ_nine w.state i here is differ) e)

pub log_fixed : LogIs
log_fixed q r w m es rs v c =
    ap (logged [] es) (one_course w es rs v c).0 ∙ log_is q [] w (agrees_start w (course_start q r w m)) es

-- What is not delivered hands over nothing, whatever the state.
nothing_lies : (w : Receiver) (room : ℕ) (packet : List ℕ) → (message_told (message_answer w room packet)).outcome.number ≢ 1 → (message_answer w room packet).lies ≡ lies.Nothing
unfolding message_answer refused taken
nothing_lies w room packet = check_case (λ (a : Answer). (message_told a).outcome.number ≢ 1 → a.lies ≡ lies.Nothing) (message_rows w room packet) _ _
    (λ _. of_outcome (admitted w.n1 w.clock (sender_at w (found w (head_of packet))) (head_of packet)).outcome)
    (λ r _ _. refl)
  where
    of_outcome : (o : Outcome) → (outcome_told o).number ≢ 1 → where_by o (found w (head_of packet)) (head_of packet) ≡ lies.Nothing
    of_outcome (outcome.Refused r age) ne = refl
    of_outcome outcome.Stored ne = refl
    of_outcome (outcome.Delivered v) ne = absurd (ne refl)

pub none_handed : NothingHanded
unfolding said
none_handed w packet r v meets ne =
    let is = (one_call w (message packet) r v meets).0 in
    let none : (message_answer w.state (length w.storage) packet).lies ≡ lies.Nothing
    = nothing_lies w.state (length w.storage) packet (subst (λ (x : Said (message packet)). (message_told x.0).outcome.number ≢ 1) is ne) in
    (ap (λ (x : Said (message packet)). where_told x.0.lies) is ∙ ap where_told none, ap (λ (x : Said (message packet)). x.1) is ∙ rw none)

-- ---- demand 2

pub alive_is : WhoIsAlive
alive_is q r w m es rs v c i here =
    let a = given (senders_of q) i in
    subst (λ (x : Answers es). ((life_of a i (logged [] es x)).alive ≡ true → AliveBy a es) × (AliveBy a es → (life_of a i (logged [] es x)).alive ≡ true))
    (sym (one_course w es rs v c).0) (told_alive w (course_start q r w m) es i here)

-- ---- demand 3

pub delivers : DeliveredOnce
unfolding said
delivers q r w m past rs v c sent i may es ts u d between k packet is a x meets =
    let agrees = course_agrees q r w m past rs v c in
    let log = logged [] past rs in
    let one = one_course v es ts u d in
    let only = arrives_only q log v agrees sent i may es (subst (Between (OnlyPieces sent) sent i log es) one.0 between) k packet is in
    let said-is = (next_call v es ts u d (message packet) a x meets).0 in
    let promised = subst (λ (y : Said (message packet)). Promised q log sent es k (outcome_told y.0.outcome) y.1) (sym said-is) only in
    (promised.0, promised.1, one_applies sent es k)
  where
    Promised : Setup → List Exchange → Sent → List Event → ℕ → OutcomeTold → List ℕ → Type 0
    Promised q log sent es k told part = Arrives sent (verdict_for q log sent) es k told part × (sent.version.0 ≢ 0 → Once sent es told)

pub listed_once : ListedOnce
listed_once q r w m past rs v c sent i may es ts u d between =
    let log = logged [] past rs in
    let one = (one_course v es ts u d).0 in
    subst (λ (y : Answers es). Listed sent (verdict_for q log sent) es (deliveries (logged [] es y))) (sym one)
    (listed_only q log v (course_agrees q r w m past rs v c) sent i may es (subst (Between (OnlyPieces sent) sent i log es) one between))

pub is_safe : Safety
unfolding said
is_safe q r w m es rs v c packet a u meets gave =
    let is = (one_call v (message packet) a u meets).0 in
    let join = safe q (logged [] es rs) v (course_agrees q r w m es rs v c) packet (subst (λ (y : Said (message packet)). (message_told y.0).outcome.number ≡ 1) is gave) in
    subst (λ (y : Said (message packet)). Joined (accepted_with (open_of from (place_of (senders_of q) from) (logged [] es rs)) packet) packet y.1) (sym is) join
  where
    from : Address
    from = source (head_of packet)
