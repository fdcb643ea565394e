-- The conditions of delivery can be met, and each is needed: every condition is decided by computing, and so is what is
-- promised, and the examples of `Needed` are computed. They are computed with `Says`, which knows no state and no
-- storage and says what the calls are told (PastSaysLaws). Assumes nothing.
use Rattle.std.specs.Prelude.{ℕ, zero, suc, ◌*◌, ◌<◌, ◌≡◌, ◌≢◌, Bool, true, false, ◌&&◌, eqb, length, get_or}
use Rattle.std.proofs.Math.Path.{refl, sym, ap}
use Rattle.std.proofs.Common.{subst, ◌∙◌, arith}
use Rattle.std.proofs.Math.Logic.{⊎_elim, ite}
use Rattle.std.proofs.Math.Logic.Dec.{and as dec_and, not as dec_not}
use Rattle.std.proofs.lemmas.Bool.{false≢true}
use mathlib.Core.List.Memᴰ
use mathlib.Core.List.{List, [], ◌∷◌, Memᴰ}
use Rattle.std.proofs.lemmas.List.{length-replicate}
use borrow.Author.Tests.{eq-eqb}
use Rattle.octets.specs.FirstPlace.{first_place}
use Rattle.octets.specs.Number.{number, octets}
use Rattle.octets.specs.Run.{run}
use Rattle.ring.specs.declared.Verdict.{Verdict}
use Rattle.ring.specs.Check.{check, rule4, is_repeat}
use Rattle.ring.specs.Ring.{remainder, newer}
use Rattle.header.specs.declared.Cut.{Cut}
use Rattle.header.specs.Codes.{code_of, within}
use Rattle.header.specs.Head.{header, head_of, is_fixed}
use Rattle.header.specs.Layout.{layout, tabulate, octet_of}
use Rattle.cut.specs.Cutter.{pdu}
use Rattle.cut.specs.Pieces.{pieces, piece_length, piece, joined}
use Rattle.cut.specs.Possible.{unit, front_possible, last_possible, several_possible, possible}
use Rattle.map.specs.Map.{bit}
use Rattle.groups.specs.Groups.{each_group, groups_within}
use Rattle.state.specs.declared.Address.{Address}
use Rattle.state.specs.Limits.{new_among, given, addresses_within}
use Rattle.answers.specs.declared.Setup.{Setup}
use Rattle.answers.specs.Told.{OutcomeTold, delivered_as, MessageTold, message_told}
use Rattle.rules.specs.calls.First.{first}
use Rattle.rules.specs.calls.Message.{area}
use Rattle.rules.specs.calls.Setup.{setup_within, setup_answer}
use Rattle.rules.specs.pasts.Past.{World, Event, message, alive, clock, aside, step, answer_to, Said, said, Answers, answers, Start}
use Rattle.promised.proofs.AgreesLaws.{Agrees, agrees_start, agrees_step}
use Rattle.promised.proofs.BetweenLaws.{between_by}
use Rattle.promised.proofs.CameLaws.{decided, dec_by, dec_or, dec_true, dec_eq, dec_le, dec_octets, dec_cut, dec_piece, dec_brings, dec_came, others, one_applies}
use Rattle.promised.specs.Delivery.{Sent, PieceOf, name_in, open_for, verdict_for, May, Allowed, Between, OnlyPieces, OneApplies, is_last, is_one, came_before, all_came, Arrives, Once}
use Rattle.promised.specs.Judged.{in_order, is_from}
use Rattle.promised.specs.Log.{ToldOf, told_by, Exchange, exchange, logged, calls, time_of, deliveries, last_of, same_message, open_of, stamp_of}
use Rattle.promised.specs.Needed.{Example, sent, packet, start, before, log, answers_since, verdict, finds, outcome, part, Promise, Condition, registered, length_within, unit_within, version_not_0, unheard, no_repeat, none_newer, admits, only_pieces, kept, NoneAsked, Fulfilled, Met, Needed, example, tested, came_round, without, turned}
use Rattle.promised.proofs.PastSaysLaws.{says_is, agrees_after, log_is}
use Rattle.promised.specs.Says.{senders_of, newer_is_open, has_piece, octets_of, message_says, map_of, clock_says, says, log_of}

-- ---- decisions that compute

dec_if : {A B : Type 0} → Dec A → Dec B → Dec (A → B)
dec_if (yes a) (yes b) = yes (λ _. b)
dec_if (yes a) (no n) = no (λ f. n (f a))
dec_if (no n) d = yes (λ a. absurd (n a))

dec_false : (b : Bool) → Dec (b ≡ false)
dec_false true = no (λ e. false≢true (sym e))
dec_false false = yes refl

dec_address : (a b : Address) → Dec (a ≡ b)
dec_address a b = dec_by
    (λ f. λ i. record { field = record { 0 = f.0 i }; node = record { 0 = f.1 i } })
    (λ e. (rw e, rw e))
    (dec_and (dec_eq a.field.0 b.field.0) (dec_eq a.node.0 b.node.0))

-- Its CBN says which piece it is, if it is one.
dec_some : (m : Sent) (p : List ℕ) → Dec ((c : ℕ) × PieceOf m c p)
dec_some m p = dec_by
    (λ f. ((head_of p).cut.cbn, f))
    (λ f. let e : f.0 ≡ (head_of p).cut.cbn = sym (ap (λ (x : Cut). x.cbn) f.1.cut) in subst (λ (c : ℕ). PieceOf m c p) e f.1)
    (dec_piece m (head_of p).cut.cbn p)

-- ---- what is promised of the piece that comes

module _ (m : Sent) (es : List Event) (c : ℕ) where
  promised_by : OneApplies m es c → ℕ
  promised_by (is_last x) = 1
  promised_by (is_one x) = 0
  promised_by (came_before x) = 20
  promised_by (all_came x) = 17

  abbrev told : OutcomeTold → ℕ
  told t = t.number

  promised_is : (v : Verdict) (o : OutcomeTold) (part : List ℕ) → Arrives m v es c o part × Once m es o → (x : OneApplies m es c) → o.number ≡ promised_by x
  unfolding promised_by
  promised_is v o part a (is_last x) = ap told (a.0.delivered x).0
  promised_is v o part a (is_one x) = ap told (a.0.stored x)
  promised_is v o part a (came_before x) = ap told (a.0.held x)
  promised_is v o part a (all_came x) = ap told (a.1 x)

-- ---- whether something holds of every packet, and whether no clock call drops the message

abbrev Each : (List ℕ → Type 0) → List Event → Type 0
Each P es = (p : List ℕ) → Memᴰ (message p) es → P p

module _ (P : List ℕ → Type 0) (dec : (p : List ℕ) → Dec (P p)) where
  dec_brought : (e : Event) → Dec ((p : List ℕ) → message p ≡ e → P p)
  dec_brought (message q) = dec_by (λ f p e. let z : q ≡ p = cc in subst P z f) (λ f. f q refl) (dec q)
  dec_brought (alive q) = yes (λ p e. let z : ◌≡◌ {A = ℕ} 0 1 = cc in absurd (omega arith))
  dec_brought (clock now) = yes (λ p e. let z : ◌≡◌ {A = ℕ} 0 1 = cc in absurd (omega arith))
  dec_brought (aside call) = yes (λ p e. let z : ◌≡◌ {A = ℕ} 0 1 = cc in absurd (omega arith))

  dec_each : (es : List Event) → Dec (Each P es)
  dec_each [] = yes (λ p x. absurd (Memᴰ.not-nil x))
  dec_each (e ∷ es) = dec_by
      (λ f p x. ⊎_elim (f.0 p) (f.1 p) (Memᴰ.cases_cons x))
      (λ f. (λ p z. f p (Memᴰ.head z), λ p x. f p (Memᴰ.tail x)))
      (dec_and (dec_brought e) (dec_each es))

-- "no clock call drops it", where the calls are told what `Says` says.
module _ (q : Setup) (m : Sent) (i : ℕ) where
  abbrev KeptBy : List Exchange → List Event → Type 0
  KeptBy log [] = Unit {0}
  KeptBy log (e ∷ es) = let told = says q log e in Allowed NoneAsked m i log e told × KeptBy (exchange e told ∷ log) es

  kept_is : (log : List Exchange) (w : World) → Agrees q log w → (es : List Event) → Between NoneAsked m i log es (answers w es) ≡ KeptBy log es
  unfolding answers
  kept_is log w a [] = refl
  kept_is log w a (e ∷ es) =
      ap (λ (X : Type 0). Allowed NoneAsked m i log e (told_by e (said w e)) × X)
      (kept_is (exchange e (told_by e (said w e)) ∷ log) (step w e) (agrees_step q log w a e) es)
      ∙ ap (λ (t : ToldOf e). Allowed NoneAsked m i log e t × KeptBy (exchange e t ∷ log) es) (says_is q log w a e)

  dec_allowed : (log : List Exchange) (e : Event) (told : ToldOf e) → Dec (Allowed NoneAsked m i log e told)
  dec_allowed log (message p) told = yes (λ _. tt)
  dec_allowed log (alive p) told = yes tt
  dec_allowed log (clock ms) told = dec_if (dec_true (same_message (open_for m i log) (name_in m))) (dec_eq (bit i told.dropped) 0)
  dec_allowed log (aside call) told = yes tt

  dec_kept : (log : List Exchange) (es : List Event) → Dec (KeptBy log es)
  dec_kept log [] = yes tt
  dec_kept log (e ∷ es) = let told = says q log e in dec_and (dec_allowed log e told) (dec_kept (exchange e told ∷ log) es)

-- ---- what is said of an example

started : (q : Setup) → Start (start q)
unfolding start
started q = record { given = q; state = refl; room = length-replicate {A = ℕ} ((setup_answer q).state.count * area) 0 }

abbrev past_log : Example → List Exchange
past_log e = log_of e.setup [] e.past

-- What the piece is told.
abbrev told_in : (e : Example) → List Exchange → MessageTold × List ℕ
told_in e l = message_says e.setup (log_of e.setup l e.since) (packet e)

module _ (e : Example) where
  agrees_first : Agrees e.setup [] (start e.setup)
  unfolding started
  agrees_first = agrees_start (start e.setup) (started e.setup)

  agrees_before : Agrees e.setup (log e) (before e)
  agrees_before = agrees_after e.setup [] (start e.setup) agrees_first e.past

  past_is : past_log e ≡ log e
  past_is = sym (log_is e.setup [] (start e.setup) agrees_first e.past)

  told_is : ◌≡◌ {A = MessageTold × List ℕ} (message_told (answer_to (finds e) (packet e)), part e) (told_in e (past_log e))
  unfolding said says
  told_is =
      says_is e.setup (logged (log e) e.since (answers_since e)) (finds e)
      (agrees_after e.setup (log e) (before e) agrees_before e.since) (message (packet e))
      ∙ ap (λ (l : List Exchange). message_says e.setup l (packet e)) (log_is e.setup (log e) (before e) agrees_before e.since)
      ∙ ap (told_in e) (sym past_is)

-- ---- whether a condition of an example holds

-- A packet of the sender has another version or number.
abbrev Other : Example → List ℕ → Type 0
Other e p = is_from (sent e).address p ≡ true → (head_of p).given.version.0 ≡ (sent e).version.0 → (head_of p).given.number.0 ≢ (sent e).number.0

dec_other : (e : Example) (p : List ℕ) → Dec (Other e p)
dec_other e p = dec_if (dec_true (is_from (sent e).address p))
    (dec_if (dec_eq (head_of p).given.version.0 (sent e).version.0) (dec_not (dec_eq (head_of p).given.number.0 (sent e).number.0)))

-- Decided with a log that is the past's.
dec_at : (P : List Exchange → Type 0) (k l : List Exchange) → l ≡ k → Dec (P l) → Dec (P k)
dec_at P k l is = dec_by (subst P is) (subst P (sym is))

decide : (y : Condition) (e : Example) (l : List Exchange) → l ≡ log e → Dec (Fulfilled y e)
decide registered e l is =
    dec_and (dec_le (suc e.place) (length (senders_of e.setup))) (dec_address (given (senders_of e.setup) e.place) (sent e).address)
decide length_within e l is = dec_le (length e.octets) 16384
decide unit_within e l is = dec_true (within 256 1396 e.u)
decide version_not_0 e l is = dec_not (dec_eq (sent e).version.0 0)
decide unheard e l is = dec_at (λ k. Each (Other e) (calls k)) (log e) l is (dec_each (Other e) (dec_other e) (calls l))
decide no_repeat e l is = dec_at (λ k. is_repeat (verdict_for e.setup k (sent e)) ≡ false) (log e) l is (dec_false (is_repeat (verdict_for e.setup l (sent e))))
decide none_newer e l is = dec_at (λ k. newer_is_open (open_for (sent e) e.place k) (name_in (sent e)) ≡ false) (log e) l is
    (dec_false (newer_is_open (open_for (sent e) e.place l) (name_in (sent e))))
decide admits e l is = dec_false (eqb (sent e).mode 1 && eqb e.setup.mode 0)
decide only_pieces e l is = dec_each _ (λ p. dec_if (dec_true (is_from (sent e).address p)) (dec_some (sent e) p)) e.since
decide kept e l is =
    let same = kept_is e.setup (sent e) e.place (log e) (before e) (agrees_before e) e.since in
    dec_by (subst (λ (X : Type 0). X) (sym same)) (subst (λ (X : Type 0). X) same)
    (dec_at (λ k. KeptBy e.setup (sent e) e.place k e.since) (log e) l is (dec_kept e.setup (sent e) e.place l e.since))

-- ---- the examples, computed

failing : (e : Example) (l : List Exchange) → l ≡ log e → List Condition → List Condition
failing e l is [] = []
failing e l is (y ∷ ys) = ite (decide y e l is) (failing e l is ys) (y ∷ failing e l is ys)

conditions : List Condition
conditions =
    registered ∷ length_within ∷ unit_within ∷ version_not_0 ∷ unheard ∷ no_repeat ∷ none_newer ∷ admits ∷ only_pieces ∷ kept ∷ []

-- Whether what comes is the piece, which conditions fail, what is promised and what is answered, and whether that is
-- the same.
record Computed : Type 0 where
  is_piece : Bool
  fail : List Condition
  promised : ℕ
  answered : ℕ
  same : Bool

promise : Example → ℕ
promise e = promised_by (sent e) e.since e.piece (one_applies (sent e) e.since e.piece)

computed_with : (e : Example) (l : List Exchange) → l ≡ log e → Computed
computed_with e l is = record {
  is_piece = ite (dec_piece (sent e) e.piece (packet e)) true false;
  fail = failing e l is conditions;
  promised = promise e;
  answered = (told_in e l).0.outcome.number;
  same = eqb e.promised e.answered;
}

-- All that is computed with stands in this line: who unfolds `computed` unfolds it.
computed : Example → Computed
unfolding
    decided dec_by dec_if dec_or dec_true dec_false dec_eq dec_le dec_octets dec_cut dec_address dec_piece dec_some dec_brings dec_came others one_applies promised_by
    dec_brought dec_each dec_other dec_at dec_allowed dec_kept decide failing conditions promise computed_with dec_and dec_not
    example tested came_round without turned
    run number octets check rule4 remainder newer layout tabulate octet_of code_of header head_of is_fixed pdu pieces piece_length piece joined
    unit front_possible last_possible several_possible possible bit new_among addresses_within each_group groups_within setup_within first in_order is_from
    time_of deliveries last_of open_of stamp_of senders_of first_place has_piece octets_of message_says map_of clock_says says log_of
computed e = computed_with e (past_log e) (past_is e)

abbrev said_of : Example → List Condition → Bool → Computed
said_of e fail same = record { is_piece = true; fail = fail; promised = e.promised; answered = e.answered; same = same }

example_computed : computed example ≡ said_of example [] true
unfolding computed
example_computed = refl

tested_computed : computed tested ≡ said_of tested [] true
unfolding computed
tested_computed = refl

came_round_computed : computed came_round ≡ said_of came_round [] true
unfolding computed
came_round_computed = refl

-- These are delivered, octet for octet.
abbrev Delivers : Example → Type 0
Delivers e = ((told_in e (past_log e)).0.outcome ≡ delivered_as (verdict_for e.setup (past_log e) (sent e))) × ((told_in e (past_log e)).1 ≡ e.octets)

example_delivers : Delivers example
unfolding computed
example_delivers = (refl, refl)

tested_delivers : Delivers tested
unfolding computed
tested_delivers = (refl, refl)

came_round_delivers : Delivers came_round
unfolding computed
came_round_delivers = (refl, refl)

without_computed : (x : Condition) → computed (without x) ≡ said_of (without x) (x ∷ []) false
unfolding computed
without_computed registered = refl
without_computed length_within = refl
without_computed unit_within = refl
without_computed version_not_0 = refl
without_computed unheard = refl
without_computed no_repeat = refl
without_computed none_newer = refl
without_computed admits = refl
without_computed only_pieces = refl
without_computed kept = refl

turned_computed : computed turned ≡ said_of turned (none_newer ∷ []) false
unfolding computed
turned_computed = refl

-- ---- what the rows say

in_conditions : (y : Condition) → Memᴰ y conditions
unfolding conditions
in_conditions y = place y
  where
    nth : (l : List Condition) (k : ℕ) → k < length l → Memᴰ (get_or l k registered) l
    nth [] k h = absurd (omega arith)
    nth (x ∷ l) zero h = Memᴰ.head refl
    nth (x ∷ l) (suc k) h = Memᴰ.tail (nth l k (omega arith))

    place : (y : Condition) → Memᴰ y conditions
    place registered = nth conditions 0 (omega arith)
    place length_within = nth conditions 1 (omega arith)
    place unit_within = nth conditions 2 (omega arith)
    place version_not_0 = nth conditions 3 (omega arith)
    place unheard = nth conditions 4 (omega arith)
    place no_repeat = nth conditions 5 (omega arith)
    place none_newer = nth conditions 6 (omega arith)
    place admits = nth conditions 7 (omega arith)
    place only_pieces = nth conditions 8 (omega arith)
    place kept = nth conditions 9 (omega arith)

-- What is asked of the sender's packets holds of each that comes.
between_each : (m : Sent) (i : ℕ) (log : List Exchange) (es : List Event) (rs : Answers es) → Between (OnlyPieces m) m i log es rs
    → (p : List ℕ) → Memᴰ (message p) es → is_from m.address p ≡ true → (c : ℕ) × PieceOf m c p
between_each m i log [] rs f p there = absurd (Memᴰ.not-nil there)
between_each m i log (e ∷ es) rs f p there = ⊎_elim
    (λ (is : message p ≡ e). here e rs.0 f.0 is)
    (λ rest. between_each m i (exchange e (told_by e rs.0) ∷ log) es rs.1 f.1 p rest)
    (Memᴰ.cases_cons there)
  where
    here : (e : Event) (r : Said e) → Allowed (OnlyPieces m) m i log e (told_by e r) → message p ≡ e
        → is_from m.address p ≡ true → (c : ℕ) × PieceOf m c p
    here (message q) r f is = let z : q ≡ p = cc in subst (λ (x : List ℕ). is_from m.address x ≡ true → (c : ℕ) × PieceOf m c x) z f
    here (alive q) r f is = let z : ◌≡◌ {A = ℕ} 0 1 = cc in absurd (omega arith)
    here (clock ms) r f is = let z : ◌≡◌ {A = ℕ} 0 1 = cc in absurd (omega arith)
    here (aside call) r f is = let z : ◌≡◌ {A = ℕ} 0 1 = cc in absurd (omega arith)

module _ (e : Example) where
  module _ (l : List Exchange) (is : l ≡ log e) where
    fails_in : (ys : List Condition) (y : Condition) → Memᴰ y ys → ¬ Fulfilled y e → Memᴰ y (failing e l is ys)
    unfolding failing
    fails_in [] y i n = i
    fails_in (z ∷ zs) y i n = by (decide z e l is) (fails_in zs y)
      where
        by : (d : Dec (Fulfilled z e)) → (Memᴰ y zs → ¬ Fulfilled y e → Memᴰ y (failing e l is zs))
            → Memᴰ y (ite d (failing e l is zs) (z ∷ failing e l is zs))
        by (yes h) rest = ⊎_elim (λ (q : y ≡ z). absurd (n (subst (λ (x : Condition). Fulfilled x e) (sym q) h))) (λ j. rest j n) (Memᴰ.cases_cons i)
        by (no k) rest = ⊎_elim (λ (q : y ≡ z). Memᴰ.head q) (λ j. Memᴰ.tail (rest j n)) (Memᴰ.cases_cons i)

    in_fails : (ys : List Condition) (y : Condition) → Memᴰ y (failing e l is ys) → ¬ Fulfilled y e
    unfolding failing
    in_fails [] y i = absurd (Memᴰ.not-nil i)
    in_fails (z ∷ zs) y i = by (decide z e l is) (in_fails zs y) i
      where
        by : (d : Dec (Fulfilled z e)) → (Memᴰ y (failing e l is zs) → ¬ Fulfilled y e)
            → Memᴰ y (ite d (failing e l is zs) (z ∷ failing e l is zs)) → ¬ Fulfilled y e
        by (yes h) rest j = rest j
        by (no k) rest j = ⊎_elim (λ (q : y ≡ z). λ h. k (subst (λ (x : Condition). Fulfilled x e) q h)) rest (Memᴰ.cases_cons j)

  told_outcome : outcome e ≡ (told_in e (past_log e)).0.outcome
  told_outcome = ap (λ (t : MessageTold × List ℕ). t.0.outcome) (told_is e)

  promise_is : Promise e → (outcome e).number ≡ promise e
  unfolding promise
  promise_is a = promised_is (sent e) e.since e.piece (verdict e) (outcome e) (part e) a _

  -- What a computed says of its example.
  record Facts (fail : List Condition) (same : Bool) : Type 0 where
    is_piece : PieceOf (sent e) e.piece (packet e)
    holds : (y : Condition) → ¬ Memᴰ y fail → Fulfilled y e
    fails : (y : Condition) → Memᴰ y fail → ¬ Fulfilled y e
    kept_to : Promise e → same ≡ true

  row_facts : (fail : List Condition) (same : Bool) → computed e ≡ said_of e fail same → Facts fail same
  unfolding computed computed_with
  row_facts fail same r = record {
    is_piece = piece (dec_piece (sent e) e.piece (packet e)) (ap (λ (r : Computed). r.is_piece) r);
    holds = λ y out. decided_by (decide y e (past_log e) (past_is e)) (λ n. out (subst (Memᴰ y) q (fails_in (past_log e) (past_is e) conditions y (in_conditions y) n)));
    fails = λ y i. in_fails (past_log e) (past_is e) conditions y (subst (Memᴰ y) (sym q) i);
    kept_to = λ a.
        let told : (outcome e).number ≡ e.answered = ap (λ (o : OutcomeTold). o.number) told_outcome ∙ ap (λ (r : Computed). r.answered) r in
        let z : e.promised ≡ e.answered = sym (ap (λ (r : Computed). r.promised) r) ∙ sym (promise_is a) ∙ told in
        sym (ap (λ (r : Computed). r.same) r) ∙ eq-eqb e.promised e.answered z;
  }
    where
      q : failing e (past_log e) (past_is e) conditions ≡ fail
      q = ap (λ (r : Computed). r.fail) r

      piece : (d : Dec (PieceOf (sent e) e.piece (packet e))) → ite d true false ≡ true → PieceOf (sent e) e.piece (packet e)
      piece (yes h) z = h
      piece (no n) z = absurd (false≢true z)

      decided_by : {A : Type 0} → Dec A → (¬ A → ⊥) → A
      decided_by (yes h) f = h
      decided_by (no n) f = absurd (f n)

  -- The conditions are what the theorem asks for,
  pub conditions_between : Fulfilled only_pieces e → Fulfilled kept e
      → Between (OnlyPieces (sent e)) (sent e) e.place (log e) e.since (answers_since e)
  conditions_between f =
      between_by NoneAsked (OnlyPieces (sent e)) (sent e) e.place (log e) e.since (answers_since e) (λ p t there mine _. f p there mine)

  pub conditions_may : ((y : Condition) → Fulfilled y e) → May e.setup (log e) (sent e) e.place
  conditions_may h = record {
    here = (h registered).0;
    registered = (h registered).1;
    length_within = h length_within;
    unit_within = h unit_within;
    unheard = h unheard;
    no_repeat = h no_repeat;
    none_newer = h none_newer;
    admits = h admits;
  }

  -- and it asks for all of them.
  pub asked_conditions : (sent e).version.0 ≢ 0 → May e.setup (log e) (sent e) e.place
      → Between (OnlyPieces (sent e)) (sent e) e.place (log e) e.since (answers_since e) → (y : Condition) → Fulfilled y e
  asked_conditions version may between registered = (may.here, may.registered)
  asked_conditions version may between length_within = may.length_within
  asked_conditions version may between unit_within = may.unit_within
  asked_conditions version may between version_not_0 = version
  asked_conditions version may between unheard = may.unheard
  asked_conditions version may between no_repeat = may.no_repeat
  asked_conditions version may between none_newer = may.none_newer
  asked_conditions version may between admits = may.admits
  asked_conditions version may between only_pieces = between_each (sent e) e.place (log e) e.since (answers_since e) between
  asked_conditions version may between kept =
      between_by (OnlyPieces (sent e)) NoneAsked (sent e) e.place (log e) e.since (answers_since e) (λ p t there mine _. tt) between

-- ---- the conditions can be met, and each is needed

met : (e : Example) → computed e ≡ said_of e [] true → Delivers e → Met e
met e c d =
    let r = row_facts e [] true c in
    let all : (y : Condition) → Fulfilled y e = λ y. r.holds y (λ i. Memᴰ.not-nil i) in
    record {
      started = started e.setup;
      version = all version_not_0;
      may = conditions_may e all;
      between = conditions_between e (all only_pieces) (all kept);
      is_piece = r.is_piece;
      delivered = (
        told_outcome e ∙ d.0 ∙ ap (λ (l : List Exchange). delivered_as (verdict_for e.setup l (sent e))) (past_is e),
        ap (λ (t : MessageTold × List ℕ). t.1) (told_is e) ∙ d.1,
      );
    }

pub can_be_met : Met example × Met tested × Met came_round
can_be_met = (met example example_computed example_delivers, met tested tested_computed tested_delivers, met came_round came_round_computed came_round_delivers)

needed : (x : Condition) (e : Example) → computed e ≡ said_of e (x ∷ []) false → Needed x e
needed x e c =
    let r = row_facts e (x ∷ []) false c in
    record {
      started = started e.setup;
      is_piece = r.is_piece;
      others = λ y n. r.holds y (λ i. n (Memᴰ.eq_of_singleton i));
      fails = r.fails x (Memᴰ.head refl);
      broken = λ a. false≢true (r.kept_to a);
    }

pub each_needed : (x : Condition) → Needed x (without x)
each_needed x = needed x (without x) (without_computed x)

pub needed_round : Needed none_newer turned
needed_round = needed none_newer turned turned_computed
