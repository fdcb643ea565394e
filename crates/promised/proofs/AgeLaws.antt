-- With 17, and with nothing else, a packet is told how far its number lies behind the number last delivered. Assumes nothing.
use Rattle.std.specs.Prelude.{ℕ, ◌≤◌, ◌≡◌, ◌≢◌, Bool, true, false, List, [], ◌∷◌, ◌++◌, eqb, length, take, drop}
use Rattle.refusal.specs.declared.Refusal.TheVariants as refusals
use Rattle.std.proofs.Math.Path.{refl}
use Rattle.std.proofs.Common.{arith, eqb-true, ne_eqb}
use Rattle.octets.specs.Split.{cond_case}
use Rattle.ring.specs.declared.Number.{Number}
use Rattle.ring.specs.declared.Verdict.{Verdict}
use Rattle.ring.specs.declared.Version.{Version}
use Rattle.ring.specs.Check.{check, is_repeat}
use Rattle.ring.proofs.CheckLaws.{repeat_facts, age_none, no_age}
use Rattle.ring.specs.Ring.{OnRing}
use Rattle.ring.proofs.RingLaws.{remainder_bound, remainder_on}
use Rattle.header.specs.Head.{head_of}
use Rattle.state.specs.Table.{source}
use Rattle.answers.specs.declared.Setup.{Setup}
use Rattle.answers.specs.Told.{OutcomeTold, not_delivered, age_with, MessageTold, GroupTold}
use Rattle.rules.specs.calls.First.{Row, row, first}
use Rattle.rules.proofs.calls.FirstLaws.{first_none, first_neither, first_own, without}
use Rattle.rules.specs.calls.Multicast.{Tables}
use Rattle.rules.specs.pasts.Past.{World}
use Rattle.promised.specs.Age.{HowOld}
use Rattle.promised.proofs.AgreesLaws.{Agrees}
use Rattle.promised.specs.Join.{kin_of}
use Rattle.promised.specs.Log.{Exchange, Name, name_of, deliveries, last_of, accepted_with, open_of}
use Rattle.promised.proofs.MessageSaysLaws.{repeat_ring}
use Rattle.promised.specs.Says.{senders_of, place_of, rows_for, message_by, rows_cast, cast_by, verdict_after, message_says}

-- ---- by the rows

-- No other row has the number 17, neither in front of its own nor behind it.
record Alone (front back : List Row) : Type 0 where
  in_front : without 17 front ≡ true
  behind : without 17 back ≡ true

module _ (n1 : ℕ) (rv : Version) (r : Number) (v : Version) (s : Number) (front back : List Row) (alone : Alone front back) where
  abbrev verdict : Verdict
  verdict = check n1 rv r v s

  abbrev given : ℕ
  given = first (front ++ (row refusals.Repeat (is_repeat verdict) ∷ back))

  -- A refusal with 17 says how far back the repeat lies,
  refused_age : (given ≡ 17 → rv.0 ≢ 0 → OnRing r.0 × OnRing s.0) → HowOld n1 r s (not_delivered given (age_with given verdict))
  refused_age ring = record {
    age = λ e. let f = repeat_facts n1 rv r v s (repeats e) in rw (e, f.age_is) (remainder_bound r.0 s.0, remainder_on r.0 s.0);
    below = λ e. let f = repeat_facts n1 rv r v s (repeats e) in rw (e, f.age_is) f.age_below;
    none = λ e. let on = ring e (repeat_facts n1 rv r v s (repeats e)).last_some in rw e (age_none n1 rv r v s (repeats e) on.0 on.1);
    otherwise = λ ne. rw (ne_eqb given 17 ne);
  }
    where
      repeats : given ≡ 17 → is_repeat verdict ≡ true
      repeats = first_own refusals.Repeat (is_repeat verdict) front back alone.in_front alone.behind

  -- and what is taken is no repeat.
  taken_age : given ≡ 0 → (told : OutcomeTold) → told.number ≤ 1 → (is_repeat verdict ≡ false → told.age ≡ 0) → HowOld n1 r s told
  taken_age none told low plain =
      let own = (first_neither front (row refusals.Repeat (is_repeat verdict) ∷ back) none).1 in
      record {
        age = λ e. absurd (omega (arith, e, low));
        below = λ e. absurd (omega (arith, e, low));
        none = λ e. absurd (omega (arith, e, low));
        otherwise = λ _. plain (first_none _ (is_repeat verdict) back own).0;
      }

-- ---- a message, and a packet to a group

module _ (q : Setup) (last : Name) (packet : List ℕ) where
  abbrev its : Verdict
  its = verdict_after q last (name_of packet)

  abbrev Old : OutcomeTold → Type 0
  Old = HowOld q.n1 last.number (name_of packet).number

  message_alone : (packets : List (List ℕ)) → Alone (take 5 (rows_for q its packets packet)) (drop 6 (rows_for q its packets packet))
  unfolding without
  message_alone packets = record { in_front = refl; behind = refl }

  -- The last number and the packet's are 1 to M where k is 17.
  abbrev Ring : ℕ → Type 0
  Ring k = k ≡ 17 → last.version.0 ≢ 0 → OnRing last.number.0 × OnRing (name_of packet).number.0

  by_message : (i : ℕ) (packets : List (List ℕ)) → Ring (first (rows_for q its packets packet)) → Old (message_by q i its packets packet).0.outcome
  by_message i packets ring =
      let Told : MessageTold × List ℕ → Type 0 = λ t. Old t.0.outcome in
      cond_case Told (eqb (first (rows_for q its packets packet)) 0) _ _
      (λ e. cond_case Told (eqb (length (accepted_with packets packet)) (kin_of packet).tbn) _ _
      (λ _. taken_age _ _ _ _ _ _ _ (message_alone packets) (eqb-true _ 0 e) _ (omega arith) (no_age its))
      (λ _. taken_age _ _ _ _ _ _ _ (message_alone packets) (eqb-true _ 0 e) _ (omega arith) (λ _. refl)))
      (λ _. refused_age _ _ _ _ _ _ _ (message_alone packets) ring)

  cast_alone : (right : Bool) (g : ℕ) → Alone (take 7 (rows_cast q right its g packet)) []
  unfolding without
  cast_alone right g = record { in_front = refl; behind = refl }

  pub cast_age : (right : Bool) (t : Tables) (g : ℕ) → Ring (first (rows_cast q right its g packet)) → Old (cast_by q right its t g packet).0.outcome
  cast_age right t g ring =
      cond_case (λ (x : GroupTold × Tables × List ℕ). Old x.0.outcome) (eqb (first (rows_cast q right its g packet)) 0) _ _
      (λ e. taken_age _ _ _ _ _ _ _ (cast_alone right g) (eqb-true _ 0 e) _ (omega arith) (no_age its))
      (λ _. refused_age _ _ _ _ _ _ _ (cast_alone right g) ring)

pub message_age : (q : Setup) (log : List Exchange) (w : World) → Agrees q log w → (packet : List ℕ)
    → HowOld q.n1 (last_of (source (head_of packet)) (deliveries log)).number (name_of packet).number (message_says q log packet).0.outcome
unfolding message_says
message_age q log w agrees packet =
    let a = source (head_of packet) in
    let i = place_of (senders_of q) a in
    by_message q (last_of a (deliveries log)) packet i (open_of a i log) (repeat_ring q log w agrees packet)
