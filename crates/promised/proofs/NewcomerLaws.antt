-- What a packet is told where a message of its sender is open is what 02 says. Assumes nothing.
use Rattle.std.specs.Prelude.{ℕ, ◌≤◌, ◌<◌, ◌≡◌, refl, ◌≢◌, ◌⊎◌, Bool, true, false, cond, List, [], ◌∷◌, eqb, length, take, drop}
use Rattle.refusal.specs.declared.Refusal.TheVariants as refusals
use Rattle.std.proofs.Common.{sym, ap, subst, ◌∙◌, inl, inr, ⊎_elim, arith, eq-eqb, ne_eqb}
use Rattle.octets.specs.Split.{cond_case, eq_or_ne}
use Rattle.ring.specs.declared.Number.{Number}
use Rattle.ring.specs.declared.Verdict.{Verdict}
use Rattle.ring.specs.declared.Version.{Version}
use Rattle.ring.proofs.PrintedLaws.{newer_as_printed}
use Rattle.ring.specs.Ring.{newer}
use Rattle.header.specs.Head.{head_of}
use Rattle.state.specs.declared.Address.{Address}
use Rattle.state.specs.Table.{source}
use Rattle.answers.specs.declared.Setup.{Setup}
use Rattle.answers.specs.Told.{age_with, MessageTold, message_refused}
use Rattle.rules.specs.calls.First.{Row, row, first}
use Rattle.rules.proofs.calls.FirstLaws.{first_here, first_later, first_append}
use Rattle.promised.specs.Join.{kin_of}
use Rattle.promised.specs.Log.{Exchange, Name, no_name, name_of, deliveries, last_of, same_message, accepted_with}
use Rattle.promised.specs.Says.{senders_of, place_of, newer_is_open, rows_for, dropped_name, accepted, message_by, verdict_after, message_says}
use Rattle.promised.specs.Newcomer.{Under, LiesOn, fresh_told, Replaces, Late, Newcomer}

-- One of 12 to 17 is given, or none of them.
lower_given : (a b c d e f : Bool) → let k = first (row refusals.Length a ∷ row refusals.Header b ∷ row refusals.Sender c ∷ row refusals.Test d ∷ row refusals.Cut e ∷ row refusals.Repeat f ∷ []) in
    (k ≡ 0) ⊎ ((12 ≤ k) × (k ≤ 17))
unfolding first
lower_given true b c d e f = inr (omega arith, omega arith)
lower_given false true c d e f = inr (omega arith, omega arith)
lower_given false false true d e f = inr (omega arith, omega arith)
lower_given false false false true e f = inr (omega arith, omega arith)
lower_given false false false false true f = inr (omega arith, omega arith)
lower_given false false false false false true = inr (omega arith, omega arith)
lower_given false false false false false false = inl refl

not_18 : (g h : Bool) → first (row refusals.Differs g ∷ row refusals.Held h ∷ []) ≢ 18
unfolding first
not_18 true h e = omega (arith, e)
not_18 false true e = omega (arith, e)
not_18 false false e = omega (arith, e)

number : {t u : MessageTold} → t ≡ u → t.outcome.number ≡ u.outcome.number
number e = ap (λ (t : MessageTold). t.outcome.number) e

-- Where the packets of the open message are these.
module _ (q : Setup) (i : ℕ) (verdict : Verdict) (last : List ℕ) (others : List (List ℕ)) (packet : List ℕ) where
  abbrev packets : List (List ℕ)
  packets = last ∷ others

  -- 12 to 17, which do not hang on what is open, and 18 to 20, which do.
  abbrev lower_rows : List Row
  lower_rows = take 6 (rows_for q verdict [] packet)

  abbrev own_rows : List (List ℕ) → List Row
  own_rows ps = drop 6 (rows_for q verdict ps packet)

  abbrev given : ℕ
  given = first lower_rows

  given_lower : (given ≡ 0) ⊎ ((12 ≤ given) × (given ≤ 17))
  given_lower = lower_given _ _ _ _ _ _

  -- What is told with these packets open, by the number that is given.
  abbrev taken : List (List ℕ) → MessageTold × List ℕ
  taken ps = accepted i verdict (dropped_name ps packet) (accepted_with ps packet) packet

  abbrev told_by : ℕ → List (List ℕ) → MessageTold
  told_by k ps = (cond (eqb k 0) (taken ps) (message_refused k (age_with k verdict), [])).0

  abbrev told : List (List ℕ) → MessageTold
  told ps = (message_by q i verdict ps packet).0

  abbrev fresh : MessageTold
  fresh = told []

  told_is : (ps : List (List ℕ)) (k : ℕ) → cond (eqb given 0) (first (own_rows ps)) given ≡ k → told ps ≡ told_by k ps
  told_is ps k e = ap (λ (n : ℕ). told_by n ps) (first_append lower_rows (own_rows ps) ∙ e)

  refused_is : (ps : List (List ℕ)) (k : ℕ) → k ≢ 0 → told_by k ps ≡ message_refused k (age_with k verdict)
  refused_is ps k some = ap (λ (b : Bool). (cond b (taken ps) (message_refused k (age_with k verdict), [])).0) (ne_eqb k 0 some)

  told_lower : (ps : List (List ℕ)) → 12 ≤ given → told ps ≡ message_refused given (age_with given verdict)
  told_lower ps low =
      let some : given ≢ 0 = λ e. omega (arith, e, low) in
      told_is ps given (rw (ne_eqb given 0 some)) ∙ refused_is ps given some

  told_own : (ps : List (List ℕ)) → given ≡ 0 → told ps ≡ told_by (first (own_rows ps)) ps
  told_own ps none = told_is ps (first (own_rows ps)) (rw none)

  -- Where neither row 18 nor the open message's name applies, none of 18 to 20 does: so where nothing is open.
  none_own : (ps : List (List ℕ)) → newer_is_open ps (name_of packet) ≡ false → same_message ps (name_of packet) ≡ false → first (own_rows ps) ≡ 0
  unfolding first
  none_own ps late other = rw (late, other)

  told_taken : (ps : List (List ℕ)) → newer_is_open ps (name_of packet) ≡ false → same_message ps (name_of packet) ≡ false → given ≡ 0 → told ps ≡ (taken ps).0
  told_taken ps late other none = told_own ps none ∙ rw (none_own ps late other)

  fresh_taken : given ≡ 0 → fresh ≡ (taken []).0
  fresh_taken = told_taken [] refl refl

  -- Stored or delivered, and the same but for what is dropped.
  taken_number : (ps : List (List ℕ)) → (taken ps).0.outcome.number ≤ 1
  taken_number ps = cond_case (λ (t : MessageTold × List ℕ). t.0.outcome.number ≤ 1) (eqb (length (accepted_with ps packet)) (kin_of packet).tbn) _ _ (λ _. omega arith) (λ _. omega arith)

  alike : (dropped : Name) → Replaces dropped (accepted i verdict no_name (packet ∷ []) packet).0 (accepted i verdict dropped (packet ∷ []) packet).0
  alike dropped = by (eqb 1 (kin_of packet).tbn) refl
    where
      by : (b : Bool) → eqb 1 (kin_of packet).tbn ≡ b
          → Replaces dropped (accepted i verdict no_name (packet ∷ []) packet).0 (accepted i verdict dropped (packet ∷ []) packet).0
      by true e = record { outcome = rw e; held = rw e; lies = rw e; drops = λ _. (rw e, rw e) }
      by false e = record { outcome = rw e; held = rw e; lies = rw e; drops = λ _. (rw e, rw e) }

  replaces : newer_is_open packets (name_of packet) ≡ false → same_message packets (name_of packet) ≡ false → Replaces (name_of last) fresh (told packets)
  replaces late other = ⊎_elim
      (λ (none : given ≡ 0). rw (fresh_taken none, told_taken packets late other none, other) (alike (name_of last)))
      (λ (w : (12 ≤ given) × (given ≤ 17)). rw (told_lower [] w.0, told_lower packets w.0)
      (record { outcome = refl; held = refl; lies = refl; drops = λ small. absurd (omega (arith, small, w.0)) }))
      given_lower

  another : (name_of packet).version.0 ≢ (name_of last).version.0 → Replaces (name_of last) fresh (told packets)
  another apart =
      let other : eqb (head_of last).given.version.0 (head_of packet).given.version.0 ≡ false = ne_eqb _ _ (λ e. apart (sym e)) in
      replaces (rw other) (rw other)

  -- ---- of one version

  abbrev seq : Number
  seq = (head_of packet).given.number

  abbrev open_seq : Number
  open_seq = (head_of last).given.number

  module _ (d : ℕ) (on : LiesOn (name_of packet) (name_of last) d) where
    same_version : eqb (head_of last).given.version.0 (head_of packet).given.version.0 ≡ true
    same_version = eq-eqb _ _ (ap (λ (v : Version). v.0) (sym on.0))

    -- 18 hangs on the numbers alone.
    late_is : newer_is_open packets (name_of packet) ≡ newer open_seq seq
    late_is = rw same_version

    newer_replaces : 1 ≤ d → d ≤ 1073741823 → Replaces (name_of last) fresh (told packets)
    newer_replaces low high = replaces
        (late_is ∙ (newer_as_printed.newer_when seq open_seq d on.1 low high).1)
        (rw (same_version, ne_eqb open_seq.0 seq.0 (λ e. omega (arith, e, low, on.1.0, on.1.1))))

    older_late : 1073741823 < d → Late fresh (told packets)
    older_late far = ⊎_elim
        (λ (none : given ≡ 0). record {
          eighteen = λ _. told_own packets none
              ∙ rw (first_here refusals.Older (newer_is_open packets (name_of packet)) _ (late_is ∙ (newer_as_printed.older_when seq open_seq d on.1 far).1));
          lower = λ some. absurd (omega (arith, some, taken_number [], number (fresh_taken none)));
        })
        (λ (w : (12 ≤ given) × (given ≤ 17)). record {
          eighteen = λ small. absurd (omega (arith, small, w.0, number (told_lower [] w.0)));
          lower = λ _. told_lower packets w.0 ∙ sym (told_lower [] w.0);
        })
        given_lower

  not_late : LiesOn (name_of packet) (name_of last) 0 → (told packets).outcome.number ≢ 18
  not_late on e = ⊎_elim
      (λ (none : given ≡ 0). ⊎_elim
      (λ (z : own ≡ 0). omega (arith, e, taken_number packets, number (told_own packets none ∙ ap (λ (n : ℕ). told_by n packets) z)))
      (λ (some : own ≢ 0). not_given (sym (number (told_own packets none ∙ refused_is packets own some)) ∙ e))
      (eq_or_ne own 0))
      (λ (w : (12 ≤ given) × (given ≤ 17)). omega (arith, e, w.1, number (told_lower packets w.0)))
      given_lower
    where
      own : ℕ
      own = first (own_rows packets)

      not_given : own ≢ 18
      not_given = rw (first_later refusals.Older (newer_is_open packets (name_of packet)) _ (late_is 0 on ∙ (newer_as_printed.neither_when seq open_seq on.1).1)) (not_18 _ _)

  newcomer : Newcomer (name_of packet) (name_of last) fresh (told packets)
  newcomer = record { newer = newer_replaces; older = older_late; same = not_late; another = another }

pub newcomer_said : (q : Setup) (log : List Exchange) (packet : List ℕ) (opened : Name) → Under q log packet opened
    → Newcomer (name_of packet) opened (fresh_told q log packet) (message_says q log packet).0
unfolding message_says
newcomer_said q log packet opened under =
    subst (λ (n : Name). Newcomer (name_of packet) n (fresh_told q log packet) (message_says q log packet).0) under.is_named
    (subst (λ (ps : List (List ℕ)). Newcomer (name_of packet) (name_of under.last) (fresh_told q log packet) (message_by q i verdict ps packet).0) (sym under.is_open)
    (newcomer q i verdict under.last under.others packet))
  where
    a : Address
    a = source (head_of packet)

    i : ℕ
    i = place_of (senders_of q) a

    verdict : Verdict
    verdict = verdict_after q (last_of a (deliveries log)) (name_of packet)
