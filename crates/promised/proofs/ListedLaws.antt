-- "delivered once": among the deliveries of the calls since the past a message stands once if all its pieces came, and
-- before that not at all. Assumes nothing.
use Rattle.std.specs.Prelude.{ℕ, ◌≤◌, ◌<◌, ◌≡◌, ◌≢◌, ◌⊎◌, true, false, ◌&&◌, length}
use Rattle.std.proofs.Math.Path.{refl, subst}
use Rattle.std.proofs.Common.{sym, ap, ◌∙◌, inl, inr, arith, eq-eqb, ne_eqb}
use Rattle.std.proofs.Math.Logic.{⊎_elim}
use mathlib.Core.List.{List, [], ◌∷◌, ◌++◌, append_assoc, append-nil}
use Rattle.std.proofs.Math.Dec.{eqb}
use Rattle.octets.specs.Split.{eq_or_ne, true_or_false, never_both, and_right}
use Rattle.ring.specs.declared.Verdict.{Verdict}
use Rattle.ring.specs.Check.{is_repeat, verdict_number}
use Rattle.ring.proofs.RingLaws.{same_version, same_number}
use Rattle.header.specs.Head.{head_of}
use Rattle.state.specs.declared.Address.{Address}
use Rattle.state.specs.Limits.{same_address, given}
use Rattle.state.specs.Table.{source}
use Rattle.state.proofs.WithinLaws.{same_is}
use Rattle.answers.specs.declared.Setup.{Setup}
use Rattle.answers.specs.Told.{least_refusal, OutcomeTold, not_delivered, delivered_as, MessageTold, message_told}
use Rattle.rules.specs.calls.Message.{message_number}
use Rattle.rules.specs.calls.Setup.{settings_by}
use Rattle.rules.specs.pasts.Past.{World, Event, message, alive, clock, aside, step, answer_to, part_to, said, answers}
use Rattle.promised.proofs.AgreesLaws.{Agrees}
use Rattle.promised.proofs.BetweenLaws.{between_by}
use Rattle.promised.proofs.CameLaws.{one_applies}
use Rattle.promised.specs.Delivery.{Sent, Numbered, PieceOf, Brings, Came, name_in, verdict_for, May, Allowed, Between, OnlyPieces, ElseRefused, AllCame, LastMissing, OneApplies, is_last, is_one, came_before, all_came, Arrives, Once, is_its, delivered_of, Listed}
use Rattle.promised.proofs.DeliveryLaws.{OnItsWay, stands, tells, way_step, way_same, arrives, cuttable, on_its_way}
use Rattle.promised.specs.Judged.{in_order, is_from, sent_from}
use Rattle.promised.proofs.KeptLaws.{refused_told, refused_above, refused_packet}
use Rattle.promised.specs.Log.{told_by, Exchange, exchange, logged, Name, Delivery, delivered_by, deliveries, last_of}
use Rattle.promised.proofs.PieceLaws.{Cuttable, first_numbered, piece_number}
use Rattle.promised.specs.Says.{senders_of, verdict_after}
use Rattle.promised.proofs.ViewLaws.{Registered}

-- ---- one call more

came_more : (m : Sent) (d : ℕ) (done : List Event) (e : Event) → Came m d (done ++ (e ∷ [])) → Came m d done ⊎ Brings m d e
came_more m d [] e x = ⊎_elim inr (λ (y : ⊥). absurd y) x
came_more m d (f ∷ done) e x = ⊎_elim (λ y. inl (inl y)) (λ y. ⊎_elim (λ z. inl (inr z)) inr (came_more m d done e y)) x

came_still : (m : Sent) (d : ℕ) (done : List Event) (e : Event) → Came m d done ⊎ Brings m d e → Came m d (done ++ (e ∷ []))
came_still m d [] e x = ⊎_elim (λ (y : ⊥). absurd y) inl x
came_still m d (f ∷ done) e (inl (inl y)) = inl y
came_still m d (f ∷ done) e (inl (inr y)) = inr (came_still m d done e (inl y))
came_still m d (f ∷ done) e (inr y) = inr (came_still m d done e (inr y))

module _ (m : Sent) (verdict : Verdict) (done : List Event) (e : Event) where
  abbrev then : List Event
  then = done ++ (e ∷ [])

  -- A call that brings no new piece and no delivery of the message.
  same_listed : (ds es : List Delivery) → delivered_of m es ≡ delivered_of m ds → (AllCame m then → AllCame m done) → Listed m verdict done ds → Listed m verdict then es
  same_listed ds es same back l = record {
    not_yet = λ not_all. same ∙ l.not_yet (λ all. not_all (λ d numbered. came_still m d done e (inl (all d numbered))));
    once = λ some all. same ∙ l.once some (back all);
  }

  -- One that brings a piece while another is missing.
  more_listed : (ds es : List Delivery) → delivered_of m es ≡ delivered_of m ds → ¬ (AllCame m done) → (d : ℕ) → Numbered m d → ¬ (Came m d then) → Listed m verdict done ds
      → Listed m verdict then es
  more_listed ds es same before d numbered missing l = record {
    not_yet = λ _. same ∙ l.not_yet before;
    once = λ some all. absurd (missing (all d numbered));
  }

module _ (q : Setup) (m : Sent) (k : Cuttable m) (i : ℕ) (here : i < length (senders_of q)) (registered : given (senders_of q) i ≡ m.address)
    (admits : eqb m.mode 1 && eqb q.mode 0 ≡ false) (last : Name) (new : is_repeat (verdict_after q last (name_in m)) ≡ false) where
  abbrev verdict : Verdict
  verdict = verdict_after q last (name_in m)

  module _ (done : List Event) (log : List Exchange) (w : World) (o : OnItsWay q m k i here registered admits last new (λ d. Came m d done) log w)
      (ds : List Delivery) (l : Listed m verdict done ds) where
    abbrev outcome : List ℕ → OutcomeTold
    outcome p = (message_told (answer_to w p)).outcome

    abbrev delivered : List ℕ → List Delivery
    delivered p = delivered_by (message p) (message_told (answer_to w p), part_to w p)

    none_delivered : (p : List ℕ) → (outcome p).number ≢ 1 → delivered_of m (delivered p ++ ds) ≡ delivered_of m ds
    none_delivered p ne = rw (ne_eqb (outcome p).number 1 ne)

    -- The last missing piece.
    last_listed : (c : ℕ) (p : List ℕ) → PieceOf m c p → LastMissing m done c → outcome p ≡ delivered_as verdict → part_to w p ≡ m.octets
        → Listed m verdict (done ++ (message p ∷ [])) (delivered p ++ ds)
    last_listed c p is x told part = record {
      not_yet = λ not_all. absurd (not_all (λ d numbered. came_still m d done (message p) (⊎_elim
          (λ (e : d ≡ c). inr (subst (λ (y : ℕ). PieceOf m y p) (sym e) is))
          (λ (e : d ≢ c). inl (x.1 d numbered e))
          (eq_or_ne d c))));
      once = λ some all. ap (λ (y : List Delivery). delivered_of m (y ++ ds)) delivered_is
          ∙ (unfold delivered_of in rw its_own (ap (λ (y : List Delivery). its ∷ y) (l.not_yet (λ before. x.0 (before c is.numbered)))));
    }
      where
        its : Delivery
        its = record { sender = m.address; name = name_in m; octets = m.octets; verdict = verdict_number verdict }

        own : same_address m.address (source (head_of p)) ≡ true
        own = unfold is_from in and_right (in_order p) (sent_from m.address p) is.from

        from_is : m.address ≡ source (head_of p)
        from_is = same_is m.address (source (head_of p)) own

        delivered_is : delivered p ≡ its ∷ []
        delivered_is = rw (told, part, ← from_is, same_version is.version, same_number is.number)

        its_own : is_its m its ≡ true
        its_own = rw (eq-eqb m.version.0 m.version.0 refl, eq-eqb m.number.0 m.number.0 refl, subst (λ (a : Address). same_address m.address a ≡ true) (sym from_is) own)

    piece_listed : (c : ℕ) (p : List ℕ) → PieceOf m c p → Listed m verdict (done ++ (message p ∷ [])) (delivered p ++ ds)
    piece_listed c p is = by (one_applies m done c)
      where
        arrived : Arrives m verdict done c (outcome p) (part_to w p) × (m.version.0 ≢ 0 → Once m done (outcome p))
        arrived = arrives q m k i here registered admits last new done log w o c p is

        not_told : (n : ℕ) → outcome p ≡ not_delivered n 0 → n ≢ 1 → delivered_of m (delivered p ++ ds) ≡ delivered_of m ds
        not_told n told ne = none_delivered p (λ z. ne (sym (ap (λ (t : OutcomeTold). t.number) told) ∙ z))

        by : OneApplies m done c → Listed m verdict (done ++ (message p ∷ [])) (delivered p ++ ds)
        by (is_last x) = last_listed c p is x (arrived.0.delivered x).0 (arrived.0.delivered x).1
        by (is_one x) = more_listed m verdict done (message p) ds (delivered p ++ ds) (not_told 0 (arrived.0.stored x) (λ z. omega (arith, z)))
            (λ all. x.0 (all c is.numbered)) x.1.0 x.1.1
            (λ came. ⊎_elim x.1.3 (λ (y : PieceOf m x.1.0 p). x.1.2 (sym (piece_number m k x.1.0 p y) ∙ piece_number m k c p is)) (came_more m x.1.0 done (message p) came)) l
        by (came_before x) = more_listed m verdict done (message p) ds (delivered p ++ ds) (not_told 20 (arrived.0.held x) (λ z. omega (arith, z)))
            (λ all. x.1.2 (all x.1.0 x.1.1)) x.1.0 x.1.1
            (λ came. ⊎_elim x.1.2
            (λ (y : PieceOf m x.1.0 p). x.1.2 (subst (λ (d : ℕ). Came m d done) (sym (piece_number m k c p is) ∙ piece_number m k x.1.0 p y) x.0))
            (came_more m x.1.0 done (message p) came)) l
        by (all_came x) = record {
          not_yet = λ not_all. absurd (not_all (λ d numbered. came_still m d done (message p) (inl (x d numbered))));
          once = λ some all. not_told 17 (arrived.1 some x) (λ z. omega (arith, z)) ∙ l.once some x;
        }

    -- A packet of the sender's that is no piece is refused, and what else is delivered is another's.
    refused_listed : (p : List ℕ) → ((c : ℕ) → ¬ (PieceOf m c p)) → least_refusal ≤ (outcome p).number → Listed m verdict (done ++ (message p ∷ [])) (delivered p ++ ds)
    refused_listed p none more = same_listed m verdict done (message p) ds (delivered p ++ ds) (none_delivered p (λ z. omega (arith, more, z)))
        (λ all d numbered. ⊎_elim (λ y. y) (λ (y : PieceOf m d p). absurd (none d y)) (came_more m d done (message p) (all d numbered))) l

    other_listed : (p : List ℕ) → is_from m.address p ≡ false → Listed m verdict (done ++ (message p ∷ [])) (delivered p ++ ds)
    other_listed p e = same_listed m verdict done (message p) ds (delivered p ++ ds) another
        (λ all d numbered. ⊎_elim (λ y. y) (λ (y : PieceOf m d p). absurd (never_both y.from e)) (came_more m d done (message p) (all d numbered))) l
      where
        as_registered : Registered (settings_by q) m.address i w
        as_registered = stands q m k i here registered admits last new (λ d. Came m d done) log w o

        not_in_order : sent_from m.address p ≡ true → (outcome p).number ≢ 1
        not_in_order own z =
            let ne = refused_packet (settings_by q) m.address i w as_registered log (tells q m k i here registered admits last new (λ d. Came m d done) log w o) p own e in
            let is : (outcome p).number ≡ message_number w.state (length w.storage) p = ap (λ (t : MessageTold). t.outcome.number) (refused_told w p ne) in
            omega (arith, z, is, refused_above w p ne)

        another : delivered_of m (delivered p ++ ds) ≡ delivered_of m ds
        another = ⊎_elim
            (λ (own : sent_from m.address p ≡ true). none_delivered p (not_in_order own))
            (λ (other : sent_from m.address p ≡ false). ⊎_elim
            (λ (one : eqb (outcome p).number 1 ≡ true). unfold delivered_of in rw (one, other))
            (λ (no : eqb (outcome p).number 1 ≡ false). rw no)
            (true_or_false (eqb (outcome p).number 1)))
            (true_or_false (sent_from m.address p))

    step_listed : (e : Event) → Allowed (ElseRefused m) m i log e (told_by e (said w e)) → Listed m verdict (done ++ (e ∷ [])) (delivered_by e (told_by e (said w e)) ++ ds)
    unfolding said
    step_listed (message p) f = ⊎_elim
        (λ (mine : is_from m.address p ≡ true). ⊎_elim (λ is. piece_listed is.0 p is.1) (λ not. refused_listed p not.0 not.1) (f mine))
        (λ (e : is_from m.address p ≡ false). other_listed p e)
        (true_or_false (is_from m.address p))
    step_listed (alive p) f = same_listed m verdict done (alive p) ds ds refl (λ all d numbered. ⊎_elim (λ y. y) (λ (y : ⊥). absurd y) (came_more m d done (alive p) (all d numbered))) l
    step_listed (clock ms) f = same_listed m verdict done (clock ms) ds ds refl (λ all d numbered. ⊎_elim (λ y. y) (λ (y : ⊥). absurd y) (came_more m d done (clock ms) (all d numbered))) l
    step_listed (aside call) f = same_listed m verdict done (aside call) ds ds refl
        (λ all d numbered. ⊎_elim (λ y. y) (λ (y : ⊥). absurd y) (came_more m d done (aside call) (all d numbered))) l

  -- ---- the calls since the past

  pub listed_after : (done : List Event) (log since : List Exchange) (w : World) → OnItsWay q m k i here registered admits last new (λ d. Came m d done) log w
      → Listed m verdict done (deliveries since) → (es : List Event) → Between (ElseRefused m) m i log es (answers w es)
      → Listed m verdict (done ++ es) (deliveries (logged since es (answers w es)))
  unfolding answers logged deliveries
  listed_after done log since w o l [] f = subst (λ (es : List Event). Listed m verdict es (deliveries since)) (sym (append-nil done)) l
  listed_after done log since w o l (e ∷ es) f =
      let told = told_by e (said w e) in
      let way = way_same q m k i here registered admits last new (λ d. Came m d done ⊎ Brings m d e) (λ d. Came m d (done ++ (e ∷ []))) (exchange e told ∷ log) (step w e)
      (λ d. came_still m d done e) (λ d. came_more m d done e) (way_step q m k i here registered admits last new (λ d. Came m d done) log w o e f.0) in
      subst (λ (x : List Event). Listed m verdict x (deliveries (logged (exchange e told ∷ since) es (answers (step w e) es)))) (append_assoc done (e ∷ []) es)
      (listed_after (done ++ (e ∷ [])) (exchange e told ∷ log) (exchange e told ∷ since) (step w e) way (step_listed done log w o (deliveries since) l e f.0) es f.1)

-- "among the deliveries of the calls since"
module _ (q : Setup) (log : List Exchange) (w : World) (a : Agrees q log w) (m : Sent) (i : ℕ) (may : May q log m i) where
  none_yet : Listed m (verdict_for q log m) [] []
  unfolding delivered_of
  none_yet = record { not_yet = λ _. refl; once = λ some all. absurd (all 1 (first_numbered m (cuttable q log w a m i may))) }

  pub listed_among : (es : List Event) → Between (ElseRefused m) m i log es (answers w es) → Listed m (verdict_for q log m) es (deliveries (logged [] es (answers w es)))
  unfolding deliveries
  listed_among es f = listed_after q m (cuttable q log w a m i may) i may.here may.registered may.admits (last_of m.address (deliveries log)) may.no_repeat
      [] log [] w (on_its_way q log w a m i may) none_yet es f

  pub listed_only : (es : List Event) → Between (OnlyPieces m) m i log es (answers w es) → Listed m (verdict_for q log m) es (deliveries (logged [] es (answers w es)))
  listed_only es f = listed_among es (between_by (OnlyPieces m) (ElseRefused m) m i log es (answers w es) (λ p t there mine is. inl is) f)
