-- A message is delivered once, octet for octet, at the arrival of its last missing piece. Assumes nothing.
use Rattle.std.specs.Prelude.{ℕ, ◌≤◌, ◌<◌, refl, ◌≢◌, ◌⊎◌, true, false, not, cond, ◌&&◌, ◌||◌, eqb, length}
use Rattle.std.proofs.Math.Path.{◌≡◌, subst}
use Rattle.std.proofs.Common.{sym, ap, ◌∙◌, arith, eqb-true, ne_eqb}
use Rattle.std.proofs.Math.Logic.{inl, inr, ⊎_elim}
use mathlib.Core.List.Memᴰ
use mathlib.Core.List.{List, [], ◌∷◌, Memᴰ}
use Rattle.std.proofs.Math.Dec.{ltb}
use Rattle.octets.specs.Split.{eq_or_ne, true_or_false, never_both, cond_case, not_both}
use Rattle.ring.specs.Check.{is_repeat}
use Rattle.header.specs.Head.{head_of}
use Rattle.cut.specs.Pieces.{piece, joined}
use Rattle.cut.proofs.PiecesLaws.{pieces_join, joined_same}
use Rattle.map.specs.Map.{bit}
use Rattle.state.specs.declared.Address.{Address}
use Rattle.state.specs.declared.Last.{Last}
use Rattle.state.specs.Limits.{given, clock_most}
use Rattle.state.specs.State.{sender_at, Settings}
use Rattle.answers.specs.declared.Outcome.{Outcome}
use Rattle.answers.specs.declared.Outcome.TheVariants.{Delivered}
use Rattle.answers.specs.declared.Setup.{Setup}
use Rattle.answers.specs.Told.{least_refusal, outcome_told, message_told}
use Rattle.rules.specs.calls.Admit.{rejoins, fills}
use Rattle.rules.specs.calls.Clock.{drops, clock_answer}
use Rattle.rules.proofs.calls.ClockLaws.{not_reported}
use Rattle.rules.specs.calls.Setup.{setup_within, settings_by}
use Rattle.rules.proofs.calls.SetupLaws.{setup_facts}
use Rattle.rules.specs.pasts.Past.{World, Event, message, alive, clock, aside, step, after, answer_to, part_to, said, answers}
use Rattle.promised.proofs.AgreesLaws.{Agrees, agrees_step}
use Rattle.promised.proofs.BetweenLaws.{between_by}
use Rattle.promised.specs.Delivery.{Sent, count, Numbered, PieceOf, Brings, Came, name_in, open_for, verdict_for, Allowed, Between, OnlyPieces, ElseRefused, May, Arrives, Once}
use Rattle.promised.specs.Join.{Kin, kin_of, Joined}
use Rattle.promised.specs.Judged.{is_from}
use Rattle.promised.proofs.KeptLaws.{TellsLog, open_each}
use Rattle.promised.specs.Log.{ToldOf, told_by, Exchange, exchange, logged, calls, Name, deliveries, last_of, same_message, open_by, open_of}
use Rattle.promised.proofs.LogLaws.{last_in, message_each, clock_each, named_same, newer_same, told_delivered, told_stored}
use Rattle.promised.proofs.MessageSaysLaws.{online_is}
use Rattle.promised.proofs.PhaseLaws.{Unfinished, Phase, phase_same, phase_start, phase_next, phase_last, phase_more, phase_held, phase_once, phase_clock}
use Rattle.promised.proofs.PieceLaws.{Cuttable, least, is_open, newer_open, piece_kin, piece_number, piece_octets}
use Rattle.promised.proofs.SafeLaws.{joined_part}
use Rattle.promised.specs.Says.{senders_of, verdict_after}
use Rattle.promised.specs.View.{View, view, sees, number_of, outcome_view, next_view, tick_view, step_view}
use Rattle.promised.proofs.ViewLaws.{Registered, registered_view, registered_outcome}

-- ---- setup's arguments

module _ (q : Setup) where
  -- Where there is a sender, setup was accepted.
  accepted_by : (i : ℕ) → i < length (senders_of q) → setup_within q ≡ true
  unfolding senders_of
  accepted_by i here = ⊎_elim
      (λ e. e)
      (λ (e : setup_within q ≡ false). let none : i < 0 = rw e at here in absurd (omega arith))
      (true_or_false (setup_within q))

-- ---- one call

module _ (q : Setup) (m : Sent) (k : Cuttable m) (i : ℕ) (here : i < length (senders_of q)) (registered : given (senders_of q) i ≡ m.address)
    (admits : eqb m.mode 1 && eqb q.mode 0 ≡ false) (last : Name) (new : is_repeat (verdict_after q last (name_in m)) ≡ false) where
  abbrev g : Settings
  g = settings_by q

  abbrev accepted : setup_within q ≡ true
  accepted = accepted_by q i here

  abbrev one : 1 ≤ q.n1
  one = (setup_facts q accepted).n1_some

  admitted_mode : eqb m.mode 1 && not g.test ≡ false
  admitted_mode = online_is (eqb m.mode 1) q.mode (setup_facts q accepted).mode ∙ admits

  -- A packet of the message's version and number that was accepted is one of its pieces.
  abbrev Own : List ℕ → Type 0
  Own o = (head_of o).given.version.0 ≡ m.version.0 → (head_of o).given.number.0 ≡ m.number.0 → (c : ℕ) × PieceOf m c o

  -- The message on its way: which pieces came, and what was accepted for it.
  pub record OnItsWay (C : ℕ → Type 0) (log : List Exchange) (w : World) : Type 0 where
    pub agrees : Agrees q log w
    pub own : (o : List ℕ) → Memᴰ o (open_for m i log) → Own o
    pub phase : Phase m (last_in last) C (view w i).sender

  module _ (C : ℕ → Type 0) (log : List Exchange) (w : World) (o : OnItsWay C log w) where
    abbrev v : View
    v = view w i

    place : i < w.state.count
    place = omega (arith, here, o.agrees.count)

    pub stands : Registered g m.address i w
    stands = record {
      sound = o.agrees.sound;
      here = place;
      settings = o.agrees.settings accepted;
      address = o.agrees.address i place ∙ registered;
    }

    pub tells : TellsLog m.address i log w
    tells = subst (λ (a : Address). TellsLog a i log w) registered (o.agrees.tells i place)

    on_step : (D : ℕ → Type 0) (e : Event)
        → ((p : List ℕ) → message p ≡ e → is_from m.address p ≡ true → (message_told (answer_to w p)).outcome.number ≡ 0 → Own p)
        → Phase m (last_in last) D (step_view g v (sees m.address e)).sender → OnItsWay D (exchange e (told_by e (said w e)) ∷ log) (step w e)
    on_step D e own phase = record {
      agrees = agrees_step q log w o.agrees e;
      own = open_each g m.address i w stands log tells Own o.own e own;
      phase = subst (λ (x : View). Phase m (last_in last) D x.sender) (sym (registered_view g m.address i w stands e)) phase;
    }

    -- ---- a packet of the sender's own

    same_pieces : (D : ℕ → Type 0) → ((d : ℕ) → D d → ⊥) → Phase m (last_in last) C v.sender → Phase m (last_in last) (λ d. C d ⊎ D d) v.sender
    same_pieces D none = phase_same m (last_in last) C (λ d. C d ⊎ D d) v.sender (λ d x. inl x) (λ d x. ⊎_elim (λ y. y) (λ (y : D d). absurd (none d y)) x)

    own_piece : (p : List ℕ) (c : ℕ) (is : PieceOf m c p) → Phase m (last_in last) (λ d. C d ⊎ PieceOf m d p) (next_view g v p).sender
    own_piece p c is =
        phase_same m (last_in last) (λ d. C d ⊎ (d ≡ c)) (λ d. C d ⊎ PieceOf m d p) (next_view g v p).sender
        (λ d x. ⊎_elim inl (λ (e : d ≡ c). inr (subst (λ (y : ℕ). PieceOf m y p) (sym e) is)) x)
        (λ d x. ⊎_elim inl (λ (y : PieceOf m d p). inr (sym (piece_number m k d p y) ∙ piece_number m k c p is)) x)
        (phase_next g m k admitted_mode (last_in last) new v C c p is one o.phase)

    -- A packet that is told a refusal's number changes nothing.
    still : (p : List ℕ) → is_from m.address p ≡ true → least_refusal ≤ (message_told (answer_to w p)).outcome.number → next_view g v p ≡ v
    still p mine refused = ⊎_elim
        (λ (none : number_of g v p ≡ 0). absurd (accepted_less none))
        (λ (ne : number_of g v p ≢ 0). unfold next_view in rw (ne_eqb (number_of g v p) 0 ne))
        (eq_or_ne (number_of g v p) 0)
      where
        is : (answer_to w p).outcome ≡ outcome_view g v p
        is = registered_outcome g m.address i w stands p mine

        accepted_less : number_of g v p ≡ 0 → ⊥
        accepted_less none = ⊎_elim
            (λ (f : fills v.sender (head_of p) ≡ true). omega (arith, refused, ap (λ (x : Outcome). (outcome_told x).number) (is ∙ told_delivered g v p none f)))
            (λ (f : fills v.sender (head_of p) ≡ false). omega (arith, refused, ap (λ (x : Outcome). (outcome_told x).number) (is ∙ told_stored g v p none f)))
            (true_or_false (fills v.sender (head_of p)))

    own_packet : (p : List ℕ) → is_from m.address p ≡ true → ElseRefused m p (message_told (answer_to w p))
        → OnItsWay (λ d. C d ⊎ PieceOf m d p) (exchange (message p) (told_by (message p) (said w (message p))) ∷ log) (step w (message p))
    unfolding sees step_view
    own_packet p mine (inl is) = on_step (λ d. C d ⊎ PieceOf m d p) (message p)
        (λ x e _ _ _ _. let z : p ≡ x = cc in subst (λ (y : List ℕ). (c : ℕ) × PieceOf m c y) z is)
        (rw mine (own_piece p is.0 is.1))
    own_packet p mine (inr not) = on_step (λ d. C d ⊎ PieceOf m d p) (message p)
        (λ x e _ zero. let z : p ≡ x = cc in absurd (omega (arith, not.1, subst (λ (y : List ℕ). (message_told (answer_to w y)).outcome.number ≡ 0) (sym z) zero)))
        (rw (mine, still p mine not.1) (same_pieces (λ d. PieceOf m d p) not.0 o.phase))

    -- ---- any call that may come

    other_packet : (p : List ℕ) → is_from m.address p ≡ false
        → OnItsWay (λ d. C d ⊎ PieceOf m d p) (exchange (message p) (told_by (message p) (said w (message p))) ∷ log) (step w (message p))
    unfolding sees step_view
    other_packet p e = on_step (λ d. C d ⊎ PieceOf m d p) (message p)
        (λ x is mine. let z : p ≡ x = cc in absurd (never_both mine (subst (λ (y : List ℕ). is_from m.address y ≡ false) z e)))
        (rw e (same_pieces (λ d. PieceOf m d p) (λ d is. never_both is.from e) o.phase))

    -- While it is open, a clock call that does not report it does not drop it.
    kept : (ms : ℕ) → (same_message (open_for m i log) (name_in m) ≡ true → bit i (clock_answer w.state ms).dropped ≡ 0)
        → ltb ms v.now || ltb clock_most ms ≡ false → is_open m v.sender ≡ true → drops g.t ms v.sender ≡ false
    unfolding view is_open
    kept ms keeps on its =
        let same : is_open m v.sender ≡ same_message (open_for m i log) (name_in m) = named_same _ _ _ v (open_for m i log) tells (name_in m) in
        subst (λ (x : Settings). drops x.t ms (sender_at w.state i) ≡ false) stands.settings
        (not_reported w.state ms stands.sound.is_valid on i place (keeps (sym same ∙ its)))

    clock_call : (ms : ℕ) → (same_message (open_for m i log) (name_in m) ≡ true → bit i (clock_answer w.state ms).dropped ≡ 0) → Phase m (last_in last) C (tick_view g v ms).sender
    unfolding tick_view
    clock_call ms keeps = ⊎_elim
        (λ (e : ltb ms v.now || ltb clock_most ms ≡ true). rw e o.phase)
        (λ (e : ltb ms v.now || ltb clock_most ms ≡ false).
        rw e (phase_clock m (last_in last) C g.t ms v.sender (unfold view in refl) (kept ms keeps e) o.phase))
        (true_or_false (ltb ms v.now || ltb clock_most ms))

    pub way_step : (e : Event) → Allowed (ElseRefused m) m i log e (told_by e (said w e)) → OnItsWay (λ d. C d ⊎ Brings m d e) (exchange e (told_by e (said w e)) ∷ log) (step w e)
    unfolding said sees step_view
    way_step (message p) f = ⊎_elim
        (λ (e : is_from m.address p ≡ true). own_packet p e (f e))
        (λ (e : is_from m.address p ≡ false). other_packet p e)
        (true_or_false (is_from m.address p))
    way_step (alive p) f = on_step (λ d. C d ⊎ ⊥) (alive p) (λ x e. let z : ◌≡◌ {A = ℕ} 0 1 = cc in absurd (omega arith)) (same_pieces (λ d. ⊥) (λ d x. x) o.phase)
    way_step (clock ms) f = on_step (λ d. C d ⊎ ⊥) (clock ms) (λ x e. let z : ◌≡◌ {A = ℕ} 0 1 = cc in absurd (omega arith))
        (phase_same m (last_in last) C (λ d. C d ⊎ ⊥) (tick_view g v ms).sender (λ d x. inl x) (λ d x. ⊎_elim (λ y. y) (λ (y : ⊥). absurd y) x) (clock_call ms f))
    way_step (aside call) f = on_step (λ d. C d ⊎ ⊥) (aside call) (λ x e. let z : ◌≡◌ {A = ℕ} 0 1 = cc in absurd (omega arith)) (same_pieces (λ d. ⊥) (λ d x. x) o.phase)

  -- ---- the calls since the past

  pub way_same : (C D : ℕ → Type 0) (log : List Exchange) (w : World) → ((d : ℕ) → C d → D d) → ((d : ℕ) → D d → C d) → OnItsWay C log w → OnItsWay D log w
  way_same C D log w to back o = record { agrees = o.agrees; own = o.own; phase = phase_same m (last_in last) C D (view w i).sender to back o.phase }

  pub way_after : (C : ℕ → Type 0) (log : List Exchange) (w : World) → OnItsWay C log w → (es : List Event) → Between (ElseRefused m) m i log es (answers w es)
      → OnItsWay (λ d. C d ⊎ Came m d es) (logged log es (answers w es)) (after w es)
  unfolding after answers logged
  way_after C log w o [] f = way_same C (λ d. C d ⊎ ⊥) log w (λ d x. inl x) (λ d x. ⊎_elim (λ y. y) (λ (y : ⊥). absurd y) x) o
  way_after C log w o (e ∷ es) f =
      way_same (λ d. (C d ⊎ Brings m d e) ⊎ Came m d es) (λ d. C d ⊎ (Brings m d e ⊎ Came m d es)) _ (after (step w e) es)
      (λ d. to (C d) (Brings m d e) (Came m d es)) (λ d. back (C d) (Brings m d e) (Came m d es))
      (way_after (λ d. C d ⊎ Brings m d e) (exchange e (told_by e (said w e)) ∷ log) (step w e) (way_step C log w o e f.0) es f.1)
    where
      to : (A B D : Type 0) → (A ⊎ B) ⊎ D → A ⊎ (B ⊎ D)
      to A B D (inl (inl x)) = inl x
      to A B D (inl (inr x)) = inr (inl x)
      to A B D (inr x) = inr (inr x)

      back : (A B D : Type 0) → A ⊎ (B ⊎ D) → (A ⊎ B) ⊎ D
      back A B D (inl x) = inl (inl x)
      back A B D (inr (inl x)) = inl (inr x)
      back A B D (inr (inr x)) = inr x

  -- ---- the arrival of a piece

  -- Octet for octet.
  same_octets : (packets : List (List ℕ)) (c : ℕ) (p part : List ℕ) → PieceOf m c p → ((o : List ℕ) → Memᴰ o packets → Own o) → Joined packets p part → part ≡ m.octets
  same_octets packets c p part is own join =
      sym join.whole
      ∙ ap (λ (t : ℕ). joined t (piece part (kin_of p).u)) tbn_is
      ∙ joined_same (count m) (piece part (kin_of p).u) (piece m.octets m.u) each
      ∙ pieces_join m.octets m.u (omega (arith, least m k))
    where
      tbn_is : (kin_of p).tbn ≡ count m
      tbn_is = ap (λ (x : Kin). x.tbn) (piece_kin m k c p is)

      each : (d : ℕ) → 1 ≤ d → d ≤ count m → piece part (kin_of p).u d ≡ piece m.octets m.u d
      each d low top =
          let b = join.parts d low (omega (arith, tbn_is)) in
          let version = ap (λ (x : Kin). x.version) b.alike ∙ is.version in
          let number = ap (λ (x : Kin). x.number) b.alike ∙ is.number in
          let own-one = own b.packet b.among version number in
          let d_is : own-one.0 ≡ d = sym (piece_number m k own-one.0 b.packet own-one.1) ∙ b.number in
          sym b.same ∙ piece_octets m k own-one.0 b.packet own-one.1 ∙ ap (piece m.octets m.u) d_is

  module _ (es : List Event) (log : List Exchange) (w : World) (o : OnItsWay (λ d. Came m d es) log w) (c : ℕ) (p : List ℕ) (is : PieceOf m c p) where
    abbrev here_view : View
    here_view = view w i

    abbrev Before : ℕ → Type 0
    Before d = Came m d es

    abbrev as_registered : Registered g m.address i w
    as_registered = stands (λ d. Came m d es) log w o

    outcome_is : (answer_to w p).outcome ≡ outcome_view g here_view p
    outcome_is = registered_outcome g m.address i w as_registered p is.from

    gave : ¬ (Before c) → ((d : ℕ) → Numbered m d → d ≢ c → Before d) → (answer_to w p).outcome ≡ Delivered (verdict_after q last (name_in m))
    gave none rest = outcome_is ∙ phase_last g m k admitted_mode (last_in last) new here_view Before c p is o.phase none rest

    -- All packets that the message was joined from are its own.
    own_all : (x : List ℕ) → Memᴰ x (p ∷ cond (rejoins here_view.sender (head_of p)) (open_for m i log) []) → Own x
    own_all x among = ⊎_elim
        (λ (e : x ≡ p) _ _. (c, subst (PieceOf m c) (sym e) is))
        (λ (rest : Memᴰ x (cond (rejoins here_view.sender (head_of p)) (open_for m i log) [])).
        cond_case (λ (l : List (List ℕ)). Memᴰ x l → Own x) (rejoins here_view.sender (head_of p)) (open_for m i log) []
        (λ _. o.own x) (λ _ nothing. absurd (Memᴰ.not-nil nothing)) rest)
        (Memᴰ.cases_cons among)

    handed : ¬ (Before c) → ((d : ℕ) → Numbered m d → d ≢ c → Before d) → part_to w p ≡ m.octets
    handed none rest = same_octets _ c p (part_to w p) is own_all
        (joined_part g m.address i w as_registered (open_for m i log) (tells (λ d. Came m d es) log w o).inv p is.from (verdict_after q last (name_in m)) (gave none rest))

    pub arrives : Arrives m (verdict_after q last (name_in m)) es c (outcome_told (answer_to w p).outcome) (part_to w p) × (m.version.0 ≢ 0 → Once m es (outcome_told (answer_to w p).outcome))
    arrives = (
      record {
        delivered = λ x. (ap outcome_told (gave x.0 x.1), handed x.0 x.1);
        stored = λ x. ap outcome_told (outcome_is ∙ phase_more g m k admitted_mode (last_in last) new here_view Before c p is o.phase x.0 x.1.0 x.1.1 x.1.2 x.1.3);
        held = λ x. ap outcome_told (outcome_is ∙ phase_held g m k admitted_mode (last_in last) new here_view Before c p is o.phase x.0 x.1.0 x.1.1 x.1.2);
      },
      λ some all. ap outcome_told (outcome_is ∙ phase_once g m k admitted_mode (last_in last) new here_view Before c p is one some o.phase all),
    )

-- ---- any past

-- A packet of an open message came with a call of the log.
module _ (a : Address) (i : ℕ) where
  called_by : (log : List Exchange) → ((p : List ℕ) → Memᴰ p (open_of a i log) → Memᴰ (message p) (calls log)) → (e : Event) (told : ToldOf e)
      → (p : List ℕ) → Memᴰ p (open_by a i (open_of a i log) e told) → Memᴰ (message p) (e ∷ calls log)
  called_by log before (message o) told = message_each (λ p. Memᴰ (message p) (message o ∷ calls log)) a (open_of a i log) (λ p there. Memᴰ.tail (before p there))
      o told.0.outcome.number (λ _ _. Memᴰ.head refl)
  called_by log before (alive o) told = λ p there. Memᴰ.tail (before p there)
  called_by log before (clock ms) told = clock_each (λ p. Memᴰ (message p) (clock ms ∷ calls log)) a (open_of a i log) (λ p there. Memᴰ.tail (before p there)) (eqb (bit i told.dropped) 1)
  called_by log before (aside call) told = λ p there. Memᴰ.tail (before p there)

  open_called : (log : List Exchange) (p : List ℕ) → Memᴰ p (open_of a i log) → Memᴰ (message p) (calls log)
  unfolding open_of
  open_called [] p there = absurd (Memᴰ.not-nil there)
  open_called (x ∷ log) p there = called_by log (open_called log) x.call x.told p there

module _ (q : Setup) (log : List Exchange) (w : World) (a : Agrees q log w) (m : Sent) (i : ℕ) (may : May q log m i) where
  pub cuttable : Cuttable m
  cuttable = record { most = may.length_within; wide = may.unit_within }

  at_place : i < w.state.count
  at_place = omega (arith, may.here, a.count)

  its_tells : TellsLog m.address i log w
  its_tells = subst (λ (x : Address). TellsLog x i log w) may.registered (a.tells i at_place)

  -- No packet of the past has the message's version and number,
  unlike : (p : List ℕ) → Memᴰ p (open_for m i log) → (head_of p).given.version.0 ≡ m.version.0 → (head_of p).given.number.0 ≢ m.number.0
  unlike p there = may.unheard p (open_called m.address i log p there)
      (subst (λ (x : Address). (o : List ℕ) → Memᴰ o (open_of x i log) → is_from x o ≡ true) may.registered (a.from i at_place) p there)

  -- so it is not open.
  not_same : (packets : List (List ℕ)) → ((p : List ℕ) → Memᴰ p packets → (head_of p).given.version.0 ≡ m.version.0 → (head_of p).given.number.0 ≢ m.number.0)
      → same_message packets (name_in m) ≡ false
  not_same [] other = refl
  not_same (p ∷ packets) other = not_both (eqb (head_of p).given.version.0 m.version.0) (eqb (head_of p).given.number.0 m.number.0)
      (λ v n. other p (Memᴰ.head refl) (eqb-true _ _ v) (eqb-true _ _ n))

  not_open : is_open m (view w i).sender ≡ false
  unfolding is_open
  not_open = named_same _ _ _ (view w i) (open_for m i log) its_tells (name_in m) ∙ not_same (open_for m i log) unlike

  none_newer : newer_open m (view w i).sender ≡ false
  none_newer = newer_same _ _ _ (view w i) (open_for m i log) its_tells (name_in m) ∙ may.none_newer

  abbrev last : Name
  last = last_of m.address (deliveries log)

  pub on_its_way : OnItsWay q m cuttable i may.here may.registered may.admits last may.no_repeat (λ d. ⊥) log w
  on_its_way = record {
    agrees = a;
    own = λ p among version number. absurd (unlike p among version number);
    phase = inl (subst (λ (l : Last). Unfinished m l (λ d. ⊥) (view w i).sender) its_tells.same_last (phase_start m cuttable (view w i).sender none_newer not_open));
  }

  -- The inner theorem: something else of that sender may come between, if it is refused.
  pub arrives_among : (es : List Event) → Between (ElseRefused m) m i log es (answers w es) → (c : ℕ) (packet : List ℕ) → PieceOf m c packet
      → Arrives m (verdict_for q log m) es c (outcome_told (answer_to (after w es) packet).outcome) (part_to (after w es) packet)
      × (m.version.0 ≢ 0 → Once m es (outcome_told (answer_to (after w es) packet).outcome))
  arrives_among es f c packet is =
      let then = way_after q m cuttable i may.here may.registered may.admits last may.no_repeat (λ d. ⊥) log w on_its_way es f in
      arrives q m cuttable i may.here may.registered may.admits last may.no_repeat es (logged log es (answers w es)) (after w es)
      (way_same q m cuttable i may.here may.registered may.admits last may.no_repeat (λ d. ⊥ ⊎ Came m d es) (λ d. Came m d es) (logged log es (answers w es)) (after w es)
      (λ d x. ⊎_elim (λ (y : ⊥). absurd y) (λ y. y) x) (λ d x. inr x) then)
      c packet is

  -- "then it is delivered once, octet for octet, at the arrival of the last missing piece."
  pub arrives_only : (es : List Event) → Between (OnlyPieces m) m i log es (answers w es) → (c : ℕ) (packet : List ℕ) → PieceOf m c packet
      → Arrives m (verdict_for q log m) es c (outcome_told (answer_to (after w es) packet).outcome) (part_to (after w es) packet)
      × (m.version.0 ≢ 0 → Once m es (outcome_told (answer_to (after w es) packet).outcome))
  arrives_only es f = arrives_among es (between_by (OnlyPieces m) (ElseRefused m) m i log es (answers w es) (λ p t there mine is. inl is) f)
