-- Each call of a past, as one sender sees it. Assumes nothing.
use Prim.Native.Nat.{ℕ, suc, ◌+◌, ◌*◌, ◌≤◌, ◌<◌}
use Rattle.std.specs.Prelude.{◌≡◌, ◌≢◌, Bool, true, false, not, List}
use Rattle.std.proofs.Math.Path.{refl, sym, ap}
use Rattle.std.proofs.Common.{◌∙◌}
use Rattle.std.proofs.Math.Logic.{⊎_elim}
use Rattle.std.proofs.Math.Nat.{mul-le-mul_right, suc-mul}
use native.Mathlib.Omega.{arith}
use Rattle.std.proofs.Math.Dec.{eqb}
use Rattle.std.proofs.Math.ListN.{length}
use Rattle.std.proofs.Math.Seq.{get_or-set_same, get_or-set_other}
use borrow.Author.Tests.{eq-eqb, ne_eqb, lt-leb, not-true}
use Rattle.octets.specs.Run.{run}
use Rattle.octets.proofs.RunLaws.{length_run, run_before, run_behind, run_laid_within}
use Rattle.octets.specs.Split.{lt_or_le, eq_or_ne, true_or_false, never_both, cond_case, both, and_left, and_right}
use Rattle.header.specs.declared.Head.{Head}
use Rattle.signal.specs.declared.Body.{Body}
use Rattle.signal.specs.Alive.{body_of}
use Rattle.header.specs.Head.{head_of}
use Rattle.header.specs.Places.{header_size}
use Rattle.cut.specs.Possible.{possible, own_place, own_length}
use Rattle.cut.proofs.PossibleLaws.{possible_facts, possible_within}
use Rattle.state.specs.declared.Address.{Address}
use Rattle.state.specs.declared.Receiver.{Receiver}
use Rattle.state.specs.declared.Sender.{Sender}
use Rattle.state.specs.Limits.{same_address, address_at, valid}
use Rattle.state.specs.State.{no_sender, sender_at, first_where, Settings, settings_from}
use Rattle.state.specs.Table.{source, found}
use Rattle.state.proofs.WithinLaws.{valid_length, valid_apart, same_both, set_place}
use Rattle.answers.specs.declared.Answer.{Answer}
use Rattle.answers.specs.declared.Noted.{Noted}
use Rattle.rules.specs.calls.Admit.{sender_rows, rejoins, map_after, kept_after, fills, sender_after, admitted, not_admitted, admission}
use Rattle.rules.proofs.calls.ChangesLaws.{alive_only}
use Rattle.rules.specs.calls.Alive.{alive_rows, heard_by, alive_answer}
use Rattle.rules.specs.calls.Clock.{aged}
use Rattle.rules.proofs.calls.ClockLaws.{clock_at}
use Rattle.rules.specs.calls.First.{Row, first}
use Rattle.rules.proofs.calls.FirstLaws.{checked_none, checked_given, refusal_given, check_case}
use Rattle.rules.specs.calls.Message.{area, length_wrong, head_within, message_rows, message_number, storage_after, with_sender, taken, refused, message_answer, message_storage}
use Rattle.rules.proofs.calls.MessageLaws.{Passed, taken_facts}
use Rattle.rules.specs.pasts.Past.{World, Event, message, alive, clock, aside, step}
use Rattle.rules.proofs.pasts.PastLaws.{Sound}
use Rattle.rules.proofs.calls.QuestionLaws.{first_of, first_holds}
use Rattle.promised.specs.Judged.{in_order, is_from}
use Rattle.promised.proofs.JudgedLaws.{in_order_is}
use Rattle.promised.specs.View.{View, joining, view, sees, number_of, outcome_view, put, next_view, tick_view, step_view}

-- ---- a packet in order comes as far as its sender's place

module _ (w : Receiver) (room : ℕ) (packet : List ℕ) (ok : valid w ≡ true) (right : room ≡ w.count * area) where
  -- One that is not in order meets 12 or 13.
  pub out_of_order : in_order packet ≡ false → message_number w room packet ≢ 0
  out_of_order e none =
      let f = (taken_facts w room packet none).0 in
      never_both (in_order_lem f) e
    where
      in_order_lem : Passed (valid w) w.count (found w (head_of packet)) room packet (head_of packet) → in_order packet ≡ true
      in_order_lem f =
          in_order_is packet ∙ both (not (length_wrong (length packet) (head_of packet))) (head_within packet (head_of packet)) (rw f.length_right) f.head_within_lem

  -- One of the sender at place i meets what its record says.
  pub number_at : (i : ℕ) → in_order packet ≡ true → found w (head_of packet) ≡ i → i < w.count
      → message_number w room packet ≡ first (sender_rows w.test w.n1 (sender_at w i) (head_of packet))
  unfolding message_rows first
  number_at i o f here =
      let e = sym (in_order_is packet) ∙ o in
      let long = not-true (length_wrong (length packet) (head_of packet)) (and_left (not (length_wrong (length packet) (head_of packet))) (head_within packet (head_of packet)) e) in
      let head = and_right (not (length_wrong (length packet) (head_of packet))) (head_within packet (head_of packet)) e in
      rw (ok, eq-eqb room (w.count * area) right, long, head, f, lt-leb w.count i here)

-- A packet that meets a number leaves the world as it was.
pub message_still : (w : World) (packet : List ℕ) → message_number w.state (length w.storage) packet ≢ 0 → step w (message packet) ≡ w
unfolding step message_answer message_storage refused
message_still w packet e =
    let given = refusal_given (message_rows w.state (length w.storage) packet) e in
    rw given.1.0

-- ---- whose packet it is

module _ (w : Receiver) (ok : valid w ≡ true) (i : ℕ) (here : i < w.count) (packet : List ℕ) where
  abbrev a : Address
  a = address_at w.senders i

  abbrev h : Head
  h = head_of packet

  pub found_own : same_address a (source h) ≡ true → found w h ≡ i
  found_own e = first_of (λ s. same_address s.address (source h)) w.senders w.count i here (λ j less. not_so j less) e
    where
      not_so : (j : ℕ) → j < i → same_address (address_at w.senders j) (source h) ≡ false
      not_so j less = ⊎_elim
          (λ (t : same_address (address_at w.senders j) (source h) ≡ true). absurd (never_both (same_both (address_at w.senders j) a (source h) t e) (valid_apart w ok i here j less)))
          (λ f. f)
          (true_or_false (same_address (address_at w.senders j) (source h)))

  pub found_other : same_address a (source h) ≡ false → found w h ≢ i
  found_other e f =
      let g : Sender → Bool = λ s. same_address s.address (source h) in
      let less : first_where g w.senders w.count < w.count = rw f here in
      never_both (rw f at (first_holds g w.senders w.count less)) e

-- ---- what the calls with a packet keep of a sender's record

module _ {A : Type 0} (f : Sender → A) (w : World) (sound : Sound w) (i : ℕ) (here : i < w.state.count) where
  -- What a record written at a place leaves as it was,
  pub set_kept : (k : ℕ) (x : Sender) → (i ≡ k → f x ≡ f (sender_at w.state i)) → f (sender_at (with_sender w.state k x) i) ≡ f (sender_at w.state i)
  unfolding with_sender
  set_kept k x e =
      set_place (λ y. f y ≡ f (sender_at w.state i)) w.state.senders k i x (omega (arith, valid_length w.state sound.is_valid)) e refl

  -- what a message packet does,
  pub message_kept : ((n1 now : ℕ) (s : Sender) (h : Head) → f (admitted n1 now s h).sender ≡ f s) → (packet : List ℕ)
      → f (sender_at (message_answer w.state (length w.storage) packet).state i) ≡ f (sender_at w.state i)
  unfolding message_answer taken refused
  message_kept same packet =
      check_case (λ (x : Answer). f (sender_at x.state i) ≡ f (sender_at w.state i)) (message_rows w.state (length w.storage) packet) _ _
      (λ _. set_kept (found w.state (head_of packet)) _ (λ e. rw (← e) (same w.state.n1 w.state.clock (sender_at w.state i) (head_of packet))))
      (λ r _. refl)

  -- and what a signal does.
  alive_kept : ((now : ℕ) (s : Sender) (b : Body) → f (heard_by now s b) ≡ f s) → (packet : List ℕ)
      → f (sender_at (alive_answer w.state packet).state i) ≡ f (sender_at w.state i)
  unfolding alive_answer
  alive_kept same packet =
      check_case (λ (x : Noted). f (sender_at x.state i) ≡ f (sender_at w.state i)) (alive_rows w.state packet) _ _
      (λ _. set_kept (found w.state (head_of packet)) _ (λ e. rw (← e) (same w.state.clock (sender_at w.state i) (body_of packet))))
      (λ r _. refl)

-- ---- what a packet of the sender's own does

pub map_joining : (s : Sender) (h : Head) → map_after (joining s) h ≡ map_after s h
unfolding map_after rejoins
map_joining s h = refl

kept_joining : (s : Sender) (h : Head) → kept_after (joining s) h ≡ kept_after s h
unfolding kept_after rejoins
kept_joining s h = refl

pub fills_joining : (s : Sender) (h : Head) → fills (joining s) h ≡ fills s h
unfolding fills map_after rejoins
fills_joining s h = refl

joining_after : (n1 now : ℕ) (s : Sender) (h : Head) → joining (admitted n1 now s h).sender ≡ (admitted n1 now (joining s) h).sender
unfolding admitted sender_after
joining_after n1 now s h = ⊎_elim
    (λ (e : fills s h ≡ true). rw (fills_joining s h, e))
    (λ (e : fills s h ≡ false). rw (fills_joining s h, e, map_joining s h, kept_joining s h))
    (true_or_false (fills s h))

outcome_joining : (n1 now : ℕ) (s : Sender) (h : Head) → (admitted n1 now (joining s) h).outcome ≡ (admitted n1 now s h).outcome
unfolding admitted fills map_after rejoins
outcome_joining n1 now s h = refl

pub rows_joining : (test : Bool) (n1 : ℕ) (s : Sender) (h : Head) → sender_rows test n1 (joining s) h ≡ sender_rows test n1 s h
unfolding sender_rows rejoins
rows_joining test n1 s h = refl

module _ (w : World) (sound : Sound w) (i : ℕ) (here : i < w.state.count) where
  abbrev v : View
  v = view w i

  abbrev g : Settings
  g = settings_from w.state

  there : i * area + area ≤ length w.storage
  there = omega (arith, sound.room, mul-le-mul_right {m = suc i} {n = w.state.count} area here, suc-mul i area)

  -- The sender's area after its packet is what the packet makes of the area.
  pub own_octets : (packet : List ℕ) → possible (head_of packet).cut ≡ true → length packet ≡ (head_of packet).cut.bsize
      → run (i * area) area (storage_after w.storage i (head_of packet) packet) ≡ storage_after (run (i * area) area w.storage) 0 (head_of packet) packet
  unfolding storage_after
  own_octets packet p size =
      let h = head_of packet in
      let f = possible_facts h.cut p in
      let q = run header_size (own_length h.cut) packet in
      let len : length q ≡ own_length h.cut = length_run header_size (own_length h.cut) packet (omega (arith, f.own_room)) in
      let z : 0 * area + own_place h.cut ≡ own_place h.cut = omega arith in
      ⊎_elim
      (λ (e : eqb h.cut.tbn 1 ≡ true). rw e)
      (λ (e : eqb h.cut.tbn 1 ≡ false). rw (e, z) (run_laid_within w.storage (i * area) area (own_place h.cut) q there (omega (arith, possible_within h.cut p, f.big))))
      (true_or_false (eqb h.cut.tbn 1))

  -- ---- a packet of its own

  module _ (packet : List ℕ) (mine : is_from (address_at w.state.senders i) packet ≡ true) where
    abbrev its : Address
    its = address_at w.state.senders i

    abbrev s : Sender
    s = sender_at w.state i

    in_order_lem : in_order packet ≡ true
    unfolding is_from
    in_order_lem = and_left (in_order packet) (same_address its (source (head_of packet))) mine

    at_place : found w.state (head_of packet) ≡ i
    unfolding is_from
    at_place = found_own w.state sound.is_valid i here packet (and_right (in_order packet) (same_address its (source (head_of packet))) mine)

    pub number_is : message_number w.state (length w.storage) packet ≡ number_of g v packet
    unfolding view
    number_is =
        number_at w.state (length w.storage) packet sound.is_valid sound.room i in_order_lem at_place here
        ∙ ap first (sym (rows_joining w.state.test w.state.n1 s (head_of packet)))

    put_is : message_number w.state (length w.storage) packet ≡ 0 → view (step w (message packet)) i ≡ put g v packet
    unfolding view step put message_answer message_storage taken with_sender
    put_is none =
        let f = taken_facts w.state (length w.storage) packet none in
        let long : i < length w.state.senders = omega (arith, valid_length w.state sound.is_valid) in
        rw (
          checked_none (message_rows w.state (length w.storage) packet) none,
          at_place,
          get_or-set_same w.state.senders i (admitted w.state.n1 w.state.clock s (head_of packet)).sender no_sender long,
          joining_after w.state.n1 w.state.clock s (head_of packet),
          own_octets packet f.1.cut_possible f.0.size,
        )

    pub view_own : view (step w (message packet)) i ≡ next_view g v packet
    unfolding next_view
    view_own = ⊎_elim
        (λ (e : number_of g v packet ≡ 0). rw (eq-eqb (number_of g v packet) 0 e) (put_is (number_is ∙ e)))
        (λ (e : number_of g v packet ≢ 0). rw (ne_eqb (number_of g v packet) 0 e) (ap (λ (x : World). view x i) (message_still w packet (λ z. e (sym number_is ∙ z)))))
        (eq_or_ne (number_of g v packet) 0)

    pub outcome_is : (message_answer w.state (length w.storage) packet).outcome ≡ outcome_view g v packet
    unfolding view message_answer taken refused admission not_admitted
    outcome_is = ⊎_elim
        (λ (e : number_of g v packet ≡ 0).
        rw (outcome_view, checked_none (message_rows w.state (length w.storage) packet) (number_is ∙ e), checked_none own_rows e, at_place, outcome_joining w.state.n1 w.state.clock s (head_of packet)))
        (λ (e : number_of g v packet ≢ 0).
        let given = refusal_given own_rows e in
        rw (outcome_view, checked_given (message_rows w.state (length w.storage) packet) given.0 (number_is ∙ given.1.1), given.1.0, at_place))
        (eq_or_ne (number_of g v packet) 0)
      where
        own_rows : List Row
        own_rows = sender_rows g.test g.n1 v.sender (head_of packet)

  -- ---- another's packet

  module _ (packet : List ℕ) (elsewhere : found w.state (head_of packet) ≢ i) (none : message_number w.state (length w.storage) packet ≡ 0) where
    abbrev k : ℕ
    k = found w.state (head_of packet)

    other_octets : run (i * area) area (storage_after w.storage k (head_of packet) packet) ≡ run (i * area) area w.storage
    unfolding storage_after
    other_octets =
        let h = head_of packet in
        let f = taken_facts w.state (length w.storage) packet none in
        let p = f.1.cut_possible in
        let q = run header_size (own_length h.cut) packet in
        let start = k * area + own_place h.cut in
        let len : length q ≡ own_length h.cut = length_run header_size (own_length h.cut) packet (omega (arith, f.0.size, (possible_facts h.cut p).own_room)) in
        let within : start + length q ≤ k * area + area = omega (arith, possible_within h.cut p, (possible_facts h.cut p).big) in
        let fits : start + length q ≤ length w.storage
        = omega (arith, sound.room, mul-le-mul_right {m = suc k} {n = w.state.count} area f.0.registered, suc-mul k area) in
        ⊎_elim
        (λ (e : eqb h.cut.tbn 1 ≡ true). rw e)
        (λ (e : eqb h.cut.tbn 1 ≡ false). rw e (⊎_elim
        (λ (less : i < k). run_before w.storage start q fits (i * area) area (omega (arith, mul-le-mul_right {m = suc i} {n = k} area less, suc-mul i area)))
        (λ (more : k ≤ i). run_behind w.storage start q fits (i * area) area
        (omega (arith, mul-le-mul_right {m = suc k} {n = i} area (omega (arith, elsewhere)), suc-mul k area)))
        (lt_or_le i k)))
        (true_or_false (eqb h.cut.tbn 1))

    taken_elsewhere : view (step w (message packet)) i ≡ v
    unfolding view step message_answer message_storage taken with_sender
    taken_elsewhere =
        rw (checked_none (message_rows w.state (length w.storage) packet) none, get_or-set_other w.state.senders k i (admitted w.state.n1 w.state.clock (sender_at w.state k) (head_of packet)).sender no_sender (λ z. elsewhere (sym z)), other_octets)

  pub view_other : (packet : List ℕ) → is_from (address_at w.state.senders i) packet ≡ false → view (step w (message packet)) i ≡ v
  view_other packet e = ⊎_elim
      (λ (none : message_number w.state (length w.storage) packet ≡ 0). taken_elsewhere packet (elsewhere none) none)
      (λ (some : message_number w.state (length w.storage) packet ≢ 0). ap (λ (x : World). view x i) (message_still w packet some))
      (eq_or_ne (message_number w.state (length w.storage) packet) 0)
    where
      not_in_order : same_address (address_at w.state.senders i) (source (head_of packet)) ≡ true → in_order packet ≡ false
      not_in_order t = ⊎_elim
          (λ (o : in_order packet ≡ true).
          let so : is_from (address_at w.state.senders i) packet ≡ true
          = unfold is_from in both (in_order packet) (same_address (address_at w.state.senders i) (source (head_of packet))) o t in
          absurd (never_both so e))
          (λ f. f)
          (true_or_false (in_order packet))

      elsewhere : message_number w.state (length w.storage) packet ≡ 0 → found w.state (head_of packet) ≢ i
      elsewhere none = ⊎_elim
          (λ (t : same_address (address_at w.state.senders i) (source (head_of packet)) ≡ true).
          absurd (out_of_order w.state (length w.storage) packet sound.is_valid sound.room (not_in_order t) none))
          (λ (f : same_address (address_at w.state.senders i) (source (head_of packet)) ≡ false). found_other w.state sound.is_valid i here packet f)
          (true_or_false (same_address (address_at w.state.senders i) (source (head_of packet))))

  -- ---- the other calls

  joining_aged : (t now : ℕ) (x : Sender) → joining (aged t now x) ≡ joining (aged t now (joining x))
  unfolding aged
  joining_aged t now x = refl

  pub view_clock : (now : ℕ) → view (step w (clock now)) i ≡ tick_view g v now
  unfolding view step tick_view
  view_clock now =
      clock_at w.state now sound.is_valid i here (λ t x. record { sender = joining x; now = t; octets = v.octets } ≡ tick_view g v now)
      (λ e. rw e) (λ e. rw (e, joining_aged w.state.t now (sender_at w.state i)))

  joining_heard : (now : ℕ) (x : Sender) (b : Body) → joining (heard_by now x b) ≡ joining x
  unfolding heard_by
  joining_heard now x b = cond_case (λ (y : Sender). joining y ≡ joining x) (eqb b.mode 1) _ _ (λ _. refl) (λ _. refl)

  pub view_alive : (packet : List ℕ) → view (step w (alive packet)) i ≡ v
  unfolding view step
  view_alive packet = rw (alive_kept joining w sound i here joining_heard packet, (alive_only w.state packet).same_clock)

  -- ---- each call

  pub view_step : (e : Event) → view (step w e) i ≡ step_view g v (sees (address_at w.state.senders i) e)
  unfolding sees step_view
  view_step (message packet) = ⊎_elim
      (λ (e : is_from (address_at w.state.senders i) packet ≡ true). rw e (view_own packet e))
      (λ (e : is_from (address_at w.state.senders i) packet ≡ false). rw e (view_other packet e))
      (true_or_false (is_from (address_at w.state.senders i) packet))
  view_step (alive packet) = view_alive packet
  view_step (clock now) = view_clock now
  view_step (aside call) = unfold view step in refl

-- ---- who the senders are, no call changes

address_after : (n1 now : ℕ) (s : Sender) (h : Head) → (admitted n1 now s h).sender.address ≡ s.address
unfolding admitted sender_after
address_after n1 now s h = cond_case (λ (x : Sender). x.address ≡ s.address) (fills s h) _ _ (λ _. refl) (λ _. refl)

address_heard : (now : ℕ) (s : Sender) (b : Body) → (heard_by now s b).address ≡ s.address
unfolding heard_by
address_heard now s b = cond_case (λ (x : Sender). x.address ≡ s.address) (eqb b.mode 1) _ _ (λ _. refl) (λ _. refl)

address_aged : (t now : ℕ) (s : Sender) → (aged t now s).address ≡ s.address
unfolding aged
address_aged t now s = refl

module _ (w : World) (sound : Sound w) (i : ℕ) (here : i < w.state.count) where
  pub same_address_lem : (e : Event) → address_at (step w e).state.senders i ≡ address_at w.state.senders i
  unfolding step
  same_address_lem (message packet) = message_kept (λ s. s.address) w sound i here address_after packet
  same_address_lem (alive packet) = alive_kept (λ s. s.address) w sound i here address_heard packet
  same_address_lem (clock now) =
      clock_at w.state now sound.is_valid i here (λ t s. s.address ≡ address_at w.state.senders i)
      (λ _. refl) (λ _. address_aged w.state.t now (sender_at w.state i))
  same_address_lem (aside call) = refl

-- ---- a registered sender, through every call

-- The sender with this address stands at place i, under these settings.
pub record Registered (g : Settings) (a : Address) (i : ℕ) (w : World) : Type 0 where
  pub sound : Sound w
  pub here : i < w.state.count
  pub settings : settings_from w.state ≡ g
  pub address : address_at w.state.senders i ≡ a

module _ (g : Settings) (a : Address) (i : ℕ) (w : World) (r : Registered g a i w) where
  -- What a call does to the sender's view is what it is to the sender.
  pub registered_view : (e : Event) → view (step w e) i ≡ step_view g (view w i) (sees a e)
  registered_view e = view_step w r.sound i r.here e ∙ rw (r.settings, r.address)

  pub registered_number : (packet : List ℕ) → is_from a packet ≡ true → message_number w.state (length w.storage) packet ≡ number_of g (view w i) packet
  registered_number packet mine =
      number_is w r.sound i r.here packet (rw r.address mine)
      ∙ ap (λ (x : Settings). number_of x (view w i) packet) r.settings

  pub registered_place : (packet : List ℕ) → is_from a packet ≡ true → found w.state (head_of packet) ≡ i
  registered_place packet mine = at_place w r.sound i r.here packet (rw r.address mine)

  pub registered_outcome : (packet : List ℕ) → is_from a packet ≡ true → (message_answer w.state (length w.storage) packet).outcome ≡ outcome_view g (view w i) packet
  registered_outcome packet mine =
      outcome_is w r.sound i r.here packet (rw r.address mine)
      ∙ ap (λ (x : Settings). outcome_view x (view w i) packet) r.settings
