-- Who is alive after any past is exactly who `AliveBy` says. Each call is first followed for one sender, as far as its
-- being alive goes; what is then left to prove speaks of lists of calls alone. Assumes nothing.
use Rattle.std.specs.Prelude.{ℕ, ◌-◌, ◌*◌, ◌<◌, ◌≡◌, ◌⊎◌, Bool, false, not, cond, ◌&&◌, eqb}
use Rattle.std.proofs.Math.Path.{refl, sym, ap}
use Rattle.std.proofs.Common.{subst, ◌∙◌, arith}
use Rattle.std.proofs.Math.Logic.{inl, inr, ⊎_elim}
use Rattle.std.proofs.Math.Bool.{true}
use Rattle.std.proofs.lemmas.Bool.{false≢true}
use mathlib.Core.List.Memᴰ
use mathlib.Core.List.{List, [], ◌∷◌, ◌++◌, foldl, foldl-append, append_assoc, Memᴰ}
use Rattle.std.proofs.Math.ListN.{length}
use Rattle.std.proofs.Math.Seq.{get_or-set_same}
use borrow.Author.Tests.{eqb-true, lt-leb, leb-false, not-true, not-false}
use Rattle.octets.specs.Split.{true_or_false, cond_case, and_left, and_right}
use Rattle.header.specs.declared.Head.{Head}
use Rattle.signal.specs.declared.Body.{Body}
use Rattle.signal.specs.Alive.{body_of}
use Rattle.header.specs.Head.{head_of}
use Rattle.state.specs.declared.Address.{Address}
use Rattle.state.specs.declared.Heard.{Heard}
use Rattle.state.specs.declared.Receiver.{Receiver}
use Rattle.state.specs.declared.Sender.{Sender}
use Rattle.state.specs.Limits.{same_address, address_at, valid}
use Rattle.state.specs.State.{no_sender, sender_at, with_heard}
use Rattle.state.specs.Table.{source, found}
use Rattle.state.proofs.WithinLaws.{valid_length}
use Rattle.answers.specs.declared.Noted.{Noted}
use Rattle.rules.specs.calls.Admit.{fills, sender_after, admitted}
use Rattle.rules.specs.calls.Alive.{alive_rows, heard_by, alive_answer}
use Rattle.rules.proofs.calls.AliveLaws.{alive_facts}
use Rattle.promised.specs.Judged.{has_length, is_alive, has_body, has_section}
use Rattle.promised.proofs.JudgedLaws.{alive_length, alive_head, alive_body, alive_section}
use Rattle.promised.specs.AlivePast.{back_or_above, moved_by, time_after, clock_times, is_signal, AliveBy}
use Rattle.rules.proofs.calls.ChangesLaws.{message_only, alive_only}
use Rattle.rules.specs.calls.Clock.{dies, aged}
use Rattle.rules.proofs.calls.ClockLaws.{clock_at}
use Rattle.rules.specs.calls.First.{first}
use Rattle.rules.proofs.calls.FirstLaws.{checked_none, check_case}
use Rattle.rules.specs.calls.Message.{with_sender}
use Rattle.rules.specs.pasts.Past.{World, Event, message, alive, clock, aside, step, after, Start}
use Rattle.rules.proofs.pasts.PastLaws.{Sound, start_sound, start_clock, start_sender, same_count, step_sound}
use Rattle.promised.proofs.ViewLaws.{found_own, found_other, set_kept, message_kept, same_address_lem}

-- ---- what a call is to one sender's being alive

pub record Being : Type 0 where
  pub sender : Sender
  pub now : ℕ

-- All of a sender's record but whether it is alive, its stamp and its al_tm_out is put away.
abbrev pub living : Sender → Sender
living s = with_heard no_sender s.alive s.heard

unfoldable pub being : World → ℕ → Being
being w i = record { sender = living (sender_at w.state i); now = w.state.clock }

-- The drop time is not looked at: nothing is open.
unfoldable pub sender_by : Address → Being → Event → Sender
sender_by a l (message packet) = l.sender
sender_by a l (alive packet) = cond (is_signal a packet) (heard_by l.now l.sender (body_of packet)) l.sender
sender_by a l (clock now) = cond (back_or_above l.now now) l.sender (aged 0 now l.sender)
sender_by a l (aside call) = l.sender

abbrev pub being_by : Address → Being → Event → Being
being_by a l e = record { sender = sender_by a l e; now = moved_by l.now e }

abbrev being_after : Address → Being → List Event → Being
being_after a = foldl (being_by a)

-- "nobody is heard"
abbrev new_being : Being
new_being = record { sender = no_sender; now = 0 }

-- Heard by a signal of mode 1.
abbrev heard_being : Being → Body → Being
heard_being l b = record { sender = with_heard l.sender true (record { stamp = l.now; timeout = b.timeout }); now = l.now }

living_after : (n1 now : ℕ) (s : Sender) (h : Head) → living (admitted n1 now s h).sender ≡ living s
unfolding admitted sender_after
living_after n1 now s h = cond_case (λ (x : Sender). living x ≡ living s) (fills s h) _ _ (λ _. refl) (λ _. refl)

living_heard : (now : ℕ) (s : Sender) (b : Body) → living (heard_by now s b) ≡ heard_by now (living s) b
unfolding heard_by
living_heard now s b = ⊎_elim (λ (e : eqb b.mode 1 ≡ true). rw e) (λ (e : eqb b.mode 1 ≡ false). rw e) (true_or_false (eqb b.mode 1))

living_aged : (t now : ℕ) (s : Sender) → living (aged t now s) ≡ aged 0 now (living s)
unfolding aged
living_aged t now s = refl

-- ---- a signal from an address, taken apart

module _ (a : Address) (packet : List ℕ) where
  abbrev h : Head
  h = head_of packet

  abbrev short : Bool
  short = has_length 128 1472 packet

  abbrev head : Bool
  head = is_alive packet

  abbrev body : Bool
  body = has_body packet

  abbrev section : Bool
  section = has_section packet

  abbrev own : Bool
  own = same_address a (source h)

  pub signal_own : is_signal a packet ≡ true → own ≡ true
  unfolding is_signal
  signal_own = and_right (short && head && body && section) own

  -- From a registered sender it meets no number.
  pub signal_none : (w : Receiver) → is_signal a packet ≡ true → valid w ≡ true → found w h < w.count → first (alive_rows w packet) ≡ 0
  unfolding is_signal alive_rows first
  signal_none w e ok here =
      let e4 = and_left (short && head && body && section) own e in
      let e3 = and_left (short && head && body) section e4 in
      let e2 = and_left (short && head) body e3 in
      rw (
        ok,
        alive_length packet,
        and_left short head e2,
        alive_head packet,
        and_right short head e2,
        lt-leb w.count (found w h) here,
        alive_body packet,
        and_right (short && head) body e3,
        alive_section packet,
        and_right (short && head && body) section e4,
      )

  -- A packet that meets no number, and is no signal from this address, is from another.
  pub heeded_other : (w : Receiver) → is_signal a packet ≡ false → first (alive_rows w packet) ≡ 0 → own ≡ false
  unfolding is_signal
  heeded_other w e none =
      let f = alive_facts w packet none in
      let long : short ≡ true = not-false short (sym (alive_length packet) ∙ f.length_right) in
      rw (long, sym (alive_head packet) ∙ f.head_within_lem, sym (alive_body packet) ∙ f.within, sym (alive_section packet) ∙ f.fault_within_lem) at e

-- ---- each call, for the sender at place i

module _ (w : World) (sound : Sound w) (i : ℕ) (here : i < w.state.count) where
  abbrev a : Address
  a = address_at w.state.senders i

  abbrev s : Sender
  s = sender_at w.state i

  other_kept : (packet : List ℕ) → is_signal a packet ≡ false → living (sender_at (alive_answer w.state packet).state i) ≡ living s
  unfolding alive_answer
  other_kept packet e =
      check_case (λ (x : Noted). living (sender_at x.state i) ≡ living s) (alive_rows w.state packet) _ _
      (λ z. set_kept living w sound i here (found w.state (head_of packet)) _
      (λ q. absurd (found_other w.state sound.is_valid i here packet (heeded_other a packet w.state e z) (sym q))))
      (λ r _. refl)

  being_own : (packet : List ℕ) → is_signal a packet ≡ true → being (step w (alive packet)) i ≡ being_by a (being w i) (alive packet)
  unfolding being step sender_by moved_by alive_answer with_sender
  being_own packet e =
      let there : i < length w.state.senders = omega (arith, valid_length w.state sound.is_valid) in
      let place = found_own w.state sound.is_valid i here packet (signal_own a packet e) in
      rw (
        checked_none (alive_rows w.state packet) (signal_none a packet w.state e sound.is_valid (rw place here)),
        place,
        e,
        get_or-set_same w.state.senders i (heard_by w.state.clock s (body_of packet)) no_sender there,
        living_heard w.state.clock s (body_of packet),
      )

  being_clock : (now : ℕ) → being (step w (clock now)) i ≡ being_by a (being w i) (clock now)
  unfolding being step sender_by moved_by
  being_clock now =
      clock_at w.state now sound.is_valid i here (λ t x. record { sender = living x; now = t } ≡ being_by a (being w i) (clock now))
      (λ e. rw e) (λ e. rw (e, living_aged w.state.t now s))

  pub being_step : (e : Event) → being (step w e) i ≡ being_by a (being w i) e
  unfolding sender_by moved_by
  being_step (message packet) = unfold being step in rw (message_kept living w sound i here living_after packet, (message_only w.state (length w.storage) packet).same_clock)
  being_step (alive packet) = ⊎_elim
      (λ (e : is_signal a packet ≡ true). being_own packet e)
      (λ (e : is_signal a packet ≡ false). unfold being step in rw (e, other_kept packet e, (alive_only w.state packet).same_clock))
      (true_or_false (is_signal a packet))
  being_step (clock now) = being_clock now
  being_step (aside call) = unfold being step in refl

being_after_lem : (w : World) → Sound w → (i : ℕ) → i < w.state.count → (es : List Event)
    → being (after w es) i ≡ being_after (address_at w.state.senders i) (being w i) es
unfolding after
being_after_lem w sound i here [] = refl
being_after_lem w sound i here (e ∷ es) =
    being_after_lem (step w e) (step_sound w e sound) i (omega (arith, same_count w e)) es
    ∙ rw (same_address_lem w sound i here e, being_step w sound i here e)

-- "At setup the clock is 0, nobody is heard"
start_being : (w : World) → Start w → (i : ℕ) → i < w.state.count → being w i ≡ new_being
unfolding being
start_being w s i here = rw (start_sender w s i here, start_clock w s)

-- ---- the calls of a past

-- This call is a signal from this address.
unfoldable is_own : Address → Event → Bool
is_own a (message packet) = false
is_own a (alive packet) = is_signal a packet
is_own a (clock now) = false
is_own a (aside call) = false

-- "Modes 2 and 3: dead from then on"
heard_mode : (now : ℕ) (s : Sender) (b : Body) → (heard_by now s b).alive ≡ true → b.mode ≡ 1
unfolding heard_by
heard_mode now s b = cond_case (λ (x : Sender). x.alive ≡ true → b.mode ≡ 1) (eqb b.mode 1) _ _ (λ e _. eqb-true b.mode 1 e) (λ _ z. absurd (false≢true z))

-- Its age is less than al_tm_out.
abbrev Young : ℕ → Heard → Type 0
Young now h = now - h.stamp < 1000 * h.timeout

-- The clock call leaves such a sender alive,
spared : (now : ℕ) (s : Sender) → s.alive ≡ true → Young now s.heard → ((aged 0 now s).alive ≡ true) × ((aged 0 now s).heard ≡ s.heard)
unfolding aged
spared now s is young =
    let old = lt-leb (1000 * s.heard.timeout) (now - s.heard.stamp) young in
    (rw (is, old), rw (is, old))

-- and no other.
was_spared : (now : ℕ) (s : Sender) → (aged 0 now s).alive ≡ true → (s.alive ≡ true) × Young now s.heard
unfolding aged
was_spared now s e =
    let is = and_left s.alive (not (dies now s)) e in
    let old = not-true (dies now s) (and_right s.alive (not (dies now s)) e) in
    (is, leb-false (1000 * s.heard.timeout) (now - s.heard.stamp) (rw is at old))

module _ (a : Address) where
  -- Alive, and to stay so over these calls.
  record Lasts (l : Being) (es : List Event) : Type 0 where
    is_alive_lem : l.sender.alive ≡ true
    since : (packet : List ℕ) → Memᴰ (alive packet) es → is_signal a packet ≡ false
    young : (now : ℕ) → Memᴰ now (clock_times l.now es) → Young now l.sender.heard

  now_after : (l : Being) (es : List Event) → (being_after a l es).now ≡ time_after l.now es
  now_after l [] = refl
  now_after l (e ∷ es) = now_after (being_by a l e) es

  -- "Mode 1: the sender is alive, stamped with the clock and al_tm_out"
  signal_being : (l : Being) (packet : List ℕ) → is_signal a packet ≡ true → (body_of packet).mode ≡ 1 → being_by a l (alive packet) ≡ heard_being l (body_of packet)
  unfolding sender_by moved_by heard_by
  signal_being l packet e m = rw (e, m)

  -- ---- one call more

  since_more : (e : Event) (es : List Event) → is_own a e ≡ false → ((packet : List ℕ) → Memᴰ (alive packet) es → is_signal a packet ≡ false)
      → (packet : List ℕ) → Memᴰ (alive packet) (e ∷ es) → is_signal a packet ≡ false
  unfolding is_own
  since_more e es other f packet m = ⊎_elim (λ (z : alive packet ≡ e). ap (is_own a) z ∙ other) (f packet) (Memᴰ.cases_cons m)

  -- A call that is neither a signal of its own nor a clock call that is not refused.
  module _ (l : Being) (e : Event) (es : List Event) (times : clock_times l.now (e ∷ es) ≡ clock_times l.now es) where
    quiet_on : Lasts l (e ∷ es) → Lasts l es
    quiet_on f = record {
      is_alive_lem = f.is_alive_lem;
      since = λ packet m. f.since packet (Memᴰ.tail m);
      young = λ now m. f.young now (rw times m);
    }

    quiet_back : is_own a e ≡ false → Lasts l es → Lasts l (e ∷ es)
    quiet_back other f = record {
      is_alive_lem = f.is_alive_lem;
      since = since_more e es other f.since;
      young = λ now m. f.young now (rw times at m);
    }

  -- A clock call that is not refused.
  module _ (l : Being) (now : ℕ) (es : List Event) (goes : back_or_above l.now now ≡ false) where
    abbrev aged_being : Being
    aged_being = record { sender = aged 0 now l.sender; now = now }

    times : clock_times l.now (clock now ∷ es) ≡ now ∷ clock_times now es
    unfolding clock_times
    times = rw goes

    tick_on : Lasts l (clock now ∷ es) → Lasts aged_being es
    tick_on f =
        let d = spared now l.sender f.is_alive_lem (f.young now (rw times (Memᴰ.head refl))) in
        record {
          is_alive_lem = d.0;
          since = λ packet m. f.since packet (Memᴰ.tail m);
          young = λ x m. rw d.1 (f.young x (rw times (Memᴰ.tail m)));
        }

    tick_back : Lasts aged_being es → Lasts l (clock now ∷ es)
    tick_back f =
        let b = was_spared now l.sender f.is_alive_lem in
        let d = spared now l.sender b.0 b.1 in
        record {
          is_alive_lem = b.0;
          since = since_more (clock now) es (unfold is_own in refl) f.since;
          young = λ x m. ⊎_elim (λ (z : x ≡ now). rw z b.1) (λ z. rw d.1 at (f.young x z)) (Memᴰ.cases_cons (rw times at m));
        }

  -- ---- a past that leaves it alive

  lasts_on : (l : Being) (e : Event) (es : List Event) → Lasts l (e ∷ es) → Lasts (being_by a l e) es
  unfolding sender_by moved_by clock_times
  lasts_on l (message packet) es f = quiet_on l (message packet) es refl f
  lasts_on l (alive packet) es f = rw (f.since packet (Memᴰ.head refl)) (quiet_on l (alive packet) es refl f)
  lasts_on l (clock now) es f = ⊎_elim
      (λ (e : back_or_above l.now now ≡ true). rw e (quiet_on l (clock now) es (rw e) f))
      (λ (e : back_or_above l.now now ≡ false). rw e (tick_on l now es e f))
      (true_or_false (back_or_above l.now now))
  lasts_on l (aside call) es f = quiet_on l (aside call) es refl f

  lasts_to : (l : Being) (es : List Event) → Lasts l es → (being_after a l es).sender.alive ≡ true
  lasts_to l [] f = f.is_alive_lem
  lasts_to l (e ∷ es) f = lasts_to (being_by a l e) es (lasts_on l e es f)

  by_alive : (es : List Event) → AliveBy a es → (being_after a new_being es).sender.alive ≡ true
  by_alive es f =
      let l = being_after a new_being f.before in
      let now : l.now ≡ f.stamp = now_after new_being f.before ∙ sym f.stamped in
      rw (f.split, foldl-append (being_by a) new_being f.before (alive f.packet ∷ f.later))
      (lasts_to (being_by a l (alive f.packet)) f.later
      (rw (signal_being l f.packet f.signal f.says) (record { is_alive_lem = refl; since = f.since; young = rw now f.young })))

  -- ---- what is in a past that leaves it alive

  -- After the calls `past` it is as l says.
  module _ (past : List Event) (l : Being) (now-is : l.now ≡ time_after 0 past) where
    by_signal : (packet : List ℕ) (es : List Event) → is_signal a packet ≡ true → Lasts (being_by a l (alive packet)) es → AliveBy a (past ++ (alive packet ∷ es))
    unfolding sender_by moved_by
    by_signal packet es e f =
        let one = heard_mode l.now l.sender (body_of packet) (rw e at f.is_alive_lem) in
        let g = rw (signal_being l packet e one) at f in
        record {
          before = past;
          packet = packet;
          later = es;
          split = refl;
          signal = e;
          says = one;
          stamp = l.now;
          stamped = now-is;
          since = g.since;
          young = g.young;
        }

    -- Alive after e and to stay so, it was so before e, or is so by e.
    lasts_back : (e : Event) (es : List Event) → Lasts (being_by a l e) es → Lasts l (e ∷ es) ⊎ AliveBy a (past ++ (e ∷ es))
    unfolding sender_by moved_by clock_times is_own
    lasts_back (message packet) es f = inl (quiet_back l (message packet) es refl refl f)
    lasts_back (alive packet) es f = ⊎_elim
        (λ (e : is_signal a packet ≡ true). inr (by_signal packet es e f))
        (λ (e : is_signal a packet ≡ false). inl (quiet_back l (alive packet) es refl e (rw e at f)))
        (true_or_false (is_signal a packet))
    lasts_back (clock now) es f = inl (⊎_elim
        (λ (e : back_or_above l.now now ≡ true). quiet_back l (clock now) es (rw e) refl (rw e at f))
        (λ (e : back_or_above l.now now ≡ false). tick_back l now es e (rw e at f))
        (true_or_false (back_or_above l.now now)))
    lasts_back (aside call) es f = inl (quiet_back l (aside call) es refl refl f)

  -- Alive after es, it was so before and stayed so, or is so by the calls up to there.
  found_by : (past : List Event) (l : Being) → l.now ≡ time_after 0 past → (es : List Event) → (being_after a l es).sender.alive ≡ true
      → Lasts l es ⊎ AliveBy a (past ++ es)
  unfolding clock_times
  found_by past l now-is [] is = inl (record { is_alive_lem = is; since = λ packet m. absurd (Memᴰ.not-nil m); young = λ now m. absurd (Memᴰ.not-nil m) })
  found_by past l now-is (e ∷ es) is = ⊎_elim
      (lasts_back past l now-is e es)
      (λ f. inr (subst (AliveBy a) (append_assoc past (e ∷ []) es) f))
      (found_by (past ++ (e ∷ [])) (being_by a l e) (ap (λ (t : ℕ). moved_by t e) now-is ∙ sym (foldl-append moved_by 0 past (e ∷ []))) es is)

-- ---- every past

module _ (w : World) (start : Start w) (es : List Event) (i : ℕ) (here : i < w.state.count) where
  alive_is : (sender_at (after w es).state i).alive ≡ (being_after (address_at w.state.senders i) new_being es).sender.alive
  unfolding being
  alive_is = ap (λ (l : Being). l.sender.alive) (being_after_lem w (start_sound w start) i here es) ∙ rw (start_being w start i here)

  -- Who is alive is so by the past,
  pub alive_after : (sender_at (after w es).state i).alive ≡ true → AliveBy (address_at w.state.senders i) es
  alive_after is = ⊎_elim
      (λ (f : Lasts (address_at w.state.senders i) new_being es). absurd (false≢true f.is_alive_lem))
      (λ f. f)
      (found_by (address_at w.state.senders i) [] new_being refl es (sym alive_is ∙ is))

  -- and who is so by the past is alive.
  pub after_alive : AliveBy (address_at w.state.senders i) es → (sender_at (after w es).state i).alive ≡ true
  after_alive f = alive_is ∙ by_alive (address_at w.state.senders i) es f
