-- The way of a message through its sender's record: while pieces are missing, and once it was delivered. Assumes
-- nothing.
use Rattle.std.specs.Prelude.{ℕ, ◌+◌, ◌-◌, ◌^◌, ◌≤◌, ◌<◌, ◌≡◌, refl, ◌≢◌, ◌⊎◌, true, false, not, cond, ◌&&◌, List, eqb}
use Rattle.rules.proofs.calls.FirstLaws.{checked_none, checked_given}
use Rattle.refusal.specs.declared.Refusal.TheVariants as refusals
use Rattle.std.proofs.Common.{sym, ap, subst, ◌∙◌, arith, pow_pos}
use Rattle.std.proofs.Math.Logic.{inl, inr, ⊎_elim}
use Rattle.std.proofs.Math.Bool.{and-true, and-false}
use Rattle.std.proofs.Math.Pow.{pow-lt}
use borrow.Author.Tests.{eqb-true, eq-eqb, ne_eqb}
use Rattle.octets.specs.Split.{eq_or_ne, true_or_false, never_both}
use Rattle.ring.specs.declared.Verdict.TheVariants.{Repeat}
use Rattle.ring.specs.Check.{is_repeat, is_unchecked}
use Rattle.ring.proofs.CheckLaws.{is_checked, check_again}
use Rattle.ring.proofs.RingLaws.{not_newer, same_version, same_number}
use Rattle.header.specs.declared.Head.{Head}
use Rattle.header.specs.Head.{head_of}
use Rattle.map.specs.Map.{bit, holds, piece_bit, full_map}
use Rattle.map.proofs.MapLaws.{bit_set, bit_keep, bit_zero, set_below, full_bit, full_only, holds_not}
use Rattle.state.specs.declared.Last.{Last}
use Rattle.state.specs.declared.Sender.{Sender}
use Rattle.state.specs.State.{Settings}
use Rattle.answers.specs.declared.Outcome.TheVariants.{Refused, Stored, Delivered}
use Rattle.rules.specs.calls.Admit.{fills, map_after, verdict_of, message_after, opened, closed, last_by, sender_after, admitted, not_admitted, admission}
use Rattle.rules.specs.calls.Clock.{drops, aged}
use Rattle.promised.proofs.JoinLaws.{kin_in}
use Rattle.promised.specs.Delivery.{Sent, count, Numbered, PieceOf}
use Rattle.promised.proofs.PieceLaws.{Cuttable, kin_for, first_numbered, piece_kin, piece_on_ring, is_open, verdict_by, map_of, newer_open, verdict_is, number_again, number_new, map_is, fills_is}
use Rattle.promised.specs.View.{View, joining, number_of, outcome_view, put, next_view}

-- Pieces are missing. C is which pieces came; the check still says what it said of the last number at the start.
pub record Unfinished (m : Sent) (last : Last) (C : ℕ → Type 0) (s : Sender) : Type 0 where
  pub same_last : s.last ≡ last
  pub none_newer : newer_open m s ≡ false
  pub kin : is_open m s ≡ true → kin_in s.message ≡ kin_for m
  pub room : map_of m s < 2 ^ count m
  pub missing : map_of m s ≢ full_map (count m)
  pub held : (d : ℕ) → Numbered m d → C d → bit (d - 1) (map_of m s) ≡ 1
  pub came : (d : ℕ) → Numbered m d → bit (d - 1) (map_of m s) ≡ 1 → C d

-- All came, and if its version is not 0, its number is the last and nothing is open.
pub record Finished (m : Sent) (C : ℕ → Type 0) (s : Sender) : Type 0 where
  pub all : (d : ℕ) → Numbered m d → C d
  pub last_is : m.version.0 ≢ 0 → (s.last.version.0 ≡ m.version.0) × (s.last.number.0 ≡ m.number.0)
  pub shut : m.version.0 ≢ 0 → s.«open» ≡ false

abbrev pub Phase : Sent → Last → (ℕ → Type 0) → Sender → Type 0
Phase m last C s = Unfinished m last C s ⊎ Finished m C s

-- It matters only which pieces came.
pub phase_same : (m : Sent) (last : Last) (C D : ℕ → Type 0) (s : Sender) → ((d : ℕ) → C d → D d) → ((d : ℕ) → D d → C d) → Phase m last C s → Phase m last D s
phase_same m last C D s to back (inl f) = inl (record {
  same_last = f.same_last;
  none_newer = f.none_newer;
  kin = f.kin;
  room = f.room;
  missing = f.missing;
  held = λ d numbered e. f.held d numbered (back d e);
  came = λ d numbered e. to d (f.came d numbered e);
})
phase_same m last C D s to back (inr f) = inr (record { all = λ d numbered. to d (f.all d numbered); last_is = f.last_is; shut = f.shut })

-- Before any came.
pub phase_start : (m : Sent) → Cuttable m → (s : Sender) → newer_open m s ≡ false → is_open m s ≡ false → Unfinished m s.last (λ d. ⊥) s
phase_start m k s none shut =
    let some : 1 ≤ count m = (first_numbered m k).1 in
    let empty : map_of m s ≡ 0 = rw shut in
    record {
      same_last = refl;
      none_newer = none;
      kin = λ o. absurd (never_both o shut);
      room = rw empty (pow_pos (count m));
      missing = λ z. omega (arith, empty, pow-lt {i = 0} {j = count m} some);
      held = λ d numbered none_came. absurd none_came;
      came = λ d numbered e. let z : bit (d - 1) 0 ≡ 1 = rw empty at e in absurd (omega (arith, bit_zero (d - 1)));
    }

-- ---- the arrival of a piece

module _ (g : Settings) (m : Sent) (k : Cuttable m) (admits : eqb m.mode 1 && not g.test ≡ false) (last : Last)
    (new : is_repeat (verdict_by g.n1 m last) ≡ false) (v : View) (C : ℕ → Type 0) (c : ℕ) (p : List ℕ) (is : PieceOf m c p) where
  abbrev s : Sender
  s = v.sender

  abbrev h : Head
  h = head_of p

  abbrev With : ℕ → Type 0
  With d = C d ⊎ (d ≡ c)

  -- ---- while pieces are missing

  module _ (f : Unfinished m last C s) where
    number : number_of g v p ≡ cond (holds (map_of m s) c) 20 0
    number = number_new g.test g.n1 m k admits s c p is (rw f.same_last new) f.none_newer f.kin

    number_held : C c → number_of g v p ≡ 20
    number_held e = number ∙ rw (f.held c is.numbered e)

    module _ (clear : holds (map_of m s) c ≡ false) where
      number_clear : number_of g v p ≡ 0
      number_clear = number ∙ rw clear

      bit_clear : bit (c - 1) (map_of m s) ≡ 0
      bit_clear = holds_not (map_of m s) c clear

      abbrev grown : ℕ
      grown = map_of m s + piece_bit c

      apart : (d : ℕ) → Numbered m d → d ≢ c → d - 1 ≢ c - 1
      apart d numbered ne e = ne (omega (arith, numbered.0, is.numbered.0))

      grown_held : (d : ℕ) → Numbered m d → With d → bit (d - 1) grown ≡ 1
      grown_held d numbered e = ⊎_elim
          (λ (q : d ≡ c). rw q (bit_set (c - 1) (map_of m s) bit_clear))
          (λ (q : d ≢ c). bit_keep (d - 1) (c - 1) (map_of m s) bit_clear (apart d numbered q) ∙ ⊎_elim (λ (x : C d). f.held d numbered x) (λ (x : d ≡ c). absurd (q x)) e)
          (eq_or_ne d c)

      grown_came : (d : ℕ) → Numbered m d → bit (d - 1) grown ≡ 1 → With d
      grown_came d numbered e = ⊎_elim
          (λ (q : d ≡ c). inr q)
          (λ (q : d ≢ c). inl (f.came d numbered (sym (bit_keep (d - 1) (c - 1) (map_of m s) bit_clear (apart d numbered q)) ∙ e)))
          (eq_or_ne d c)

      -- The map is full exactly if all came.
      full_all : grown ≡ full_map (count m) → (d : ℕ) → Numbered m d → With d
      full_all e d numbered = grown_came d numbered (ap (bit (d - 1)) e ∙ full_bit (count m) (d - 1) (omega (arith, numbered.0, numbered.1)))

      grown_room : grown < 2 ^ count m
      grown_room = set_below (count m) (c - 1) (map_of m s) (omega (arith, is.numbered.0, is.numbered.1)) f.room bit_clear

      all_full : ((d : ℕ) → Numbered m d → With d) → grown ≡ full_map (count m)
      all_full all = full_only (count m) grown grown_room
          (λ j less. subst (λ (x : ℕ). bit x grown ≡ 1) (omega arith) (grown_held (j + 1) (omega arith, omega arith) (all (j + 1) (omega arith, omega arith))))

      fills_by : fills s h ≡ eqb grown (full_map (count m))
      fills_by = fills_is g.test g.n1 m k admits s c p is clear

      -- The last missing piece.
      finishes : grown ≡ full_map (count m) → Finished m With (closed s (last_by (verdict_of g.n1 s h) s h))
      finishes e = record { all = full_all e; last_is = λ some. rw (kept some) (is.version, is.number); shut = λ _. refl }
        where
          kept : m.version.0 ≢ 0 → is_unchecked (verdict_of g.n1 s h) ≡ false
          kept some = is_checked g.n1 s.last.version s.last.number h.given.version h.given.number (λ z. some (sym is.version ∙ z))

      -- One of several.
      goes_on : grown ≢ full_map (count m) → Unfinished m last With (opened s (message_after v.now s h))
      unfolding is_open
      goes_on ne =
          let after : map_after s h ≡ grown = map_is g.test g.n1 m k admits s c p is clear in
          let version = eq-eqb h.given.version.0 m.version.0 is.version in
          let number = eq-eqb h.given.number.0 m.number.0 is.number in
          record {
            same_last = f.same_last;
            none_newer = rw (version, same_number is.number) (not_newer m.number (piece_on_ring m k c p is));
            kin = λ o. piece_kin m k c p is;
            room = rw (version, number, after) grown_room;
            missing = rw (version, number, after) ne;
            held = rw (version, number, after) grown_held;
            came = rw (version, number, after) grown_came;
          }

      next_sender : Phase m last With (admitted g.n1 v.now s h).sender
      unfolding admitted sender_after
      next_sender = ⊎_elim
          (λ (e : grown ≡ full_map (count m)). rw (fills_by, eq-eqb grown (full_map (count m)) e) (inr (finishes e)))
          (λ (e : grown ≢ full_map (count m)). rw (fills_by, ne_eqb grown (full_map (count m)) e) (inl (goes_on e)))
          (eq_or_ne grown (full_map (count m)))

    unfinished_next : Phase m last With (next_view g v p).sender
    unfolding next_view put
    unfinished_next = ⊎_elim
        (λ (e : holds (map_of m s) c ≡ true).
        let n : number_of g v p ≡ 20 = number ∙ rw e in
        rw n (phase_same m last C With s (λ d x. inl x) (λ d x. ⊎_elim (λ y. y) (λ (q : d ≡ c). rw q (f.came c is.numbered (eqb-true (bit (c - 1) (map_of m s)) 1 e))) x) (inl f)))
        (λ (e : holds (map_of m s) c ≡ false). rw (number_clear e) (next_sender e))
        (true_or_false (holds (map_of m s) c))

    -- The answer to the last missing piece, to one of several, and to one that came before.
    outcome_last : holds (map_of m s) c ≡ false → ((d : ℕ) → Numbered m d → With d) → outcome_view g v p ≡ Delivered (verdict_by g.n1 m last)
    unfolding admission admitted
    outcome_last clear all =
        rw (outcome_view, checked_none _ (number_clear clear), fills_by clear, eq-eqb (grown clear) (full_map (count m)) (all_full clear all), verdict_is g.test g.n1 m k admits s c p is, f.same_last)

    outcome_more : holds (map_of m s) c ≡ false → (((d : ℕ) → Numbered m d → With d) → ⊥) → outcome_view g v p ≡ Stored
    unfolding admission admitted
    outcome_more clear not_all =
        rw (outcome_view, checked_none _ (number_clear clear), fills_by clear, ne_eqb (grown clear) (full_map (count m)) (λ e. not_all (full_all clear e)))

    outcome_held : C c → outcome_view g v p ≡ Refused refusals.Held 0
    unfolding admission not_admitted
    outcome_held e = rw (outcome_view, checked_given _ refusals.Held (number_held e))

    not_held : (C c → ⊥) → holds (map_of m s) c ≡ false
    not_held none = ⊎_elim
        (λ (e : holds (map_of m s) c ≡ true). absurd (none (f.came c is.numbered (eqb-true (bit (c - 1) (map_of m s)) 1 e))))
        (λ e. e)
        (true_or_false (holds (map_of m s) c))

    some_missing : ((d : ℕ) → Numbered m d → C d) → ⊥
    some_missing all = f.missing (full_only (count m) (map_of m s) f.room
        (λ j less. subst (λ (x : ℕ). bit x (map_of m s) ≡ 1) (omega arith) (f.held (j + 1) (omega arith, omega arith) (all (j + 1) (omega arith, omega arith)))))

  -- ---- once it was delivered

  module _ (f : Finished m C s) where
    again : 1 ≤ g.n1 → m.version.0 ≢ 0 → verdict_by g.n1 m s.last ≡ Repeat 0
    again one some =
        let last_is = f.last_is some in
        rw (same_version last_is.0, same_number last_is.1) (check_again g.n1 m.version m.number some one)

    number_finished : 1 ≤ g.n1 → m.version.0 ≢ 0 → number_of g v p ≡ 17
    number_finished one some = number_again g.test g.n1 m k admits s c p is (rw (again one some))

    finished_next : 1 ≤ g.n1 → Finished m With (next_view g v p).sender
    unfolding next_view
    finished_next one = record {
      all = λ d numbered. inl (f.all d numbered);
      last_is = λ some. rw (number_finished one some) (f.last_is some);
      shut = λ some. rw (number_finished one some) (f.shut some);
    }

  -- ---- in either

  pub phase_next : 1 ≤ g.n1 → Phase m last C s → Phase m last With (next_view g v p).sender
  phase_next one (inl f) = unfinished_next f
  phase_next one (inr f) = inr (finished_next f one)

  pub phase_last : Phase m last C s → (C c → ⊥) → ((d : ℕ) → Numbered m d → d ≢ c → C d) → outcome_view g v p ≡ Delivered (verdict_by g.n1 m last)
  phase_last (inl f) none rest = outcome_last f (not_held f none) (λ d numbered. ⊎_elim (λ (q : d ≡ c). inr q) (λ (q : d ≢ c). inl (rest d numbered q)) (eq_or_ne d c))
  phase_last (inr f) none rest = absurd (none (f.all c is.numbered))

  pub phase_more : Phase m last C s → (C c → ⊥) → (d : ℕ) → Numbered m d → d ≢ c → (C d → ⊥) → outcome_view g v p ≡ Stored
  phase_more (inl f) none d numbered ne missing = outcome_more f (not_held f none) (λ all. ⊎_elim missing ne (all d numbered))
  phase_more (inr f) none d numbered ne missing = absurd (none (f.all c is.numbered))

  pub phase_held : Phase m last C s → C c → (d : ℕ) → Numbered m d → (C d → ⊥) → outcome_view g v p ≡ Refused refusals.Held 0
  phase_held (inl f) here d numbered missing = outcome_held f here
  phase_held (inr f) here d numbered missing = absurd (missing (f.all d numbered))

  pub phase_once : 1 ≤ g.n1 → m.version.0 ≢ 0 → Phase m last C s → ((d : ℕ) → Numbered m d → C d) → outcome_view g v p ≡ Refused refusals.Repeat 0
  unfolding admission not_admitted
  phase_once one some (inl f) all = absurd (some_missing f all)
  phase_once one some (inr f) all = rw (outcome_view, checked_given _ refusals.Repeat (number_finished f one some), verdict_is g.test g.n1 m k admits s c p is, again f one some)

-- ---- a clock call that keeps the message

module _ (m : Sent) (last : Last) (C : ℕ → Type 0) (t now : ℕ) (s : Sender) where
  abbrev later : Sender
  later = joining (aged t now s)

  kept_same : drops t now s ≡ false → later ≡ joining s
  unfolding aged
  kept_same e = rw (e, and-true s.«open»)

  -- Another message of the sender was open, and is dropped.
  module _ (e : drops t now s ≡ true) (other : is_open m s ≡ false) where
    shut : later.«open» ≡ false
    unfolding aged
    shut = rw (e, and-false s.«open»)

    no_map : map_of m s ≡ map_of m later
    unfolding is_open
    no_map = rw (shut, other)

    dropped_phase : Phase m last C s → Phase m last C later
    unfolding aged
    dropped_phase (inl f) = inl (record {
      same_last = f.same_last;
      none_newer = rw shut;
      kin = λ o. absurd (never_both o (unfold is_open in rw shut));
      room = rw (← no_map) f.room;
      missing = rw (← no_map) f.missing;
      held = rw (← no_map) f.held;
      came = rw (← no_map) f.came;
    })
    dropped_phase (inr f) = inr (record { all = f.all; last_is = f.last_is; shut = λ _. shut })

  pub phase_clock : joining s ≡ s → (is_open m s ≡ true → drops t now s ≡ false) → Phase m last C s → Phase m last C later
  phase_clock own kept f = ⊎_elim
      (λ (e : drops t now s ≡ true). dropped_phase e (closed_then e) f)
      (λ (e : drops t now s ≡ false). subst (Phase m last C) (sym (kept_same e ∙ own)) f)
      (true_or_false (drops t now s))
    where
      closed_then : drops t now s ≡ true → is_open m s ≡ false
      closed_then e = ⊎_elim (λ (o : is_open m s ≡ true). absurd (never_both e (kept o))) (λ o. o) (true_or_false (is_open m s))
