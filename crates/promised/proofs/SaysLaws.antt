-- Every call is told what `says` says, which looks at setup's arguments and the log alone. Assumes nothing.
use Rattle.std.specs.Prelude.{ℕ, zero, suc, ◌+◌, ◌-◌, ◌≤◌, ◌<◌, ◌≡◌, ◌≢◌, Bool, true, not, ◌||◌, eqb, get_or, Some, Ok}
use Rattle.std.proofs.Math.Path.{refl, ap}
use Rattle.std.proofs.Common.{sym, subst, ◌∙◌, arith, eqb-true, eq-eqb, le-ltb, lt-ltb}
use Rattle.std.proofs.Math.Logic.{⊎_elim}
use Rattle.std.proofs.Math.Bool.{false}
use Rattle.std.proofs.lemmas.Bool.{false≢true, not-true, not-false}
use mathlib.Core.List.Memᴰ
use mathlib.Core.List.{List, [], ◌∷◌, Memᴰ}
use Rattle.std.proofs.Math.Dec.{ltb}
use Rattle.std.proofs.Math.ListN.{length}
use Rattle.octets.specs.FirstPlace.{first_place}
use Rattle.octets.proofs.FirstPlaceLaws.{place_holds, place_before}
use Rattle.octets.specs.Split.{lt_or_le, true_or_false, never_both, same_test, or_left, or_right, either}
use Rattle.header.specs.Head.{head_of}
use Rattle.map.specs.Map.{bit, holds}
use Rattle.state.specs.declared.Message.{Message}
use Rattle.state.specs.declared.Address.{Address}
use Rattle.state.specs.declared.Sender.{Sender}
use Rattle.state.specs.Held.{held_at}
use Rattle.state.proofs.HeldLaws.{held_past, held_is_ones}
use Rattle.state.specs.Limits.{same_address, given, clock_most}
use Rattle.state.specs.State.{no_sender, sender_at, first_where, Settings}
use Rattle.state.specs.Table.{source, found}
use Rattle.state.proofs.WithinLaws.{valid_sender}
use Rattle.answers.specs.declared.Setup.{Setup}
use Rattle.answers.specs.Told.{clock_told, call_number, question_told}
use Rattle.rules.specs.calls.Alive.{alive_rows, alive_answer}
use Rattle.rules.specs.calls.Clock.{drops, dies, map_where, ticked, not_ticked, clock_answer}
use Rattle.rules.proofs.calls.ClockLaws.{clock_back_lem, clock_on}
use Rattle.rules.specs.calls.First.{first}
use Rattle.rules.specs.calls.Question.{pieces_of, question_answer}
use Rattle.rules.proofs.calls.QuestionLaws.{Held, all_held, question_none, question_piece}
use Rattle.rules.specs.calls.Setup.{setup_within}
use Rattle.rules.specs.pasts.Past.{World, message, clock}
use Rattle.promised.proofs.AgreesLaws.{Agrees}
use Rattle.promised.proofs.JudgedLaws.{alive_length, alive_head, alive_body, alive_section}
use Rattle.promised.proofs.KeptLaws.{alive_number}
use Rattle.promised.specs.Join.{number_in}
use Rattle.promised.proofs.JoinLaws.{kin_in, Fine}
use Rattle.promised.specs.Log.{Exchange, time_of, open_of, is_open, life_of}
use Rattle.promised.proofs.LogLaws.{open_pieces}
use Rattle.promised.specs.Says.{senders_of, place_of, alive_says, map_of, is_dropped, is_old, clock_says, has_piece, pieces_in, question_says, held_says}
use Rattle.promised.specs.View.{view}

-- ---- places

-- The first place at which something holds, and the map of those at which it does, depend on the places below alone.
pub first_same : (f : Sender → Bool) (l : List Sender) (g : ℕ → Bool) (k : ℕ) → ((j : ℕ) → j < k → f (get_or l j no_sender) ≡ g j) → first_where f l k ≡ first_place g k
unfolding first_where first_place
first_same f l g zero same = refl
first_same f l g (suc k) same = rw (first_same f l g k (λ j less. same j (omega arith)), same k (omega arith))

pub map_same : (f : Sender → Bool) (l : List Sender) (g : ℕ → Bool) (k : ℕ) → ((j : ℕ) → j < k → f (get_or l j no_sender) ≡ g j) → map_where f l k ≡ map_of g k
unfolding map_where map_of
map_same f l g zero same = refl
map_same f l g (suc k) same = rw (map_same f l g k (λ j less. same j (omega arith)), same k (omega arith))

-- ---- the pieces of the open message

has_piece_lem : (packets : List (List ℕ)) (o : List ℕ) → Memᴰ o packets → has_piece packets (number_in o) ≡ true
unfolding has_piece
has_piece_lem [] o m = absurd (Memᴰ.not-nil m)
has_piece_lem (p ∷ packets) o m = ⊎_elim
    (λ (e : o ≡ p). or_left (eqb (number_in p) (number_in o)) (has_piece packets (number_in o)) (eq-eqb _ _ (ap number_in (sym e))))
    (λ rest. or_right (eqb (number_in p) (number_in o)) (has_piece packets (number_in o)) (has_piece_lem packets o rest))
    (Memᴰ.cases_cons m)

piece_had : (packets : List (List ℕ)) (c : ℕ) → has_piece packets c ≡ true → (o : List ℕ) × Memᴰ o packets × (number_in o ≡ c)
unfolding has_piece
piece_had [] c e = absurd (false≢true e)
piece_had (p ∷ packets) c e = ⊎_elim
    (λ (is : eqb (number_in p) c ≡ true). (p, Memᴰ.head refl, eqb-true (number_in p) c is))
    (λ (rest : has_piece packets c ≡ true). let f = piece_had packets c rest in (f.0, Memᴰ.tail f.1, f.2))
    (either (eqb (number_in p) c) (has_piece packets c) e)

-- The map holds the pieces that were accepted.
pub held_is : (packets : List (List ℕ)) (m : Message) (octets : List ℕ) → Fine packets (kin_in m) m.map octets → (c : ℕ) → 1 ≤ c → c ≤ m.tbn → holds m.map c ≡ has_piece packets c
held_is packets m octets f c low top = same_test (holds m.map c) (has_piece packets c)
    (λ e. let b = f.has c low top (eqb-true (bit (c - 1) m.map) 1 e) in subst (λ (x : ℕ). has_piece packets x ≡ true) b.number (has_piece_lem packets b.packet b.among))
    (λ e. let o = piece_had packets c e in eq-eqb (bit (c - 1) m.map) 1 (subst (λ (x : ℕ). bit (x - 1) m.map ≡ 1) o.2 (f.marked o.0 o.1).2))

module _ (q : Setup) (log : List Exchange) (w : World) (a : Agrees q log w) where
  pub place_is : (b : Address) (h : List ℕ) → source (head_of h) ≡ b → found w.state (head_of h) ≡ place_of (senders_of q) b
  place_is b h e = rw (e, ← a.count) (first_same (λ s. same_address s.address b) w.state.senders (λ i. same_address (given (senders_of q) i) b) w.state.count
      (λ j less. ap (λ (x : Address). same_address x b) (a.address j less)))

  -- Where there is a sender, setup was accepted.
  pub accepted_setup : (i : ℕ) → i < w.state.count → setup_within q ≡ true
  unfolding senders_of
  accepted_setup i here = ⊎_elim
      (λ e. e)
      (λ (e : setup_within q ≡ false). let none : w.state.count ≡ 0 = rw e at a.count in absurd (omega (arith, here, none)))
      (true_or_false (setup_within q))

  -- ---- the alive call

  pub alive_says_lem : (packet : List ℕ) → call_number (alive_answer w.state packet).call ≡ alive_says q packet
  unfolding alive_rows alive_says first
  alive_says_lem packet =
      alive_number w.state packet
      ∙ rw (a.sound.is_valid, alive_length packet, alive_head packet, alive_body packet, alive_section packet, place_is (source (head_of packet)) packet refl, a.count)

  -- ---- the clock call

  drops_is : (ms i : ℕ) → i < w.state.count → drops w.state.t ms (sender_at w.state i) ≡ is_dropped q log ms i
  unfolding view
  drops_is ms i here =
      let t = a.tells i here in
      let its = given (senders_of q) i in
      let same : w.state.t ≡ q.t = ap (λ (x : Settings). x.t) (a.settings (accepted_setup i here)) in
      rw same (⊎_elim
      (λ (o : (sender_at w.state i).«open» ≡ true). rw (← t.same_open, o, t.same_stamp o))
      (λ (o : (sender_at w.state i).«open» ≡ false). rw (← t.same_open, o))
      (true_or_false (sender_at w.state i).«open»))

  dies_is : (ms i : ℕ) → i < w.state.count → dies ms (sender_at w.state i) ≡ is_old (life_of (given (senders_of q) i) i log) ms
  dies_is ms i here = ap (dies ms) (a.lives i here)

  pub clock_says_lem : (ms : ℕ) → clock_told (clock_answer w.state ms) ≡ clock_says q log ms
  unfolding clock_says
  clock_says_lem ms =
      let ok = a.sound.is_valid in
      let back = ltb ms w.state.clock || ltb clock_most ms in
      rw (← a.time) (⊎_elim
      (λ (e : back ≡ true). unfold not_ticked in rw (← clock_back_lem w.state ms ok e, e))
      (λ (e : back ≡ false). unfold ticked in rw (
        ← clock_on w.state ms ok e,
        e,
        ← a.count,
        map_same (drops w.state.t ms) w.state.senders (is_dropped q log ms) w.state.count (drops_is ms),
        map_same (dies ms) w.state.senders (λ i. is_old (life_of (given (senders_of q) i) i log) ms) w.state.count (dies_is ms),
      ))
      (true_or_false back))

  -- ---- the question

  abbrev at : ℕ → List (List ℕ)
  at i = open_of (given (senders_of q) i) i log

  open_is : (i : ℕ) → i < w.state.count → (sender_at w.state i).«open» ≡ is_open (at i)
  unfolding view
  open_is i here = (a.tells i here).same_open

  -- As many pieces are kept as were accepted since.
  pub held_says_lem : (i : ℕ) → held_at w.state i ≡ held_says q log i
  unfolding held_says view
  held_says_lem i = rw (← a.count) (⊎_elim
      (λ (here : i < w.state.count).
      rw (lt-ltb i w.state.count here) (held_is_ones w.state i a.sound.is_valid here ∙ ⊎_elim
      (λ (o : (sender_at w.state i).«open» ≡ true). rw o ((a.tells i here).same_held o))
      (λ (o : (sender_at w.state i).«open» ≡ false). rw o (none_open (at i) (sym (open_is i here) ∙ o)))
      (true_or_false (sender_at w.state i).«open»)))
      (λ (past : w.state.count ≤ i). rw (le-ltb i w.state.count past) (held_past w.state i past))
      (lt_or_le i w.state.count))
    where
      none_open : (packets : List (List ℕ)) → is_open packets ≡ false → 0 ≡ length packets
      none_open [] e = refl
      none_open (p ∷ packets) e = absurd (never_both refl e)

  -- The lowest missing piece of the open message at place i.
  module _ (i : ℕ) (here : i < w.state.count) (opened : (sender_at w.state i).«open» ≡ true) where
    abbrev s : Sender
    s = sender_at w.state i

    fine : Fine (at i) (kin_in s.message) s.message.map (view w i).octets
    unfolding view
    fine = (a.tells i here).inv.good opened

    pieces_are : s.message.tbn ≡ pieces_in (at i)
    unfolding view
    pieces_are = open_pieces _ (time_of log) _ (view w i) (at i) (a.tells i here) opened

    abbrev missing : ℕ → Bool
    missing j = not (has_piece (at i) (j + 1))

    abbrev k : ℕ
    k = first_place missing (pieces_in (at i))

    holds_is : (j : ℕ) → j < pieces_in (at i) → holds s.message.map (j + 1) ≡ has_piece (at i) (j + 1)
    holds_is j less = held_is (at i) s.message (view w i).octets fine (j + 1) (omega arith) (omega (arith, less, pieces_are))

    held_before : (j : ℕ) → j < k → j < pieces_in (at i) → holds s.message.map (j + 1) ≡ true
    held_before j less below = holds_is j below ∙ not-false (has_piece (at i) (j + 1)) (place_before missing (pieces_in (at i)) j less below)

    -- Of an open message some piece is missing.
    some_missing : k < pieces_in (at i)
    some_missing = ⊎_elim
        (λ less. less)
        (λ (all : pieces_in (at i) ≤ k).
        let held : Held s (pieces_of s) = rw (opened, pieces_are) (λ j less. held_before j (omega (arith, less, all)) less) in
        absurd (never_both opened (all_held w.state.clock s (valid_sender w.state a.sound.is_valid i here) held)))
        (lt_or_le k (pieces_in (at i)))

    pub piece_is : ((j : ℕ) → j < i → (sender_at w.state j).«open» ≡ false) → Ok (Some (record { sender = i; piece = k + 1 })) ≡ question_answer w.state
    piece_is first_open = question_piece w.state a.sound.is_valid i k here first_open
        (rw (opened, pieces_are) some_missing)
        (λ j less. held_before j less (omega (arith, less, some_missing)))
        (holds_is k some_missing ∙ not-true (has_piece (at i) (k + 1)) (place_holds missing (pieces_in (at i)) some_missing))

  -- The first sender with an open message.
  abbrev i₀ : ℕ
  i₀ = first_place (λ i. is_open (at i)) w.state.count

  none_before : (j : ℕ) → j < i₀ → j < w.state.count → (sender_at w.state j).«open» ≡ false
  none_before j less below = open_is j below ∙ place_before (λ i. is_open (at i)) w.state.count j less below

  pub question_says_lem : question_told (question_answer w.state) ≡ question_says q log
  unfolding question_says
  question_says_lem = rw (← a.count) (⊎_elim
      (λ (here : i₀ < w.state.count).
      let opened = open_is i₀ here ∙ place_holds (λ i. is_open (at i)) w.state.count here in
      rw (lt-ltb i₀ w.state.count here, ← piece_is i₀ here opened (λ j less. none_before j less (omega (arith, less, here)))))
      (λ (none : w.state.count ≤ i₀).
      rw (le-ltb i₀ w.state.count none, ← question_none w.state a.sound.is_valid w.state.count refl (λ j less. none_before j (omega (arith, less, none)) less)))
      (lt_or_le i₀ w.state.count))
