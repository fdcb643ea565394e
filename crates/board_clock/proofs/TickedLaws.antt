-- The clock call on words: after i turns the first i senders are aged. Assumes nothing.
use Rattle.std.specs.Prelude.{ℕ, zero, suc, ◌+◌, ◌-◌, ◌^◌, ◌≤◌, ◌<◌, ◌≡◌, Bool, true, false, cond, ◌||◌, List, ltb, get_or, set, drop}
use Rattle.std.proofs.Math.Path.{refl, ap}
use Rattle.std.proofs.Common.{sym, subst, ◌∙◌, ⊎_elim, add-zero, add-one, arith, pow_mono}
use Rattle.octets.specs.Run.{laid}
use Rattle.octets.specs.Split.{true_or_false}
use Rattle.map.specs.Map.{holds, marked}
use Rattle.map.proofs.MapLaws.{bit_above, marked_adds}
use Rattle.state.specs.declared.Receiver.{Receiver}
use Rattle.state.specs.declared.Sender.{Sender}
use Rattle.state.specs.Limits.{clock_most, valid}
use Rattle.state.specs.State.{senders_most, no_sender, with_senders, settings_from, state_of}
use Rattle.answers.specs.declared.Ticked as by_value
use Rattle.refusal.specs.declared.Refusal.TheVariants as refusals
use Rattle.rules.specs.calls.Clock.{drops, dies, aged, aged_senders, map_where, ticked, clock_answer}
use Rattle.rules.specs.calls.Clock as clock
use Rattle.rules.proofs.calls.ClockLaws.{map_below, clock_nine, clock_back_lem, clock_on, map_again, state_more}
use Rattle.rules.specs.calls.Message.{with_sender}
use Rattle.words.specs.declared.Record.{Record}
use Rattle.words.specs.Words.{place, word, record_words, record_at, sender_of, fits, senders_in, is_state, state_in, left_by}
use Rattle.words.proofs.StateLaws.{IsState, state_facts, sender_in_lem, fit_each}
use Rattle.words.proofs.WrittenLaws.{Means, means_same, means_by, left_same, left_is, clock_is_state, clock_state, clock_beyond, put_state, put_is_state, put_beyond}
use Rattle.words_look.specs.Look.{is_held}
use Rattle.words_look.proofs.LookLaws.{Held, nine_by}
use Rattle.board.specs.declared.Ticked.{Ticked}
use Rattle.board.specs.Calls.{not_ticked, ticked_of, clock_for}
use Rattle.board_clock.specs.private.Aged.{aged_by}
use Rattle.board_clock.proofs.private.AgedLaws.{aged_there, aged_fits}

-- What the call answered and left.
abbrev pub Met : List ℕ → ℕ → Ticked → List ℕ → Type 0
Met l ms r left = (r ≡ clock_for l ms) × (left ≡ left_by l (clock_answer (state_in l) ms).state)

met_by : (l : List ℕ) (ms : ℕ) → is_state l ≡ true → (a : by_value.Ticked) → a ≡ clock_answer (state_in l) ms → (r : Ticked) (left : List ℕ)
    → r ≡ ticked_of a → left ≡ left_by l a.state → Met l ms r left
unfolding clock_for
met_by l ms is a e r left told same = (rw (is, sym e) told, rw (sym e) same)

module _ (l : List ℕ) (ms : ℕ) where
  -- Words that are no state within its limits.
  pub met_nine : is_held l ≡ false → (r : Ticked) → r ≡ not_ticked 9 → Met l ms r l
  unfolding clock_for left_by clock.not_ticked
  met_nine e r told = nine_by l (Met l ms r l) e
      (λ no. (rw no told, rw no))
      (λ is no. met_by l ms is (clock.not_ticked (state_in l) refusals.State) (clock_nine (state_in l) ms no) r l told (unfold left_by in left_same l))

  module _ (h : Held l) where
    abbrev w : Receiver
    w = state_in l

    pub met_back : ltb ms (word l 3) || ltb clock_most ms ≡ true → (r : Ticked) → r ≡ not_ticked 21 → Met l ms r l
    unfolding clock.not_ticked
    met_back e r told = met_by l ms h.means_state (clock.not_ticked w refusals.Clock) (clock_back_lem w ms h.is_valid e) r l told (left_same l)

    -- ---- turn by turn

    pub record Aging (m : List ℕ) (x y i : ℕ) : Type 0 where
      pub still : IsState m
      pub state : state_in m ≡ with_senders w (aged_senders (word l 2) ms (senders_in l) i)
      pub beyond : drop (place (word l 4)) m ≡ drop (place (word l 4)) l
      pub dropped_is : x ≡ map_where (drops (word l 2) ms) (senders_in l) i
      pub dead_is : y ≡ map_where (dies ms) (senders_in l) i
      pub few : i ≤ word l 4

    pub aging_none : Aging l 0 0 0
    unfolding aged_senders map_where
    aging_none = record {
      still = state_facts l h.means_state;
      state = refl;
      beyond = refl;
      dropped_is = refl;
      dead_is = refl;
      few = omega arith;
    }

    -- A place that is marked was not.
    mark : (b : Bool) (x i z : ℕ) → i < senders_most → x < 2 ^ i → x + cond b (2 ^ i) 0 ≡ z → cond b (marked x (i + 1)) x ≡ z
    mark true x i z few below e =
        let back : (i + 1) - 1 ≡ i = omega arith in
        let clear : holds x (i + 1) ≡ false = rw (back, bit_above i i x below (omega arith)) in
        marked_adds x (i + 1) (omega arith) clear ∙ rw back e
    mark false x i z few below e = sym (add-zero x) ∙ e

    module _ {m : List ℕ} {x y i : ℕ} (so_far : Aging m x y i) (less : i < word l 4) (r q : Record) (drop-it die : Bool) (er : r ≡ record_at m i)
        (ed : drop-it ≡ drops (word l 2) ms (sender_of r)) (ey : die ≡ dies ms (sender_of r)) (eq : q ≡ aged_by r drop-it die) where
      few : i < senders_most
      few = omega (arith, (state_facts l h.means_state).few)

      senders_are : senders_in m ≡ aged_senders (word l 2) ms (senders_in l) i
      senders_are = ap (λ (v : Receiver). v.senders) so_far.state

      count_is : word m 4 ≡ word l 4
      count_is = ap (λ (v : Receiver). v.count) so_far.state

      here : sender_of r ≡ get_or (senders_in m) i no_sender
      here = ap sender_of er ∙ sym (sender_in_lem m i few)

      is_aged : sender_of q ≡ aged (word l 2) ms (get_or (senders_in m) i no_sender)
      is_aged =
          ap sender_of (eq ∙ ap (λ (b : Bool). aged_by r b die) ed ∙ ap (aged_by r (drops (word l 2) ms (sender_of r))) ey) ∙ aged_there r (word l 2) ms ∙ ap (aged (word l 2) ms) here

      own_fits : fits q ≡ true
      own_fits = rw eq (aged_fits r drop-it die (rw er (fit_each m (word m 4) so_far.still.fit i (omega (arith, count_is)))))

      pub aging_more : (n : List ℕ) (u v : ℕ) → n ≡ laid m (place i) (record_words q) → u ≡ cond drop-it (marked x (i + 1)) x → v ≡ cond die (marked y (i + 1)) y
          → Aging n u v (i + 1)
      unfolding with_sender
      aging_more n u v en eu ev = record {
        still = rw en (put_is_state m so_far.still.many i few q so_far.still own_fits);
        state = ap state_in en ∙ put_state m so_far.still.many i few q ∙ state_more w (state_in m) (word l 2) ms i (sender_of q) so_far.state is_aged;
        beyond = ap (drop (place (word l 4))) en ∙ put_beyond m so_far.still.many i few q (place (word l 4)) (omega arith) ∙ so_far.beyond;
        dropped_is = eu ∙ mark drop-it x i _ few (rw so_far.dropped_is (map_below (drops (word l 2) ms) (senders_in l) i))
            (map_again (word l 2) ms (drops (word l 2) ms) (senders_in l) (senders_in m) i x drop-it senders_are so_far.dropped_is (ed ∙ ap (drops (word l 2) ms) here));
        dead_is = ev ∙ mark die y i _ few (rw so_far.dead_is (map_below (dies ms) (senders_in l) i))
            (map_again (word l 2) ms (dies ms) (senders_in l) (senders_in m) i y die senders_are so_far.dead_is (ey ∙ ap (dies ms) here));
        few = omega arith;
      }

    -- All are aged, and the time is set.
    pub met_on : {m : List ℕ} {x y i : ℕ} → Aging m x y i → word l 4 ≤ i → ltb ms (word l 3) || ltb clock_most ms ≡ false
        → (n : List ℕ) → n ≡ set m 3 ms → Met l ms (record { number = 0; dropped = x; dead = y }) n
    unfolding ticked
    met_on {m} {x} {y} {i} all done on n en =
        let z : i ≡ word l 4 = omega (arith, all.few) in
        let senders = ap (λ (v : Receiver). v.senders) all.state ∙ ap (aged_senders (word l 2) ms (senders_in l)) z in
        let state : state_in (set m 3 ms) ≡ (ticked w ms).state
        = clock_state m ms all.still ∙ ap (λ (v : Receiver). state_of (settings_from v) ms (senders_in m)) all.state ∙ ap (state_of (settings_from w) ms) senders in
        met_by l ms h.means_state (ticked w ms) (clock_on w ms h.is_valid on) _ n
        (rw (all.dropped_is, all.dead_is, z))
        (en ∙ left_is l (set m 3 ms) (ticked w ms).state h.means_state (clock_is_state m ms all.still) state refl (clock_beyond m ms all.still (word l 4) ∙ all.beyond))

    -- A map of places has 16 bits.
    pub map_short : {m : List ℕ} {x y i : ℕ} → Aging m x y i → (x < 65536) × (y < 65536)
    map_short {m} {x} {y} {i} all = (
      rw all.dropped_is (below (drops (word l 2) ms)),
      rw all.dead_is (below (dies ms)),
    )
      where
        below : (f : Sender → Bool) → map_where f (senders_in l) i < 65536
        below f = omega (arith, map_below f (senders_in l) i, pow_mono {i = i} {j = 16} (omega (arith, all.few, (state_facts l h.means_state).few)))

    -- There are such turns.
    ages : (i : ℕ) → i ≤ word l 4 → (m : List ℕ) × (x : ℕ) × (y : ℕ) × Aging m x y i
    ages zero h0 = (l, 0, 0, aging_none)
    ages (suc i) h0 =
        let before = ages i (omega arith) in
        let m = before.0 in
        let r = record_at m i in
        let drop-it = drops (word l 2) ms (sender_of r) in
        let die = dies ms (sender_of r) in
        let q = aged_by r drop-it die in
        let n = laid m (place i) (record_words q) in
        let x = cond drop-it (marked before.1 (i + 1)) before.1 in
        let y = cond die (marked before.2 (i + 1)) before.2 in
        (n, x, y, subst (Aging n x y) (add-one i) (aging_more before.3 (omega arith) r q drop-it die refl refl refl refl n x y refl refl refl))

    means_on : ltb ms (word l 3) || ltb clock_most ms ≡ false → Means l (clock_answer w ms).state
    unfolding ticked
    means_on on =
        let all = ages (word l 4) (omega arith) in
        let m = all.0 in
        let f = all.3.still in
        let senders = ap (λ (v : Receiver). v.senders) all.3.state in
        let state : state_in (set m 3 ms) ≡ (ticked w ms).state
        = clock_state m ms f ∙ ap (λ (v : Receiver). state_of (settings_from v) ms (senders_in m)) all.3.state ∙ ap (state_of (settings_from w) ms) senders in
        means_by l (set m 3 ms) (clock_answer w ms).state (met_on all.3 (omega arith) on (set m 3 ms) refl).1 (clock_is_state m ms f)
        (state ∙ ap (λ (x : by_value.Ticked). x.state) (clock_on w ms h.is_valid on))

-- What the call leaves means the state that the call by value leaves.
pub clock_means : (l : List ℕ) (ms : ℕ) → is_state l ≡ true → Means l (clock_answer (state_in l) ms).state
unfolding clock.not_ticked
clock_means l ms is = ⊎_elim
    (λ (ok : valid (state_in l) ≡ true).
    let h : Held l = record { means_state = is; is_valid = ok } in
    ⊎_elim
    (λ (back : ltb ms (word l 3) || ltb clock_most ms ≡ true).
    subst (Means l) (ap (λ (x : by_value.Ticked). x.state) (clock_back_lem (state_in l) ms ok back)) (means_same l is))
    (λ (on : ltb ms (word l 3) || ltb clock_most ms ≡ false). means_on l ms h on)
    (true_or_false (ltb ms (word l 3) || ltb clock_most ms)))
    (λ (not_so : valid (state_in l) ≡ false).
    subst (Means l) (ap (λ (x : by_value.Ticked). x.state) (clock_nine (state_in l) ms not_so)) (means_same l is))
    (true_or_false (valid (state_in l)))
