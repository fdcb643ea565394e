-- What the log says of a sender is what its record holds, after every call. Assumes nothing.
use Rattle.std.specs.Prelude.{ℕ, zero, suc, ◌-◌, ◌<◌, ◌≡◌, ◌≢◌, Bool, true, false, not, cond, ◌&&◌, ◌||◌, eqb, ltb, length}
use Rattle.std.proofs.Math.Path.{refl}
use Rattle.std.proofs.Common.{sym, ap, subst, ◌∙◌, arith}
use Rattle.std.proofs.Math.Logic.{⊎_elim}
use Rattle.std.proofs.Math.Bool.{and-true, and-false}
use Rattle.std.proofs.lemmas.Bool.{false≢true}
use mathlib.Core.List.Memᴰ
use mathlib.Core.List.{List, [], ◌∷◌, Memᴰ}
use Rattle.std.specs.Int.Count.{ones}
use borrow.Author.Tests.{eqb-true, ne_eqb}
use Rattle.octets.specs.Split.{eq_or_ne, true_or_false, cond_case, never_both}
use Rattle.ring.specs.declared.Verdict.{Verdict}
use Rattle.ring.specs.declared.Verdict.TheVariants.{Unchecked, First, Restart, Repeat, Next, Gap}
use Rattle.ring.specs.Check.{is_unchecked, verdict_number}
use Rattle.ring.specs.Ring.{newer}
use Rattle.ring.proofs.RingLaws.{same_number}
use Rattle.header.specs.declared.Head.{Head}
use Rattle.header.specs.Head.{head_of}
use Rattle.cut.proofs.PossibleLaws.{possible_facts}
use Rattle.map.proofs.MapLaws.{set_below, full_ones}
use Rattle.state.specs.declared.Address.{Address}
use Rattle.state.specs.declared.Last.{Last}
use Rattle.state.specs.declared.Sender.{Sender}
use Rattle.state.specs.Limits.{clock_most}
use Rattle.state.specs.State.{Settings}
use Rattle.answers.specs.declared.Outcome.TheVariants.{Stored, Delivered}
use Rattle.answers.specs.Told.{OutcomeTold, outcome_told}
use Rattle.rules.specs.calls.Admit.{rejoins, map_before, map_after, fills, verdict_of, sender_rows, sender_after, admitted, not_admitted, admission}
use Rattle.rules.proofs.calls.AdmitLaws.{Admitted, admitted_facts, rejoins_open, map_adds, map_one_more, fills_full}
use Rattle.rules.specs.calls.Clock.{drops, aged}
use Rattle.rules.specs.calls.First.{Row, first}
use Rattle.rules.proofs.calls.FirstLaws.{above, first_given, given_above, checked_none, refusal_given}
use Rattle.rules.specs.pasts.Past.{message}
use Rattle.promised.specs.Join.{Kin, kin_of}
use Rattle.promised.proofs.JoinLaws.{kin_in, Inv, before_both, next_inv}
use Rattle.promised.specs.Judged.{sent_from}
use Rattle.promised.specs.Log.{Name, name_of, same_message, accepted_with, open_after, is_open}
use Rattle.promised.specs.Says.{newer_is_open, pieces_in}
use Rattle.promised.specs.View.{View, number_of, outcome_view, put, next_view, tick_view}

-- ---- what is kept of a sender, and what is said of it

abbrev pub last_in : Name → Last
last_in n = record { version = n.version; number = n.number }

-- The sender's record holds what is said: the last version and number, the time, the packets of the open message and
-- the time of the last of them.
pub record Tells (last : Name) (now : ℕ) (packets : List (List ℕ)) (stamp : ℕ) (v : View) : Type 0 where
  pub same_last : v.sender.last ≡ last_in last
  pub same_time : v.now ≡ now
  pub same_open : v.sender.«open» ≡ is_open packets
  pub inv : Inv packets v
  pub same_held : v.sender.«open» ≡ true → ones v.sender.message.map ≡ length packets
  pub same_stamp : v.sender.«open» ≡ true → v.sender.message.stamp ≡ stamp

-- The packets have the version and number that the record has.
module _ (last : Name) (now : ℕ) (stamp : ℕ) (v : View) where
  abbrev s : Sender
  s = v.sender

  pub open_kin : (q : List ℕ) (packets : List (List ℕ)) → Tells last now (q ∷ packets) stamp v → kin_of q ≡ kin_in s.message
  open_kin q packets t = ((t.inv.good t.same_open).marked q (Memᴰ.head refl)).0

  pub open_pieces : (packets : List (List ℕ)) → Tells last now packets stamp v → s.«open» ≡ true → s.message.tbn ≡ pieces_in packets
  open_pieces [] t o = absurd (never_both o t.same_open)
  open_pieces (q ∷ packets) t o = sym (ap (λ (x : Kin). x.tbn) (open_kin q packets t))

  -- Whether it is this message that is open, and whether a newer number of its version is.
  pub named_same : (packets : List (List ℕ)) → Tells last now packets stamp v → (n : Name)
      → s.«open» && eqb s.message.version.0 n.version.0 && eqb s.message.number.0 n.number.0 ≡ same_message packets n
  named_same [] t n = rw t.same_open
  named_same (q ∷ packets) t n =
      let k = open_kin q packets t in
      rw (t.same_open, ← ap (λ (x : Kin). x.version) k, ← ap (λ (x : Kin). x.number) k)

  pub newer_same : (packets : List (List ℕ)) → Tells last now packets stamp v → (n : Name)
      → s.«open» && eqb s.message.version.0 n.version.0 && newer s.message.number n.number ≡ newer_is_open packets n
  newer_same [] t n = rw t.same_open
  newer_same (q ∷ packets) t n =
      let k = open_kin q packets t in
      rw (t.same_open, ← ap (λ (x : Kin). x.version) k, same_number (sym (ap (λ (x : Kin). x.number) k)))

  pub rejoins_same : (packets : List (List ℕ)) → Tells last now packets stamp v → (p : List ℕ) → rejoins s (head_of p) ≡ same_message packets (name_of p)
  unfolding rejoins
  rejoins_same packets t p = named_same packets t (name_of p)

-- ---- what is then open

-- What holds of the packets of the open message, and of a packet that is stored, holds of all that are open after it,
module _ (P : List ℕ → Type 0) (a : Address) (packets : List (List ℕ)) (old : (o : List ℕ) → Memᴰ o packets → P o) where
  abbrev Each : List (List ℕ) → Type 0
  Each l = (o : List ℕ) → Memᴰ o l → P o

  none_each : Each []
  none_each o none = absurd (Memᴰ.not-nil none)

  with_each : (p : List ℕ) → P p → Each (accepted_with packets p)
  with_each p mine o among = ⊎_elim
      (λ (e : o ≡ p). subst P (sym e) mine)
      (λ rest. cond_case Each (same_message packets (name_of p)) packets [] (λ _. old) (λ _. none_each) o rest)
      (Memᴰ.cases_cons among)

  pub message_each : (p : List ℕ) (number : ℕ) → (sent_from a p ≡ true → number ≡ 0 → P p) → Each (cond (sent_from a p) (open_after number packets p) packets)
  message_each p number new = cond_case Each (sent_from a p) (open_after number packets p) packets
      (λ own. cond_case Each (eqb number 0) (accepted_with packets p) (cond (eqb number 1) [] packets)
      (λ zero. with_each p (new own (eqb-true number 0 zero)))
      (λ _. cond_case Each (eqb number 1) [] packets (λ _. none_each) (λ _. old)))
      (λ _. old)

  -- and of what a clock call leaves.
  pub clock_each : (b : Bool) → Each (cond b [] packets)
  clock_each b = cond_case Each b [] packets (λ _. none_each) (λ _. old)

-- ---- the number that is told to a packet

-- A refusal by a sender's record has a number of 15 or more.
later_number : (test : Bool) (n1 : ℕ) (s : Sender) (h : Head) → first (sender_rows test n1 s h) ≢ 0 → 14 < first (sender_rows test n1 s h)
later_number test n1 s h ne = given_above 14 (sender_rows test n1 s h) (first (sender_rows test n1 s h)) (unfold sender_rows above in refl) (first_given (sender_rows test n1 s h) _ refl ne)

module _ (g : Settings) (v : View) (p : List ℕ) where
  abbrev h : Head
  h = head_of p

  abbrev n : ℕ
  n = number_of g v p

  abbrev rows : List Row
  rows = sender_rows g.test g.n1 v.sender h

  pub told_refused : n ≢ 0 → (outcome_told (outcome_view g v p)).number ≡ number_of g v p
  unfolding admission not_admitted
  told_refused ne =
      let given = refusal_given rows ne in
      rw (outcome_view, given.1.0) (sym given.1.1)

  pub refused_more : n ≢ 0 → 14 < number_of g v p
  refused_more ne = later_number g.test g.n1 v.sender h ne

  pub told_delivered : n ≡ 0 → fills v.sender h ≡ true → outcome_view g v p ≡ Delivered (verdict_of g.n1 v.sender h)
  unfolding admission admitted
  told_delivered none f = rw (outcome_view, checked_none rows none, f)

  pub told_stored : n ≡ 0 → fills v.sender h ≡ false → outcome_view g v p ≡ Stored
  unfolding admission admitted
  told_stored none f = rw (outcome_view, checked_none rows none, f)

-- ---- what a packet of the sender's own leaves

pub is_five : (v : Verdict) → eqb (verdict_number v) 5 ≡ is_unchecked v
is_five Unchecked = refl
is_five First = refl
is_five Restart = refl
is_five (Repeat d) = refl
is_five Next = refl
is_five (Gap k) = refl

kept_last : (unchecked : Bool) (l : Last) (last : Name) (p : List ℕ) → l ≡ last_in last
    → cond unchecked l (record { version = (head_of p).given.version; number = (head_of p).given.number }) ≡ last_in (cond (not unchecked) (name_of p) last)
kept_last true l last p e = e
kept_last false l last p e = refl

-- The last version and number after one more delivery.
abbrev pub last_with : OutcomeTold → List ℕ → Name → Name
last_with o p last = cond (eqb o.number 1 && not (eqb o.verdict 5)) (name_of p) last

abbrev pub stamp_with : ℕ → ℕ → ℕ → ℕ
stamp_with number now stamp = cond (eqb number 0) now stamp

module _ (last : Name) (now : ℕ) (packets : List (List ℕ)) (stamp : ℕ) (g : Settings) (v : View) (p : List ℕ) (t : Tells last now packets stamp v)
    (size : length p ≡ (head_of p).cut.bsize) where
  abbrev o : OutcomeTold
  o = outcome_told (outcome_view g v p)

  abbrev After : View → Type 0
  After x = Tells (last_with o p last) now (open_after o.number packets p) (stamp_with o.number now stamp) x

  after_refused : number_of g v p ≢ 0 → After (next_view g v p)
  unfolding next_view
  after_refused ne =
      let some = refused_more g v p ne in
      rw (told_refused g v p ne, ne_eqb (number_of g v p) 0 ne, ne_eqb (number_of g v p) 1 (λ z. omega (arith, some))) t

  module _ (none : number_of g v p ≡ 0) where
    abbrev is_admitted : Admitted g.n1 v.sender (head_of p)
    is_admitted = admitted_facts g.test g.n1 v.sender (head_of p) none

    -- The map has a one for each packet accepted since it opened.
    pub held_with : ones (map_after v.sender (head_of p)) ≡ length (accepted_with packets p)
    held_with =
        rw (map_one_more g.n1 v.sender (head_of p) is_admitted, ← rejoins_same last now stamp v packets t p) (⊎_elim
        (λ (r : rejoins v.sender (head_of p) ≡ true). rw r (ap suc (t.same_held (rejoins_open v.sender (head_of p) r))))
        (λ (r : rejoins v.sender (head_of p) ≡ false). rw r (unfold ones in refl))
        (true_or_false (rejoins v.sender (head_of p))))

    -- "The message is delivered at the piece that fills the map": when as many were accepted as there are pieces.
    pub fills_count : fills v.sender (head_of p) ≡ eqb (length (accepted_with packets p)) (head_of p).cut.tbn
    fills_count =
        let cut = (head_of p).cut in
        let f = possible_facts cut is_admitted.cut_possible in
        let before = before_both packets v p g.n1 t.inv is_admitted size in
        let less = set_below cut.tbn (cut.cbn - 1) (map_before v.sender (head_of p)) (omega (arith, f.one, f.top)) before.room before.clear in
        fills_full v.sender (head_of p)
        ∙ full_ones cut.tbn (map_after v.sender (head_of p)) (rw (map_adds g.n1 v.sender (head_of p) is_admitted) less)
        ∙ ap (λ (k : ℕ). eqb k cut.tbn) held_with

    inv_put : Inv (p ∷ cond (rejoins v.sender (head_of p)) packets []) (put g v p)
    unfolding next_view
    inv_put = rw none at (next_inv packets g v p t.inv size)

    after_delivered : fills v.sender (head_of p) ≡ true → After (put g v p)
    unfolding put admitted sender_after
    after_delivered f =
        let verdict = verdict_of g.n1 v.sender (head_of p) in
        rw (told_delivered g v p none f, is_five verdict, f) (record {
          same_last = kept_last (is_unchecked verdict) v.sender.last last p t.same_last;
          same_time = t.same_time;
          same_open = refl;
          inv = record { room = inv_put.room; good = λ no. absurd (false≢true no) };
          same_held = λ no. absurd (false≢true no);
          same_stamp = λ no. absurd (false≢true no);
        })

    after_stored : fills v.sender (head_of p) ≡ false → After (put g v p)
    unfolding put admitted sender_after
    after_stored f = rw (told_stored g v p none f, f) (record {
      same_last = t.same_last;
      same_time = t.same_time;
      same_open = refl;
      inv = rw (rejoins_same last now stamp v packets t p, f) at inv_put;
      same_held = λ _. held_with;
      same_stamp = λ _. t.same_time;
    })

  pub after_own : After (next_view g v p)
  unfolding next_view
  after_own = ⊎_elim
      (λ (none : number_of g v p ≡ 0). rw none (⊎_elim (after_delivered none) (after_stored none) (true_or_false (fills v.sender (head_of p)))))
      (λ (ne : number_of g v p ≢ 0). unfold next_view in after_refused ne)
      (eq_or_ne (number_of g v p) 0)

-- ---- what a clock call leaves

module _ (last : Name) (now : ℕ) (packets : List (List ℕ)) (stamp : ℕ) (g : Settings) (v : View) (t : Tells last now packets stamp v) (ms : ℕ) where
  abbrev refused : Bool
  refused = ltb ms v.now || ltb clock_most ms

  abbrev dropped : Bool
  dropped = drops g.t ms v.sender

  clock_dropped : refused ≡ false → dropped ≡ true → Tells last ms [] stamp (tick_view g v ms)
  unfolding tick_view aged
  clock_dropped e d = rw (e, d, and-false v.sender.«open») (record {
    same_last = t.same_last;
    same_time = refl;
    same_open = refl;
    inv = record { room = t.inv.room; good = λ no. absurd (false≢true no) };
    same_held = λ no. absurd (false≢true no);
    same_stamp = λ no. absurd (false≢true no);
  })

  clock_kept : refused ≡ false → dropped ≡ false → Tells last ms packets stamp (tick_view g v ms)
  unfolding tick_view aged
  clock_kept e d = rw (e, d, and-true v.sender.«open») (record {
    same_last = t.same_last;
    same_time = refl;
    same_open = t.same_open;
    inv = record { room = t.inv.room; good = t.inv.good };
    same_held = t.same_held;
    same_stamp = t.same_stamp;
  })

  pub after_clock : Tells last (cond refused now ms) (cond (not refused && dropped) [] packets) stamp (tick_view g v ms)
  after_clock = ⊎_elim
      (λ (e : refused ≡ true). unfold tick_view in rw e t)
      (λ (e : refused ≡ false). rw e (⊎_elim (λ (d : dropped ≡ true). rw d (clock_dropped e d)) (λ (d : dropped ≡ false). rw d (clock_kept e d)) (true_or_false dropped)))
      (true_or_false refused)
