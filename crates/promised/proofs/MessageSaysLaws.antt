-- A message call is told what `message_says` says. Assumes nothing.
use Rattle.std.specs.Prelude.{ℕ, ◌-◌, ◌*◌, ◌≤◌, ◌<◌, ◌≡◌, ◌≢◌, Bool, false, cond, ◌&&◌, eqb, leb, length, take}
use Rattle.refusal.specs.declared.Refusal.{Refusal}
use Rattle.refusal.specs.declared.Refusal.TheVariants as refusals
use Rattle.std.proofs.Math.Path.{refl, sym, ap}
use Rattle.std.proofs.Common.{subst, ◌∙◌, ⊎_elim, arith}
use Rattle.std.proofs.Math.Bool.{true, not}
use mathlib.Core.List.Memᴰ
use mathlib.Core.List.{List, [], ◌∷◌, Memᴰ}
use Rattle.std.specs.Int.Count.{ones}
use borrow.Author.Tests.{eq-eqb, ne_eqb, leb-false, not-false}
use Rattle.octets.proofs.FirstPlaceLaws.{place_holds}
use Rattle.octets.specs.Split.{eq_or_ne, true_or_false}
use Rattle.ring.specs.declared.Verdict.{Verdict}
use Rattle.ring.specs.Check.{check, is_repeat}
use Rattle.ring.specs.Ring.{OnRing}
use Rattle.ring.proofs.RingLaws.{on_ring, same_version, same_number}
use Rattle.header.specs.declared.Head.{Head}
use Rattle.header.specs.Head.{head_of}
use Rattle.cut.specs.Pieces.{piece, joined}
use Rattle.cut.proofs.PiecesLaws.{joined_same}
use Rattle.cut.specs.Possible.{possible}
use Rattle.cut.proofs.PossibleLaws.{possible_facts}
use Rattle.map.specs.Map.{holds}
use Rattle.state.specs.declared.Address.{Address}
use Rattle.state.specs.declared.Last.{Last}
use Rattle.state.specs.declared.Message.{Message}
use Rattle.state.specs.declared.Sender.{Sender}
use Rattle.state.specs.Limits.{same_address, given, last_within, valid}
use Rattle.state.specs.State.{sender_at, Settings, settings_from}
use Rattle.state.specs.Table.{source, found}
use Rattle.state.proofs.WithinLaws.{last_ring, message_facts, valid_sender, same_is}
use Rattle.answers.specs.declared.Setup.{Setup}
use Rattle.answers.specs.declared.Outcome.TheVariants.{Delivered}
use Rattle.answers.specs.Told.{age_with, where_told, MessageTold, message_told}
use Rattle.answers.proofs.ToldLaws.{age_same}
use Rattle.rules.specs.calls.Admit.{kept_after, fills, held_after, none_dropped, dropped_by, admitted, rejoins, same_cut, verdict_of, sender_rows}
use Rattle.rules.proofs.calls.AdmitLaws.{Admitted, rejoins_open, drops_or_joins}
use Rattle.rules.proofs.calls.AdmitValidLaws.{kept_ones}
use Rattle.rules.specs.calls.First.{Row, row, first}
use Rattle.rules.proofs.calls.FirstLaws.{checked_none, refusal_given, first_none, first_later, without, behind_without}
use Rattle.rules.specs.calls.Message.{area, message_rows, message_number, verdict_at, message_answer, lies_at, taken, refused}
use Rattle.rules.proofs.calls.MessageLaws.{Passed, head_number, taken_facts}
use Rattle.rules.proofs.calls.SetupLaws.{setup_facts}
use Rattle.rules.specs.pasts.Past.{World, message, answer_to, part_to}
use Rattle.promised.specs.Judged.{has_length, is_message, is_from}
use Rattle.promised.proofs.AgreesLaws.{Agrees}
use Rattle.promised.specs.Join.{Kin, kin_of, number_in, behind, OnePerNumber, Joined}
use Rattle.promised.proofs.JoinLaws.{kin_in, kin_same}
use Rattle.promised.proofs.JudgedLaws.{message_length_lem, message_head}
use Rattle.promised.proofs.KeptLaws.{TellsLog, refused_told, refused_above}
use Rattle.promised.specs.Log.{Exchange, time_of, Name, no_name, name_of, deliveries, last_of, same_message, accepted_with, open_of, stamp_of}
use Rattle.promised.proofs.LogLaws.{Tells, last_in, open_kin, newer_same, rejoins_same, fills_count, held_with}
use Rattle.promised.proofs.SafeLaws.{from_accepted, joined_part}
use Rattle.promised.specs.Says.{senders_of, place_of, differs, has_piece, octets_of, later_rows, rows_for, dropped_name, lies_in, verdict_after, message_says}
use Rattle.promised.proofs.SaysLaws.{place_is, accepted_setup, held_is}
use Rattle.promised.specs.View.{View, view, number_of}
use Rattle.promised.proofs.ViewLaws.{rows_joining, map_joining, fills_joining, Registered, registered_number}

-- ---- rows

-- Rows that agree as far as they are tried have the same first.
rows_on : (r : Refusal) (b c : Bool) (rs qs : List Row) → b ≡ c → (b ≡ false → first rs ≡ first qs) → first (row r b ∷ rs) ≡ first (row r c ∷ qs)
unfolding first
rows_on r true c rs qs e f = rw (← e)
rows_on r false c rs qs e f = rw (← e) (f refl)

-- ---- 15 to 20, by the sender's record and by the log

module _ (last : Name) (now : ℕ) (packets : List (List ℕ)) (stamp : ℕ) (v : View) (t : Tells last now packets stamp v) (p : List ℕ) where
  abbrev s : Sender
  s = v.sender

  abbrev h : Head
  h = head_of p

  differs_is : rejoins s h && not (same_cut s.message h) ≡ same_message packets (name_of p) && differs packets p
  unfolding same_cut
  differs_is = rw (rejoins_same last now stamp v packets t p) (by packets t)
    where
      by : (ps : List (List ℕ)) → Tells last now ps stamp v → same_message ps (name_of p) && not (same_cut s.message h) ≡ same_message ps (name_of p) && differs ps p
      by [] t = refl
      by (q ∷ ps) t = let k = open_kin last now stamp v q ps t in rw (
        ← ap (λ (x : Kin). x.tcd) k,
        ← ap (λ (x : Kin). x.n) k,
        ← ap (λ (x : Kin). x.tbn) k,
        ← ap (λ (x : Kin). x.u) k,
      )

  held_is_had : possible h.cut ≡ true → rejoins s h && not (same_cut s.message h) ≡ false
      → rejoins s h && holds s.message.map (number_in p) ≡ same_message packets (name_of p) && has_piece packets (number_in p)
  held_is_had is same = ⊎_elim
      (λ (r : rejoins s h ≡ true).
      let f = possible_facts h.cut is in
      let alike : same_cut s.message h ≡ true = not-false (same_cut s.message h) (rw r at same) in
      let tbn : s.message.tbn ≡ h.cut.tbn = ap (λ (x : Kin). x.tbn) (kin_same s p r alike) in
      rw (← rejoins_same last now stamp v packets t p, r)
      (held_is packets s.message v.octets (t.inv.good (rejoins_open s h r)) (number_in p) f.one (omega (arith, f.top, tbn))))
      (λ (r : rejoins s h ≡ false). rw (← rejoins_same last now stamp v packets t p, r))
      (true_or_false (rejoins s h))

  pub rows_same : (q : Setup) (test : Bool) → eqb h.given.mode 1 && not test ≡ eqb h.given.mode 1 && eqb q.mode 0
      → first (sender_rows test q.n1 s h) ≡ first (later_rows q (verdict_after q last (name_of p)) packets p)
  unfolding sender_rows
  rows_same q test mode =
      rows_on _ _ _ _ _ mode (λ _.
      rows_on _ _ _ _ _ refl (λ is.
      rows_on _ _ _ _ _ (ap (λ (l : Last). is_repeat (check q.n1 l.version l.number h.given.version h.given.number)) t.same_last) (λ _.
      rows_on _ _ _ _ _ (newer_same last now stamp v packets t (name_of p)) (λ _.
      rows_on _ _ _ _ _ differs_is (λ same.
      rows_on _ _ _ _ _ (held_is_had (not-false (possible h.cut) is) same) (λ _. refl))))))

-- ---- what a join is

-- The octets of a piece number are those of its one packet.
octets_are : (packets : List (List ℕ)) → OnePerNumber packets → (o : List ℕ) → Memᴰ o packets → octets_of packets (number_in o) ≡ behind o
unfolding octets_of
octets_are [] one o m = absurd (Memᴰ.not-nil m)
octets_are (q ∷ packets) one o m = ⊎_elim
    (λ (e : o ≡ q). rw (e, eq-eqb (number_in q) (number_in q) refl))
    (λ (rest : Memᴰ o packets). rw (ne_eqb (number_in q) (number_in o) (λ z. one.0 o rest (sym z))) (octets_are packets one.1 o rest))
    (Memᴰ.cases_cons m)

-- There is one join of these packets.
pub one_join : (packets : List (List ℕ)) (p octets : List ℕ) → Joined packets p octets → octets ≡ joined (kin_of p).tbn (octets_of packets)
one_join packets p octets j =
    sym j.whole ∙ joined_same (kin_of p).tbn (piece octets (kin_of p).u) (octets_of packets) (λ c low top.
    let b = j.parts c low top in
    sym b.same ∙ sym (octets_are packets j.one_each b.packet b.among) ∙ ap (octets_of packets) b.number)

-- ---- the number

-- "0 online, 1 test"
pub online_is : (b : Bool) (m : ℕ) → m ≤ 1 → b && not (eqb m 1) ≡ b && eqb m 0
online_is b m most = ⊎_elim (λ (e : m ≡ 0). rw e) (λ (e : m ≢ 0). let one : m ≡ 1 = omega (arith, most, e) in rw one) (eq_or_ne m 0)

module _ (q : Setup) (log : List Exchange) (w : World) (a : Agrees q log w) (p : List ℕ) where
  abbrev src : Address
  src = source (head_of p)

  abbrev i : ℕ
  i = place_of (senders_of q) src

  abbrev with : List (List ℕ)
  with = open_of src i log

  abbrev last : Name
  last = last_of src (deliveries log)

  abbrev verdict : Verdict
  verdict = verdict_after q last (name_of p)

  abbrev number : ℕ
  number = message_number w.state (length w.storage) p

  -- A registered sender is the one that the log tells of.
  its_address : i < w.state.count → given (senders_of q) i ≡ src
  its_address here = same_is (given (senders_of q) i) src
      (place_holds (λ j. same_address (given (senders_of q) j) src) (length (senders_of q)) (omega (arith, here, a.count)))

  its_tells : i < w.state.count → TellsLog src i log w
  its_tells here = subst (λ (x : Address). TellsLog x i log w) (its_address here) (a.tells i here)

  rows_are : i < w.state.count → first (sender_rows w.state.test w.state.n1 (sender_at w.state i) (head_of p)) ≡ first (later_rows q verdict with p)
  unfolding view
  rows_are here =
      let accepted = accepted_setup q log w a i here in
      let settings = a.settings accepted in
      rw (ap (λ (x : Settings). x.test) settings, ap (λ (x : Settings). x.n1) settings)
      (ap first (sym (rows_joining (eqb q.mode 1) q.n1 (sender_at w.state i) (head_of p)))
      ∙ rows_same _ (time_of log) with _ (view w i) (its_tells here) p q (eqb q.mode 1) (online_is (eqb (head_of p).given.mode 1) q.mode (setup_facts q accepted).mode))

  at_place : found w.state (head_of p) ≡ i
  at_place = place_is q log w a src p refl

  pub number_says : number ≡ first (rows_for q verdict with p)
  unfolding message_rows
  number_says =
      first_later refusals.State (not (valid w.state)) _ (rw a.sound.is_valid)
      ∙ first_later refusals.Storage (not (eqb (length w.storage) (w.state.count * area))) _ (rw (eq-eqb _ _ a.sound.room))
      ∙ rows_on _ _ _ _ _ (message_length_lem p) (λ _.
      rows_on _ _ _ _ _ (ap not (message_head p)) (λ _.
      rows_on _ _ _ _ _ (rw (at_place, a.count)) (λ registered.
      rw at_place (rows_are (leb-false w.state.count i (rw at_place at registered))))))

  verdict_is : i < w.state.count → verdict_of w.state.n1 (sender_at w.state i) (head_of p) ≡ verdict
  unfolding view
  verdict_is here = rw (ap (λ (x : Settings). x.n1) (a.settings (accepted_setup q log w a i here)), (its_tells here).same_last)

  -- ---- what is told to a refused packet

  -- 17 is given to messages of registered senders alone,
  repeat_here : first (rows_for q verdict with p) ≡ 17 → (is_message p ≡ true) × (i < w.state.count)
  repeat_here e =
      let ahead = take 3 (rows_for q verdict with p) in
      let none = behind_without 17 ahead (later_rows q verdict with p) (λ z. omega (arith, z)) (unfold without in refl) e in
      let r12 = first_none _ (not (has_length 64 1460 p)) _ none in
      let r13 = first_none _ (not (is_message p)) _ r12.1 in
      let r14 = first_none _ (leb (length (senders_of q)) i) _ r13.1 in
      (not-false (is_message p) r13.0, omega (arith, leb-false (length (senders_of q)) i r14.0, a.count))

  -- so its number and the last one are 1 to M.
  pub repeat_ring : first (rows_for q verdict with p) ≡ 17 → last.version.0 ≢ 0 → OnRing last.number.0 × OnRing (name_of p).number.0
  unfolding view
  repeat_ring e some =
      let here = repeat_here e in
      let within = (valid_sender w.state a.sound.is_valid i here.1).last in (
        last_ring (last_in last) (subst (λ (l : Last). last_within l ≡ true) (its_tells here.1).same_last within) some,
        on_ring _ (head_number p (head_of p) (message_head p ∙ here.0)),
      )

  same_age : age_with number (verdict_at w.state (head_of p)) ≡ age_with number verdict
  same_age = age_same number _ _ (λ e.
      ap (λ (j : ℕ). verdict_of w.state.n1 (sender_at w.state j) (head_of p)) at_place ∙ verdict_is (repeat_here (sym number_says ∙ e)).1)

  refused_says : number ≢ 0 → (message_told (answer_to w p), part_to w p) ≡ message_says q log p
  unfolding message_answer refused message_says
  refused_says ne =
      let given = refusal_given (message_rows w.state (length w.storage) p) ne in
      rw (← number_says, ne_eqb number 0 ne, ← same_age, given.1.0, given.1.1)

  -- ---- what is told to an accepted one

  module _ (none : number ≡ 0) where
    abbrev rows : List Row
    rows = message_rows w.state (length w.storage) p

    abbrev here : i < w.state.count
    here = subst (λ (x : ℕ). x < w.state.count) at_place (taken_facts w.state (length w.storage) p none).0.registered

    abbrev t : TellsLog src i log w
    t = its_tells here

    abbrev sender : Sender
    sender = sender_at w.state i

    passed : Passed (valid w.state) w.state.count (found w.state (head_of p)) (length w.storage) p (head_of p)
    passed = (taken_facts w.state (length w.storage) p none).0

    is_admitted : Admitted w.state.n1 sender (head_of p)
    is_admitted = subst (λ (x : ℕ). Admitted w.state.n1 (sender_at w.state x) (head_of p)) at_place (taken_facts w.state (length w.storage) p none).1

    abbrev g : Settings
    g = settings_from w.state

    registered : Registered g src i w
    registered = record { sound = a.sound; here = here; settings = refl; address = a.address i here ∙ its_address here }

    mine : is_from src p ≡ true
    mine = from_accepted g src i w registered p
        (subst (λ (x : Address). same_address x src ≡ true) (its_address here) (place_holds (λ j. same_address (given (senders_of q) j) src) (length (senders_of q)) (omega (arith, here, a.count))))
        none

    own_none : number_of g (view w i) p ≡ 0
    own_none = sym (registered_number g src i w registered p mine) ∙ none

    fills_is : fills sender (head_of p) ≡ eqb (length (accepted_with with p)) (head_of p).cut.tbn
    unfolding view
    fills_is = sym (fills_joining sender (head_of p)) ∙ fills_count _ (time_of log) with _ g (view w i) p t passed.size own_none

    -- "How many pieces are held is the count of ones in the map", and as many are kept.
    held_is_length : kept_after sender (head_of p) ≡ length (accepted_with with p)
    unfolding view
    held_is_length =
        kept_ones w.state.n1 w.state.clock sender (head_of p) is_admitted (valid_sender w.state a.sound.is_valid i here)
        ∙ ap ones (sym (map_joining sender (head_of p))) ∙ held_with _ (time_of log) with _ g (view w i) p t passed.size own_none

    -- "the open message is dropped, its version and number stand in the answer"
    dropped_is : dropped_by sender (head_of p) ≡ record { version = (dropped_name with p).version; number = (dropped_name with p).number }
    unfolding view dropped_by
    dropped_is = by with t
      where
        opened_ring : sender.«open» ≡ true → OnRing sender.message.number.0
        opened_ring o = on_ring _ (message_facts w.state.clock sender.message ((valid_sender w.state a.sound.is_valid i here).message o)).number

        own_ring : OnRing (head_of p).given.number.0
        own_ring = on_ring _ (head_number p (head_of p) passed.head_within_lem)

        chosen : (b : Bool) (m : Message) (o : List ℕ) → kin_of o ≡ kin_in m
            → cond (not b) (record { version = m.version; number = m.number }) none_dropped
            ≡ record { version = (cond {A = Name} b no_name (name_of o)).version; number = (cond {A = Name} b no_name (name_of o)).number }
        chosen true m o k = refl
        chosen false m o k = rw (same_version {v = (head_of o).given.version} {w = m.version} (ap (λ (x : Kin). x.version) k), same_number {r = (head_of o).given.number} {s = m.number} (ap (λ (x : Kin). x.number) k))

        by : (ps : List (List ℕ)) → Tells (last_of src (deliveries log)) (time_of log) ps (stamp_of src log) (view w i) → dropped_by sender (head_of p) ≡ record { version = (dropped_name ps p).version; number = (dropped_name ps p).number }
        by [] t = rw t.same_open
        by (o ∷ ps) t =
            let same : rejoins sender (head_of p) ≡ same_message (o ∷ ps) (name_of p) = unfold rejoins in rejoins_same _ (time_of log) (stamp_of src log) (view w i) (o ∷ ps) t p in
            drops_or_joins w.state.n1 sender (head_of p) is_admitted (opened_ring t.same_open) own_ring
            ∙ rw (t.same_open, same)
            (chosen (same_message (o ∷ ps) (name_of p)) sender.message o (open_kin _ (time_of log) (stamp_of src log) (view w i) o ps t))

    -- The part that is handed over is the join of the packets accepted since.
    join_is : fills sender (head_of p) ≡ true → Joined (accepted_with with p) p (part_to w p)
    join_is f = subst (λ (b : Bool). Joined (p ∷ cond b with []) p (part_to w p)) (rejoins_same _ (time_of log) (stamp_of src log) (view w i) with t p)
        (joined_part g src i w registered with t.inv p mine (verdict_of w.state.n1 sender (head_of p)) gave)
      where
        gave : (answer_to w p).outcome ≡ Delivered (verdict_of w.state.n1 sender (head_of p))
        gave = unfold message_answer taken admitted in rw (checked_none rows none, at_place, f)

    part_is : fills sender (head_of p) ≡ true → part_to w p ≡ joined (head_of p).cut.tbn (octets_of (accepted_with with p))
    part_is f = one_join (accepted_with with p) p (part_to w p) (join_is f)

    not_filled : fills sender (head_of p) ≡ false → (message_told (answer_to w p)).outcome.number ≡ 0
    unfolding message_answer taken admitted
    not_filled f = rw (checked_none rows none, at_place, f)

    lies_is : where_told (lies_at i (head_of p)) ≡ lies_in i p
    lies_is = ⊎_elim (λ (e : eqb (head_of p).cut.tbn 1 ≡ true). rw e) (λ (e : eqb (head_of p).cut.tbn 1 ≡ false). rw e) (true_or_false (eqb (head_of p).cut.tbn 1))

    accepted_says : (message_told (answer_to w p), part_to w p) ≡ message_says q log p
    accepted_says = ⊎_elim delivered_says stored_says (true_or_false (fills sender (head_of p)))
      where
        delivered_says : fills sender (head_of p) ≡ true → (message_told (answer_to w p), part_to w p) ≡ message_says q log p
        delivered_says f = rw (part_is f) (unfold message_answer taken admitted held_after message_says in rw (← number_says, none, checked_none rows none, at_place, ← fills_is, f, verdict_is here, dropped_is, lies_is))

        stored_says : fills sender (head_of p) ≡ false → (message_told (answer_to w p), part_to w p) ≡ message_says q log p
        stored_says f = unfold message_answer taken admitted held_after message_says in rw (← number_says, none, checked_none rows none, at_place, ← fills_is, f, held_is_length, dropped_is)

  pub message_says_lem : (message_told (answer_to w p), part_to w p) ≡ message_says q log p
  message_says_lem = ⊎_elim accepted_says refused_says (eq_or_ne number 0)

  -- "nothing is ever delivered but a join of pieces accepted since that message last opened, one for each piece
  -- number."
  pub safe : (message_told (answer_to w p)).outcome.number ≡ 1 → Joined (accepted_with with p) p (part_to w p)
  safe gave = ⊎_elim
      (λ (none : number ≡ 0). ⊎_elim (join_is none) (λ (f : fills (sender_at w.state i) (head_of p) ≡ false). absurd (omega (arith, gave, not_filled none f))) (true_or_false (fills (sender_at w.state i) (head_of p))))
      (λ (ne : number ≢ 0). absurd (omega (arith, gave, ap (λ (m : MessageTold). m.outcome.number) (refused_told w p ne), refused_above w p ne)))
      (eq_or_ne number 0)
