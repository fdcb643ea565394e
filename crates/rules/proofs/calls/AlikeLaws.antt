-- "… and never looked at": states that are alike in what is looked at get the same answers and stay alike. Assumes
-- nothing.
use Rattle.std.specs.Prelude.{◌≡◌, ◌≢◌, Bool, true, false, not, cond, List, ltb, length, get_or, set, Option, Some, Ok}
use Rattle.std.proofs.Math.Path.{refl, sym, ap}
use Rattle.std.proofs.Common.{◌∙◌, subst, ⊎_elim, arith, get_or-set_same, get_or-set_other, ltb-true}
use Prim.Native.Nat.{ℕ, zero, suc, ◌≤◌, ◌<◌}
use Rattle.std.proofs.lemmas.Bool.{not-false}
use Rattle.octets.specs.Split.{eq_or_ne, true_or_false}
use Rattle.refusal.specs.declared.Refusal.{Refusal}
use Rattle.refusal.specs.Numbers.{number_of}
use Rattle.header.specs.declared.Head.{Head}
use Rattle.groups.specs.declared.Groups.{Groups}
use Rattle.groups.specs.Groups.{kept}
use Rattle.groups.proofs.GroupsLaws.{alike_within, alike_place, within_few}
use Rattle.signal.specs.Alive.{body_of}
use Rattle.header.specs.Head.{head_of}
use Rattle.map.specs.Map.{lowest_missing}
use Rattle.state.specs.declared.Message.{Message}
use Rattle.state.specs.declared.Sender.{Sender}
use Rattle.state.specs.declared.Receiver.{Receiver}
use Rattle.answers.specs.declared.MissingPiece.{MissingPiece}
use Rattle.answers.specs.declared.Outcome.{Outcome}
use Rattle.answers.specs.declared.Outcome.TheVariants.{Refused}
use Rattle.answers.specs.Told.{refusal}
use Rattle.answers.proofs.ToldLaws.{age_same}
use Rattle.rules.specs.calls.Admit.{verdict_of, sender_rows, dropped_by, held_after, sender_after, admitted}
use Rattle.rules.specs.calls.Alike.{seen, Alike, AlikeAnswer, AlikeNoted, AlikeTicked}
use Rattle.rules.specs.calls.Alive.{alive_rows, heard_by, noted, not_noted, alive_answer}
use Rattle.rules.specs.calls.Clock.{clock_rows, drops, dies, aged, aged_senders, map_where, ticked, not_ticked, clock_answer}
use Rattle.rules.proofs.calls.AliveLaws.{alive_facts}
use Rattle.rules.proofs.calls.QuestionLaws.{first_holds}
use Rattle.rules.proofs.calls.ClockLaws.{aged_done}
use Rattle.rules.specs.calls.First.{checked, first}
use Rattle.rules.proofs.calls.FirstLaws.{check_two, first_none, checked_behind, without, behind_without}
use Rattle.state.specs.Limits.{sender_within, address_at, senders_within, settings_of, valid}
use Rattle.state.proofs.LimitsLaws.{new_ext}
use Rattle.state.specs.Table.{found}
use Rattle.rules.specs.calls.Message.{packet_rows, message_rows, message_number, where_by, with_sender, taken, refused, message_answer, message_storage}
use Rattle.rules.proofs.calls.MessageLaws.{passed_facts, taken_facts}
use Rattle.rules.specs.calls.Multicast.{Tables, cast_rows, cast_outcome, multicast_answer, multicast_tables}
use Rattle.rules.proofs.calls.MulticastLaws.{multicast_nine}
use Rattle.rules.specs.calls.Question.{first_open, missing_of, question_answer}
use Rattle.state.specs.State.{no_sender, sender_at, first_where, Settings, settings_from, state_of, with_groups}
use Rattle.rules.proofs.calls.SeenLaws.{LooksAtSeen, looks_same, ChangesSeen, changes_same, looks_address, looks_open, looks_message, looks_within, looks_drops, looks_dies, changes_aged, changes_heard, looks_verdict, looks_rows, looks_dropped, looks_held, looks_outcome, changes_after}
use Rattle.state.proofs.WithinLaws.{valid_groups, valid_length}

-- What holds between the arms of two branches on one test holds between the branches.
cond_two : {A : Type 0} (R : A → A → Type 0) (b : Bool) (x y p q : A) → (b ≡ true → R x p) → (b ≡ false → R y q) → R (cond b x y) (cond b p q)
cond_two R true x y p q f g = f refl
cond_two R false x y p q f g = g refl

-- ---- what is looked at of a table

-- The first k senders of two tables are alike.
abbrev AlikeTables : List Sender → List Sender → ℕ → Type 0
AlikeTables l m k = (j : ℕ) → j < k → seen (get_or l j no_sender) ≡ seen (get_or m j no_sender)

module _ (l m : List Sender) where
  fewer : {k : ℕ} → AlikeTables l m (suc k) → AlikeTables l m k
  fewer a j h = a j (omega arith)

  same_at : {A : Type 0} (f : Sender → A) → LooksAtSeen f → {k : ℕ} → AlikeTables l m k → (j : ℕ) → j < k
      → f (get_or l j no_sender) ≡ f (get_or m j no_sender)
  same_at f law a j h = looks_same f law (get_or l j no_sender) (get_or m j no_sender) (a j h)

  same_within : (clock k : ℕ) → AlikeTables l m k → senders_within clock l k ≡ senders_within clock m k
  unfolding senders_within
  same_within clock zero a = refl
  same_within clock (suc k) a =
      let address : (j : ℕ) → j < suc k → address_at l j ≡ address_at m j = same_at (λ s. s.address) looks_address a in
      rw (
        same_within clock k (fewer a),
        same_at (sender_within clock) (looks_within clock) a k (omega arith),
        address k (omega arith),
        new_ext (address_at l) (address_at m) k (address_at m k) (λ j h. address j (omega arith)),
      )

  same_first : (f : Sender → Bool) → LooksAtSeen f → (k : ℕ) → AlikeTables l m k → first_where f l k ≡ first_where f m k
  unfolding first_where
  same_first f law zero a = refl
  same_first f law (suc k) a = rw (same_first f law k (fewer a), same_at f law a k (omega arith))

  same_map : (f : Sender → Bool) → LooksAtSeen f → (k : ℕ) → AlikeTables l m k → map_where f l k ≡ map_where f m k
  unfolding map_where
  same_map f law zero a = refl
  same_map f law (suc k) a = rw (same_map f law k (fewer a), same_at f law a k (omega arith))

  alike_set : (k i : ℕ) (s r : Sender) → i < length l → i < length m → seen s ≡ seen r → AlikeTables l m k
      → AlikeTables (set l i s) (set m i r) k
  alike_set k i s r in-l in-m e a j h = ⊎_elim
      (λ (q : j ≡ i). rw (q, get_or-set_same l i s no_sender in-l, get_or-set_same m i r no_sender in-m) e)
      (λ (n : j ≢ i). rw (get_or-set_other l i j s no_sender n, get_or-set_other m i j r no_sender n) (a j h))
      (eq_or_ne j i)

  alike_aged : (t now k : ℕ) → k ≤ length l → k ≤ length m → AlikeTables l m k → AlikeTables (aged_senders t now l k) (aged_senders t now m k) k
  alike_aged t now k in-l in-m a j h =
      rw (aged_done t now l k j in-l h, aged_done t now m k j in-m h)
      (changes_same (aged t now) (changes_aged t now) (get_or l j no_sender) (get_or m j no_sender) (a j h))

-- ---- what is known where no number applies

clock_passed : (w : Receiver) (now : ℕ) → first (clock_rows w now) ≡ 0 → valid w ≡ true
clock_passed w now e = not-false (valid w) (first_none _ (not (valid w)) _ e).0

-- ---- "never looked at"

-- A state with other groups and another table.
abbrev with_others : Receiver → Groups → List Sender → Receiver
with_others w g m = state_of (with_groups (settings_from w) g) w.clock m

-- The same is answered to a packet to a group, and the same tables are left.
abbrev SameCast : Tables → ℕ → List ℕ → Receiver → Receiver → Type 0
SameCast t x packet w v = (multicast_answer w t x packet ≡ multicast_answer v t x packet) × (multicast_tables w t x packet ≡ multicast_tables v t x packet)

-- First for two states that differ in their tables, and in their groups past the count, alone.
module _ (w : Receiver) (g : Groups) (same-groups : kept w.groups ≡ kept g) (m : List Sender) (a : AlikeTables w.senders m w.count) where
  abbrev other : Receiver
  other = with_others w g m

  alike_tables : {clock : ℕ} {l n : List Sender} → AlikeTables l n w.count → Alike (state_of (settings_from w) clock l) (state_of (with_groups (settings_from w) g) clock n)
  alike_tables b = record { same_settings = ap (with_groups (settings_from w)) same-groups; same_clock = refl; same_seen = b }

  same_valid : valid w ≡ valid other
  unfolding valid settings_of
  same_valid = rw (
    same_within w.senders m w.clock w.count a,
    ← alike_within w.groups g same-groups,
    ← ap (λ (x : Groups). x.count) same-groups,
  )

  same_found : (h : Head) → found w h ≡ found other h
  same_found h = same_first w.senders m _ (λ s. rw (looks_address s)) w.count a

  same_sender : {A : Type 0} (f : Sender → A) → LooksAtSeen f → (i : ℕ) → i < w.count → f (sender_at w i) ≡ f (sender_at other i)
  same_sender f law i h = same_at w.senders m f law a i h

  room_for : valid w ≡ true → (w.count ≤ length w.senders) × (w.count ≤ length m)
  room_for e = (valid_length w e, valid_length other (sym same_valid ∙ e))

  -- The same change of the same sender.
  alike_changed : (f : Sender → Sender) → ChangesSeen f → (i : ℕ) → valid w ≡ true → i < w.count
      → Alike (with_sender w i (f (sender_at w i))) (with_sender other i (f (sender_at other i)))
  unfolding with_sender
  alike_changed f law i e h =
      let fits = room_for e in
      alike_tables (alike_set w.senders m w.count i _ _ (omega arith) (omega arith) (changes_same f law (sender_at w i) (sender_at other i) (a i h)) a)

  -- The message call. The sender's numbers are tried only where the sender is registered.

  same_check : (room : ℕ) (packet : List ℕ) → checked (message_rows w room packet) ≡ checked (message_rows other room packet)
  unfolding message_rows
  same_check room packet =
      let h = head_of packet in
      let rows = packet_rows (valid w) w.count (found w h) room packet h in
      let late : first rows ≡ 0 → sender_rows w.test w.n1 (sender_at w (found w h)) h ≡ sender_rows w.test w.n1 (sender_at other (found w h)) h
      = λ z. same_sender (λ s. sender_rows w.test w.n1 s h) (looks_rows h w.test w.n1) (found w h)
      (passed_facts (valid w) w.count (found w h) room packet h z).registered in
      rw (← same_found h, ← same_valid) (checked_behind rows _ _ late)

  alike_taken : (i : ℕ) (h : Head) → valid w ≡ true → i < w.count → AlikeAnswer (taken w i (sender_at w i) h) (taken other i (sender_at other i) h)
  unfolding taken admitted
  alike_taken i h e q =
      let outcome = same_sender (λ s. (admitted w.n1 w.clock s h).outcome) (looks_outcome h w.n1 w.clock) i q in
      record {
        same_outcome = outcome;
        same_held = same_sender (λ s. held_after s h) (looks_held h) i q;
        same_dropped = same_sender (λ s. dropped_by s h) (looks_dropped h) i q;
        same_lies = ap (λ (o : Outcome). where_by o i h) outcome;
        alike_state = alike_changed (λ s. sender_after w.n1 w.clock s h) (changes_after h w.n1 w.clock) i e q;
      }

  -- What the check says is looked at with 17 alone, where the sender is registered too.
  same_refusal : (room : ℕ) (packet : List ℕ) (r : Refusal) → message_number w room packet ≡ number_of r
      → let h = head_of packet in
      refusal r (verdict_of w.n1 (sender_at w (found w h)) h) ≡ refusal r (verdict_of w.n1 (sender_at other (found w h)) h)
  unfolding message_rows
  same_refusal room packet r given =
      let h = head_of packet in
      let rows = packet_rows (valid w) w.count (found w h) room packet h in
      ap (Refused r) (age_same (number_of r) _ _ (λ e.
      let none = behind_without 17 rows (sender_rows w.test w.n1 (sender_at w (found w h)) h) (λ z. omega (arith, z)) (unfold without in refl) (given ∙ e) in
      same_sender (λ s. verdict_of w.n1 s h) (looks_verdict h w.n1) (found w h) (passed_facts (valid w) w.count (found w h) room packet h none).registered))

  alike_answer : (room : ℕ) (packet : List ℕ) → AlikeAnswer (message_answer w room packet) (message_answer other room packet)
  unfolding message_answer refused
  alike_answer room packet =
      let h = head_of packet in
      let i = found w h in
      rw (← same_check room packet, ← same_found h)
      (check_two AlikeAnswer (message_rows w room packet) (taken w i (sender_at w i) h) (taken other i (sender_at other i) h)
      (λ r. refused w (refusal r (verdict_of w.n1 (sender_at w i) h))) (λ r. refused other (refusal r (verdict_of w.n1 (sender_at other i) h)))
      (λ e. let p = (taken_facts w room packet e).0 in alike_taken i h p.is_valid p.registered)
      (λ r e. record { same_outcome = same_refusal room packet r e; same_held = refl; same_dropped = refl; same_lies = refl; alike_state = alike_tables a }))

  same_storage : (storage packet : List ℕ) → message_storage w storage packet ≡ message_storage other storage packet
  unfolding message_storage
  same_storage storage packet = rw (same_check (length storage) packet, same_found (head_of packet))

  -- The alive call.

  same_signal : (packet : List ℕ) → alive_rows w packet ≡ alive_rows other packet
  unfolding alive_rows
  same_signal packet = rw (same_found (head_of packet), same_valid)

  alike_noted : (packet : List ℕ) → AlikeNoted (alive_answer w packet) (alive_answer other packet)
  unfolding alive_answer
  alike_noted packet =
      let i = found w (head_of packet) in
      let b = body_of packet in
      rw (← same_signal packet, ← same_found (head_of packet))
      (check_two AlikeNoted (alive_rows w packet) (noted w i b) (noted other i b) (not_noted w) (not_noted other)
      (λ e. let p = alive_facts w packet e in
      record { same_call = refl; alike_state = alike_changed (λ s. heard_by w.clock s b) (changes_heard w.clock b) i p.is_valid p.registered })
      (λ r e. record { same_call = refl; alike_state = alike_tables a }))

  -- The clock call.

  alike_ticked : (now : ℕ) → AlikeTicked (clock_answer w now) (clock_answer other now)
  unfolding clock_answer ticked not_ticked
  alike_ticked now =
      rw (← same_valid)
      (check_two AlikeTicked (clock_rows w now) (ticked w now) (ticked other now) (not_ticked w) (not_ticked other)
      (λ e. let fits = room_for (clock_passed w now e) in
      record {
        same_call = refl;
        same_dropped = same_map w.senders m (drops w.t now) (looks_drops w.t now) w.count a;
        same_dead = same_map w.senders m (dies now) (looks_dies now) w.count a;
        alike_state = alike_tables (alike_aged w.senders m w.t now w.count fits.0 fits.1 a);
      })
      (λ r e. record { same_call = refl; same_dropped = refl; same_dead = refl; alike_state = alike_tables a }))

  -- The question. The sender that it finds has a message open, and the record of that one is looked at.

  same_message_lem : (i : ℕ) → i < w.count → (sender_at w i).«open» ≡ true → (sender_at w i).message ≡ (sender_at other i).message
  same_message_lem i h e =
      let f : (sender_at other i).«open» ≡ true = sym (same_sender (λ s. s.«open») looks_open i h) ∙ e in
      sym (looks_message (sender_at w i) e) ∙ ap (λ (s : Sender). s.message) (a i h) ∙ looks_message (sender_at other i) f

  same_missing : missing_of w (first_open w) ≡ missing_of other (first_open other)
  same_missing =
      let i = first_open w in
      rw (← same_first w.senders m (λ s. s.«open») looks_open w.count a)
      (ap Ok (cond_two (λ (x y : Option MissingPiece). x ≡ y) (ltb i w.count) _ _ _ _
      (λ e. let h : i < w.count = ltb-true i w.count e in
      let is_open = first_holds (λ s. s.«open») w.senders w.count h in
      ap (λ (r : Message). Some (record { sender = i; piece = lowest_missing r.map })) (same_message_lem i h is_open))
      (λ e. refl)))

  same_question : question_answer w ≡ question_answer other
  unfolding question_answer
  same_question = rw (same_valid, same_missing)

  -- The multicast call. Of a state outside its limits it looks at nothing else, and of one within them at no group past the count.

  same_cast : (t : Tables) (x : ℕ) (packet : List ℕ) → SameCast t x packet w other
  same_cast t x packet = ⊎_elim
      (λ (ok : valid w ≡ true). unfold multicast_answer multicast_tables cast_outcome cast_rows in
      let few = within_few g (valid_groups other (sym same_valid ∙ ok)) in
      let place = alike_place w.groups g same-groups few x in
      let count : w.groups.count ≡ g.count = ap (λ (y : Groups). y.count) same-groups in
      (rw (← same_found (head_of packet), ← same_valid, place, count), rw (← same_found (head_of packet), ← same_valid, place, count)))
      (λ (outside : valid w ≡ false).
      let here = multicast_nine w t x packet outside in
      let there = multicast_nine other t x packet (sym same_valid ∙ outside) in
      (here.0 ∙ sym there.0, here.1 ∙ sym there.1))
      (true_or_false (valid w))

-- Then for any two that are alike.
module _ (w v : Receiver) (a : Alike w v) where
  by_tables : (P : Receiver → Type 0)
      → ((g : Groups) → kept w.groups ≡ kept g → (m : List Sender) → AlikeTables w.senders m w.count → P (with_others w g m)) → P v
  by_tables P f =
      let settings : with_others w v.groups v.senders ≡ v
      = ap (λ (g : Settings). state_of (with_groups g v.groups) w.clock v.senders) a.same_settings
      ∙ ap (λ (t : ℕ). state_of (settings_from v) t v.senders) a.same_clock in
      subst P settings (f v.groups (ap (λ (g : Settings). g.groups) a.same_settings) v.senders a.same_seen)

  pub alike_valid : valid w ≡ valid v
  alike_valid = by_tables (λ (u : Receiver). valid w ≡ valid u) (same_valid w)

  pub alike_message : (room : ℕ) (packet : List ℕ) → AlikeAnswer (message_answer w room packet) (message_answer v room packet)
  alike_message room packet = by_tables (λ (u : Receiver). AlikeAnswer (message_answer w room packet) (message_answer u room packet))
      (λ g c m b. alike_answer w g c m b room packet)

  pub alike_storage : (storage packet : List ℕ) → message_storage w storage packet ≡ message_storage v storage packet
  alike_storage storage packet = by_tables (λ (u : Receiver). message_storage w storage packet ≡ message_storage u storage packet)
      (λ g c m b. same_storage w g c m b storage packet)

  pub alike_alive : (packet : List ℕ) → AlikeNoted (alive_answer w packet) (alive_answer v packet)
  alike_alive packet = by_tables (λ (u : Receiver). AlikeNoted (alive_answer w packet) (alive_answer u packet)) (λ g c m b. alike_noted w g c m b packet)

  pub alike_clock : (now : ℕ) → AlikeTicked (clock_answer w now) (clock_answer v now)
  alike_clock now = by_tables (λ (u : Receiver). AlikeTicked (clock_answer w now) (clock_answer u now)) (λ g c m b. alike_ticked w g c m b now)

  pub alike_question : question_answer w ≡ question_answer v
  alike_question = by_tables (λ (u : Receiver). question_answer w ≡ question_answer u) (same_question w)

  pub alike_multicast : (t : Tables) (x : ℕ) (packet : List ℕ) → SameCast t x packet w v
  alike_multicast t x packet = by_tables (SameCast t x packet w) (λ g c m b. same_cast w g c m b t x packet)
