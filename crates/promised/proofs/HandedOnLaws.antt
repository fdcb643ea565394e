-- The tables by the past alone: where they are handed on, each entry holds the version and number of the last message that was
-- delivered there and not unchecked, or what it began with. Assumes nothing.
use Rattle.std.specs.Prelude.{ℕ, ◌*◌, ◌<◌, ◌≡◌, refl, ◌≢◌, Bool, true, false, not, cond, ◌&&◌, List, [], ◌∷◌, ◌++◌, eqb, leb, Err}
use Rattle.refusal.specs.declared.Refusal.{Refusal}
use Rattle.refusal.specs.Numbers.{number_of}
use Rattle.refusal.proofs.NumbersLaws.{nine_or_more}
use Rattle.refusal.specs.declared.Refusal.TheVariants as refusals
use Rattle.std.proofs.Common.{sym, subst, ◌∙◌, ⊎_elim, arith}
use Rattle.std.proofs.Math.Path.{ap}
use Rattle.std.proofs.Math.ListN.{length}
use borrow.Author.Tests.{eqb-true, eq-eqb, ne_eqb, leb-false, not-false}
use Rattle.octets.proofs.FirstPlaceLaws.{place_holds}
use Rattle.octets.specs.Split.{eq_or_ne, true_or_false, cond_case, and_left, and_right}
use Rattle.ring.specs.declared.Verdict.{Verdict}
use Rattle.ring.specs.Check.{verdict_number, is_repeat, is_unchecked}
use Rattle.ring.specs.Ring.{OnRing}
use Rattle.ring.proofs.RingLaws.{on_ring}
use Rattle.header.specs.declared.Head.{Head}
use Rattle.header.specs.Head.{head_of}
use Rattle.groups.specs.declared.Groups.{Groups}
use Rattle.groups.specs.Groups as groups
use Rattle.groups.specs.Groups.{number_at, groups_within}
use Rattle.groups.proofs.GroupsLaws.{kept_within, place_own, place_number}
use Rattle.state.specs.declared.Address.{Address}
use Rattle.state.specs.declared.Last.{Last}
use Rattle.state.specs.Limits.{same_address, given, address_at, last_within}
use Rattle.state.specs.Table.{source}
use Rattle.state.proofs.WithinLaws.{last_ring, same_is, valid_groups}
use Rattle.answers.specs.declared.Listener.{Listener}
use Rattle.answers.specs.declared.Setup.{Setup}
use Rattle.rules.specs.calls.First.{Row, row, checked, first, Given}
use Rattle.rules.proofs.calls.FirstLaws.{first_none, first_append, without, first_without, behind_without, first_given, refusal_given, some_number, checked_none}
use Rattle.rules.proofs.calls.ExactlyLaws.{multicast_with}
use Rattle.rules.specs.calls.Message.{head_within}
use Rattle.rules.specs.calls.Multicast.{Tables, entries_of, entry_place, entry_at, with_entry, place_for, one_piece, verdict_in, cast_rows, listening, cast_outcome, kept_by, multicast_rows, multicast_answer, multicast_tables}
use Rattle.rules.proofs.calls.MessageLaws.{head_pri, head_number}
use Rattle.rules.proofs.calls.MulticastLaws.{Cast, cast_facts, cast_within, place_apart, place_below, TablesWithin, tables_facts, entry_same, entry_other}
use Rattle.rules.specs.pasts.Past.{World, Event, message, alive, clock, aside, question, multicast, step, said, answers}
use Rattle.promised.proofs.AgreesLaws.{Agrees, agrees_step}
use Rattle.promised.proofs.CastLaws.{group_count, group_place, cast_entry}
use Rattle.promised.specs.HandedOn.{HandedOn, last_heard, cast_after}
use Rattle.promised.specs.Judged.{has_length, is_message}
use Rattle.promised.proofs.JudgedLaws.{message_head}
use Rattle.promised.specs.Log.{told_by, Exchange, exchange, logged, Name, name_of, cast_by, casts, counts, last_cast}
use Rattle.promised.specs.Log as log_of
use Rattle.promised.proofs.LogLaws.{last_in, is_five}
use Rattle.promised.specs.Says.{senders_of, groups_of, place_of, has_tables, rows_cast, entry_for, name_at, verdict_after, cast_says}
use Rattle.promised.proofs.SaysLaws.{place_is}
use Rattle.promised.proofs.ViewLaws.{found_own}

-- Every entry, by the sender's place, the group's and the priority.
pub record Entries (q : Setup) (begun : Tables) (log : List Exchange) (t : Tables) : Type 0 where
  pub right : has_tables q t ≡ true
  pub entry : (i j p : ℕ) → i < length (senders_of q) → j < (groups_of q).count → p < 8
      → let k = entry_place (groups_of q).count i j p in
      name_at t k ≡ last_cast (given (senders_of q) i) (number_at (groups_of q) j) p (name_at begun k) (casts log)

pub entries_start : (q : Setup) (t : Tables) → has_tables q t ≡ true → Entries q t [] t
unfolding casts last_cast
entries_start q t ok = record { right = ok; entry = λ i j p a b c. refl }

-- ---- one more packet to a group

module _ (q : Setup) (begun : Tables) (log : List Exchange) (w : World) (a : Agrees q log w) (t : Tables) (inv : Entries q begun log t) (g : ℕ) (packet : List ℕ) where
  abbrev h : Head
  h = head_of packet

  abbrev s : Listener
  s = listening w.state h

  abbrev e : Event
  e = aside (multicast t g packet)

  abbrev x : Exchange
  x = exchange e (told_by e (said w e))

  groups_right : groups_within (groups_of q) ≡ true
  groups_right = sym (kept_within (groups_of q)) ∙ subst (λ (y : Groups). groups_within y ≡ true) a.groups (valid_groups w.state a.sound.is_valid)

  -- It is refused.
  module _ (refuses : first (cast_rows s t g packet h) ≢ 0) where
    abbrev given_by : (r : Refusal) × ((checked (cast_rows s t g packet h) ≡ Err r) × (first (cast_rows s t g packet h) ≡ number_of r))
    given_by = refusal_given (cast_rows s t g packet h) refuses

    given_row : Given (multicast_rows w.state t g packet) (number_of given_by.0)
    given_row = first_given (multicast_rows w.state t g packet) (number_of given_by.0) given_by.1.1 (some_number given_by.0)

    no_delivery : casts (x ∷ log) ≡ casts log
    unfolding casts said
    no_delivery =
        rw ((multicast_with w.state t g packet given_by.0 given_row).0, ne_eqb (number_of given_by.0) 1 (λ z. omega (arith, nine_or_more given_by.0, z)))

    refused : Entries q begun (x ∷ log) (multicast_tables w.state t g packet)
    refused = rw (multicast_with w.state t g packet given_by.0 given_row).1
        (record { right = inv.right; entry = λ i j p b c d. rw no_delivery (inv.entry i j p b c d) })

  -- It is delivered.
  module _ (none : first (cast_rows s t g packet h) ≡ 0) where
    facts : Cast s t g packet h
    facts = cast_facts s t g packet h none

    abbrev v : Verdict
    v = verdict_in s t g h

    abbrev told : log_of.Cast
    told = record { sender = source h; group = g; pri = h.given.pri; name = name_of packet; verdict = verdict_number v }

    one_delivery : casts (x ∷ log) ≡ told ∷ casts log
    unfolding casts said multicast_answer cast_outcome
    one_delivery = rw (checked_none (cast_rows s t g packet h) none)

    written : multicast_tables w.state t g packet ≡ cond (not (is_unchecked v)) (with_entry t (place_for s g h) h.given.version h.given.number) t
    unfolding multicast_tables cast_outcome kept_by
    written = rw (checked_none (cast_rows s t g packet h) none)

    abbrev i₀ : ℕ
    i₀ = place_of (senders_of q) (source h)

    abbrev j₀ : ℕ
    j₀ = groups.place_of (groups_of q) g

    sender_there : i₀ < length (senders_of q)
    sender_there = omega (arith, facts.registered, place_is q log w a (source h) packet refl, a.count)

    group_there : j₀ < (groups_of q).count
    group_there = omega (arith, facts.in_group, group_place q log w a t g packet, group_count q log w a t g packet)

    -- Which entry it is.
    module _ (i j p : ℕ) (is-sender : i < length (senders_of q)) (is-group : j < (groups_of q).count) (is-pri : p < 8) where
      abbrev k : ℕ
      k = entry_place (groups_of q).count i j p

      abbrev mine : Bool
      mine = counts (given (senders_of q) i) (number_at (groups_of q) j) p told

      abbrev before : Name
      before = last_cast (given (senders_of q) i) (number_at (groups_of q) j) p (name_at begun k) (casts log)

      abbrev sender_same : Bool
      sender_same = same_address (given (senders_of q) i) (source h)

      abbrev group_same : Bool
      group_same = eqb (number_at (groups_of q) j) g

      abbrev pri_same : Bool
      pri_same = eqb p h.given.pri

      mine_here : k ≡ place_for s g h → mine ≡ not (is_unchecked v)
      mine_here e =
          let same = place_apart (groups_of q).count i j p i₀ j₀ h.given.pri is-group group_there is-pri (head_pri packet h facts.head_within_lem) (e ∙ cast_entry q log w a t g packet) in
          let sender : sender_same ≡ true = rw same.0 (place_holds (λ n. same_address (given (senders_of q) n) (source h)) (length (senders_of q)) sender_there) in
          let group : group_same ≡ true = rw same.1 (eq-eqb (number_at (groups_of q) j₀) g (place_number (groups_of q) g group_there)) in
          rw (sender, group, eq-eqb p h.given.pri same.2, is_five v)

      mine_elsewhere : k ≢ place_for s g h → mine ≡ false
      mine_elsewhere ne = ⊎_elim
          (λ (is : mine ≡ true).
          let three = and_left (sender_same && group_same && pri_same) (not (eqb (verdict_number v) 5)) is in
          let two = and_left (sender_same && group_same) pri_same three in
          let own : same_address (address_at w.state.senders i) (source h) ≡ true = rw (a.address i (omega (arith, is-sender, a.count))) (and_left sender_same group_same two) in
          let sender : i₀ ≡ i = sym (place_is q log w a (source h) packet refl) ∙ found_own w.state a.sound.is_valid i (omega (arith, is-sender, a.count)) packet own in
          let its = eqb-true (number_at (groups_of q) j) g (and_right sender_same group_same two) in
          let group : j₀ ≡ j = ap (groups.place_of (groups_of q)) (sym its) ∙ place_own (groups_of q) groups_right j is-group in
          let pri = eqb-true p h.given.pri (and_right (sender_same && group_same) pri_same three) in
          absurd (ne (sym (cast_entry q log w a t g packet ∙ rw (sender, group, ← pri)))))
          (λ no_one. no_one)
          (true_or_false mine)

      entry_after : name_at (cond (not (is_unchecked v)) (with_entry t (place_for s g h) h.given.version h.given.number) t) k ≡ cond mine (name_of packet) before
      entry_after = ⊎_elim
          (λ (e : k ≡ place_for s g h). rw (mine_here e) (⊎_elim
          (λ (u : is_unchecked v ≡ true). rw u (inv.entry i j p is-sender is-group is-pri))
          (λ (u : is_unchecked v ≡ false). rw (u, e) (ap (λ (l : Last). record { version = l.version; number = l.number })
          (entry_same t (place_for s g h) h (omega (arith, below, ends.versions_long)) (omega (arith, below, ends.numbers_long)))))
          (true_or_false (is_unchecked v))))
          (λ (ne : k ≢ place_for s g h). rw (mine_elsewhere ne) (cond_case (λ (y : Tables). name_at y k ≡ before) (not (is_unchecked v)) _ _
          (λ _. ap (λ (l : Last). record { version = l.version; number = l.number }) (entry_other t (place_for s g h) k h ne) ∙ inv.entry i j p is-sender is-group is-pri)
          (λ _. inv.entry i j p is-sender is-group is-pri)))
          (eq_or_ne k (place_for s g h))
        where
          ends : TablesWithin (entries_of s.count s.groups.count) t
          ends = tables_facts (entries_of s.count s.groups.count) t facts.tables_within_lem

          below : place_for s g h < entries_of s.count s.groups.count
          below = place_below s.count s.groups.count s.at (groups.place_of s.groups g) h.given.pri facts.registered facts.in_group (head_pri packet h facts.head_within_lem)

    delivered : Entries q begun (x ∷ log) (multicast_tables w.state t g packet)
    unfolding last_cast
    delivered = record {
      right = unfold multicast_tables in cast_within (length (senders_of q) * (groups_of q).count * 8) s t g packet h inv.right;
      entry = λ i j p b c d. rw (one_delivery, written) (entry_after i j p b c d);
    }

  pub entries_cast : Entries q begun (x ∷ log) (multicast_tables w.state t g packet)
  entries_cast = ⊎_elim delivered refused (eq_or_ne (first (cast_rows s t g packet h)) 0)

-- ---- a whole past

-- A call that is no packet to a group leaves the tables to the next.
entries_still : (q : Setup) (begun : Tables) (log : List Exchange) (t : Tables) (x : Exchange) → cast_by x.call x.told ≡ [] → Entries q begun log t → Entries q begun (x ∷ log) t
unfolding casts
entries_still q begun log t x nothing inv = record { right = inv.right; entry = λ i j p b c d. rw nothing (inv.entry i j p b c d) }

pub entries_after : (q : Setup) (begun : Tables) (log : List Exchange) (w : World) → Agrees q log w → (t : Tables) → Entries q begun log t
    → (es : List Event) (u : Tables) → HandedOn t es (answers w es) u → Entries q begun (logged log es (answers w es)) u
unfolding answers logged
entries_after q begun log w a t inv [] u on = rw on inv
entries_after q begun log w a t inv (message packet ∷ es) u on =
    entries_after q begun (exchange (message packet) (told_by (message packet) (said w (message packet))) ∷ log) (step w (message packet)) (agrees_step q log w a (message packet)) t (entries_still q begun log t _ refl inv) es u on
entries_after q begun log w a t inv (alive packet ∷ es) u on =
    entries_after q begun (exchange (alive packet) (told_by (alive packet) (said w (alive packet))) ∷ log) (step w (alive packet)) (agrees_step q log w a (alive packet)) t (entries_still q begun log t _ refl inv) es u on
entries_after q begun log w a t inv (clock ms ∷ es) u on =
    entries_after q begun (exchange (clock ms) (told_by (clock ms) (said w (clock ms))) ∷ log) (step w (clock ms)) (agrees_step q log w a (clock ms)) t (entries_still q begun log t _ refl inv) es u on
entries_after q begun log w a t inv (aside question ∷ es) u on =
    entries_after q begun (exchange (aside question) (told_by (aside question) (said w (aside question))) ∷ log) (step w (aside question)) (agrees_step q log w a (aside question)) t (entries_still q begun log t _ refl inv) es u on
entries_after q begun log w a t inv (aside (multicast lent g packet) ∷ es) u on =
    let given-on = subst (Entries q begun log) (sym on.0) inv in
    entries_after q begun (exchange (aside (multicast lent g packet)) (told_by (aside (multicast lent g packet)) (said w (aside (multicast lent g packet)))) ∷ log) (step w (aside (multicast lent g packet))) (agrees_step q log w a (aside (multicast lent g packet))) (multicast_tables w.state lent g packet)
    (entries_cast q begun log w a lent given-on g packet) es u (unfold said in on.1)

-- ---- what the next packet is told

-- By the past alone: where a packet comes as far as the number check, the entry is the last delivered name.
module _ (q : Setup) (begun : Tables) (log : List Exchange) (t : Tables) (inv : Entries q begun log t) (g : ℕ) (packet : List ℕ) where
  abbrev its_place : ℕ
  its_place = place_of (senders_of q) (source (head_of packet))

  abbrev its_group : ℕ
  its_group = groups.place_of (groups_of q) g

  -- 26, 12 to 14 and 25; then 15 to 17.
  abbrev earlier : List Row
  earlier =
      row refusals.Tables (not true) ∷ row refusals.Length (not (has_length 64 1472 packet)) ∷ row refusals.Header (not (is_message packet)) ∷ row refusals.Sender (leb (length (senders_of q)) its_place)
      ∷ row refusals.Group (leb (groups_of q).count its_group) ∷ []

  abbrev later : Verdict → List Row
  later v = row refusals.Test (eqb (head_of packet).given.mode 1 && eqb q.mode 0) ∷ row refusals.Cut (not (one_piece (head_of packet).cut)) ∷ row refusals.Repeat (is_repeat v) ∷ []

  abbrev by_table : Verdict
  by_table = verdict_after q (name_at t (entry_for q g packet)) (name_of packet)

  abbrev by_past : Verdict
  by_past = verdict_after q (last_heard q begun log g packet) (name_of packet)

  -- What is known of a packet that comes as far as the number check.
  record Reaches : Type 0 where
    known : its_place < length (senders_of q)
    registered : its_group < (groups_of q).count
    is_message_lem : head_within packet (head_of packet) ≡ true
    pri : (head_of packet).given.pri < 8

  reaches : first earlier ≡ 0 → Reaches
  reaches none =
      let r26 = first_none _ (not true) _ none in
      let r12 = first_none _ (not (has_length 64 1472 packet)) _ r26.1 in
      let r13 = first_none _ (not (is_message packet)) _ r12.1 in
      let r14 = first_none _ (leb (length (senders_of q)) its_place) _ r13.1 in
      let r25 = first_none _ (leb (groups_of q).count its_group) _ r14.1 in
      let is_message_lem = message_head packet ∙ not-false (is_message packet) r13.0 in
      record {
        known = leb-false (length (senders_of q)) its_place r14.0;
        registered = leb-false (groups_of q).count its_group r25.0;
        is_message_lem = is_message_lem;
        pri = head_pri packet (head_of packet) is_message_lem;
      }

  same_name : Reaches → name_at t (entry_for q g packet) ≡ last_heard q begun log g packet
  same_name f =
      let sender : given (senders_of q) its_place ≡ source (head_of packet)
      = same_is (given (senders_of q) its_place) (source (head_of packet)) (place_holds (λ i. same_address (given (senders_of q) i) (source (head_of packet))) (length (senders_of q)) f.known) in
      let its = inv.entry its_place its_group (head_of packet).given.pri f.known f.registered f.pri in
      let first-name = name_at begun (entry_for q g packet) in
      its ∙ ap (λ (b : Address). last_cast b (number_at (groups_of q) its_group) (head_of packet).given.pri first-name (casts log)) sender
      ∙ ap (λ (n : ℕ). last_cast (source (head_of packet)) n (head_of packet).given.pri first-name (casts log)) (place_number (groups_of q) g f.registered)

  same_verdict : first earlier ≡ 0 → by_table ≡ by_past
  same_verdict none = ap (λ (n : Name). verdict_after q n (name_of packet)) (same_name (reaches none))

  -- The number of a repeat and the last one are 1 to M.
  pub heard_ring : first (rows_cast q true by_past g packet) ≡ 17 → (last_heard q begun log g packet).version.0 ≢ 0
      → OnRing (last_heard q begun log g packet).number.0 × OnRing (name_of packet).number.0
  heard_ring e some =
      let f = reaches (behind_without 17 earlier (later by_past) (λ z. omega (arith, z)) (unfold without in refl) e) in
      let k = entry_for q g packet in
      let n = length (senders_of q) * (groups_of q).count * 8 in
      let below : k < n = place_below (length (senders_of q)) (groups_of q).count its_place its_group (head_of packet).given.pri f.known f.registered f.pri in
      let is : entry_at t k ≡ last_in (last_heard q begun log g packet) = ap last_in (same_name f) in (
        last_ring _ (subst (λ (l : Last). last_within l ≡ true) is ((tables_facts n t inv.right).each k below)) some,
        on_ring _ (head_number packet (head_of packet) f.is_message_lem),
      )

  pub cast_after_lem : cast_says q t g packet ≡ cast_after q begun log t g packet
  unfolding cast_says
  cast_after_lem = rw inv.right (⊎_elim
      (λ (none : first earlier ≡ 0). rw (same_verdict none))
      (λ (some : first earlier ≢ 0).
      let one = stops by_table some in
      let two = stops by_past some in
      let plain = first_without 17 earlier (λ z. omega (arith, z)) (unfold without in refl) in
      rw (one, two, ne_eqb (first earlier) 0 some, ne_eqb (first earlier) 17 plain))
      (eq_or_ne (first earlier) 0))
    where
      stops : (v : Verdict) → first earlier ≢ 0 → first (earlier ++ later v) ≡ first earlier
      stops v some = first_append earlier (later v) ∙ rw (ne_eqb (first earlier) 0 some)
