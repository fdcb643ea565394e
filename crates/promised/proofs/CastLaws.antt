-- A packet to a group is told what 02's rules say of setup's arguments and the tables that are lent. Assumes nothing.
use Rattle.std.specs.Prelude.{ℕ, ◌≤◌, ◌<◌, Bool, not, ◌&&◌, List, [], eqb, leb, take, Result, Ok, Err}
use Rattle.std.proofs.Math.Path.{◌≡◌, refl}
use Rattle.std.proofs.Common.{ap, ◌∙◌, arith, le-leb, leb-false, ne_eqb}
use Rattle.std.proofs.Math.Logic.{⊎_elim}
use Rattle.std.proofs.Math.Bool.{true, false, cond}
use Rattle.std.proofs.Math.ListN.{length, drop}
use Rattle.octets.specs.Split.{lt_or_le}
use Rattle.ring.specs.declared.Verdict.{Verdict}
use Rattle.ring.specs.Check.{is_unchecked}
use Rattle.header.specs.declared.Head.{Head}
use Rattle.header.specs.Head.{head_of}
use Rattle.groups.specs.declared.Groups.{Groups}
use Rattle.groups.specs.Groups as groups
use Rattle.groups.proofs.GroupsLaws.{kept_place, within_few}
use Rattle.state.specs.State.{Settings}
use Rattle.state.specs.Table.{source, found}
use Rattle.state.proofs.WithinLaws.{valid_groups}
use Rattle.answers.specs.declared.Listener.{Listener}
use Rattle.answers.specs.declared.Outcome.{Outcome}
use Rattle.answers.specs.declared.Outcome.TheVariants.{Delivered}
use Rattle.answers.specs.declared.Setup.{Setup}
use Rattle.refusal.specs.declared.Refusal.{Refusal}
use Rattle.refusal.specs.Numbers.{number_of, number_in}
use Rattle.answers.specs.Told.{refusal, GroupTold, group_told, delivered_as, age_with, group_refused}
use Rattle.answers.proofs.ToldLaws.{age_same}
use Rattle.rules.specs.calls.First.{Row, checked, first, by_check}
use Rattle.rules.proofs.calls.FirstLaws.{first_is, some_number, first_none, first_neither, without, behind_without}
use Rattle.rules.specs.calls.Multicast.{Tables, with_entry, place_for, verdict_in, cast_rows, listening, cast_outcome, kept_by, handed_by, group_answer, multicast_answer, multicast_tables}
use Rattle.rules.specs.calls.Part.{part_of}
use Rattle.rules.proofs.calls.SetupLaws.{setup_facts}
use Rattle.rules.specs.pasts.Past.{World}
use Rattle.promised.proofs.AgreesLaws.{Agrees}
use Rattle.promised.specs.Judged.{has_length, is_message}
use Rattle.promised.proofs.JudgedLaws.{cast_length, message_head}
use Rattle.promised.specs.Log.{Exchange, name_of}
use Rattle.promised.specs.Says.{senders_of, groups_of, place_of, has_tables, rows_cast, entry_for, name_at, verdict_after, cast_says}
use Rattle.promised.proofs.MessageSaysLaws.{online_is}
use Rattle.promised.proofs.SaysLaws.{place_is, accepted_setup}

-- Delivered or refused, with the tables and the part.
module _ (t : Tables) (k : ℕ) (h : Head) (packet storage : List ℕ) (v : Verdict) where
  abbrev Three : Type 0
  Three = GroupTold × Tables × List ℕ

  abbrev made : Outcome → Three
  made o = (group_told (group_answer o), kept_by t k o h, part_of (handed_by o) packet storage)

  abbrev delivered : Three
  delivered = (
    record { outcome = delivered_as v; lies = record { slice = 1; start = 0; length = 0 } },
    cond (is_unchecked v) t (with_entry t k h.given.version h.given.number),
    drop 64 packet,
  )

  either_way : (x : Result (Unit {0}) Refusal) → made (by_check x (Delivered v) (λ r. refusal r v))
      ≡ cond (eqb (number_in x) 0) delivered (group_refused (number_in x) (age_with (number_in x) v), t, [])
  unfolding kept_by
  either_way (Ok y) = by (is_unchecked v)
    where
      by : (u : Bool) → ◌≡◌ {A = Three}
          (record { outcome = delivered_as v; lies = record { slice = 1; start = 0; length = 0 } }, cond (not u) (with_entry t k h.given.version h.given.number) t, drop 64 packet)
          (record { outcome = delivered_as v; lies = record { slice = 1; start = 0; length = 0 } }, cond u t (with_entry t k h.given.version h.given.number), drop 64 packet)
      by true = refl
      by false = refl
  either_way (Err r) = rw (ne_eqb (number_of r) 0 (some_number r))

module _ (q : Setup) (log : List Exchange) (w : World) (a : Agrees q log w) (t : Tables) (g : ℕ) (packet : List ℕ) where
  abbrev h : Head
  h = head_of packet

  abbrev s : Listener
  s = listening w.state h

  abbrev verdict : Verdict
  verdict = verdict_after q (name_at t (entry_for q g packet)) (name_of packet)

  pub group_count : w.state.groups.count ≡ (groups_of q).count
  group_count = ap (λ (x : Groups). x.count) a.groups

  pub group_place : groups.place_of w.state.groups g ≡ groups.place_of (groups_of q) g
  group_place =
      let few = within_few w.state.groups (valid_groups w.state a.sound.is_valid) in
      ap (λ (x : Groups). groups.place_of x g) a.groups ∙ kept_place (groups_of q) (omega (arith, few, group_count)) g

  pub cast_entry : place_for s g h ≡ entry_for q g packet
  cast_entry = rw (group_place, group_count, place_is q log w a (source h) packet refl)

  -- Where the sender is registered, setup was accepted.
  verdict_is : found w.state h < w.state.count → verdict_in s t g h ≡ verdict
  verdict_is here =
      let n1 : w.state.n1 ≡ q.n1 = ap (λ (x : Settings). x.n1) (a.settings (accepted_setup q log w a (found w.state h) here)) in
      rw (n1, cast_entry)

  mode_is : found w.state h < w.state.count → eqb h.given.mode 1 && not w.state.test ≡ eqb h.given.mode 1 && eqb q.mode 0
  mode_is here =
      let accepted = accepted_setup q log w a (found w.state h) here in
      let test : w.state.test ≡ eqb q.mode 1 = ap (λ (x : Settings). x.test) (a.settings accepted) in
      rw test (online_is (eqb h.given.mode 1) q.mode (setup_facts q accepted).mode)

  unknown_is : w.state.count ≤ found w.state h → leb (length (senders_of q)) (place_of (senders_of q) (source h)) ≡ true
  unknown_is none = rw (← place_is q log w a (source h) packet refl, ← a.count) (le-leb w.state.count (found w.state h) none)

  cast_number : first (cast_rows s t g packet h) ≡ first (rows_cast q (has_tables q t) verdict g packet)
  unfolding cast_rows first
  cast_number = ⊎_elim
      (λ (here : found w.state h < w.state.count).
      rw (a.sound.is_valid, verdict_is here, mode_is here, cast_length packet, message_head packet, group_place, group_count, place_is q log w a (source h) packet refl, a.count))
      (λ (none : w.state.count ≤ found w.state h).
      rw (a.sound.is_valid, group_count, cast_length packet, message_head packet, place_is q log w a (source h) packet refl, a.count, unknown_is none))
      (lt_or_le (found w.state h) w.state.count)

  abbrev number : ℕ
  number = first (rows_cast q (has_tables q t) verdict g packet)

  -- 26, 12 to 14; where none of them applies, the sender is registered.
  abbrev earlier : List Row
  earlier = take 4 (rows_cast q (has_tables q t) verdict g packet)

  earlier_here : first earlier ≡ 0 → found w.state h < w.state.count
  earlier_here none =
      let r26 = first_none _ (not (has_tables q t)) _ none in
      let r12 = first_none _ (not (has_length 64 1472 packet)) _ r26.1 in
      let r13 = first_none _ (not (is_message packet)) _ r12.1 in
      let r14 = first_none _ (leb (length (senders_of q)) (place_of (senders_of q) (source h))) _ r13.1 in
      omega (arith, leb-false (length (senders_of q)) (place_of (senders_of q) (source h)) r14.0, place_is q log w a (source h) packet refl, a.count)

  abbrev later : List Row
  later = drop 4 (rows_cast q (has_tables q t) verdict g packet)

  -- An unknown sender's packet is refused,
  refused_unknown : w.state.count ≤ found w.state h → eqb number 0 ≡ false
  refused_unknown none = ne_eqb number 0 (λ z. omega (arith, none, earlier_here (first_neither earlier later z).0))

  -- and not with 17.
  same_age : age_with number (verdict_in s t g h) ≡ age_with number verdict
  same_age = age_same number _ _ (λ e.
      verdict_is (earlier_here (behind_without 17 earlier later (λ z. omega (arith, z)) (unfold without in refl) e)))

  pub cast_says_lem : ◌≡◌ {A = GroupTold × Tables × List ℕ}
      (group_told (multicast_answer w.state t g packet), multicast_tables w.state t g packet, part_of (multicast_answer w.state t g packet).lies packet w.storage)
      (cast_says q t g packet)
  unfolding multicast_answer multicast_tables cast_outcome cast_says
  cast_says_lem =
      either_way t (place_for s g h) h packet w.storage (verdict_in s t g h) (checked (cast_rows s t g packet h))
      ∙ rw (← first_is (cast_rows s t g packet h), cast_number, same_age) (⊎_elim
      (λ (here : found w.state h < w.state.count). rw (verdict_is here, cast_entry))
      (λ (none : w.state.count ≤ found w.state h). rw (refused_unknown none))
      (lt_or_le (found w.state h) w.state.count))
