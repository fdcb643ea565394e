-- The tests that are made are those of number 9, and what is known of senders that have passed theirs. Assumes nothing.
use Prim.Native.Nat.{ℕ, zero, suc, ◌+◌, ◌-◌, ◌/◌, ◌%◌, ◌≤◌, ◌<◌}
use Rattle.std.specs.Prelude.{◌≡◌, refl, Bool, true, false, not, ◌&&◌, ◌||◌, List, eqb, leb, ltb, length, set, take, drop, replicate}
use Rattle.std.proofs.Common.{sym, ap, ◌∙◌, mod-eq_of_lt, add-one, length-set, leb-true, le-leb, lt-ltb, le-ltb, eqb-true, eq-eqb, ne_eqb}
use Rattle.std.proofs.Math.Logic.{⊎_elim}
use Rattle.std.proofs.Math.Bool.{and_assoc, and_comm, and-true, and-false, or-false}
use native.Mathlib.Omega.{arith}
use Rattle.std.specs.Int.Count.{ones}
use Rattle.std.proofs.lemmas.Bool.{lt-leb}
use Rattle.octets.specs.Split.{lt_or_le, same_test, both, and_left, and_right, or_left, or_right, either}
use Rattle.ring.specs.Ring.{M, is_number}
use Rattle.header.specs.Codes.{is_user}
use Rattle.groups.specs.Groups.{groups_most, groups_within}
use Rattle.cut.specs.Possible.{several_possible}
use Rattle.map.specs.Map.{is_empty, is_full, marked_past}
use Rattle.state.specs.Key.{key_of, Narrow, new_key}
use Rattle.state.proofs.KeyLaws.{Seen, seen_none, seen_more, new_seen}
use Rattle.state.specs.Limits.{is_address, is_n1, is_drop_time, clock_most, last_within, message_within, sender_within, new_among, address_at, senders_within, settings_of, settings_within, valid}
use Rattle.state.specs.State.{senders_most}
use Rattle.state.proofs.WithinLaws.{sender_facts}
use Rattle.words.specs.declared.Record.{Record}
use Rattle.words.specs.Words.{place, each, words_most, word, groups_in, half, record_in, record_at, address_in, last_in, message_in, flag, sender_of, fits, senders_in, state_in, fit_to, is_state}
use Rattle.words.proofs.StateLaws.{state_facts, state_of_lem, sender_in_lem}
use Rattle.words.proofs.WrittenLaws.{part_in}
use Rattle.words_look.specs.Look.{is_held}
use Rattle.words_look.proofs.AddressLaws.{address_key, address_narrow, address_short, address_word, address_in_lem}
use Rattle.words_look.specs.private.Tests.{each_setting, settings_fit, where_set, alive_within, open_within, cut_within, record_within, Sized, each_to, records_within, none_twice}

-- ---- a test that each passes

module _ (f : ℕ → Bool) where
  pub each_more : (k : ℕ) → each_to f k ≡ true → f k ≡ true → each_to f (k + 1) ≡ true
  unfolding each_to
  each_more k e h = rw (add-one k, e) h

  pub each_at : (k : ℕ) → each_to f k ≡ true → (i : ℕ) → i < k → f i ≡ true
  unfolding each_to
  each_at zero e i h = absurd (omega arith)
  each_at (suc k) e i h = ⊎_elim
      (λ (q : i < k). each_at k (and_left (each_to f k) (f k) e) i q)
      (λ (q : k ≤ i).
      let z : i ≡ k = omega arith in
      rw z (and_right (each_to f k) (f k) e))
      (lt_or_le i k)

  pub each_not : (k i : ℕ) → i < k → f i ≡ false → each_to f k ≡ false
  unfolding each_to
  each_not zero i h e = absurd (omega arith)
  each_not (suc k) i h e = ⊎_elim
      (λ (q : i < k). rw (each_not k i q e))
      (λ (q : k ≤ i).
      let z : i ≡ k = omega arith in
      rw (sym z, e) (and-false (each_to f i)))
      (lt_or_le i k)

-- ---- the settings

-- Each by itself, and "an empty state": of the states without senders only that one.
pub settings_tests : (l : List ℕ) → settings_fit l ≡ each_setting l && (ltb 0 (word l 4) || (not (flag (word l 0)) && eqb (word l 1) 1 && eqb (word l 2) 1 && eqb (word l 5) 0))
unfolding settings_fit settings_of each_setting
settings_tests l = sym (and_assoc (leb (word l 0) 1) (leb (word l 3) clock_most && leb (word l 4) senders_most && is_n1 (word l 1) && is_drop_time (word l 2) && groups_within (groups_in (word l 5) (word l 6))) _)

-- No more groups than there may be are counted in an octet.
pub groups_many : (l : List ℕ) → groups_most < word l 5 → false ≡ groups_within (groups_in (word l 5) (word l 6))
unfolding groups_within
groups_many l many = rw (lt-leb (word l 5) groups_most many)

-- ---- one sender's words

where_set_lem : (w : ℕ) (asked : Bool) → leb w 1 && (not (flag w) || asked) ≡ where_set w asked
where_set_lem zero asked = refl
where_set_lem (suc zero) asked = refl
where_set_lem (suc (suc w)) asked =
    let n = suc (suc w) in
    rw (lt-leb n 1 (omega arith), ne_eqb n 1 (λ e. omega (arith, e)), ne_eqb n 0 (λ e. omega (arith, e)))

-- Each flag with what is asked where it is set.
regroup : (o a v t h x y m : Bool) → (o && a && (not v || t)) && (x && y && m && (not v || h)) ≡ (a && (not v || (t && h))) && (x && (y && (o && m)))
regroup false a v t h x y m = simp and-false
regroup true false v t h x y m = refl
regroup true true false t h x y m = simp (and-true, and_assoc)
regroup true true true false h x y m = refl
regroup true true true true false x y m = simp and-false
regroup true true true true true x y m = simp (and-true, and_assoc)

pub record_tests : (clock : ℕ) (r : Record)
    → record_within clock r ≡ alive_within clock r && (is_address (address_in r.address) && (last_within (last_in r.last) && open_within clock r))
unfolding record_within fits sender_within
record_tests clock r =
    regroup (leb r.«open» 1) (leb r.alive 1) (flag r.alive) (ltb r.timeout half) (leb r.heard clock) (is_address (address_in r.address))
    (last_within (last_in r.last)) (not (flag r.«open») || message_within clock (message_in r))
    ∙ rw (where_set_lem r.alive (ltb r.timeout half && leb r.heard clock), where_set_lem r.«open» (message_within clock (message_in r)))

-- Under version 0 the last number 0 makes a word of 0.
pub last_test : (w : ℕ) → is_number (w % half) || eqb w 0 ≡ last_within (last_in w)
unfolding last_within
last_test w =
    let n = w % half in
    let v = w / half in
    let small = leb n M in
    let nothing = eqb v 0 || ltb 0 n in
    same_test (is_number n || eqb w 0) (small && nothing)
    (λ e. ⊎_elim
    (λ (is : is_number n ≡ true).
    both small nothing (and_right (leb 1 n) small is) (or_right (eqb v 0) (ltb 0 n) (lt-ltb 0 n (leb-true 1 n (and_left (leb 1 n) small is)))))
    (λ (none : eqb w 0 ≡ true). rw (eqb-true w 0 none))
    (either (is_number n) (eqb w 0) e))
    (λ e. ⊎_elim
    (λ (some : 0 < n). or_left (is_number n) (eqb w 0) (both (leb 1 n) small (le-leb 1 n some) (and_left small nothing e)))
    (λ (none : n ≤ 0).
    let first : v ≡ 0 = eqb-true v 0 (and_right true (eqb v 0) (sym (or-false (eqb v 0)) ∙ (rw (le-ltb 0 n none) at (and_right small nothing e)))) in
    or_right (is_number n) (eqb w 0) (eq-eqb w 0 (omega (arith, first))))
    (lt_or_le 0 n))

pub message_tests : (clock : ℕ) (r : Record)
    → message_within clock (message_in r) ≡ leb r.stamp clock && (is_number (r.message % half) && cut_within r.cut r.map)
unfolding message_within cut_within
message_tests clock r =
    let m = message_in r in
    let map = not (is_empty m.map || is_full m.map m.tbn || marked_past m.map m.tbn) in
    let held = eqb m.held (ones m.map) in
    and_comm (is_number m.number.0 && is_user m.tcd && several_possible m.n m.tbn m.u && map && held) (leb m.stamp clock) ∙ simp and_assoc

-- ---- all senders

-- The ten words from the sender's first on were looked at.
module _ {l : List ℕ} {count : ℕ} (size : Sized l count) {i : ℕ} (less : i < count) {first clock : ℕ} (starts : first ≡ place i)
    (time : clock ≡ word l 3) {passed : Bool} (test : passed ≡ record_within clock (record_in (take ((first + each) - first) (drop first l)))) where
  sender_test : passed ≡ record_within (word l 3) (record_at l i)
  sender_test =
      let ten : (first + each) - first ≡ each = omega arith in
      test ∙ rw (time, ten, starts) (ap (record_within (word l 3)) (part_in l i (omega arith)))

  pub senders_not : passed ≡ false → false ≡ records_within l count
  senders_not e = sym (each_not (λ k. record_within (word l 3) (record_at l k)) count i less (sym sender_test ∙ e))

  pub senders_more : records_within l i ≡ true → passed ≡ true → records_within l (i + 1) ≡ true
  senders_more so_far e = each_more (λ k. record_within (word l 3) (record_at l k)) i so_far (sym sender_test ∙ e)

-- Where one place is looked at for both, and where all are looked at for one and then for the other.
apart : (a b c d f s n : Bool) → a && b ≡ c && d → (a && (f && s)) && (b && n) ≡ (c && f) && (d && (s && n))
apart a b c d false s n e = simp and-false
apart a b c d true false n e = simp and-false
apart a b c d true true false e = simp and-false
apart a b c d true true true e = simp and-true e

each_test : (l : List ℕ) (k : ℕ) → k ≤ senders_most → records_within l k && none_twice l k ≡ fit_to l k && senders_within (word l 3) (senders_in l) k
unfolding each_to record_within fit_to senders_within
each_test l zero few = refl
each_test l (suc k) few =
    let new = new_among (address_at (senders_in l)) k (address_at (senders_in l) k) in
    rw (sender_in_lem l k (omega arith))
    (apart (records_within l k) (none_twice l k) (fit_to l k) (senders_within (word l 3) (senders_in l) k) (fits (record_at l k))
    (sender_within (word l 3) (sender_of (record_at l k))) new (each_test l k (omega arith)))

-- ---- number 9

settings_count : (l : List ℕ) → settings_fit l ≡ true → word l 4 ≤ senders_most
unfolding settings_fit settings_of
settings_count l e =
    let a1 = leb (word l 3) clock_most in
    let a2 = leb (word l 4) senders_most in
    let a3 = is_n1 (word l 1) in
    let a4 = is_drop_time (word l 2) in
    let a5 = groups_within (groups_in (word l 5) (word l 6)) in
    let e5 = and_left (a1 && a2 && a3 && a4 && a5) _ (and_right (leb (word l 0) 1) (settings_within (state_in l)) e) in
    let e4 = and_left (a1 && a2 && a3 && a4) a5 e5 in
    let e2 = and_left (a1 && a2) a3 (and_left (a1 && a2 && a3) a4 e4) in
    leb-true (word l 4) senders_most (and_right a1 a2 e2)

-- Of as many words as a state has.
pub whole_test : (l : List ℕ) → length l ≡ words_most
    → is_held l ≡ settings_fit l && (records_within l (word l 4) && none_twice l (word l 4))
unfolding settings_fit valid is_held
whole_test l many =
    let test = leb (word l 0) 1 in
    let settings = settings_within (state_in l) in
    let senders = records_within l (word l 4) && none_twice l (word l 4) in
    let fit = fit_to l (word l 4) in
    let within = senders_within (word l 3) (senders_in l) (word l 4) in
    same_test (is_state l && (settings && within)) (test && settings && senders)
    (λ e.
    let f = state_facts l (and_left (is_state l) (settings && within) e) in
    let v = and_right (is_state l) (settings && within) e in
    both (test && settings) senders (both test settings (le-leb (word l 0) 1 f.test) (and_left settings within v))
    (each_test l (word l 4) f.few ∙ both fit within f.fit (and_right settings within v)))
    (λ e.
    let s = and_left (test && settings) senders e in
    let few = settings_count l s in
    let all = sym (each_test l (word l 4) few) ∙ and_right (test && settings) senders e in
    let is = state_of_lem l (record { many = many; test = leb-true (word l 0) 1 (and_left test settings s); few = few; fit = and_left fit within all }) in
    both (is_state l) (settings && within) is (both settings within (and_right test settings s) (and_right fit within all)))

-- Once the settings have passed, the count fits an octet, and it is the senders' turn.
module _ (l : List ℕ) (many : length l ≡ words_most) (settings : settings_fit l ≡ true) (count : ℕ) (is : count ≡ word l 4 % 256) where
  count_is : word l 4 ≡ count
  count_is = sym (is ∙ mod-eq_of_lt (omega (arith, settings_count l settings)))

  pub sized : Sized l count
  sized = record { many = many; most = omega (arith, count_is, settings_count l settings) }

  pub senders_tests : is_held l ≡ records_within l count && none_twice l count
  senders_tests = whole_test l many ∙ rw (settings, count_is)

-- One sender alone is no pair.
pub none_few : (l : List ℕ) (k : ℕ) → k ≤ 1 → none_twice l k ≡ true
unfolding each_to new_among
none_few l zero h = refl
none_few l (suc zero) h = refl
none_few l (suc (suc k)) h = absurd (omega arith)

-- ---- "no pair twice"

-- The addresses of the first i senders have been seen, and are new.
pub record Apart (l keys : List ℕ) (count i : ℕ) : Type 0 where
  pub few : i ≤ count
  pub room : length keys ≡ senders_most
  pub are_seen : Seen keys (address_at (senders_in l)) i
  pub are_new : none_twice l i ≡ true

pub apart_none : (l : List ℕ) (count : ℕ) → Apart l (replicate senders_most 0) count 0
unfolding each_to
apart_none l count = record { few = omega arith; room = refl; are_seen = seen_none (address_at (senders_in l)); are_new = refl }

module _ {l keys : List ℕ} {count i : ℕ} (so_far : Apart l keys count i) (size : Sized l count)
    (within : records_within l count ≡ true) (less : i < count) {key : ℕ} (is : key ≡ word l (place i) % half) {new : Bool} (en : new ≡ new_key keys senders_most key) where
  address_ok : is_address (address_in (word l (place i))) ≡ true
  unfolding record_within
  address_ok =
      let here = each_at (λ k. record_within (word l 3) (record_at l k)) count within i less in
      let own = sender_facts (word l 3) (sender_of (record_at l i)) (and_right (fits (record_at l i)) (sender_within (word l 3) (sender_of (record_at l i))) here) in
      rw (address_word l size.many i (omega arith)) at own.address

  key_is : (key ≡ key_of (address_at (senders_in l) i)) × Narrow (address_at (senders_in l) i)
  key_is = (
    is ∙ mod-eq_of_lt (address_short (word l (place i)) address_ok) ∙ sym (address_key (word l (place i))) ∙ ap key_of (sym (address_in_lem l size.many i (omega arith))),
    rw (address_in_lem l size.many i (omega arith)) (address_narrow (word l (place i))),
  )

  new_is : new ≡ new_among (address_at (senders_in l)) i (address_at (senders_in l) i)
  new_is = new_seen keys (address_at (senders_in l)) i key new (omega arith) key_is so_far.are_seen (rw (address_in_lem l size.many i (omega arith)) address_ok) en

  pub apart_not : new ≡ false → false ≡ none_twice l count
  apart_not e = sym (each_not (λ k. new_among (address_at (senders_in l)) k (address_at (senders_in l) k)) count i less (sym new_is ∙ e))

  pub apart_more : new ≡ true → Apart l (set keys i key) count (i + 1)
  apart_more e = record {
    few = omega arith;
    room = length-set keys i key ∙ so_far.room;
    are_seen = seen_more keys (address_at (senders_in l)) i key (omega (arith, so_far.room)) key_is so_far.are_seen;
    are_new = each_more (λ k. new_among (address_at (senders_in l)) k (address_at (senders_in l) k)) i so_far.are_new (sym new_is ∙ e);
  }
