-- Laws of the limits, taken apart and put together: what number 9 looks at in an open message, in a sender, at each
-- place of the table and in the whole state, and what keeps a table within its limits. Assumes nothing.
use Rattle.std.specs.Prelude.{◌≡◌, refl, ◌≢◌, Bool, true, false, not, ◌&&◌, ◌||◌, List, ℕ, zero, suc, ◌≤◌, ◌<◌, eqb, leb, ltb, length, get_or, set}
use Rattle.std.proofs.Common.{sym, ap, subst, ◌∙◌, ⊎_elim, arith, length-set, get_or-set_same, get_or-set_other, le-leb, leb-true, lt-ltb, ltb-true, eq-eqb, ne_eqb, eqb-true}
use Rattle.std.proofs.lemmas.Bool.{false≢true, not-true}
use Rattle.std.specs.Int.Count.{ones}
use Rattle.std.proofs.lemmas.Nat.{ones-le}
use Rattle.std.proofs.Math.ListN.{get_or-eq_default}
use Rattle.octets.specs.Split.{lt_or_le, eq_or_ne, both, and_left, and_right}
use Rattle.ring.specs.Ring.{M, OnRing, is_number}
use Rattle.header.specs.Codes.{is_user}
use Rattle.cut.specs.Possible.{several_possible}
use Rattle.cut.proofs.PossibleLaws.{several_facts, several_most}
use Rattle.map.specs.Map.{full_map, is_empty, is_full, marked_past}
use Rattle.map.proofs.MapLaws.{partial_is}
use Rattle.groups.specs.Groups.{groups_within}
use Rattle.state.specs.declared.Address.{Address}
use Rattle.state.specs.declared.Last.{Last}
use Rattle.state.specs.declared.Message.{Message}
use Rattle.state.specs.declared.Sender.{Sender}
use Rattle.state.specs.declared.Receiver.{Receiver}
use Rattle.state.specs.Limits.{is_n1, is_drop_time, clock_most, is_address, same_address, last_within, message_within, sender_within, new_among, address_at, senders_within, settings_of, settings_within, valid}
use Rattle.state.proofs.LimitsLaws.{new_ext}
use Rattle.state.specs.State.{senders_most, no_sender, sender_at}

-- ---- a last number

-- Under a version that is not 0 it is 1 to M.
pub last_ring : (l : Last) → last_within l ≡ true → l.version.0 ≢ 0 → OnRing l.number.0
unfolding last_within
last_ring l e some =
    let low = leb l.number.0 M in
    let more : ltb 0 l.number.0 ≡ true = rw (ne_eqb l.version.0 0 some) at (and_right low (eqb l.version.0 0 || ltb 0 l.number.0) e) in
    record { first = ltb-true 0 l.number.0 more; last = leb-true l.number.0 M (and_left low (eqb l.version.0 0 || ltb 0 l.number.0) e) }

-- ---- an open message

-- Neither "open SEQ or open code outside this paper's limits, a stamp after the clock" nor "an impossible cut or a map
-- that is empty, full or marked past TBN", nor a number kept that is not that of the ones in the map.
pub record MessageWithin (clock : ℕ) (m : Message) : Type 0 where
  pub number : is_number m.number.0 ≡ true
  pub code : is_user m.tcd ≡ true
  pub cut : several_possible m.n m.tbn m.u ≡ true
  pub not_empty : 0 < m.map
  pub not_full : m.map < full_map m.tbn
  pub held : m.held ≡ ones m.map
  pub stamp : m.stamp ≤ clock

pub message_facts : (clock : ℕ) (m : Message) → message_within clock m ≡ true → MessageWithin clock m
unfolding message_within
message_facts clock m e =
    let a1 = is_number m.number.0 in
    let a2 = is_user m.tcd in
    let a3 = several_possible m.n m.tbn m.u in
    let a4 = not (is_empty m.map || is_full m.map m.tbn || marked_past m.map m.tbn) in
    let low = ltb 0 m.map in
    let high = ltb m.map (full_map m.tbn) in
    let a5 = eqb m.held (ones m.map) in
    let a6 = leb m.stamp clock in
    let e5 = and_left (a1 && a2 && a3 && a4 && a5) a6 e in
    let e4 = and_left (a1 && a2 && a3 && a4) a5 e5 in
    let e3 = and_left (a1 && a2 && a3) a4 e4 in
    let e2 = and_left (a1 && a2) a3 e3 in
    let map = sym (partial_is m.map m.tbn) ∙ and_right (a1 && a2 && a3) a4 e4 in
    record {
      number = and_left a1 a2 e2;
      code = and_right a1 a2 e2;
      cut = and_right (a1 && a2) a3 e3;
      not_empty = ltb-true 0 m.map (and_left low high map);
      not_full = ltb-true m.map (full_map m.tbn) (and_right low high map);
      held = eqb-true m.held (ones m.map) (and_right (a1 && a2 && a3 && a4) a5 e5);
      stamp = leb-true m.stamp clock (and_right (a1 && a2 && a3 && a4 && a5) a6 e);
    }

pub message_of_lem : (clock : ℕ) (m : Message) → MessageWithin clock m → message_within clock m ≡ true
unfolding message_within
message_of_lem clock m f =
    let low = ltb 0 m.map in
    let high = ltb m.map (full_map m.tbn) in
    let map = partial_is m.map m.tbn ∙ both low high (lt-ltb 0 m.map f.not_empty) (lt-ltb m.map (full_map m.tbn) f.not_full) in
    rw (f.number, f.code, f.cut, map, eq-eqb m.held (ones m.map) f.held, le-leb m.stamp clock f.stamp)

-- No map within its limits has more ones than there are pieces.
pub held_most : (clock : ℕ) (m : Message) → MessageWithin clock m → m.held ≤ 64
held_most clock m f =
    let few = ones-le m.tbn m.map (omega (arith, f.not_full)) in
    omega (arith, f.held, few, several_most m.n m.tbn m.u (several_facts m.n m.tbn m.u f.cut))

-- Time going on keeps an open message within its limits.
pub message_later : (clock now : ℕ) (m : Message) → clock ≤ now → message_within clock m ≡ true → message_within now m ≡ true
unfolding message_within
message_later clock now m h e =
    let old = (message_facts clock m e).stamp in
    rw (le-leb m.stamp now (omega arith)) (rw (le-leb m.stamp clock old) at e)

-- ---- a sender

-- What is not open or not alive is not looked at: a test that counts only where another holds.
pub if_so : (a b : Bool) → not a || b ≡ true → a ≡ true → b ≡ true
if_so true b e f = e
if_so false b e f = absurd (false≢true f)

so_if : (a b : Bool) → (a ≡ true → b ≡ true) → not a || b ≡ true
so_if true b f = f refl
so_if false b f = refl

pub record SenderWithin (clock : ℕ) (s : Sender) : Type 0 where
  pub address : is_address s.address ≡ true
  pub last : last_within s.last ≡ true
  pub message : s.«open» ≡ true → message_within clock s.message ≡ true
  pub heard : s.alive ≡ true → s.heard.stamp ≤ clock

pub sender_facts : (clock : ℕ) (s : Sender) → sender_within clock s ≡ true → SenderWithin clock s
unfolding sender_within
sender_facts clock s e =
    let a1 = is_address s.address in
    let a2 = last_within s.last in
    let message = message_within clock s.message in
    let stamp = leb s.heard.stamp clock in
    let e3 = and_left (a1 && a2 && (not s.«open» || message)) (not s.alive || stamp) e in
    let e4 = and_right (a1 && a2 && (not s.«open» || message)) (not s.alive || stamp) e in
    let e2 = and_left (a1 && a2) (not s.«open» || message) e3 in
    record {
      address = and_left a1 a2 e2;
      last = and_right a1 a2 e2;
      message = if_so s.«open» message (and_right (a1 && a2) (not s.«open» || message) e3);
      heard = λ h. leb-true s.heard.stamp clock (if_so s.alive stamp e4 h);
    }

pub sender_of_lem : (clock : ℕ) (s : Sender) → SenderWithin clock s → sender_within clock s ≡ true
unfolding sender_within
sender_of_lem clock s f =
    let message = so_if s.«open» (message_within clock s.message) f.message in
    let heard = so_if s.alive (leb s.heard.stamp clock) (λ h. le-leb s.heard.stamp clock (f.heard h)) in
    rw (f.address, f.last, message, heard)

-- ---- each place of the table

-- The sender at place j is within its limits, and no sender before it has its address.
record Placed (clock : ℕ) (l : List Sender) (j : ℕ) : Type 0 where
  within : sender_within clock (get_or l j no_sender) ≡ true
  new : new_among (address_at l) j (address_at l j) ≡ true

senders_each : (clock : ℕ) (l : List Sender) (k : ℕ) → senders_within clock l k ≡ true → (j : ℕ) → j < k → Placed clock l j
unfolding senders_within
senders_each clock l zero e j h = absurd (omega arith)
senders_each clock l (suc k) e j h =
    let within = sender_within clock (get_or l k no_sender) in
    let new = new_among (address_at l) k (address_at l k) in
    let here = and_right (senders_within clock l k) (within && new) e in
    ⊎_elim
    (λ (q : j < k). senders_each clock l k (and_left (senders_within clock l k) (within && new) e) j q)
    (λ (q : k ≤ j).
    let z : j ≡ k = omega arith in
    rw z (record { within = and_left within new here; new = and_right within new here }))
    (lt_or_le j k)

senders_of_lem : (clock : ℕ) (l : List Sender) (k : ℕ) → ((j : ℕ) → j < k → Placed clock l j) → senders_within clock l k ≡ true
unfolding senders_within
senders_of_lem clock l zero f = refl
senders_of_lem clock l (suc k) f =
    let here = f k (omega arith) in
    rw (senders_of_lem clock l k (λ j h. f j (omega arith)), here.within, here.new)

-- A place past the table reads as no sender, whose address is none: so the table is at least as long as it has senders.
senders_there : (clock : ℕ) (l : List Sender) (k : ℕ) → senders_within clock l k ≡ true → k ≤ length l
senders_there clock l zero e = omega arith
senders_there clock l (suc k) e = ⊎_elim
    (λ (h : k < length l). h)
    (λ (h : length l ≤ k).
    let past : get_or l k no_sender ≡ no_sender = get_or-eq_default l no_sender h in
    let here = (senders_each clock l (suc k) e k (omega arith)).within in
    absurd (false≢true (sender_facts clock no_sender (rw past at here)).address))
    (lt_or_le k (length l))

-- ---- what keeps a table within its limits

-- The record t may follow the record s: the address is the same, and if s is within its limits at the time c, t is at
-- the time d.
pub record Stays (c d : ℕ) (s t : Sender) : Type 0 where
  pub address : t.address ≡ s.address
  pub within : SenderWithin c s → SenderWithin d t

-- A table each of whose records follows so stays within its limits: the calls change records, and never an address.
pub senders_stay : (c d : ℕ) (l m : List Sender) (k : ℕ) → ((j : ℕ) → j < k → Stays c d (get_or l j no_sender) (get_or m j no_sender))
    → senders_within c l k ≡ true → senders_within d m k ≡ true
senders_stay c d l m k stays e = senders_of_lem d m k (λ j h.
    let here = senders_each c l k e j h in
    let new = new_ext (address_at m) (address_at l) j (address_at l j) (λ i q. (stays i (omega arith)).address) in
    record {
      within = sender_of_lem d (get_or m j no_sender) ((stays j h).within (sender_facts c (get_or l j no_sender) here.within));
      new = rw (stays j h).address (new ∙ here.new);
    })

-- What holds of the record written at a place and of those that were there holds of the table afterwards.
pub set_place : (P : Sender → Type 0) (l : List Sender) (i j : ℕ) (s : Sender) → j < length l → (j ≡ i → P s) → P (get_or l j no_sender)
    → P (get_or (set l i s) j no_sender)
set_place P l i j s h here there = ⊎_elim
    (λ (e : j ≡ i). rw (e, get_or-set_same l i s no_sender (omega arith)) (here e))
    (λ (n : j ≢ i). rw (get_or-set_other l i j s no_sender n) there)
    (eq_or_ne j i)

-- A table that is written place by place, as setup and the clock call do, holds at each place what was written there.
module _ (f : ℕ → List Sender) (g : ℕ → Sender) (more : (k : ℕ) → f (suc k) ≡ set (f k) k (g k)) where
  written_length : (k : ℕ) → length (f k) ≡ length (f 0)
  written_length zero = refl
  written_length (suc k) = ap length (more k) ∙ length-set (f k) k (g k) ∙ written_length k

  pub written_place : (k j : ℕ) → j < k → j < length (f 0) → get_or (f k) j no_sender ≡ g j
  written_place zero j h q = absurd (omega arith)
  written_place (suc k) j h q = ap (λ (l : List Sender). get_or l j no_sender) (more k) ∙ ⊎_elim
      (λ (e : j ≡ k). rw e (get_or-set_same (f k) k (g k) no_sender (omega (arith, written_length k))))
      (λ (n : j ≢ k). get_or-set_other (f k) k j (g k) no_sender n ∙ written_place k j (omega arith) q)
      (eq_or_ne j k)

-- ---- the state

pub valid_settings : (w : Receiver) → valid w ≡ true → settings_within w ≡ true
unfolding valid
valid_settings w e = and_left (settings_within w) (senders_within w.clock w.senders w.count) e

pub valid_senders : (w : Receiver) → valid w ≡ true → senders_within w.clock w.senders w.count ≡ true
unfolding valid
valid_senders w e = and_right (settings_within w) (senders_within w.clock w.senders w.count) e

-- Its groups are within their limits.
pub valid_groups : (w : Receiver) → valid w ≡ true → groups_within w.groups ≡ true
unfolding settings_of
valid_groups w e =
    let four = leb w.clock clock_most && leb w.count senders_most && is_n1 w.n1 && is_drop_time w.t in
    and_right four (groups_within w.groups) (and_left (four && groups_within w.groups) _ (valid_settings w e))

-- A valid state has no more senders than its table has places,
pub valid_length : (w : Receiver) → valid w ≡ true → w.count ≤ length w.senders
valid_length w e = senders_there w.clock w.senders w.count (valid_senders w e)

-- and each is within its limits.
pub valid_sender : (w : Receiver) → valid w ≡ true → (i : ℕ) → i < w.count → SenderWithin w.clock (sender_at w i)
valid_sender w e i h =
    sender_facts w.clock (sender_at w i) (senders_each w.clock w.senders w.count (valid_senders w e) i h).within

-- ---- "no pair twice"

-- No sender before it has its address.
pub valid_new : (w : Receiver) → valid w ≡ true → (i : ℕ) → i < w.count → new_among (address_at w.senders) i (address_at w.senders i) ≡ true
valid_new w e i h = (senders_each w.clock w.senders w.count (valid_senders w e) i h).new

new_each : (f : ℕ → Address) (k : ℕ) (a : Address) → new_among f k a ≡ true → (j : ℕ) → j < k → same_address (f j) a ≡ false
unfolding new_among
new_each f zero a e j h = absurd (omega arith)
new_each f (suc k) a e j h = ⊎_elim
    (λ (q : j < k). new_each f k a (and_left (new_among f k a) (not (same_address (f k) a)) e) j q)
    (λ (q : k ≤ j).
    let z : j ≡ k = omega arith in
    rw z (not-true (same_address (f k) a) (and_right (new_among f k a) (not (same_address (f k) a)) e)))
    (lt_or_le j k)

pub valid_apart : (w : Receiver) → valid w ≡ true → (i : ℕ) → i < w.count → (j : ℕ) → j < i
    → same_address (address_at w.senders j) (address_at w.senders i) ≡ false
valid_apart w e i here j less =
    new_each (address_at w.senders) i (address_at w.senders i) (valid_new w e i here) j less

pub same_is : (a b : Address) → same_address a b ≡ true → a ≡ b
same_is a b e =
    let field = eqb-true a.field.0 b.field.0 (and_left (eqb a.field.0 b.field.0) (eqb a.node.0 b.node.0) e) in
    let node = eqb-true a.node.0 b.node.0 (and_right (eqb a.field.0 b.field.0) (eqb a.node.0 b.node.0) e) in
    λ i. record { field = record { 0 = field i }; node = record { 0 = node i } }

-- Two addresses that are the same as a third are the same.
pub same_both : (a b c : Address) → same_address a c ≡ true → same_address b c ≡ true → same_address a b ≡ true
same_both a b c e f = subst (λ (x : Address). same_address a x ≡ true) (sym (same_is b c f)) e
