-- Nothing is delivered but a join of packets accepted since their message opened, one for each piece number. Assumes
-- nothing.
use Rattle.std.specs.Prelude.{ℕ, suc, ◌+◌, ◌-◌, ◌*◌, ◌^◌, ◌≤◌, ◌<◌, ◌≡◌, refl, ◌≢◌, cond, ◌&&◌, eqb, drop}
use Rattle.std.proofs.Math.Path.{sym, ap, subst}
use Rattle.std.proofs.Common.{◌∙◌, mul-le-mul_right, pow_pos}
use Rattle.std.proofs.Math.Logic.{⊎_elim}
use Rattle.std.proofs.Math.Bool.{true, false}
use mathlib.Core.List.Memᴰ
use mathlib.Core.List.{List, [], ◌∷◌, Memᴰ}
use Rattle.std.proofs.Math.Nat.{zero-mul}
use native.Mathlib.Omega.{arith}
use Rattle.std.proofs.Math.ListN.{length, take}
use Rattle.std.proofs.Math.Seq.{take-length}
use borrow.Author.Tests.{eqb-true, eq-eqb, ne_eqb}
use Rattle.octets.specs.Run.{run, laid}
use Rattle.octets.proofs.RunLaws.{length_laid, length_run, run_laid, run_before, run_behind, run_run}
use Rattle.octets.specs.Split.{lt_or_le, eq_or_ne, true_or_false, never_both, cond_case, and_left, and_right}
use Rattle.header.specs.declared.Head.{Head}
use Rattle.header.specs.Head.{head_of}
use Rattle.header.specs.Places.{header_size}
use Rattle.cut.specs.Pieces.{pieces, piece_place, piece_length, piece, joined}
use Rattle.cut.proofs.PiecesLaws.{piece_end, length_most, length_only, pieces_join, times}
use Rattle.cut.specs.Possible.{possible, message_length, own_length, unit, own_place}
use Rattle.cut.proofs.PossibleLaws.{Possible, possible_facts, Several, possible_several}
use Rattle.map.specs.Map.{bit, piece_bit, full_map}
use Rattle.map.proofs.MapLaws.{bit_set, bit_keep, bit_zero, set_below, full_bit, holds_not}
use Rattle.state.specs.declared.Message.{Message}
use Rattle.state.specs.declared.Sender.{Sender}
use Rattle.state.specs.State.{Settings}
use Rattle.rules.specs.calls.Admit.{rejoins, same_cut, map_before, map_after, fills, sender_after, admitted}
use Rattle.rules.proofs.calls.AdmitLaws.{Admitted, admitted_facts, rejoins_open, map_adds, fills_full}
use Rattle.promised.specs.Join.{Kin, kin_of, number_in, behind, Brought, OnePerNumber, Joined}
use Rattle.rules.specs.calls.Message.{area, storage_after}
use Rattle.promised.specs.View.{View, number_of, put, next_view}

-- What a record keeps of them.
abbrev pub kin_in : Message → Kin
kin_in m = record { version = m.version.0; number = m.number.0; tcd = m.tcd; n = m.n; tbn = m.tbn; u = m.u }

-- Where piece c of a message lies in an area.
abbrev pub piece_at : ℕ → ℕ → ℕ → List ℕ → List ℕ
piece_at n u c octets = run (piece_place u c) (piece_length n u c) octets

-- ---- a piece laid down in an area

module _ (n u t c : ℕ) (octets q : List ℕ) (pos : 1 ≤ u) (count : pieces n u ≡ t) (low : 1 ≤ c) (top : c ≤ t) (own-length : length q ≡ piece_length n u c)
    (big : n ≤ length octets) where
  piece_within_lem : piece_place u c + length q ≤ length octets
  piece_within_lem = omega (arith, piece_end n u c pos low (omega arith))

  piece_same : piece_at n u c (laid octets (piece_place u c) q) ≡ q
  piece_same = rw (← own-length) (run_laid octets (piece_place u c) q piece_within_lem)

  piece_other : (d : ℕ) → 1 ≤ d → d ≤ t → d ≢ c → piece_at n u d (laid octets (piece_place u c) q) ≡ piece_at n u d octets
  piece_other d one most ne = ⊎_elim
      (λ (less : d < c).
      run_before octets (piece_place u c) q piece_within_lem (piece_place u d) (piece_length n u d)
      (omega (arith, length_most n u d pos one (omega arith), mul-le-mul_right {m = d} {n = c - 1} u (omega arith), times d u one)))
      (λ (more : c ≤ d).
      run_behind octets (piece_place u c) q piece_within_lem (piece_place u d) (piece_length n u d)
      (omega (arith, length_most n u c pos low (omega arith), mul-le-mul_right {m = c} {n = d - 1} u (omega arith), times c u low)))
      (lt_or_le d c)

-- ---- an open message holds what was brought

-- Of its record it is looked at what all its pieces share, and at the map.
pub record Fine (packets : List (List ℕ)) (k : Kin) (map : ℕ) (octets : List ℕ) : Type 0 where
  pub several : Several k.n k.tbn k.u
  pub room : map < 2 ^ k.tbn
  pub has : (c : ℕ) → 1 ≤ c → c ≤ k.tbn → bit (c - 1) map ≡ 1 → Brought packets k c (piece_at k.n k.u c octets)
  pub marked : (o : List ℕ) → Memᴰ o packets → (kin_of o ≡ k) × (1 ≤ number_in o) × (bit (number_in o - 1) map ≡ 1)
  pub one_each : OnePerNumber packets

pub record Inv (packets : List (List ℕ)) (v : View) : Type 0 where
  pub room : length v.octets ≡ area
  pub good : v.sender.«open» ≡ true → Fine packets (kin_in v.sender.message) v.sender.message.map v.octets

-- ---- a packet that is taken, with the map m before it

pub record Before (packets : List (List ℕ)) (p : List ℕ) (m : ℕ) (octets : List ℕ) : Type 0 where
  pub is_cut : possible (head_of p).cut ≡ true
  pub size : length p ≡ (head_of p).cut.bsize
  pub len : length octets ≡ area
  pub room : m < 2 ^ (head_of p).cut.tbn
  pub clear : bit (number_in p - 1) m ≡ 0
  pub has : (c : ℕ) → 1 ≤ c → c ≤ (head_of p).cut.tbn → bit (c - 1) m ≡ 1 → Brought packets (kin_of p) c (piece_at (kin_of p).n (kin_of p).u c octets)
  pub marked : (o : List ℕ) → Memᴰ o packets → (kin_of o ≡ kin_of p) × (1 ≤ number_in o) × (bit (number_in o - 1) m ≡ 1)
  pub one_each : OnePerNumber packets

before_opens : (p octets : List ℕ) → possible (head_of p).cut ≡ true → length p ≡ (head_of p).cut.bsize → length octets ≡ area → Before [] p 0 octets
before_opens p octets is_cut size len = record {
  is_cut = is_cut;
  size = size;
  len = len;
  room = pow_pos (head_of p).cut.tbn;
  clear = bit_zero (number_in p - 1);
  has = λ c _ _ e. absurd (omega (arith, bit_zero (c - 1)));
  marked = λ o i. absurd (Memᴰ.not-nil i);
  one_each = tt;
}

pub kin_same : (s : Sender) (p : List ℕ) → rejoins s (head_of p) ≡ true → same_cut s.message (head_of p) ≡ true → kin_in s.message ≡ kin_of p
unfolding rejoins same_cut
kin_same s p e f =
    let h = head_of p in
    let m = s.message in
    let e1 = and_left (s.«open» && eqb m.version.0 h.given.version.0) (eqb m.number.0 h.given.number.0) e in
    let version = eqb-true m.version.0 h.given.version.0 (and_right s.«open» (eqb m.version.0 h.given.version.0) e1) in
    let number = eqb-true m.number.0 h.given.number.0 (and_right (s.«open» && eqb m.version.0 h.given.version.0) (eqb m.number.0 h.given.number.0) e) in
    let a = eqb m.tcd h.given.tcd in
    let b = eqb m.n (message_length h.cut) in
    let c = eqb m.tbn h.cut.tbn in
    let d = eqb m.u (unit h.cut) in
    let f3 = and_left (a && b && c) d f in
    let f2 = and_left (a && b) c f3 in
    let tcd = eqb-true m.tcd h.given.tcd (and_left a b f2) in
    let n = eqb-true m.n (message_length h.cut) (and_right a b f2) in
    let tbn = eqb-true m.tbn h.cut.tbn (and_right (a && b) c f3) in
    let u = eqb-true m.u (unit h.cut) (and_right (a && b && c) d f) in
    λ i. record { version = version i; number = number i; tcd = tcd i; n = n i; tbn = tbn i; u = u i }

-- The map before the packet.
abbrev packets_before : Sender → Head → List (List ℕ) → List (List ℕ)
packets_before s h packets = cond (rejoins s h) packets []

before_joins : (packets : List (List ℕ)) (v : View) (p : List ℕ) (n1 : ℕ) → Inv packets v → Admitted n1 v.sender (head_of p) → length p ≡ (head_of p).cut.bsize
    → rejoins v.sender (head_of p) ≡ true → Before packets p v.sender.message.map v.octets
before_joins packets v p n1 inv a size r =
    let m = v.sender.message in
    let f = inv.good (rejoins_open v.sender (head_of p) r) in
    let k : kin_in m ≡ kin_of p = kin_same v.sender p r (a.same_cut_lem r) in
    record {
      is_cut = a.cut_possible;
      size = size;
      len = inv.room;
      room = subst (λ (x : Kin). m.map < 2 ^ x.tbn) k f.room;
      clear = holds_not m.map (number_in p) (a.new_piece r);
      has = subst (λ (x : Kin). (c : ℕ) → 1 ≤ c → c ≤ x.tbn → bit (c - 1) m.map ≡ 1 → Brought packets x c (piece_at x.n x.u c v.octets)) k f.has;
      marked = subst (λ (x : Kin). (o : List ℕ) → Memᴰ o packets → (kin_of o ≡ x) × (1 ≤ number_in o) × (bit (number_in o - 1) m.map ≡ 1)) k f.marked;
      one_each = f.one_each;
    }

pub before_both : (packets : List (List ℕ)) (v : View) (p : List ℕ) (n1 : ℕ) → Inv packets v → Admitted n1 v.sender (head_of p) → length p ≡ (head_of p).cut.bsize
    → Before (packets_before v.sender (head_of p) packets) p (map_before v.sender (head_of p)) v.octets
before_both packets v p n1 inv a size = ⊎_elim
    (λ (r : rejoins v.sender (head_of p) ≡ true). rw r (before_joins packets v p n1 inv a size r))
    (λ (r : rejoins v.sender (head_of p) ≡ false). rw r (before_opens p v.octets a.cut_possible size inv.room))
    (true_or_false (rejoins v.sender (head_of p)))

-- ---- the packet laid down

module _ (packets : List (List ℕ)) (p : List ℕ) (m : ℕ) (octets : List ℕ) (b : Before packets p m octets) where
  abbrev h : Head
  h = head_of p

  facts : Possible h.cut
  facts = possible_facts h.cut b.is_cut

  behind_length : length (behind p) ≡ piece_length (kin_of p).n (kin_of p).u (number_in p)
  behind_length = length_run header_size (own_length h.cut) p (omega (arith, b.size, facts.own_room)) ∙ facts.cut.own

  numbered : number_in p ≡ suc (number_in p - 1)
  numbered = omega (arith, facts.one)

  fresh : (o : List ℕ) → Memᴰ o packets → number_in o ≢ number_in p
  fresh o i e =
      let y : bit (number_in p - 1) m ≡ 1 = subst (λ (x : ℕ). bit (x - 1) m ≡ 1) e (b.marked o i).2 in
      omega (arith, b.clear)

  marked' : (o : List ℕ) → Memᴰ o (p ∷ packets) → (kin_of o ≡ kin_of p) × (1 ≤ number_in o) × (bit (number_in o - 1) (m + piece_bit (number_in p)) ≡ 1)
  marked' o i = ⊎_elim
      (λ (e : o ≡ p). rw e (refl, facts.one, bit_set (number_in p - 1) m b.clear))
      (λ (j : Memᴰ o packets).
      let f = b.marked o j in
      let ne : number_in o - 1 ≢ number_in p - 1 = λ z. fresh o j (omega (arith, f.1, numbered)) in
      (f.0, f.1, bit_keep (number_in o - 1) (number_in p - 1) m b.clear ne ∙ f.2))
      (Memᴰ.cases_cons i)

  module _ (more : h.cut.tbn ≢ 1) where
    parts_of_lem : Several (kin_of p).n (kin_of p).tbn (kin_of p).u
    parts_of_lem = possible_several h.cut b.is_cut more

    abbrev laid_down : List ℕ
    laid_down = laid octets (piece_place (kin_of p).u (number_in p)) (behind p)

    pos : 1 ≤ (kin_of p).u
    pos = omega (arith, parts_of_lem.low)

    big_enough : (kin_of p).n ≤ length octets
    big_enough = omega (arith, parts_of_lem.big, b.len)

    has' : (c : ℕ) → 1 ≤ c → c ≤ (kin_of p).tbn → bit (c - 1) (m + piece_bit (number_in p)) ≡ 1
        → Brought (p ∷ packets) (kin_of p) c (piece_at (kin_of p).n (kin_of p).u c laid_down)
    has' c one top e = ⊎_elim
        (λ (q : c ≡ number_in p). record {
          packet = p;
          among = Memᴰ.head refl;
          alike = refl;
          number = sym q;
          same = rw q (sym (piece_same (kin_of p).n (kin_of p).u (kin_of p).tbn (number_in p) octets (behind p) pos facts.cut.count facts.one facts.top behind_length big_enough));
        })
        (λ (q : c ≢ number_in p).
        let ne : c - 1 ≢ number_in p - 1 = λ z. q (omega (arith, numbered)) in
        let f = b.has c one top (sym (bit_keep (c - 1) (number_in p - 1) m b.clear ne) ∙ e) in
        record {
          packet = f.packet;
          among = Memᴰ.tail f.among;
          alike = f.alike;
          number = f.number;
          same = f.same ∙ sym (piece_other (kin_of p).n (kin_of p).u (kin_of p).tbn (number_in p) octets (behind p) pos facts.cut.count facts.one facts.top behind_length big_enough c one top q);
        })
        (eq_or_ne c (number_in p))

    fine' : Fine (p ∷ packets) (kin_of p) (m + piece_bit (number_in p)) laid_down
    fine' = record {
      several = parts_of_lem;
      room = set_below (kin_of p).tbn (number_in p - 1) m (omega (arith, facts.one, facts.top)) b.room b.clear;
      has = has';
      marked = marked';
      one_each = (fresh, b.one_each);
    }

-- ---- what a taken packet leaves

module _ (packets : List (List ℕ)) (g : Settings) (v : View) (p : List ℕ) (inv : Inv packets v) (a : Admitted g.n1 v.sender (head_of p))
    (size : length p ≡ (head_of p).cut.bsize) where
  abbrev s : Sender
  s = v.sender

  abbrev head : Head
  head = head_of p

  abbrev so_far : List (List ℕ)
  so_far = packets_before s head packets

  abbrev map₀ : ℕ
  map₀ = map_before s head

  before : Before so_far p map₀ v.octets
  before = before_both packets v p g.n1 inv a size

  map_is : map_after s head ≡ map₀ + piece_bit (number_in p)
  map_is = map_adds g.n1 s head a

  -- One piece fills the map at once.
  one_fills : head.cut.tbn ≡ 1 → fills s head ≡ true
  unfolding bit
  one_fills e =
      let f = possible_facts head.cut a.cut_possible in
      let z : number_in p - 1 ≡ 0 = omega (arith, f.one, f.top) in
      let less : map₀ < 2 ^ 1 = subst (λ (t : ℕ). map₀ < 2 ^ t) e before.room in
      let clear : bit 0 map₀ ≡ 0 = subst (λ (k : ℕ). bit k map₀ ≡ 0) z before.clear in
      let one : piece_bit (number_in p) ≡ 1 = ap (λ (k : ℕ). 2 ^ k) z in
      let full : full_map head.cut.tbn ≡ 1 = ap full_map e in
      fills_full s head ∙ eq-eqb (map_after s head) (full_map head.cut.tbn) (map_is ∙ omega (arith, less, clear, one, full))

  more_than_one : fills s head ≡ false → head.cut.tbn ≢ 1
  more_than_one f e = never_both (one_fills e) f

  octets_after : List ℕ
  octets_after = storage_after v.octets 0 head p

  octets_length : length octets_after ≡ area
  unfolding octets_after storage_after
  octets_length = cond_case (λ (x : List ℕ). length x ≡ area) (eqb head.cut.tbn 1) _ _ (λ _. inv.room) (λ _. length_laid v.octets _ _ ∙ inv.room)

  octets_several : head.cut.tbn ≢ 1 → octets_after ≡ laid v.octets (piece_place (kin_of p).u (number_in p)) (behind p)
  unfolding octets_after storage_after
  octets_several ne =
      let z : 0 * area + own_place head.cut ≡ own_place head.cut = omega arith in
      rw (ne_eqb head.cut.tbn 1 ne, z)

  put_good : (admitted g.n1 v.now s head).sender.«open» ≡ true → let m = (admitted g.n1 v.now s head).sender.message in
      Fine (p ∷ so_far) (kin_in m) m.map octets_after
  unfolding admitted sender_after
  put_good o = ⊎_elim
      (λ (f : fills s head ≡ true). let no : false ≡ true = rw f at o in absurd (never_both no refl))
      (λ (f : fills s head ≡ false). rw (f, map_is, octets_several (more_than_one f)) (fine' so_far p map₀ v.octets before (more_than_one f)))
      (true_or_false (fills s head))

  put_inv : Inv (p ∷ so_far) (put g v p)
  unfolding put
  put_inv = record { room = unfold octets_after in octets_length; good = unfold octets_after in put_good }

-- ---- what a call of the sender's own leaves

pub next_inv : (packets : List (List ℕ)) (g : Settings) (v : View) (p : List ℕ) → Inv packets v → length p ≡ (head_of p).cut.bsize
    → Inv (cond (eqb (number_of g v p) 0) (p ∷ packets_before v.sender (head_of p) packets) packets) (next_view g v p)
unfolding next_view
next_inv packets g v p inv size = ⊎_elim
    (λ (e : eqb (number_of g v p) 0 ≡ true).
    rw e (put_inv packets g v p inv (admitted_facts g.test g.n1 v.sender (head_of p) (eqb-true (number_of g v p) 0 e)) size))
    (λ (e : eqb (number_of g v p) 0 ≡ false). rw e inv)
    (true_or_false (eqb (number_of g v p) 0))

-- ---- what is delivered

-- "handed over as a part of the packet or of the storage", as the sender's view has it.
unfoldable pub part_view : View → List ℕ → List ℕ
part_view v p = cond (eqb (head_of p).cut.tbn 1) (behind p) (run 0 (message_length (head_of p).cut) (storage_after v.octets 0 (head_of p) p))

part_one : (v : View) (p : List ℕ) → (head_of p).cut.tbn ≡ 1 → part_view v p ≡ behind p
unfolding part_view
part_one v p e = rw (eq-eqb (head_of p).cut.tbn 1 e)

part_several : (v : View) (p : List ℕ) → (head_of p).cut.tbn ≢ 1
    → part_view v p ≡ run 0 (message_length (head_of p).cut) (laid v.octets (piece_place (unit (head_of p).cut) (number_in p)) (behind p))
unfolding part_view storage_after
part_several v p ne =
    let z : 0 * area + own_place (head_of p).cut ≡ own_place (head_of p).cut = omega arith in
    rw (ne_eqb (head_of p).cut.tbn 1 ne, z)

module _ (packets : List (List ℕ)) (g : Settings) (v : View) (p : List ℕ) (inv : Inv packets v) (a : Admitted g.n1 v.sender (head_of p))
    (size : length p ≡ (head_of p).cut.bsize) (full : fills v.sender (head_of p) ≡ true) where
  abbrev got : List (List ℕ)
  got = p ∷ packets_before v.sender (head_of p) packets

  abbrev kin : Kin
  kin = kin_of p

  abbrev last : Before (packets_before v.sender (head_of p) packets) p (map_before v.sender (head_of p)) v.octets
  last = before packets g v p inv a size

  cut_facts : Possible (head_of p).cut
  cut_facts = possible_facts (head_of p).cut a.cut_possible

  -- ---- of one piece

  module _ (one : kin.tbn ≡ 1) where
    number_one : number_in p ≡ 1
    number_one = omega (arith, cut_facts.one, cut_facts.top)

    length_one : length (behind p) ≡ kin.n
    length_one =
        behind_length (packets_before v.sender (head_of p) packets) p (map_before v.sender (head_of p)) v.octets last
        ∙ length_only kin.n kin.u (number_in p) cut_facts.one (omega (arith, number_one)) (cut_facts.cut.count ∙ one)

    piece_one : (c : ℕ) → 1 ≤ c → c ≤ kin.tbn → piece (behind p) kin.u c ≡ behind p
    unfolding piece run
    piece_one c low top =
        let z : c ≡ 1 = omega (arith, one) in
        let n : piece_length (length (behind p)) kin.u c ≡ length (behind p)
        = ap (λ (x : ℕ). piece_length x kin.u c) length_one ∙ length_only kin.n kin.u c low (omega arith) (cut_facts.cut.count ∙ one) ∙ sym length_one in
        let place : piece_place kin.u c ≡ 0 = ap (λ (x : ℕ). (x - 1) * kin.u) z ∙ zero-mul kin.u in
        ap (λ (x : ℕ). take (piece_length (length (behind p)) kin.u c) (drop x (behind p))) place
        ∙ ap (λ (x : ℕ). take x (behind p)) n ∙ take-length (behind p)

    joined_one : Joined got p (behind p)
    unfolding joined
    joined_one = record {
      all = length_one;
      parts = λ c low top. record {
        packet = p;
        among = Memᴰ.head refl;
        alike = refl;
        number = omega (arith, one, number_one);
        same = sym (piece_one c low top);
      };
      whole = subst (λ (t : ℕ). joined t (piece (behind p) kin.u) ≡ behind p) (sym one) (piece_one 1 (omega arith) (omega (arith, one)));
      one_each = (fresh (packets_before v.sender (head_of p) packets) p (map_before v.sender (head_of p)) v.octets last, last.one_each);
    }

  -- ---- of several pieces

  module _ (more : kin.tbn ≢ 1) where
    abbrev filled : List ℕ
    filled = laid v.octets (piece_place kin.u (number_in p)) (behind p)

    abbrev out : List ℕ
    out = run 0 kin.n filled

    parts_facts : Several kin.n kin.tbn kin.u
    parts_facts = possible_several (head_of p).cut a.cut_possible more

    unit_pos : 1 ≤ kin.u
    unit_pos = omega (arith, parts_facts.low)

    filled_room : 0 + kin.n ≤ length filled
    filled_room = omega (arith, length_laid v.octets (piece_place kin.u (number_in p)) (behind p), inv.room, parts_facts.big)

    all_in : (c : ℕ) → 1 ≤ c → c ≤ kin.tbn → bit (c - 1) (map_before v.sender (head_of p) + piece_bit (number_in p)) ≡ 1
    all_in c low top =
        let e : map_before v.sender (head_of p) + piece_bit (number_in p) ≡ full_map kin.tbn
        = sym (map_adds g.n1 v.sender (head_of p) a) ∙ eqb-true (map_after v.sender (head_of p)) (full_map kin.tbn) (sym (fills_full v.sender (head_of p)) ∙ full) in
        ap (bit (c - 1)) e ∙ full_bit kin.tbn (c - 1) (omega arith)

    length_out : length out ≡ kin.n
    length_out = length_run 0 kin.n filled filled_room

    piece_out : (c : ℕ) → 1 ≤ c → c ≤ kin.tbn → piece out kin.u c ≡ piece_at kin.n kin.u c filled
    unfolding piece
    piece_out c low top =
        let k = piece_length kin.n kin.u c in
        let b = piece_place kin.u c in
        let z : 0 + b ≡ b = omega arith in
        ap (λ (x : ℕ). run b (piece_length x kin.u c) out) length_out
        ∙ run_run 0 kin.n b k filled (omega (arith, piece_end kin.n kin.u c unit_pos low (omega (arith, cut_facts.cut.count)))) filled_room
        ∙ ap (λ (x : ℕ). run x k filled) z

    joined_several : Joined got p out
    joined_several = record {
      all = length_out;
      parts = λ c low top. subst (Brought got kin c) (sym (piece_out c low top))
          (has' (packets_before v.sender (head_of p) packets) p (map_before v.sender (head_of p)) v.octets last more c low top (all_in c low top));
      whole = subst (λ (t : ℕ). joined t (piece out kin.u) ≡ out) (ap (λ (x : ℕ). pieces x kin.u) length_out ∙ cut_facts.cut.count) (pieces_join out kin.u unit_pos);
      one_each = (fresh (packets_before v.sender (head_of p) packets) p (map_before v.sender (head_of p)) v.octets last, last.one_each);
    }

  pub delivered_joined : Joined got p (part_view v p)
  delivered_joined = ⊎_elim
      (λ (e : kin.tbn ≡ 1). subst (Joined got p) (sym (part_one v p e)) (joined_one e))
      (λ (e : kin.tbn ≢ 1). subst (Joined got p) (sym (part_several v p e)) (joined_several e))
      (eq_or_ne kin.tbn 1)
