-- What the cutter writes has a possible cut, with the place and length that the joiner will compute, and its pieces in
-- order are the message. Assumes nothing.
use Rattle.std.specs.Prelude.{◌≡◌, true, false, cond, ◌&&◌, List, Ok, Err, ℕ, ◌+◌, ◌-◌, ◌*◌, ◌%◌, ◌≤◌, ◌<◌, length, take, drop}
use Rattle.std.proofs.Math.Path.{refl, ap}
use Rattle.std.proofs.Common.{◌∙◌, length-append}
use Rattle.std.proofs.Math.Logic.{⊎_elim}
use Rattle.std.proofs.Math.Nat.{mul-le-mul_right, mul-mod_right, mul-div_right, zero-mul}
use native.Mathlib.Omega.{arith}
use Rattle.std.proofs.Math.Dec.{eqb, leb, ltb}
use borrow.Author.Tests.{leb-true, eq-eqb, ne_eqb, le-leb, lt-ltb, le-ltb}
use Rattle.octets.specs.Split.{lt_or_le, both, and_left, and_right}
use Rattle.octets.specs.Run.{run, laid}
use Rattle.octets.proofs.RunLaws.{length_run}
use Rattle.refusal.specs.declared.Refusal.TheVariants.{Writing}
use Rattle.header.specs.declared.Cut.{Cut}
use Rattle.header.specs.declared.Given.{Given}
use Rattle.header.specs.Head.{header, headed}
use Rattle.header.proofs.HeadLaws.{headed_laid, length_header}
use Rattle.header.specs.Places.{header_size}
use Rattle.cut.specs.Pieces.{most_octets, least_unit, most_unit, pieces, piece_place, piece_length, piece}
use Rattle.cut.proofs.PiecesLaws.{pieces_one, pieces_two, pieces_cover, pieces_below, pieces_most, length_front, length_last, length_only, place_within, piece_end, length_most}
use Rattle.cut.specs.Possible.{message_length, own_length, unit, own_place, is_unit, sizes_within, front_possible, last_possible, possible}
use Rattle.cut.specs.Cutter.{cut_for, head_for, pdu, piece_within, limits_within, cuts, cutter_answer, cutter_buffer}

-- ---- n, u and the piece number within their limits

pub record Within (n u c : ℕ) : Type 0 where
  pub big : n ≤ most_octets
  pub low : least_unit ≤ u
  pub high : u ≤ most_unit
  pub first : 1 ≤ c
  pub last : c ≤ pieces n u

pub within_facts : (n u c : ℕ) → piece_within n u c ≡ true → Within n u c
unfolding piece_within
within_facts n u c e =
    let a = leb n most_octets in
    let b = is_unit u in
    let d = leb 1 c in
    let f = leb c (pieces n u) in
    let x = and_left (a && b && d) f e in
    let y = and_left (a && b) d x in
    let z = and_right a b y in
    record {
      big = leb-true n most_octets (and_left a b y);
      low = leb-true least_unit u (and_left (leb least_unit u) (leb u most_unit) z);
      high = leb-true u most_unit (and_right (leb least_unit u) (leb u most_unit) z);
      first = leb-true 1 c (and_right (a && b) d x);
      last = leb-true c (pieces n u) (and_right (a && b && d) f e);
    }

module _ (n u c : ℕ) (w : Within n u c) where
  pos : 1 ≤ u
  pos = omega arith

  pub within_short : piece_length n u c ≤ most_unit
  within_short = omega (arith, length_most n u c pos w.first w.last)

  pub within_end : piece_place u c + piece_length n u c ≤ n
  within_end = omega (arith, piece_end n u c pos w.first w.last)

  pub within_count : pieces n u ≤ 64
  within_count = pieces_most n u w.big w.low

pub length_piece : (m : List ℕ) (u c : ℕ) → Within (length m) u c → length (piece m u c) ≡ piece_length (length m) u c
unfolding piece
length_piece m u c w = length_run (piece_place u c) (piece_length (length m) u c) m (within_end (length m) u c w)

pub length_pdu : (g : Given) (m : List ℕ) (u c : ℕ) → Within (length m) u c → length (pdu g m u c) ≡ header_size + piece_length (length m) u c
unfolding pdu
length_pdu g m u c w =
    length-append (header (head_for g m u c)) (piece m u c)
    ∙ rw (length_header (head_for g m u c), length_piece m u c w)

-- BSIZE is the PDU's length.
pub bsize_is : (n u c : ℕ) {k : Cut} → k ≡ cut_for n u c → k.bsize ≡ header_size + piece_length n u c
bsize_is n u c e = omega (arith, ap (λ (k : Cut). k.bsize) e)

-- A header written and the piece laid down behind it are the PDU laid down.
pub pdu_laid : (g : Given) (m : List ℕ) (u c : ℕ) (b : List ℕ) → Within (length m) u c → header_size + piece_length (length m) u c ≤ length b
    → laid (headed b (head_for g m u c)) header_size (piece m u c) ≡ laid b 0 (pdu g m u c)
unfolding pdu
pdu_laid g m u c b w room = headed_laid b (head_for g m u c) (piece m u c) (rw (length_piece m u c w) room)

-- The same of what the code has in its locals: the piece is the part of the message between two places.
pub pdu_written : (g : Given) (m : List ℕ) (u c : ℕ) (b : List ℕ) → Within (length m) u c → header_size + piece_length (length m) u c ≤ length b
    → (start own : ℕ) {x y : List ℕ} → start ≡ piece_place u c → own ≡ piece_length (length m) u c → x ≡ headed b (head_for g m u c)
    → y ≡ laid x header_size (take (start + own - start) (drop start m)) → y ≡ laid b 0 (pdu g m u c)
unfolding piece run
pdu_written g m u c b w room start own e f h l =
    let z : start + own - start ≡ own = omega arith in
    l ∙ rw (h, z, e, f) (pdu_laid g m u c b w room)

-- ---- the answer and the buffer, by the tests

module _ (g : Given) (m : List ℕ) (u c : ℕ) where
  pub cuts_all : (room : ℕ) → limits_within g (length m) u c ≡ true → header_size + piece_length (length m) u c ≤ room → cuts g m u c room ≡ true
  unfolding cuts
  cuts_all room e h = rw (e, le-leb (header_size + piece_length (length m) u c) room h)

  pub cutter_refused : (b : List ℕ) → cuts g m u c (length b) ≡ false → (Err Writing ≡ cutter_answer g m u c (length b)) × (b ≡ cutter_buffer g m u c b)
  unfolding cutter_answer cutter_buffer
  cutter_refused b e = (rw e, rw e)

  pub cutter_written : (b : List ℕ) → cuts g m u c (length b) ≡ true
      → (Ok (header_size + piece_length (length m) u c) ≡ cutter_answer g m u c (length b)) × (laid b 0 (pdu g m u c) ≡ cutter_buffer g m u c b)
  unfolding cutter_answer cutter_buffer
  cutter_written b e = (rw e, rw e)

-- ---- every PDU of the cutter has a possible cut

module _ (n u c : ℕ) (w : Within n u c) where
  t : ℕ
  t = pieces n u

  p : ℕ
  p = piece_length n u c

  cut : Cut
  cut = cut_for n u c

  n_is : message_length cut ≡ n
  unfolding cut
  n_is = omega arith

  p_is : own_length cut ≡ p
  unfolding cut p
  p_is = omega arith

  unit_wide : is_unit u ≡ true
  unit_wide = both (leb least_unit u) (leb u most_unit) (le-leb least_unit u w.low) (le-leb u most_unit w.high)

  one_case : n ≤ u → t ≡ 1
  unfolding t
  one_case h = pieces_one n u h

  one_length : n ≤ u → p ≡ n
  unfolding p t
  one_length h = length_only n u c w.first (omega (arith, pieces_one n u h)) (pieces_one n u h)

  many : u < n → 2 ≤ t
  unfolding t
  many h = pieces_two n u h (pos n u c w)

  -- the rest that the last piece carries
  rest : u < n → t ≤ c → n - p ≡ (t - 1) * u
  unfolding t p
  rest h l =
      let e : c ≡ pieces n u = omega arith in
      let x : piece_place u c ≡ (pieces n u - 1) * u = rw e refl in
      omega (arith, length_last n u c (pos n u c w) w.first l, place_within n u c (pos n u c w) w.first w.last, pieces_below n u h (pos n u c w))

  -- With several pieces u is what the cutter was given, for the last piece too.
  pub unit_same : u < n → unit (cut_for n u c) ≡ u
  unfolding unit t p cut
  unit_same h = ⊎_elim
      (λ (l : c < t).
      rw (ne_eqb t 1 (λ e. omega (arith, many h)), lt-ltb c t l, p_is) (length_front n u c (pos n u c w) w.first l))
      (λ (l : t ≤ c).
      rw (ne_eqb t 1 (λ e. omega (arith, many h)), le-ltb c t l, n_is, p_is, rest h l)
      (mul-div_right u {m = t - 1} (omega (arith, many h))))
      (lt_or_le c t)

  front_ok : u < n → c < t → front_possible n t u ≡ true
  unfolding front_possible t
  front_ok h l =
      both (is_unit u && ltb ((t - 1) * u) n) (leb n (t * u))
      (both (is_unit u) (ltb ((t - 1) * u) n) unit_wide (lt-ltb ((t - 1) * u) n (pieces_below n u h (pos n u c w))))
      (le-leb n (t * u) (pieces_cover n u h (pos n u c w)))

  last_ok : u < n → t ≤ c → last_possible n t p u ≡ true
  unfolding last_possible t p
  last_ok h l =
      let below = pieces_below n u h (pos n u c w) in
      let wide : u ≤ (t - 1) * u = omega (arith, mul-le-mul_right {m = 1} {n = t - 1} u (omega (arith, many h))) in
      let less : p < n = omega (arith, rest h l) in
      let even : (n - p) % (t - 1) ≡ 0 = rw (rest h l) (mul-mod_right (t - 1) u) in
      let some : 1 ≤ p = omega (arith, rest h l) in
      let short : p ≤ u = length_most n u c (pos n u c w) w.first w.last in
      let a = ltb p n in
      let b = eqb ((n - p) % (t - 1)) 0 in
      let d = is_unit u in
      let f = leb 1 p in
      both (a && b && d && f) (leb p u)
      (both (a && b && d) f (both (a && b) d (both a b (lt-ltb p n less) (eq-eqb ((n - p) % (t - 1)) 0 even)) unit_wide) (le-leb 1 p some))
      (le-leb p u short)

  arms : cond (eqb t 1) (eqb p n) (cond (ltb c t) (front_possible n t (unit cut)) (last_possible n t p (unit cut))) ≡ true
  unfolding cut
  arms = ⊎_elim
      (λ (h : u < n). ⊎_elim
      (λ (l : c < t). rw (ne_eqb t 1 (λ e. omega (arith, many h)), lt-ltb c t l, unit_same h) (front_ok h l))
      (λ (l : t ≤ c). rw (ne_eqb t 1 (λ e. omega (arith, many h)), le-ltb c t l, unit_same h) (last_ok h l))
      (lt_or_le c t))
      (λ (h : n ≤ u). rw (eq-eqb t 1 (one_case h)) (eq-eqb p n (one_length h)))
      (lt_or_le u n)

  sizes : sizes_within cut ≡ true
  unfolding cut
  sizes =
      let x : header_size ≤ n + header_size = omega arith in
      let y : n + header_size - header_size ≤ most_octets = omega arith in
      let z : header_size ≤ piece_length n u c + header_size = omega arith in
      both (leb header_size (n + header_size) && leb (n + header_size - header_size) most_octets) (leb header_size (piece_length n u c + header_size))
      (both (leb header_size (n + header_size)) (leb (n + header_size - header_size) most_octets)
      (le-leb header_size (n + header_size) x) (le-leb (n + header_size - header_size) most_octets y))
      (le-leb header_size (piece_length n u c + header_size) z)

  pub cut_possible : possible (cut_for n u c) ≡ true
  unfolding possible cut t p
  cut_possible =
      both (sizes_within cut && leb 1 c && leb c t) _
      (both (sizes_within cut && leb 1 c) (leb c t) (both (sizes_within cut) (leb 1 c) sizes (le-leb 1 c w.first)) (le-leb c t w.last))
      (rw (n_is, p_is) arms)

  -- The joiner finds n, TBN, the piece's length and its place, the last piece's too.
  pub cut_same : (message_length (cut_for n u c) ≡ n) × ((cut_for n u c).tbn ≡ pieces n u) × (own_length (cut_for n u c) ≡ piece_length n u c)
      × (own_place (cut_for n u c) ≡ piece_place u c)
  unfolding cut p t
  cut_same = (
    n_is,
    refl,
    p_is,
    ⊎_elim
        (λ (h : u < n). ap (λ (k : ℕ). (c - 1) * k) (unit_same h))
        (λ (h : n ≤ u).
        let z : c - 1 ≡ 0 = omega (arith, one_case h) in
        rw (z, zero-mul u) (zero-mul (unit (cut_for n u c))))
        (lt_or_le u n),
  )
