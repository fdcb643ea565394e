-- Cutting is as 01 prints it. Assumes nothing.
use Rattle.std.specs.Prelude.{ℕ, ◌+◌, ◌-◌, ◌*◌, ◌≤◌, ◌<◌, ◌≡◌, ◌≢◌, ◌⊎◌, Bool, ◌&&◌, List, length}
use Rattle.std.proofs.Math.Path.{refl}
use Rattle.std.proofs.Common.{sym, ap, ◌∙◌, arith}
use Rattle.std.proofs.Math.Logic.{inl, inr, ⊎_elim}
use Rattle.std.proofs.Math.Bool.{true}
use Rattle.std.proofs.Math.Dec.{eqb, leb}
use borrow.Author.Tests.{eq-eqb, leb-true, le-leb}
use Rattle.octets.specs.Split.{lt_or_le, eq_or_ne, both, and_left, and_right}
use Rattle.ring.specs.Ring.{M, is_number}
use Rattle.header.specs.declared.Cut.{Cut}
use Rattle.header.specs.declared.Given.{Given}
use Rattle.header.specs.Codes.{is_data_field, is_node, is_user, is_mode, is_pri}
use Rattle.header.proofs.CodesLaws.{user_code, code_user}
use Rattle.header.specs.Places.{header_size}
use Rattle.cut.specs.Cutter.{given_within, piece_within, cuts}
use Rattle.cut.proofs.CutterLaws.{Within, cut_possible, cuts_all}
use Rattle.cut.specs.Pieces.{most_octets, least_unit, most_unit, pieces, piece_length}
use Rattle.cut.proofs.PiecesLaws.{times, pieces_one, pieces_cover, pieces_below, pieces_only, pieces_some, pieces_most, length_front, length_last, length_only}
use Rattle.cut.specs.Possible.{message_length, own_length, unit, is_unit, possible}
use Rattle.cut.proofs.PossibleLaws.{Possible, possible_facts, Several, possible_several}
use Rattle.cut.proofs.ReadLaws.{cuts_within, cuts_room}
use Rattle.cut.specs.Printed.{CountIs, Carries, Limits, CutsAsPrinted, PossibleCut, one_piece_lem, front_piece, last_piece, IsPossible, PossibleAsPrinted}

-- ---- cutting

count_is : (n u : ℕ) → n ≤ 16384 → 256 ≤ u → u ≤ 1396 → CountIs n u (pieces n u)
count_is n u big low high = record {
  one = pieces_one n u;
  rounded_up = λ h. (pieces_below n u h (omega arith), pieces_cover n u h (omega arith));
  least = pieces_some n u (omega arith);
  most = pieces_most n u big low;
}

pub carries_is : (n u c p : ℕ) → 1 ≤ u → 1 ≤ c → c ≤ pieces n u → Carries n u (pieces n u) c p → p ≡ piece_length n u c
carries_is n u c p pos one top k = ⊎_elim
    (λ (h : c < pieces n u). k.front h ∙ sym (length_front n u c pos one h))
    (λ (h : pieces n u ≤ c).
    let e : c ≡ pieces n u = omega arith in
    let f : (c - 1) * u + p ≡ n = rw e (k.last e) in
    omega (arith, length_last n u c pos one h))
    (lt_or_le c (pieces n u))

-- The header values within their limits, as one test and one by one.
module _ (g : Given) (n u c : ℕ) where
  abbrev t1 : Bool
  t1 = is_data_field g.field.0

  abbrev t2 : Bool
  t2 = is_node g.node.0

  abbrev t3 : Bool
  t3 = is_number g.number.0

  abbrev t4 : Bool
  t4 = is_user g.tcd

  abbrev t5 : Bool
  t5 = is_mode g.mode

  abbrev t6 : Bool
  t6 = is_pri g.pri

  in_range_lem : (low high x : ℕ) → (low ≤ x) × (x ≤ high) → leb low x && leb x high ≡ true
  in_range_lem low high x e = both (leb low x) (leb x high) (le-leb low x e.0) (le-leb x high e.1)

  of_range : (low high x : ℕ) → leb low x && leb x high ≡ true → (low ≤ x) × (x ≤ high)
  of_range low high x e = (leb-true low x (and_left (leb low x) (leb x high) e), leb-true x high (and_right (leb low x) (leb x high) e))

  limits_given : Limits g n u c → given_within g ≡ true
  unfolding given_within
  limits_given l =
      let mode_in : g.mode ≤ 1 = ⊎_elim (λ (e : g.mode ≡ 0). omega arith) (λ (e : g.mode ≡ 1). omega arith) l.mode in
      both (t1 && t2 && t3 && t4 && t5) t6
      (both (t1 && t2 && t3 && t4) t5
      (both (t1 && t2 && t3) t4
      (both (t1 && t2) t3 (both t1 t2 (in_range_lem 1 255 g.field.0 l.data_field_octet) (in_range_lem 1 4095 g.node.0 l.node))
      (in_range_lem 1 M g.number.0 l.number))
      (code_user g.tcd l.code.0 l.code.1))
      (le-leb g.mode 1 mode_in))
      (le-leb g.pri 7 l.pri)

  limits_piece : Limits g n u c → piece_within n u c ≡ true
  unfolding piece_within
  limits_piece l =
      both (leb n most_octets && is_unit u && leb 1 c) (leb c (pieces n u))
      (both (leb n most_octets && is_unit u) (leb 1 c)
      (both (leb n most_octets) (is_unit u) (le-leb n most_octets l.octets) (in_range_lem least_unit most_unit u l.unit))
      (le-leb 1 c l.piece.0))
      (le-leb c (pieces n u) l.piece.1)

  pub given_limits : given_within g ≡ true → Within n u c → Limits g n u c
  unfolding given_within
  given_limits e w =
      let e5 = and_left (t1 && t2 && t3 && t4 && t5) t6 e in
      let e4 = and_left (t1 && t2 && t3 && t4) t5 e5 in
      let e3 = and_left (t1 && t2 && t3) t4 e4 in
      let e2 = and_left (t1 && t2) t3 e3 in
      record {
        octets = w.big;
        unit = (w.low, w.high);
        piece = (w.first, w.last);
        data_field_octet = of_range 1 255 g.field.0 (and_left t1 t2 e2);
        node = of_range 1 4095 g.node.0 (and_right t1 t2 e2);
        number = of_range 1 M g.number.0 (and_right (t1 && t2) t3 e3);
        code = user_code g.tcd (and_right (t1 && t2 && t3) t4 e4);
        mode = mode_is (leb-true g.mode 1 (and_right (t1 && t2 && t3 && t4) t5 e5));
        pri = leb-true g.pri 7 (and_right (t1 && t2 && t3 && t4 && t5) t6 e);
      }
    where
      mode_is : g.mode ≤ 1 → (g.mode ≡ 0) ⊎ (g.mode ≡ 1)
      mode_is h = ⊎_elim (λ (l : g.mode < 1). inl (omega arith)) (λ (l : 1 ≤ g.mode). inr (omega arith)) (lt_or_le g.mode 1)

-- Where the limits hold and the buffer is not short, it writes.
pub limits_cut : (g : Given) (m : List ℕ) (u c room : ℕ) → Limits g (length m) u c → header_size + piece_length (length m) u c ≤ room → cuts g m u c room ≡ true
limits_cut g m u c room l fits =
    let limits = both (given_within g) (piece_within (length m) u c) (limits_given g (length m) u c l) (limits_piece g (length m) u c l) in
    cuts_all g m u c room limits fits

pub cuts_tests : (g : Given) (m : List ℕ) (u c room : ℕ) → cuts g m u c room ≡ true → given_within g ≡ true
unfolding cuts
cuts_tests g m u c room e =
    and_left (given_within g) (piece_within (length m) u c)
    (and_left (given_within g && piece_within (length m) u c) (leb (header_size + piece_length (length m) u c) room) e)

pub cuts_as_printed : CutsAsPrinted
cuts_as_printed = record {
  count = count_is;
  takes = λ g m u c p room l k fits.
      let own = carries_is (length m) u c p (omega (arith, l.unit.0)) l.piece.0 l.piece.1 k in
      limits_cut g m u c room l (omega (arith, own, fits));
  only = λ g m u c p room yes.
      let w = cuts_within g m u c room yes in (
        given_limits g (length m) u c (cuts_tests g m u c room yes) w,
        λ k. omega (arith, carries_is (length m) u c p (omega (arith, w.low)) w.first w.last k, cuts_room g m u c room yes),
      );
}

-- ---- whether a cut is possible

module _ (n p c t : ℕ) where
  abbrev its : ℕ → ℕ → Cut
  its k j = record { ml = n + 64; bsize = k + 64; cbn = c; tbn = j }

  only_one : n ≤ 16384 → possible (record { ml = n + 64; bsize = n + 64; cbn = 1; tbn = 1 }) ≡ true
  unfolding possible
  only_one big =
      let wide : leb 64 (n + 64) ≡ true = le-leb 64 (n + 64) (omega arith) in
      let most : leb (n + 64 - 64) 16384 ≡ true = le-leb (n + 64 - 64) 16384 (omega arith) in
      let same : eqb (n + 64 - 64) (n + 64 - 64) ≡ true = eq-eqb (n + 64 - 64) (n + 64 - 64) refl in
      simp (wide, most, same)

  -- A cut of several pieces is what the cutter makes of n and u.
  several_if : (u : ℕ) → n ≤ 16384 → 256 ≤ u → u ≤ 1396 → 1 ≤ c → c ≤ t → 2 ≤ t → (t - 1) * u < n → n ≤ t * u → p ≡ piece_length n u c
      → possible (its p t) ≡ true
  several_if u big low high one top two below cover own =
      let count : pieces n u ≡ t = pieces_only n u t two below cover (omega arith) in
      let within : Within n u c = record { big = big; low = low; high = high; first = one; last = rw count top } in
      ap possible (ap (λ (k : ℕ). its k t) own ∙ ap (its (piece_length n u c)) (sym count)) ∙ cut_possible n u c within

  is_possible_lem : PossibleCut n p c t → possible (its p t) ≡ true
  is_possible_lem (one_piece_lem big c-is t-is p_is) = rw (c-is, t-is, p_is) (only_one big)
  is_possible_lem (front_piece big low top wide short below cover) =
      let count : pieces n p ≡ t = pieces_only n p t (omega arith) below cover (omega arith) in
      several_if p big wide short low (omega arith) (omega arith) below cover (sym (length_front n p c (omega arith) low (rw count top)))
  is_possible_lem (last_piece {u} big low top sum wide high some short) =
      let below : (t - 1) * u < n = omega arith in
      let cover : n ≤ t * u = omega (arith, times t u (omega arith)) in
      let count : pieces n u ≡ t = pieces_only n u t (omega arith) below cover (omega arith) in
      let rest : n - (c - 1) * u ≡ p = rw top (omega arith) in
      several_if u big wide high (omega arith) (omega arith) (omega arith) below cover
      (sym (length_last n u c (omega arith) (omega arith) (rw count (omega arith)) ∙ rest))

possible_is : (c : Cut) → possible c ≡ true → IsPossible c
possible_is c e = record {
  ml_least = f.room;
  bsize_least = f.own_room;
  needed = ⊎_elim
      (λ (h : t ≡ 1). one_piece_lem f.big (omega (arith, f.one, f.top)) h
      (f.cut.own ∙ length_only n u c.cbn f.one (omega (arith, f.top)) (f.cut.count ∙ h)))
      (λ (h : t ≢ 1). several (possible_several c e h))
      (eq_or_ne t 1);
}
  where
    f : Possible c
    f = possible_facts c e

    n : ℕ
    n = message_length c

    p : ℕ
    p = own_length c

    u : ℕ
    u = unit c

    t : ℕ
    t = c.tbn

    several : Several n t u → PossibleCut n p c.cbn t
    several w = ⊎_elim
        (λ (h : c.cbn < t).
        let is : p ≡ u = f.cut.own ∙ length_front n u c.cbn (omega (arith, w.low)) f.one (rw f.cut.count h) in
        rw is (front_piece w.big f.one h w.low w.high w.below w.cover))
        (λ (h : t ≤ c.cbn).
        let top : c.cbn ≡ t = omega (arith, f.top) in
        let is : p ≡ n - (t - 1) * u
        = f.cut.own ∙ length_last n u c.cbn (omega (arith, w.low)) f.one (rw f.cut.count h) ∙ rw top refl in
        last_piece w.big (omega (arith, w.two)) top (omega (arith, w.below)) w.low w.high (omega (arith, w.below))
        (omega (arith, w.below, w.cover, times t u (omega (arith, w.two)))))
        (lt_or_le c.cbn t)

pub possible_as_printed : PossibleAsPrinted
possible_as_printed = record {
  says = λ c w.
      let a : c.ml ≡ c.ml - 64 + 64 = omega (arith, w.ml_least) in
      let b : c.bsize ≡ c.bsize - 64 + 64 = omega (arith, w.bsize_least) in
      ap possible (ap (λ (k : ℕ). record { ml = k; bsize = c.bsize; cbn = c.cbn; tbn = c.tbn }) a
      ∙ ap (λ (k : ℕ). record { ml = c.ml - 64 + 64; bsize = k; cbn = c.cbn; tbn = c.tbn }) b)
      ∙ is_possible_lem (c.ml - 64) (c.bsize - 64) c.cbn c.tbn w.needed;
  given = possible_is;
}
