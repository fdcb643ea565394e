-- A possible cut is one that the rule of cutting gives, and each that it gives is possible. Assumes nothing.
use Rattle.std.specs.Prelude.{◌≡◌, refl, ◌≢◌, Bool, true, false, cond, ◌&&◌, ℕ, ◌+◌, ◌-◌, ◌*◌, ◌/◌, ◌%◌, ◌≤◌, ◌<◌}
use Rattle.std.proofs.Common.{sym, ◌∙◌, mul_comm, div-add-mod', div-le_self, mul-le-mul_right, zero-mul, arith}
use Rattle.std.proofs.Math.Logic.{⊎_elim}
use Rattle.std.proofs.Math.Dec.{eqb, leb, ltb}
use borrow.Author.Tests.{leb-true, ltb-true, ltb-false, eqb-true, eqb-false, eq-eqb, ne_eqb, le-leb, lt-ltb, le-ltb}
use Rattle.octets.specs.Split.{lt_or_le, eq_or_ne, cond_case, same_test, both, and_left, and_right}
use Rattle.header.specs.declared.Cut.{Cut}
use Rattle.header.specs.Places.{header_size}
use Rattle.cut.specs.Pieces.{most_octets, least_unit, most_unit, pieces, piece_place, piece_length}
use Rattle.cut.proofs.PiecesLaws.{times, product_below, pieces_one, pieces_two, pieces_cover, pieces_below, pieces_only, pieces_most, length_front, length_last, length_only, piece_end}
use Rattle.cut.specs.Possible.{message_length, own_length, unit, own_place, is_unit, front_possible, last_possible, several_possible, sizes_within, possible}

-- ---- what a possible cut says

-- n octets cut into t pieces of u, of which piece c has p octets
pub record IsCut (n t u c p : ℕ) : Type 0 where
  pub count : pieces n u ≡ t
  pub own : p ≡ piece_length n u c
  pub start : piece_place u c ≤ n

-- No cut, possible or not, says a longer unit than its message or its PDU is,
unit_most : (c : Cut) (k : ℕ) → c.ml ≤ k → c.bsize ≤ k → unit c ≤ k
unfolding unit
unit_most c k h g = cond_case (λ (u : ℕ). u ≤ k) (eqb c.tbn 1) _ _
    (λ _. omega arith)
    (λ _. cond_case (λ (u : ℕ). u ≤ k) (ltb c.cbn c.tbn) _ _
    (λ _. omega arith)
    (λ _. omega (arith, div-le_self (message_length c - own_length c) (c.tbn - 1))))

-- so that a place is within what 64 bits hold.
pub place_most : (c : Cut) → c.ml < 4294967296 → c.bsize < 65536 → c.cbn < 256 → own_place c < 1095216660226
place_most c h g f =
    product_below (c.cbn - 1) (unit c) 255 4294967295 (omega arith) (unit_most c 4294967295 (omega arith) (omega arith)) (omega arith)

unit_one : (c : Cut) → c.tbn ≡ 1 → unit c ≡ message_length c
unfolding unit
unit_one c e = rw (eq-eqb c.tbn 1 e)

unit_front : (c : Cut) → c.tbn ≢ 1 → c.cbn < c.tbn → unit c ≡ own_length c
unfolding unit
unit_front c e h = rw (ne_eqb c.tbn 1 e, lt-ltb c.cbn c.tbn h)

unit_last : (c : Cut) → c.tbn ≢ 1 → c.tbn ≤ c.cbn → unit c ≡ (message_length c - own_length c) / (c.tbn - 1)
unfolding unit
unit_last c e h = rw (ne_eqb c.tbn 1 e, le-ltb c.cbn c.tbn h)

-- So a piece is judged by the u that its arm names.
pub judged_by_unit : (c : Cut)
    → cond (eqb c.tbn 1) (eqb (own_length c) (message_length c))
    (cond (ltb c.cbn c.tbn) (front_possible (message_length c) c.tbn (own_length c))
    (last_possible (message_length c) c.tbn (own_length c) ((message_length c - own_length c) / (c.tbn - 1))))
    ≡ cond (eqb c.tbn 1) (eqb (own_length c) (message_length c))
    (cond (ltb c.cbn c.tbn) (front_possible (message_length c) c.tbn (unit c))
    (last_possible (message_length c) c.tbn (own_length c) (unit c)))
unfolding unit
judged_by_unit c = arms (eqb c.tbn 1) (ltb c.cbn c.tbn) _ (front_possible (message_length c) c.tbn) (last_possible (message_length c) c.tbn (own_length c)) _ _ _
  where
    arms : (a b x : Bool) (front last : ℕ → Bool) (n p q : ℕ)
        → cond a x (cond b (front p) (last q)) ≡ cond a x (cond b (front (cond a n (cond b p q))) (last (cond a n (cond b p q))))
    arms true b x front last n p q = refl
    arms false true x front last n p q = refl
    arms false false x front last n p q = refl

-- Limits of a piece, as two facts.
pub unit_within : (u : ℕ) → is_unit u ≡ true → (least_unit ≤ u) × (u ≤ most_unit)
unit_within u e = (leb-true least_unit u (and_left (leb least_unit u) (leb u most_unit) e), leb-true u most_unit (and_right (leb least_unit u) (leb u most_unit) e))

-- A message ends within piece t where what is left of it behind the pieces before is at most a piece.
pub ends_within : (n t u : ℕ) → 1 ≤ t → leb n (t * u) ≡ leb (n - (t - 1) * u) u
ends_within n t u h =
    let e = times t u h in
    same_test (leb n (t * u)) (leb (n - (t - 1) * u) u)
    (λ f. le-leb (n - (t - 1) * u) u (omega (arith, leb-true n (t * u) f)))
    (λ f. le-leb n (t * u) (omega (arith, leb-true (n - (t - 1) * u) u f)))

cut_one : (n t u c p : ℕ) → t ≡ 1 → u ≡ n → 1 ≤ c → c ≤ t → p ≡ n → IsCut n t u c p
cut_one n t u c p e whole low high f =
    let one : pieces n u ≡ 1 = pieces_one n u (omega arith) in
    let z : c - 1 ≡ 0 = omega arith in
    record {
      count = one ∙ sym e;
      own = f ∙ sym (length_only n u c low (omega arith) one);
      start = rw (z, zero-mul u) (omega arith);
    }

module _ (n t u c p : ℕ) (low : 1 ≤ c) (high : c ≤ t) (two : 2 ≤ t) where
  pub cut_front : c < t → u ≡ p → least_unit ≤ u → (t - 1) * u < n → n ≤ t * u → IsCut n t u c p
  cut_front h e wide below cover =
      let count = pieces_only n u t two below cover (omega arith) in
      record {
        count = count;
        own = sym (length_front n u c (omega arith) low (rw count h) ∙ e);
        start = omega (arith, mul-le-mul_right {m = c - 1} {n = t - 1} u (omega arith));
      }

  pub cut_last : c ≡ t → p < n → (n - p) % (t - 1) ≡ 0 → u ≡ (n - p) / (t - 1) → least_unit ≤ u → 1 ≤ p → p ≤ u → IsCut n t u c p
  cut_last h less even quotient wide some short =
      let d : u * (t - 1) ≡ n - p = rw quotient (omega (arith, div-add-mod' (n - p) (t - 1))) in
      let x : (t - 1) * u ≡ n - p = mul_comm (t - 1) u ∙ d in
      let count = pieces_only n u t two (omega arith) (omega (arith, times t u (omega arith))) (omega arith) in
      let y : piece_place u c ≡ n - p = rw h x in
      record {
        count = count;
        own = sym (length_last n u c (omega arith) low (rw count (omega arith)) ∙ omega arith);
        start = omega arith;
      }

-- Neither n nor p is negative, and n is not too long.
pub record Sizes (c : Cut) : Type 0 where
  pub room : header_size ≤ c.ml
  pub big : message_length c ≤ most_octets
  pub own_room : header_size ≤ c.bsize

-- The facts of a possible cut.
pub record Possible (c : Cut) : Type 0 where
  pub room : header_size ≤ c.ml
  pub big : message_length c ≤ most_octets
  pub own_room : header_size ≤ c.bsize
  pub one : 1 ≤ c.cbn
  pub top : c.cbn ≤ c.tbn
  pub wide : c.tbn ≢ 1 → (least_unit ≤ unit c) × (unit c ≤ most_unit)
  pub cut : IsCut (message_length c) c.tbn (unit c) c.cbn (own_length c)

module _ (c : Cut) (low : 1 ≤ c.cbn) (high : c.cbn ≤ c.tbn) where
  n : ℕ
  n = message_length c

  t : ℕ
  t = c.tbn

  u : ℕ
  u = unit c

  p : ℕ
  p = own_length c

  abbrev Is : Type 0
  Is = (t ≢ 1 → (least_unit ≤ u) × (u ≤ most_unit)) × IsCut n t u c.cbn p

  if_one : t ≡ 1 → eqb p n ≡ true → Is
  unfolding n t u p
  if_one e f =
      ((λ g. absurd (g e)), cut_one n t u c.cbn p e (unit_one c e) low high (eqb-true p n f))

  if_front : t ≢ 1 → c.cbn < t → front_possible n t u ≡ true → Is
  unfolding n t u p front_possible
  if_front e h f =
      let a = and_left (is_unit u && ltb ((t - 1) * u) n) (leb n (t * u)) f in
      let w = unit_within u (and_left (is_unit u) (ltb ((t - 1) * u) n) a) in
      let b = ltb-true ((t - 1) * u) n (and_right (is_unit u) (ltb ((t - 1) * u) n) a) in
      let d = leb-true n (t * u) (and_right (is_unit u && ltb ((t - 1) * u) n) (leb n (t * u)) f) in
      ((λ _. w), cut_front n t u c.cbn p low high (omega arith) h (unit_front c e h) w.0 b d)

  if_last : t ≢ 1 → t ≤ c.cbn → last_possible n t p u ≡ true → Is
  unfolding n t u p last_possible
  if_last e h f =
      let r = ltb p n in
      let s = eqb ((n - p) % (t - 1)) 0 in
      let w = is_unit u in
      let v = leb 1 p in
      let a = and_left (r && s && w && v) (leb p u) f in
      let b = and_left (r && s && w) v a in
      let d = and_left (r && s) w b in
      let x = unit_within u (and_right (r && s) w b) in
      let two : 2 ≤ t = several (omega arith) e in (
        (λ _. x),
        cut_last n t u c.cbn p low high two (omega arith) (ltb-true p n (and_left r s d)) (eqb-true ((n - p) % (t - 1)) 0 (and_right r s d))
            (unit_last c e h) x.0 (leb-true 1 p (and_right (r && s && w) v a)) (leb-true p u (and_right (r && s && w && v) (leb p u) f)),
      )
    where
      several : 1 ≤ t → t ≢ 1 → 2 ≤ t
      several l g = ⊎_elim (λ (q : t < 2). absurd (g (omega arith))) (λ q. q) (lt_or_le t 2)

  is_cut : cond (eqb t 1) (eqb p n) (cond (ltb c.cbn t) (front_possible n t u) (last_possible n t p u)) ≡ true → Is
  is_cut = cond_case (λ (z : Bool). z ≡ true → Is) (eqb t 1) _ _
      (λ e. if_one (eqb-true t 1 e))
      (λ e. cond_case (λ (z : Bool). z ≡ true → Is) (ltb c.cbn t) _ _
      (λ h. if_front (eqb-false t 1 e) (ltb-true c.cbn t h))
      (λ h. if_last (eqb-false t 1 e) (ltb-false c.cbn t h)))

pub sizes_facts : (c : Cut) → sizes_within c ≡ true → Sizes c
sizes_facts c e =
    let a = leb header_size c.ml in
    let b = leb (message_length c) most_octets in
    let d = leb header_size c.bsize in
    let e2 = and_left (a && b) d e in
    record {
      room = leb-true header_size c.ml (and_left a b e2);
      big = leb-true (message_length c) most_octets (and_right a b e2);
      own_room = leb-true header_size c.bsize (and_right (a && b) d e);
    }

pub possible_facts : (c : Cut) → possible c ≡ true → Possible c
unfolding possible n t u p
possible_facts c e =
    let a = sizes_within c in
    let b = leb 1 c.cbn in
    let d = leb c.cbn c.tbn in
    let rest = cond (eqb c.tbn 1) (eqb (own_length c) (message_length c))
    (cond (ltb c.cbn c.tbn) (front_possible (message_length c) c.tbn (unit c)) (last_possible (message_length c) c.tbn (own_length c) (unit c))) in
    let e3 = and_left (a && b && d) rest e in
    let e2 = and_left (a && b) d e3 in
    let sizes = sizes_facts c (and_left a b e2) in
    let low = leb-true 1 c.cbn (and_right a b e2) in
    let high = leb-true c.cbn c.tbn (and_right (a && b) d e3) in
    let is = is_cut c low high (and_right (a && b && d) rest e) in
    record {
      room = sizes.room;
      big = sizes.big;
      own_room = sizes.own_room;
      one = low;
      top = high;
      wide = is.0;
      cut = is.1;
    }

-- "TBN is at most 64 in any possible cut."
pub possible_most : (c : Cut) → possible c ≡ true → c.tbn ≤ 64
possible_most c e =
    let f = possible_facts c e in
    ⊎_elim
    (λ (h : c.tbn ≡ 1). omega arith)
    (λ (h : c.tbn ≢ 1). rw f.cut.count at (pieces_most (message_length c) (unit c) f.big (f.wide h).0))
    (eq_or_ne c.tbn 1)

-- A piece lies within its message.
pub possible_within : (c : Cut) → possible c ≡ true → own_place c + own_length c ≤ message_length c
possible_within c e =
    let f = possible_facts c e in
    ⊎_elim
    (λ (h : c.tbn ≡ 1).
    let z : c.cbn - 1 ≡ 0 = omega arith in
    let k : own_place c ≡ 0 = rw (z, zero-mul (unit c)) refl in
    omega (arith, f.cut.own, length_only (message_length c) (unit c) c.cbn f.one (omega arith) (f.cut.count ∙ h)))
    (λ (h : c.tbn ≢ 1).
    let w = (f.wide h).0 in
    let q = piece_end (message_length c) (unit c) c.cbn (omega arith) f.one (rw f.cut.count f.top) in
    omega (arith, f.cut.own))
    (eq_or_ne c.tbn 1)

-- ---- several pieces

-- n octets in t pieces of u, t more than one
pub record Several (n t u : ℕ) : Type 0 where
  pub two : 2 ≤ t
  pub big : n ≤ most_octets
  pub low : least_unit ≤ u
  pub high : u ≤ most_unit
  pub below : (t - 1) * u < n
  pub cover : n ≤ t * u

pub several_facts : (n t u : ℕ) → several_possible n t u ≡ true → Several n t u
unfolding several_possible front_possible
several_facts n t u e =
    let front = is_unit u && ltb ((t - 1) * u) n && leb n (t * u) in
    let x = and_left (ltb 1 t && leb n most_octets) front e in
    let y = and_right (ltb 1 t && leb n most_octets) front e in
    let z = and_left (is_unit u && ltb ((t - 1) * u) n) (leb n (t * u)) y in
    let w = unit_within u (and_left (is_unit u) (ltb ((t - 1) * u) n) z) in
    record {
      two = ltb-true 1 t (and_left (ltb 1 t) (leb n most_octets) x);
      big = leb-true n most_octets (and_right (ltb 1 t) (leb n most_octets) x);
      low = w.0;
      high = w.1;
      below = ltb-true ((t - 1) * u) n (and_right (is_unit u) (ltb ((t - 1) * u) n) z);
      cover = leb-true n (t * u) (and_right (is_unit u && ltb ((t - 1) * u) n) (leb n (t * u)) y);
    }

pub several_of : (n t u : ℕ) → Several n t u → several_possible n t u ≡ true
unfolding several_possible front_possible
several_of n t u s =
    both (ltb 1 t && leb n most_octets) (is_unit u && ltb ((t - 1) * u) n && leb n (t * u))
    (both (ltb 1 t) (leb n most_octets) (lt-ltb 1 t s.two) (le-leb n most_octets s.big))
    (both (is_unit u && ltb ((t - 1) * u) n) (leb n (t * u))
    (both (is_unit u) (ltb ((t - 1) * u) n)
    (both (leb least_unit u) (leb u most_unit) (le-leb least_unit u s.low) (le-leb u most_unit s.high))
    (lt-ltb ((t - 1) * u) n s.below))
    (le-leb n (t * u) s.cover))

pub several_count : (n t u : ℕ) → Several n t u → pieces n u ≡ t
several_count n t u s = pieces_only n u t s.two s.below s.cover (omega (arith, s.low))

pub several_most : (n t u : ℕ) → Several n t u → t ≤ 64
several_most n t u s = rw (several_count n t u s) at (pieces_most n u s.big s.low)

-- Every piece of several says of the message what the first does.
pub possible_several : (c : Cut) → possible c ≡ true → c.tbn ≢ 1 → Several (message_length c) c.tbn (unit c)
possible_several c e ne =
    let f = possible_facts c e in
    let w = f.wide ne in
    let n = message_length c in
    let u = unit c in
    let count : pieces n u ≡ c.tbn = f.cut.count in
    let more : u < n = bigger n u c.tbn (omega (arith, w.0)) count ne in
    record {
      two = rw count at (pieces_two n u more (omega (arith, w.0)));
      big = f.big;
      low = w.0;
      high = w.1;
      below = rw count at (pieces_below n u more (omega (arith, w.0)));
      cover = rw count at (pieces_cover n u more (omega (arith, w.0)));
    }
  where
    bigger : (n u t : ℕ) → 1 ≤ u → pieces n u ≡ t → t ≢ 1 → u < n
    bigger n u t pos count ne = ⊎_elim
        (λ (h : u < n). h)
        (λ (h : n ≤ u). absurd (ne (sym count ∙ pieces_one n u h)))
        (lt_or_le u n)

pub possible_unit : (c : Cut) → possible c ≡ true → unit c ≤ most_octets
possible_unit c e =
    let f = possible_facts c e in
    ⊎_elim
    (λ (h : c.tbn ≡ 1). omega (arith, unit_one c h, f.big))
    (λ (h : c.tbn ≢ 1). omega (arith, (f.wide h).1))
    (eq_or_ne c.tbn 1)
