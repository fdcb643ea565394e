-- Laws of layouts, over any slots that do not overlap: what is written slot by slot is the layout where the slots cover
-- it, each slot reads back, and what is read makes up the octets that it was read from. Assumes nothing.
use Rattle.std.specs.Prelude.{◌≡◌, ◌⊎◌, Bool, true, false, ◌||◌, List, [], ◌∷◌, ◌++◌, ℕ, zero, suc, ◌+◌, ◌-◌, ◌^◌, ◌≤◌, ◌<◌, ltb, length, take, drop}
use Rattle.std.proofs.Math.Path.{refl}
use Rattle.std.proofs.Common.{sym, ap, ◌∙◌, inl, inr, ⊎_elim, arith, length-append, length-take, length-drop, ext_get_or, get_or-append-add, get_or-take, get_or-drop}
use Rattle.std.proofs.Math.Dec.{leb}
use Rattle.std.proofs.Math.ListN.{get_or-append}
use Rattle.std.proofs.lemmas.List.{get_or_at}
use borrow.Author.Tests.{leb-true, ltb-true, le-leb, lt-ltb}
use Rattle.octets.specs.Number.{octet, number, octets, Octets}
use Rattle.octets.proofs.NumberLaws.{length_octets, number_ext, number_octets_fits, octets_number}
use Rattle.octets.specs.Run.{laid}
use Rattle.octets.proofs.RunLaws.{laid_in, laid_out, length_laid}
use Rattle.octets.specs.Split.{lt_or_le, true_or_false, never_both, both, not_both, and_left, and_right, either}
use Rattle.header.specs.Layout.{Slot, end, spans, octet_of, tabulate, layout, apart_from, apart, ends_by, spanned, covers}
use Rattle.header.specs.private.Filled.{fill}

-- ---- tabulated lists

pub length_tabulate : (n : ℕ) (f : ℕ → ℕ) → length (tabulate n f) ≡ n
unfolding tabulate
length_tabulate zero f = refl
length_tabulate (suc n) f = rw (length-append (tabulate n f) (f n ∷ []), length_tabulate n f) (omega arith)

pub octet_tabulate : (n : ℕ) (f : ℕ → ℕ) (i : ℕ) → i < n → octet (tabulate n f) i ≡ f i
unfolding tabulate
octet_tabulate zero f i h = absurd (omega arith)
octet_tabulate (suc n) f i h = ⊎_elim
    (λ (l : i < n). get_or-append (tabulate n f) (f n ∷ []) 0 i (omega (arith, length_tabulate n f)) ∙ octet_tabulate n f i l)
    (λ (l : n ≤ i).
    let e : i ≡ n = omega arith in
    rw e (get_or_at (tabulate n f) (f n) [] 0 n (length_tabulate n f)))
    (lt_or_le i n)

pub length_layout : (n : ℕ) (rs : List Slot) → length (layout n rs) ≡ n
unfolding layout
length_layout n rs = length_tabulate n (octet_of rs 0)

pub octet_layout : (n : ℕ) (rs : List Slot) (i : ℕ) → i < n → octet (layout n rs) i ≡ octet_of rs 0 i
unfolding layout
octet_layout n rs i h = octet_tabulate n (octet_of rs 0) i h

-- ---- which slot spans a place

spans_from : (r : Slot) (i : ℕ) → spans r i ≡ true → r.start ≤ i
spans_from r i e = leb-true r.start i (and_left (leb r.start i) (ltb i (end r)) e)

spans_to : (r : Slot) (i : ℕ) → spans r i ≡ true → i < end r
spans_to r i e = ltb-true i (end r) (and_right (leb r.start i) (ltb i (end r)) e)

pub in_slot : (r : Slot) (i : ℕ) → r.start ≤ i → i < end r → spans r i ≡ true
in_slot r i a b = both (leb r.start i) (ltb i (end r)) (le-leb r.start i a) (lt-ltb i (end r) b)

past_slot : (r : Slot) (i : ℕ) → (i < r.start) ⊎ (end r ≤ i) → spans r i ≡ false
past_slot r i o = not_both (leb r.start i) (ltb i (end r)) (λ a b.
    let x : r.start ≤ i = leb-true r.start i a in
    let y : i < end r = ltb-true i (end r) b in
    ⊎_elim (λ (h : i < r.start). omega arith) (λ (h : end r ≤ i). omega arith) o)

-- A place that one slot spans is spanned by none that is apart from it.
apart_one : (r q : Slot) (i : ℕ) → leb (end r) q.start || leb (end q) r.start ≡ true → spans r i ≡ true → spans q i ≡ false
apart_one r q i e h =
    let a = spans_from r i h in
    let b = spans_to r i h in
    ⊎_elim
    (λ (x : leb (end r) q.start ≡ true). past_slot q i (inl (let y = leb-true (end r) q.start x in omega arith)))
    (λ (x : leb (end q) r.start ≡ true). past_slot q i (inr (let y = leb-true (end q) r.start x in omega arith)))
    (either (leb (end r) q.start) (leb (end q) r.start) e)

octet_of_spanned : (r : Slot) (rs : List Slot) (z i : ℕ) → spans r i ≡ true
    → octet_of (r ∷ rs) z i ≡ octet (octets r.size r.value) (i - r.start)
unfolding octet_of
octet_of_spanned r rs z i e = rw e

octet_of_past : (r : Slot) (rs : List Slot) (z i : ℕ) → spans r i ≡ false → octet_of (r ∷ rs) z i ≡ octet_of rs z i
unfolding octet_of
octet_of_past r rs z i e = rw e

module _ (r : Slot) (q : Slot) (rs : List Slot) (a : apart_from r (q ∷ rs) ≡ true) where
  apart_head : leb (end r) q.start || leb (end q) r.start ≡ true
  unfolding apart_from
  apart_head = and_left (leb (end r) q.start || leb (end q) r.start) (apart_from r rs) a

  apart_tail : apart_from r rs ≡ true
  unfolding apart_from
  apart_tail = and_right (leb (end r) q.start || leb (end q) r.start) (apart_from r rs) a

octet_of_none : (r : Slot) (rs : List Slot) (z i : ℕ) → apart_from r rs ≡ true → spans r i ≡ true → octet_of rs z i ≡ z
octet_of_none r [] z i a h = unfold octet_of in refl
octet_of_none r (q ∷ rs) z i a h =
    octet_of_past q rs z i (apart_one r q i (apart_head r q rs a) h) ∙ octet_of_none r rs z i (apart_tail r q rs a) h

module _ (r : Slot) (rs : List Slot) (a : apart (r ∷ rs) ≡ true) where
  apart_first : apart_from r rs ≡ true
  unfolding apart
  apart_first = and_left (apart_from r rs) (apart rs) a

  apart_rest : apart rs ≡ true
  unfolding apart
  apart_rest = and_right (apart_from r rs) (apart rs) a

module _ (n : ℕ) (r : Slot) (rs : List Slot) (b : ends_by n (r ∷ rs) ≡ true) where
  ends_first : end r ≤ n
  unfolding ends_by
  ends_first = leb-true (end r) n (and_left (leb (end r) n) (ends_by n rs) b)

  ends_rest : ends_by n rs ≡ true
  unfolding ends_by
  ends_rest = and_right (leb (end r) n) (ends_by n rs) b

ends_more : (n k : ℕ) (rs : List Slot) → n ≤ k → ends_by n rs ≡ true → ends_by k rs ≡ true
unfolding ends_by
ends_more n k [] h b = refl
ends_more n k (r ∷ rs) h b =
    let f = ends_first n r rs b in
    both (leb (end r) k) (ends_by k rs) (le-leb (end r) k (omega arith)) (ends_more n k rs h (ends_rest n r rs b))

-- Past the end of every slot the octet is what it was.
octet_of_above : (n : ℕ) (rs : List Slot) (z i : ℕ) → ends_by n rs ≡ true → n ≤ i → octet_of rs z i ≡ z
octet_of_above n [] z i b h = unfold octet_of in refl
octet_of_above n (r ∷ rs) z i b h =
    octet_of_past r rs z i (past_slot r i (inr (let x = ends_first n r rs b in omega arith)))
    ∙ octet_of_above n rs z i (ends_rest n r rs b) h

-- ---- writing slot by slot

fill_cons : (r : Slot) (rs : List Slot) (s : List ℕ) → fill (r ∷ rs) s ≡ fill rs (laid s r.start (octets r.size r.value))
unfolding fill
fill_cons r rs s = refl

pub length_fill : (rs : List Slot) (s : List ℕ) → length (fill rs s) ≡ length s
unfolding fill
length_fill [] s = refl
length_fill (r ∷ rs) s =
    length_fill rs (laid s r.start (octets r.size r.value)) ∙ length_laid s r.start (octets r.size r.value)

module _ (r : Slot) (s : List ℕ) (fits : end r ≤ length s) where
  run : List ℕ
  run = octets r.size r.value

  wide : length run ≡ r.size
  unfolding run
  wide = length_octets r.size r.value

  slot_in : (i : ℕ) → spans r i ≡ true → octet (laid s r.start run) i ≡ octet run (i - r.start)
  slot_in i h =
      let a = spans_from r i h in
      let b = spans_to r i h in
      let e : r.start + (i - r.start) ≡ i = omega arith in
      ap (octet (laid s r.start run)) (sym e)
      ∙ laid_in s r.start run (omega (arith, wide)) (i - r.start) (omega (arith, wide))

  slot_out : (i : ℕ) → spans r i ≡ false → octet (laid s r.start run) i ≡ octet s i
  slot_out i h = laid_out s r.start run (omega (arith, wide)) i (side (lt_or_le i r.start))
    where
      side : (i < r.start) ⊎ (r.start ≤ i) → (i < r.start) ⊎ (r.start + length run ≤ i)
      side (inl a) = inl a
      side (inr a) = inr (⊎_elim
          (λ (b : i < end r). absurd (never_both (in_slot r i a b) h))
          (λ (b : end r ≤ i). omega (arith, wide))
          (lt_or_le i (end r)))

fill_none : (s : List ℕ) (i : ℕ) → octet (fill [] s) i ≡ octet_of [] (octet s i) i
unfolding fill octet_of
fill_none s i = refl

-- What is read at a place afterwards.
pub fill_octet : (rs : List Slot) (s : List ℕ) (i : ℕ) → apart rs ≡ true → ends_by (length s) rs ≡ true
    → octet (fill rs s) i ≡ octet_of rs (octet s i) i
unfolding run
fill_octet [] s i a b = fill_none s i
fill_octet (r ∷ rs) s i a b =
    let t = laid s r.start (octets r.size r.value) in
    let l : length t ≡ length s = length_laid s r.start (octets r.size r.value) in
    let c : ends_by (length t) rs ≡ true = rw l (ends_rest (length s) r rs b) in
    let f = ends_first (length s) r rs b in
    ap (λ (l : List ℕ). octet l i) (fill_cons r rs s) ∙ fill_octet rs t i (apart_rest r rs a) c
    ∙ ⊎_elim
    (λ (h : spans r i ≡ true).
    octet_of_none r rs (octet t i) i (apart_first r rs a) h ∙ slot_in r s f i h ∙ sym (octet_of_spanned r rs (octet s i) i h))
    (λ (h : spans r i ≡ false).
    ap (λ (z : ℕ). octet_of rs z i) (slot_out r s f i h) ∙ sym (octet_of_past r rs (octet s i) i h))
    (true_or_false (spans r i))

pub fill_append : (rs qs : List Slot) (s : List ℕ) → fill qs (fill rs s) ≡ fill (rs ++ qs) s
unfolding fill
fill_append [] qs s = refl
fill_append (r ∷ rs) qs s = fill_append rs qs (laid s r.start (octets r.size r.value))

-- ---- slots that cover every place

-- Where a slot spans the place, what stood there before does not matter.
octet_of_over : (rs : List Slot) (z y i : ℕ) → spanned rs i ≡ true → octet_of rs z i ≡ octet_of rs y i
unfolding spanned
octet_of_over [] z y i e = absurd (never_both e refl)
octet_of_over (r ∷ rs) z y i e = ⊎_elim
    (λ (h : spans r i ≡ true). octet_of_spanned r rs z i h ∙ sym (octet_of_spanned r rs y i h))
    (λ (h : spans r i ≡ false). octet_of_past r rs z i h ∙ octet_of_over rs z y i (rw h at e) ∙ sym (octet_of_past r rs y i h))
    (true_or_false (spans r i))

covers_all : (n : ℕ) (rs : List Slot) (i : ℕ) → covers n rs ≡ true → i < n → spanned rs i ≡ true
unfolding covers
covers_all zero rs i e h = absurd (omega arith)
covers_all (suc n) rs i e h = ⊎_elim
    (λ (l : i < n). covers_all n rs i (and_left (covers n rs) (spanned rs n) e) l)
    (λ (l : n ≤ i). let f : i ≡ n = omega arith in rw f (and_right (covers n rs) (spanned rs n) e))
    (lt_or_le i n)

-- Writing slots that cover the first n places makes them the layout, and all behind stays.
pub fill_layout : (n : ℕ) (rs : List Slot) (s : List ℕ) → apart rs ≡ true → ends_by n rs ≡ true → covers n rs ≡ true → n ≤ length s
    → fill rs s ≡ layout n rs ++ drop n s
fill_layout n rs s a b all room = ext_get_or 0 (fill rs s) (layout n rs ++ drop n s) same_length same_octet
  where
    same_length : length (fill rs s) ≡ length (layout n rs ++ drop n s)
    same_length = length_fill rs s ∙ sym (length-append (layout n rs) (drop n s) ∙ omega (arith, length_layout n rs, length-drop n s))

    filled : (i : ℕ) → octet (fill rs s) i ≡ octet_of rs (octet s i) i
    filled i = fill_octet rs s i a (ends_more n (length s) rs room b)

    same_octet : (i : ℕ) → i < length (fill rs s) → octet (fill rs s) i ≡ octet (layout n rs ++ drop n s) i
    same_octet i h = ⊎_elim
        (λ (l : i < n).
        filled i ∙ octet_of_over rs (octet s i) 0 i (covers_all n rs i all l) ∙ sym (octet_layout n rs i l)
        ∙ sym (get_or-append (layout n rs) (drop n s) 0 i (omega (arith, length_layout n rs))))
        (λ (l : n ≤ i).
        let e : length (layout n rs) + (i - n) ≡ i = omega (arith, length_layout n rs) in
        let f : n + (i - n) ≡ i = omega arith in
        filled i ∙ octet_of_above n rs (octet s i) i b l
        ∙ sym (ap (octet (layout n rs ++ drop n s)) (sym e) ∙ get_or-append-add (layout n rs) (drop n s) (i - n) 0
        ∙ get_or-drop n s (i - n) 0 ∙ ap (octet s) f))
        (lt_or_le i n)

-- ---- reading back

pub data In (r : Slot) : List Slot → Type 0 where
  here : {rs : List Slot} → In r (r ∷ rs)
  there : {q : Slot} {rs : List Slot} → In r rs → In r (q ∷ rs)

-- The slot at a position of a list.
abbrev pub nth : ℕ → List Slot → Slot
nth k [] = record { start = 0; size = 0; value = 0 }
nth zero (r ∷ rs) = r
nth (suc k) (r ∷ rs) = nth k rs

pub nth_in : (k : ℕ) (rs : List Slot) → k < length rs → In (nth k rs) rs
nth_in k [] h = absurd (omega arith)
nth_in zero (r ∷ rs) h = here
nth_in (suc k) (r ∷ rs) h = there (nth_in k rs (omega arith))

in_apart : {r : Slot} {rs : List Slot} (q : Slot) → In r rs → apart_from q rs ≡ true → leb (end q) r.start || leb (end r) q.start ≡ true
in_apart {r = r} q (here {rs = rs}) a = apart_head q r rs a
in_apart q (there {q = p} {rs = rs} m) a = in_apart q m (apart_tail q p rs a)

or_swap : (a b : Bool) → a || b ≡ true → b || a ≡ true
or_swap true true e = refl
or_swap true false e = refl
or_swap false true e = refl
or_swap false false e = e

octet_of_in : {r : Slot} {rs : List Slot} (i : ℕ) → In r rs → apart rs ≡ true → spans r i ≡ true
    → octet_of rs 0 i ≡ octet (octets r.size r.value) (i - r.start)
octet_of_in {r = r} i (here {rs = rs}) a h = octet_of_spanned r rs 0 i h
octet_of_in {r = r} i (there {q = q} {rs = rs} m) a h =
    let x = or_swap (leb (end q) r.start) (leb (end r) q.start) (in_apart q m (apart_first q rs a)) in
    octet_of_past q rs 0 i (apart_one r q i x h) ∙ octet_of_in i m (apart_rest q rs a) h

in_ends : {r : Slot} {rs : List Slot} (n : ℕ) → In r rs → ends_by n rs ≡ true → end r ≤ n
in_ends {r = r} n (here {rs = rs}) b = ends_first n r rs b
in_ends n (there {q = q} {rs = rs} m) b = in_ends n m (ends_rest n q rs b)

-- Each slot of a layout reads back, whatever stands behind it.
pub layout_slot : (n : ℕ) (r : Slot) (rs : List Slot) (t : List ℕ) → In r rs → apart rs ≡ true → ends_by n rs ≡ true → r.value < 256 ^ r.size
    → number r.size (layout n rs ++ t) r.start ≡ r.value
layout_slot n r rs t m a b h =
    number_ext r.size (layout n rs ++ t) (octets r.size r.value) r.start 0 same
    ∙ number_octets_fits r.size r.value h
  where
    same : (k : ℕ) → k < r.size → octet (layout n rs ++ t) (r.start + k) ≡ octet (octets r.size r.value) (0 + k)
    same k q =
        let e = in_ends n m b in
        let f : r.start + k - r.start ≡ 0 + k = omega arith in
        get_or-append (layout n rs) t 0 (r.start + k) (omega (arith, length_layout n rs))
        ∙ octet_layout n rs (r.start + k) (omega arith)
        ∙ octet_of_in (r.start + k) m a (in_slot r (r.start + k) (omega arith) (omega arith))
        ∙ ap (octet (octets r.size r.value)) f

-- ---- what is read makes up what it was read from

-- Each slot has the number that is read at its place.
pub data Read (s : List ℕ) : List Slot → Type 0 where
  none : Read s []
  more : {r : Slot} {rs : List Slot} → r.value ≡ number r.size s r.start → Read s rs → Read s (r ∷ rs)

octet_of_read : {s : List ℕ} {rs : List Slot} (i : ℕ) → Octets s → Read s rs → spanned rs i ≡ true → octet_of rs 0 i ≡ octet s i
unfolding spanned
octet_of_read i o none e = absurd (never_both e refl)
octet_of_read {s} i o (more {r = r} {rs = rs} is rest) e = ⊎_elim
    (λ (h : spans r i ≡ true).
    let a = spans_from r i h in
    let b = spans_to r i h in
    let f : r.start + (i - r.start) ≡ i = omega arith in
    octet_of_spanned r rs 0 i h ∙ ap (λ (x : ℕ). octet (octets r.size x) (i - r.start)) is
    ∙ octets_number r.size s r.start (i - r.start) o (omega arith) ∙ ap (octet s) f)
    (λ (h : spans r i ≡ false). octet_of_past r rs 0 i h ∙ octet_of_read i o rest (rw h at e))
    (true_or_false (spans r i))

pub layout_read : (n : ℕ) (rs : List Slot) (s : List ℕ) → Octets s → n ≤ length s → Read s rs → covers n rs ≡ true → take n s ≡ layout n rs
layout_read n rs s o room is all = ext_get_or 0 (take n s) (layout n rs) (long ∙ sym (length_layout n rs)) same
  where
    long : length (take n s) ≡ n
    long = length-take n s ∙ omega arith

    same : (i : ℕ) → i < length (take n s) → octet (take n s) i ≡ octet (layout n rs) i
    same i h =
        let l : i < n = omega (arith, long) in
        get_or-take n s i 0 l ∙ sym (octet_of_read i o is (covers_all n rs i all l)) ∙ sym (octet_layout n rs i l)
