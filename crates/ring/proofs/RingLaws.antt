-- Laws of the ring. Assumes nothing.
use Rattle.std.specs.Prelude.{◌≡◌, refl, ◌≢◌, true, false, ℕ, ◌+◌, ◌-◌, ◌%◌, ◌≤◌, ◌<◌, leb}
use Rattle.std.proofs.Common.{ap, ⊎_elim, mod-lt, arith, le-leb, leb-true}
use Rattle.std.proofs.lemmas.Bool.{lt-leb}
use Rattle.octets.specs.Split.{lt_or_le, eq_or_ne, never_both, and_left, and_right}
use Rattle.ring.specs.declared.Number.{Number}
use Rattle.ring.specs.declared.Version.{Version}
use Rattle.ring.specs.Ring.{M, OnRing, is_number, remainder, back, skipped, half, newer}

-- A version or a number is what it counts.
pub same_version : {v w : Version} → v.0 ≡ w.0 → v ≡ w
same_version e = ap (λ (x : ℕ). record { 0 = x }) e

pub same_number : {r s : Number} → r.0 ≡ s.0 → r ≡ s
same_number e = ap (λ (x : ℕ). record { 0 = x }) e

pub on_ring : (x : ℕ) → is_number x ≡ true → OnRing x
on_ring x e = record { first = leb-true 1 x (and_left (leb 1 x) (leb x M) e); last = leb-true x M (and_right (leb 1 x) (leb x M) e) }

pub remainder_bound : (a b : ℕ) → remainder a b < M
unfolding remainder
remainder_bound a b = mod-lt (a % M + (M - b % M)) (omega arith)

-- Going on from b by the remainder leads to a, modulo M.
pub remainder_on : (a b : ℕ) → (b + remainder a b) % M ≡ a % M
unfolding remainder
remainder_on a b = omega arith

-- No other distance on the ring does.
pub remainder_only : (a b d : ℕ) → d < M → (b + d) % M ≡ a % M → d ≡ remainder a b
unfolding remainder
remainder_only a b d h e = omega arith

-- On the ring, a number that is not larger lies as far back as the difference,
pub remainder_below : (r s : ℕ) → OnRing r → OnRing s → s ≤ r → remainder r s ≡ r - s
unfolding remainder
remainder_below r s hr hs h = omega arith

-- and a larger one as far as the way round.
pub remainder_above : (r s : ℕ) → OnRing r → OnRing s → r < s → remainder r s ≡ r + M - s
unfolding remainder
remainder_above r s hr hs h = omega arith

-- What is skipped is what lies between: all of the ring but the way back and the number itself.
pub skipped_back : (r s : Number) → skipped r s ≡ M - 1 - back r s
unfolding remainder
skipped_back r s = omega arith

-- The ways there and back make one round, but from a number to itself.
pub remainder_round : (a b : ℕ) → remainder a b ≢ 0 → remainder a b + remainder b a ≡ M
unfolding remainder
remainder_round a b n = omega arith

-- The way from a number to itself is 0, and on the ring to no other number.
pub remainder_same : (a b : ℕ) → a ≡ b → remainder a b ≡ 0
unfolding remainder
remainder_same a b e = omega arith

pub remainder_none : (a b : ℕ) → OnRing a → OnRing b → remainder a b ≡ 0 → a ≡ b
unfolding remainder
remainder_none a b ha hb e = omega arith

-- ---- which of two is newer

-- By how far on a lies from b: up to the half,
pub newer_near : (a b : Number) → 1 ≤ back a b → back a b ≤ half → (newer a b ≡ true) × (newer b a ≡ false)
unfolding newer
newer_near a b low high =
    let round = remainder_round a.0 b.0 (λ e. omega (arith, e)) in
    (rw (le-leb 1 (back a b) low, le-leb (back a b) half high), rw (le-leb 1 (back b a) (omega arith), lt-leb (back b a) half (omega arith)))

-- beyond it, where b lies as far on from a as is left of the round,
pub newer_far : (a b : Number) → half < back a b → (newer a b ≡ false) × (newer b a ≡ true)
newer_far a b high =
    let round = remainder_round a.0 b.0 (λ e. omega (arith, e)) in
    let bound = remainder_bound a.0 b.0 in
    let near = newer_near b a (omega arith) (omega arith) in
    (near.1, near.0)

-- and not at all.
pub newer_none : (a b : Number) → back a b ≡ 0 → (newer a b ≡ false) × (newer b a ≡ false)
unfolding newer remainder
newer_none a b none = (rw none, rw (lt-leb 1 (back b a) (omega arith)))

-- Exactly one of same, newer and older holds of two numbers on the ring.
pub data Order (a b : Number) : Type 0 where
  same : a.0 ≡ b.0 → newer a b ≡ false → newer b a ≡ false → Order a b
  is_newer : a.0 ≢ b.0 → newer a b ≡ true → newer b a ≡ false → Order a b
  is_older : a.0 ≢ b.0 → newer a b ≡ false → newer b a ≡ true → Order a b

pub one_order : (a b : Number) → OnRing a.0 → OnRing b.0 → Order a b
one_order a b ha hb = ⊎_elim
    (λ (e : back a b ≡ 0). let f = newer_none a b e in same (remainder_none a.0 b.0 ha hb e) f.0 f.1)
    (λ (n : back a b ≢ 0). ⊎_elim
    (λ (h : half < back a b). let f = newer_far a b h in is_older (apart n) f.0 f.1)
    (λ (h : back a b ≤ half). let f = newer_near a b (omega arith) h in is_newer (apart n) f.0 f.1)
    (lt_or_le half (back a b)))
    (eq_or_ne (back a b) 0)
  where
    apart : back a b ≢ 0 → a.0 ≢ b.0
    apart n e = n (remainder_same a.0 b.0 e)

-- But it is no order: it goes round. Of these three, a third of the ring apart, each is newer than the one before, and the
-- first newer than the last. So what is newer than a newer number need not be newer, and no proof rests on that.
abbrev one : Number
one = record { 0 = 1 }

abbrev two : Number
two = record { 0 = 715827883 }

abbrev three : Number
three = record { 0 = 1431655765 }

pub newer_round : (newer two one ≡ true) × (newer three two ≡ true) × (newer one three ≡ true)
unfolding newer remainder
newer_round = (refl, refl, refl)

three_older : newer three one ≡ false
unfolding newer remainder
three_older = refl

pub not_transitive : ¬ ((a b c : Number) → OnRing a.0 → OnRing b.0 → OnRing c.0 → newer a b ≡ true → newer b c ≡ true → newer a c ≡ true)
not_transitive h = never_both
    (h three two one
    (record { first = omega arith; last = omega arith })
    (record { first = omega arith; last = omega arith })
    (record { first = omega arith; last = omega arith })
    newer_round.1 newer_round.0)
    three_older

pub not_newer : (a : Number) → OnRing a.0 → newer a a ≡ false
not_newer a on = by (one_order a a on on)
  where
    by : Order a a → newer a a ≡ false
    by (same e f g) = f
    by (is_newer n f g) = absurd (n refl)
    by (is_older n f g) = f
