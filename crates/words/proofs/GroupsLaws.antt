-- Laws of the groups' word, an octet for each. Assumes nothing.
use Rattle.std.specs.Prelude.{ℕ, ◌+◌, ◌*◌, ◌/◌, ◌%◌, ◌≤◌, ◌<◌, ◌≡◌, refl, true, List, [], ◌∷◌, leb, length, get_or}
use Rattle.std.proofs.Common.{sym, ap, subst, ◌∙◌, ⊎_elim, div-add-mod', arith, leb-true}
use Rattle.std.proofs.Math.Nat.{div-div-eq-div-mul}
use Rattle.std.proofs.lemmas.List.{get_or-replicate}
use Rattle.octets.specs.Split.{lt_or_le, and_right}
use Rattle.groups.specs.declared.Group.{Group}
use Rattle.groups.specs.declared.Groups.{Groups}
use Rattle.groups.specs.Groups.{groups_most, no_group, no_groups, number_at, groups_within, kept}
use Rattle.groups.proofs.GroupsLaws.{kept_length, kept_number, kept_past, within_each}
use Rattle.words.proofs.ListedLaws.{listed_same}
use Rattle.words.specs.Words.{half, groups_in, groups_word, listed}

-- ---- from the word and back

-- The word octet by octet.
octet_back : (w a : ℕ) → w / a ≡ w / (a * 256) * 256 + w / a % 256
octet_back w a = sym (div-add-mod' (w / a) 256) ∙ ap (λ (q : ℕ). q * 256 + w / a % 256) (div-div-eq-div-mul w a 256)

pub groups_back : (count w : ℕ) → groups_word (groups_in count w) ≡ w
groups_back count w =
    by (w / 256) (w / 65536) (w / 16777216) (w / half) (w / 1099511627776) (w / 281474976710656) (w / 72057594037927936)
    (w % 256) (w / 256 % 256) (w / 65536 % 256) (w / 16777216 % 256) (w / half % 256) (w / 1099511627776 % 256) (w / 281474976710656 % 256)
    (sym (div-add-mod' w 256)) (octet_back w 256) (octet_back w 65536) (octet_back w 16777216) (octet_back w half) (octet_back w 1099511627776) (octet_back w 281474976710656)
  where
    by : (b c d e f g h p q r s t u v : ℕ) → w ≡ b * 256 + p → b ≡ c * 256 + q → c ≡ d * 256 + r → d ≡ e * 256 + s → e ≡ f * 256 + t → f ≡ g * 256 + u → g ≡ h * 256 + v
        → (h * 16777216 + v * 65536 + u * 256 + t) * half + (s * 16777216 + r * 65536 + q * 256 + p) ≡ w
    by b c d e f g h p q r s t u v e0 e1 e2 e3 e4 e5 e6 = omega (arith, e0, e1, e2, e3, e4, e5, e6)

-- ---- to the word and back

-- Eight groups, of an octet each.
pub record Octets (g : Groups) : Type 0 where
  pub eight : length g.list ≡ groups_most
  pub octet : (k : ℕ) → k < groups_most → number_at g k < 256

pub none_octets : Octets no_groups
none_octets = record { eight = refl; octet = λ k few. rw (get_or-replicate groups_most k no_group no_group few) (omega arith) }

-- Those that setup keeps.
pub kept_octets : (g : Groups) → groups_within g ≡ true → Octets (kept g)
kept_octets g e = record {
  eight = kept_length g groups_most;
  octet = λ k few. ⊎_elim
      (λ (here : k < g.count).
      let is = within_each g e k here in
      rw (kept_number g k here few) (omega (arith, leb-true (number_at g k) 255 (and_right (leb 1 (number_at g k)) (leb (number_at g k) 255) is))))
      (λ (past : g.count ≤ k). subst (λ (x : Group). x.0 < 256) (sym (kept_past g k past)) (omega arith))
      (lt_or_le k g.count);
}

-- One octet is cut off.
cut_off : (w a q r : ℕ) → w / a ≡ q * 256 + r → r < 256 → (w / a % 256 ≡ r) × (w / (a * 256) ≡ q)
cut_off w a q r e short = (rw e (omega arith), sym (div-div-eq-div-mul w a 256) ∙ rw e (omega arith))

eight_of : (l : List Group) → length l ≡ groups_most
    → l ≡ get_or l 0 no_group ∷ get_or l 1 no_group ∷ get_or l 2 no_group ∷ get_or l 3 no_group ∷ get_or l 4 no_group ∷ get_or l 5 no_group ∷ get_or l 6 no_group ∷ get_or l 7 no_group ∷ []
unfolding listed
eight_of l e = sym (listed_same no_group (λ k. get_or l k no_group) groups_most l e (λ k few. refl))

pub groups_there : (g : Groups) → Octets g → groups_in g.count (groups_word g) ≡ g
groups_there g o =
    let n = number_at g in
    let w = groups_word g in
    let short = o.octet in
    let c6 = n 7 * 256 + n 6 in
    let c5 = c6 * 256 + n 5 in
    let c4 = c5 * 256 + n 4 in
    let c3 = c4 * 256 + n 3 in
    let c2 = c3 * 256 + n 2 in
    let c1 = c2 * 256 + n 1 in
    let whole : w ≡ c1 * 256 + n 0 = omega arith in
    let r0 : w % 256 ≡ n 0 = omega (arith, whole, short 0 (omega arith)) in
    let q0 : w / 256 ≡ c1 = omega (arith, whole, short 0 (omega arith)) in
    let s1 = cut_off w 256 c2 (n 1) q0 (short 1 (omega arith)) in
    let s2 = cut_off w 65536 c3 (n 2) s1.1 (short 2 (omega arith)) in
    let s3 = cut_off w 16777216 c4 (n 3) s2.1 (short 3 (omega arith)) in
    let s4 = cut_off w half c5 (n 4) s3.1 (short 4 (omega arith)) in
    let s5 = cut_off w 1099511627776 c6 (n 5) s4.1 (short 5 (omega arith)) in
    let s6 = cut_off w 281474976710656 (n 7) (n 6) s5.1 (short 6 (omega arith)) in
    ap (λ (l : List Group). record { count = g.count; list = l })
    (rw (r0, s1.0, s2.0, s3.0, s4.0, s5.0, s6.0, s6.1) (sym (eight_of g.list o.eight)))
