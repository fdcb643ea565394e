-- Facts of the number check, over any kept version RV and number R: exactly one verdict applies. Assumes nothing.
use Rattle.std.specs.Prelude.{◌≡◌, refl, ◌≢◌, true, false, not, cond, ◌&&◌, ℕ, ◌-◌, ◌≤◌, ◌<◌, eqb, ltb}
use Rattle.std.proofs.Common.{sym, ap, ◌∙◌, ⊎_elim, arith}
use borrow.Author.Tests.{eqb-true, eq-eqb, ne_eqb, lt-ltb, le-ltb}
use Rattle.octets.specs.Split.{lt_or_le, eq_or_ne, not_both, never_both, cond_case}
use Rattle.ring.specs.declared.Number.{Number}
use Rattle.ring.specs.declared.Version.{Version}
use Rattle.ring.specs.declared.Verdict.{Verdict}
use Rattle.ring.specs.declared.Verdict.TheVariants.{Unchecked, First, Restart, Repeat, Next, Gap}
use Rattle.ring.specs.Ring.{M, OnRing, back, skipped}
use Rattle.ring.proofs.RingLaws.{remainder_same, remainder_none, skipped_back}
use Rattle.ring.specs.Check.{check, rule4, Free, Says, verdict_age, is_repeat, is_unchecked}
use Rattle.ring.specs.Check.Says.{rule_1, rule_2, rule_3, rule_4_repeat, rule_4_next, rule_4_gap}

-- Rule 4 by the distance alone.
pub rule4_by_distance : (n1 : ℕ) (r s : Number) (d : ℕ) → d ≡ back r s
    → cond (ltb d n1) (Repeat d) (cond (eqb d (M - 1)) Next (Gap (M - 1 - d))) ≡ rule4 n1 r s
unfolding rule4
rule4_by_distance n1 r s d e = rw (e, ← skipped_back r s)

module _ (n1 : ℕ) (rv : Version) (r : Number) (v : Version) (s : Number) where
  abbrev None : Type 0
  None = ¬ (Free v s)

  abbrev Said : Verdict → Type 0
  Said = Says n1 rv r v s

  pub check_free : Free v s → check n1 rv r v s ≡ Unchecked
  unfolding check
  check_free e = simp (eq-eqb v.0 0 e.0, eq-eqb s.0 1 e.1)

  not_free : None → eqb v.0 0 && eqb s.0 1 ≡ false
  not_free n = not_both (eqb v.0 0) (eqb s.0 1) (λ e f. n (eqb-true v.0 0 e, eqb-true s.0 1 f))

  pub check_first : None → rv.0 ≡ 0 → check n1 rv r v s ≡ First
  unfolding check
  check_first n e = simp (not_free n, eq-eqb rv.0 0 e)

  pub check_restart : None → rv.0 ≢ 0 → v.0 ≢ rv.0 → check n1 rv r v s ≡ Restart
  unfolding check
  check_restart n e f = simp (not_free n, ne_eqb rv.0 0 e, ne_eqb v.0 rv.0 f)

  pub check_rule4 : None → rv.0 ≢ 0 → v.0 ≡ rv.0 → check n1 rv r v s ≡ rule4 n1 r s
  unfolding check
  check_rule4 n e f = simp (not_free n, ne_eqb rv.0 0 e, eq-eqb v.0 rv.0 f)

  rule4_repeat : back r s < n1 → rule4 n1 r s ≡ Repeat (back r s)
  unfolding rule4
  rule4_repeat h = rw (lt-ltb (back r s) n1 h)

  rule4_next : n1 ≤ back r s → back r s ≡ M - 1 → rule4 n1 r s ≡ Next
  unfolding rule4
  rule4_next h e = simp (le-ltb (back r s) n1 h, eq-eqb (back r s) (M - 1) e)

  rule4_gap : n1 ≤ back r s → back r s ≢ M - 1 → rule4 n1 r s ≡ Gap (skipped r s)
  unfolding rule4
  rule4_gap h e = simp (le-ltb (back r s) n1 h, ne_eqb (back r s) (M - 1) e)

  -- No verdict but the check's applies.
  pub says_only : {x : Verdict} → Said x → x ≡ check n1 rv r v s
  says_only (rule_1 e) = sym (check_free e)
  says_only (rule_2 n e) = sym (check_first n e)
  says_only (rule_3 n e f) = sym (check_restart n e f)
  says_only (rule_4_repeat n e f h) = sym (check_rule4 n e f ∙ rule4_repeat h)
  says_only (rule_4_next n e f h g) = sym (check_rule4 n e f ∙ rule4_next h g)
  says_only (rule_4_gap n e f h g) = sym (check_rule4 n e f ∙ rule4_gap h g)

  abbrev Some : Type 0
  Some = (x : Verdict) × Said x

  some_4 : None → rv.0 ≢ 0 → v.0 ≡ rv.0 → Some
  some_4 n e f = ⊎_elim
      (λ (h : back r s < n1). (Repeat (back r s), rule_4_repeat n e f h))
      (λ (h : n1 ≤ back r s). ⊎_elim
      (λ (g : back r s ≡ M - 1). (Next, rule_4_next n e f h g))
      (λ (g : back r s ≢ M - 1). (Gap (skipped r s), rule_4_gap n e f h g))
      (eq_or_ne (back r s) (M - 1)))
      (lt_or_le (back r s) n1)

  some_2 : None → Some
  some_2 n = ⊎_elim
      (λ (e : rv.0 ≡ 0). (First, rule_2 n e))
      (λ (e : rv.0 ≢ 0). ⊎_elim
      (λ (f : v.0 ≡ rv.0). some_4 n e f)
      (λ (f : v.0 ≢ rv.0). (Restart, rule_3 n e f))
      (eq_or_ne v.0 rv.0))
      (eq_or_ne rv.0 0)

  some_1 : Some
  some_1 = ⊎_elim
      (λ (e : v.0 ≡ 0). ⊎_elim
      (λ (f : s.0 ≡ 1). (Unchecked, rule_1 (e, f)))
      (λ (f : s.0 ≢ 1). some_2 (λ g. f g.1))
      (eq_or_ne s.0 1))
      (λ (e : v.0 ≢ 0). some_2 (λ g. e g.0))
      (eq_or_ne v.0 0)

  -- And the check's does.
  pub says_check : Said (check n1 rv r v s)
  says_check = rw (says_only some_1.1) at some_1.1

  -- ---- how old a repeat is

  abbrev verdict : Verdict
  verdict = check n1 rv r v s

  -- A repeat is said by rule 4 alone, and says how far back its number lies: "0 to N1 − 1",
  pub record Repeated : Type 0 where
    pub last_some : rv.0 ≢ 0
    pub age_is : verdict_age verdict ≡ back r s
    pub age_below : back r s < n1

  pub repeat_facts : is_repeat verdict ≡ true → Repeated
  repeat_facts e = let f = by says_check e in record { last_some = f.0; age_is = f.1; age_below = f.2 }
    where
      by : {x : Verdict} → Said x → is_repeat x ≡ true → (rv.0 ≢ 0) × (verdict_age x ≡ back r s) × (back r s < n1)
      by (rule_1 f) y = absurd (never_both y refl)
      by (rule_2 n f) y = absurd (never_both y refl)
      by (rule_3 n some f) y = absurd (never_both y refl)
      by (rule_4_repeat n some f h) y = (some, refl, h)
      by (rule_4_next n some f h g) y = absurd (never_both y refl)
      by (rule_4_gap n some f h g) y = absurd (never_both y refl)

  -- 0 exactly for the number last delivered.
  pub age_none : is_repeat verdict ≡ true → OnRing r.0 → OnRing s.0 → (verdict_age verdict ≡ 0 → s.0 ≡ r.0) × (s.0 ≡ r.0 → verdict_age verdict ≡ 0)
  age_none e hr hs =
      let f = repeat_facts e in
      (λ none. sym (remainder_none r.0 s.0 hr hs (sym f.age_is ∙ none)), λ same. f.age_is ∙ remainder_same r.0 s.0 (sym same))

-- What is no repeat has no age.
pub no_age : (x : Verdict) → is_repeat x ≡ false → verdict_age x ≡ 0
no_age Unchecked e = refl
no_age First e = refl
no_age Restart e = refl
no_age (Repeat d) e = absurd (never_both refl e)
no_age Next e = refl
no_age (Gap k) e = refl

-- ---- of a version that is not 0

-- What is delivered is then stored as the last number,
pub is_checked : (n1 : ℕ) (rv : Version) (r : Number) (v : Version) (s : Number) → v.0 ≢ 0 → is_unchecked (check n1 rv r v s) ≡ false
unfolding check rule4
is_checked n1 rv r v s some =
    rw (ne_eqb v.0 0 some)
    (cond_case (λ (x : Verdict). is_unchecked x ≡ false) (eqb rv.0 0) First _ (λ _. refl)
    (λ _. cond_case (λ (x : Verdict). is_unchecked x ≡ false) (not (eqb v.0 rv.0)) Restart _ (λ _. refl)
    (λ _. cond_case (λ (x : Verdict). is_unchecked x ≡ false) (ltb (back r s) n1) (Repeat (back r s)) _ (λ _. refl)
    (λ _. cond_case (λ (x : Verdict). is_unchecked x ≡ false) (eqb (back r s) (M - 1)) Next (Gap (skipped r s)) (λ _. refl) (λ _. refl)))))

-- and the last number again is a repeat, no way back.
pub check_again : (n1 : ℕ) (v : Version) (s : Number) → v.0 ≢ 0 → 1 ≤ n1 → check n1 v s v s ≡ Repeat 0
check_again n1 v s some one =
    let here : back s s ≡ 0 = remainder_same s.0 s.0 refl in
    check_rule4 n1 v s v s (λ e. some e.0) some refl
    ∙ rule4_repeat n1 v s v s (omega (arith, here)) ∙ ap Repeat here
