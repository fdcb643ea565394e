-- The number check (D.3.1.3): 01's four rules, in their order. n1 is N1, rv and r are RV and R, v and s are V_SEQ and
-- SEQ.
use Rattle.std.specs.Prelude.{◌≡◌, ◌≢◌, ℕ, ◌-◌, ◌≤◌, ◌<◌, Bool, true, false, cond, not, ◌&&◌, eqb, ltb}
use Rattle.ring.specs.declared.Number.{Number}
use Rattle.ring.specs.declared.Version.{Version}
use Rattle.ring.specs.declared.Verdict.{Verdict}
use Rattle.ring.specs.declared.Verdict.TheVariants.{Unchecked, First, Restart, Repeat, Next, Gap}
use Rattle.ring.specs.Ring.{M, back, skipped}

-- "4. Let d be the remainder of R − SEQ by M, 0 to M − 1. d < N1: repeat. d = M − 1: next. Otherwise gap, with (SEQ − R
-- − 1) modulo M numbers skipped." 02, Item 6: "When the number check says repeat, it should also give how far back the number
-- lies": d itself.
unfoldable pub rule4 : ℕ → Number → Number → Verdict
rule4 n1 r s = cond (ltb (back r s) n1) (Repeat (back r s)) (cond (eqb (back r s) (M - 1)) Next (Gap (skipped r s)))

-- "1. V_SEQ = 0 and SEQ = 1: unchecked. 2. RV = 0: first. 3. V_SEQ differs from RV: restart. 4. …"
unfoldable pub check : ℕ → Version → Number → Version → Number → Verdict
check n1 rv r v s =
    cond (eqb v.0 0 && eqb s.0 1) Unchecked
    (cond (eqb rv.0 0) First (cond (not (eqb v.0 rv.0)) Restart (rule4 n1 r s)))

-- "V_SEQ = 0 and SEQ = 1"
abbrev pub Free : Version → Number → Type 0
Free v s = (v.0 ≡ 0) × (s.0 ≡ 1)

-- The four rules as they are printed, "in this order": each applies where none before it does. The check says this and
-- nothing else (`says_check`, `says_only`).
pub data Says (n1 : ℕ) (rv : Version) (r : Number) (v : Version) (s : Number) : Verdict → Type 0 where
  rule_1 : Free v s → Says n1 rv r v s Unchecked
  rule_2 : ¬ (Free v s) → rv.0 ≡ 0 → Says n1 rv r v s First
  rule_3 : ¬ (Free v s) → rv.0 ≢ 0 → v.0 ≢ rv.0 → Says n1 rv r v s Restart
  rule_4_repeat : ¬ (Free v s) → rv.0 ≢ 0 → v.0 ≡ rv.0 → back r s < n1 → Says n1 rv r v s (Repeat (back r s))
  rule_4_next : ¬ (Free v s) → rv.0 ≢ 0 → v.0 ≡ rv.0 → n1 ≤ back r s → back r s ≡ M - 1 → Says n1 rv r v s Next
  rule_4_gap : ¬ (Free v s) → rv.0 ≢ 0 → v.0 ≡ rv.0 → n1 ≤ back r s → back r s ≢ M - 1 → Says n1 rv r v s (Gap (skipped r s))

-- "Verdicts: 1 first, 2 next, 3 restart, 4 gap, 5 unchecked, 0 where nothing is delivered."
abbrev pub verdict_number : Verdict → ℕ
verdict_number Unchecked = 5
verdict_number First = 1
verdict_number Restart = 3
verdict_number (Repeat d) = 0
verdict_number Next = 2
verdict_number (Gap k) = 4

-- How many numbers were skipped: none but in a gap.
abbrev pub verdict_skipped : Verdict → ℕ
verdict_skipped Unchecked = 0
verdict_skipped First = 0
verdict_skipped Restart = 0
verdict_skipped (Repeat d) = 0
verdict_skipped Next = 0
verdict_skipped (Gap k) = k

-- How far back a repeat lies: "In every other answer it is 0."
abbrev pub verdict_age : Verdict → ℕ
verdict_age Unchecked = 0
verdict_age First = 0
verdict_age Restart = 0
verdict_age (Repeat d) = d
verdict_age Next = 0
verdict_age (Gap k) = 0

-- "number check says repeat"
abbrev pub is_repeat : Verdict → Bool
is_repeat Unchecked = false
is_repeat First = false
is_repeat Restart = false
is_repeat (Repeat d) = true
is_repeat Next = false
is_repeat (Gap k) = false

-- "V_SEQ = 0 and SEQ = 1: unchecked. Delivery leaves RV and R."
abbrev pub is_unchecked : Verdict → Bool
is_unchecked Unchecked = true
is_unchecked First = false
is_unchecked Restart = false
is_unchecked (Repeat d) = false
is_unchecked Next = false
is_unchecked (Gap k) = false
