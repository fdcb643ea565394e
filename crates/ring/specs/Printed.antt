-- The number check as 01 prints it, rule by rule and with its own numbers, and as Table 14; which number is newer, as 02
-- prints it. Proved in PrintedLaws.antt.
use Rattle.std.specs.Prelude.{ℕ, ◌+◌, ◌%◌, ◌≤◌, ◌<◌, ◌≡◌, ◌≢◌, true, false, [], ◌∷◌, map}
use Rattle.ring.specs.declared.Number.{Number}
use Rattle.ring.specs.declared.Version.{Version}
use Rattle.ring.specs.declared.Verdict.{Verdict}
use Rattle.ring.specs.declared.Verdict.TheVariants.{Unchecked, First, Restart, Repeat, Next, Gap}
use Rattle.ring.specs.Ring.{newer}
use Rattle.ring.specs.Check.{check, verdict_number, verdict_skipped, verdict_age}
use Rattle.ring.specs.Table14.{table14, result}

-- "the remainder of a − b by M, 0 to M − 1", where "M = 2,147,483,647": what leads from b to a, modulo M.
abbrev pub Remainder : ℕ → ℕ → ℕ → Type 0
Remainder a b d = (d < 2147483647) × ((b + d) % 2147483647 ≡ a % 2147483647)

module _ (n1 : ℕ) (rv : Version) (r : Number) (v : Version) (s : Number) where
  -- "1. V_SEQ = 0 and SEQ = 1", "2. RV = 0", "3. V_SEQ differs from RV"
  abbrev pub Rule1 : Type 0
  Rule1 = (v.0 ≡ 0) × (s.0 ≡ 1)

  abbrev pub Rule2 : Type 0
  Rule2 = rv.0 ≡ 0

  abbrev pub Rule3 : Type 0
  Rule3 = v.0 ≢ rv.0

  -- "4. Let d be the remainder of R − SEQ by M": where none of the first three applies.
  pub record Rule4 (d : ℕ) : Type 0 where
    pub not_1 : ¬ Rule1
    pub not_2 : ¬ Rule2
    pub not_3 : ¬ Rule3
    pub is : Remainder r.0 s.0 d

  -- "In this order: 1. …: unchecked. 2. …: first. 3. …: restart. 4. … d < N1: repeat. d = M − 1: next. Otherwise gap,
  -- with (SEQ − R − 1) modulo M numbers skipped." 02, Item 6: a repeat gives "how far back the number lies", d.
  pub data Rules : Verdict → Type 0 where
    unchecked : Rule1 → Rules Unchecked
    first : ¬ Rule1 → Rule2 → Rules First
    restart : ¬ Rule1 → ¬ Rule2 → Rule3 → Rules Restart
    repeat : {d : ℕ} → Rule4 d → d < n1 → Rules (Repeat d)
    next : {d : ℕ} → Rule4 d → n1 ≤ d → d ≡ 2147483646 → Rules Next
    gap : {d k : ℕ} → Rule4 d → n1 ≤ d → d ≢ 2147483646 → Remainder s.0 (r.0 + 1) k → Rules (Gap k)

pub record CheckAsPrinted : Type 0 where
  -- Each verdict is given exactly when its rule says so.
  pub given : (n1 : ℕ) (rv : Version) (r : Number) (v : Version) (s : Number) (x : Verdict) → check n1 rv r v s ≡ x → Rules n1 rv r v s x
  pub says : (n1 : ℕ) (rv : Version) (r : Number) (v : Version) (s : Number) (x : Verdict) → Rules n1 rv r v s x → check n1 rv r v s ≡ x
  -- "Rule 4 is Table 14 on the ring 1 to M", for "N1 (1 to 1,024)".
  pub table_14 : (n1 : ℕ) (rv : Version) (r : Number) (v : Version) (s : Number) (d : ℕ) → Rule4 n1 rv r v s d
      → 1 ≤ n1 → n1 ≤ 1024 → 1 ≤ r.0 → r.0 ≤ 2147483647 → 1 ≤ s.0 → s.0 ≤ 2147483647
      → result (check n1 rv r v s) ≡ table14 n1 r.0 s.0
  -- "Verdicts: 1 first, 2 next, 3 restart, 4 gap, 5 unchecked, 0 where nothing is delivered", what was skipped, and how old.
  pub numbers : (d k : ℕ) → map verdict_number (First ∷ Next ∷ Restart ∷ Gap k ∷ Unchecked ∷ Repeat d ∷ []) ≡ 1 ∷ 2 ∷ 3 ∷ 4 ∷ 5 ∷ 0 ∷ []
  pub skipped : (d k : ℕ) → map verdict_skipped (First ∷ Next ∷ Restart ∷ Gap k ∷ Unchecked ∷ Repeat d ∷ []) ≡ 0 ∷ 0 ∷ 0 ∷ k ∷ 0 ∷ 0 ∷ []
  pub ages : (d k : ℕ) → map verdict_age (First ∷ Next ∷ Restart ∷ Gap k ∷ Unchecked ∷ Repeat d ∷ []) ≡ 0 ∷ 0 ∷ 0 ∷ 0 ∷ 0 ∷ d ∷ []

-- 02, Item 3, of the newcomer's number and the open one, d being "(SEQ − open SEQ) modulo M".
pub record NewerAsPrinted : Type 0 where
  -- "newer when (SEQ − open SEQ) modulo M is 1 to 1,073,741,823,"
  pub newer_when : (seq opened : Number) (d : ℕ) → Remainder seq.0 opened.0 d → 1 ≤ d → d ≤ 1073741823
      → (newer seq opened ≡ true) × (newer opened seq ≡ false)
  -- "and older when it is larger."
  pub older_when : (seq opened : Number) (d : ℕ) → Remainder seq.0 opened.0 d → 1073741823 < d
      → (newer seq opened ≡ false) × (newer opened seq ≡ true)
  -- 0, the same: neither is newer, and of 1 to M it is one number.
  pub neither_when : (seq opened : Number) → Remainder seq.0 opened.0 0 → (newer seq opened ≡ false) × (newer opened seq ≡ false)
  pub same_when : (seq opened : Number) → Remainder seq.0 opened.0 0
      → 1 ≤ seq.0 → seq.0 ≤ 2147483647 → 1 ≤ opened.0 → opened.0 ≤ 2147483647 → seq.0 ≡ opened.0
