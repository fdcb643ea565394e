-- The number check is as 01 prints it, and newer as 02 does. Assumes nothing.
use Rattle.std.specs.Prelude.{ℕ, ◌+◌, ◌≡◌, refl, ◌≢◌}
use Rattle.std.proofs.Common.{sym, ap, subst, ◌∙◌, ⊎_elim, arith}
use Rattle.octets.specs.Split.{eq_or_ne}
use Rattle.ring.specs.declared.Number.{Number}
use Rattle.ring.specs.declared.Version.{Version}
use Rattle.ring.specs.declared.Verdict.{Verdict}
use Rattle.ring.specs.declared.Verdict.TheVariants.{Repeat, Gap}
use Rattle.ring.specs.Ring.{remainder}
use Rattle.ring.proofs.RingLaws.{remainder_bound, remainder_on, remainder_only, remainder_none, newer_near, newer_far, newer_none}
use Rattle.ring.specs.Check.{Says}
use Rattle.ring.specs.Check.Says.{rule_1, rule_2, rule_3, rule_4_repeat, rule_4_next, rule_4_gap}
use Rattle.ring.proofs.CheckLaws.{says_check, says_only, check_rule4}
use Rattle.ring.specs.Table14.{result}
use Rattle.ring.proofs.Table14Laws.{rule4_is_table14}
use Rattle.ring.specs.Printed.{Remainder, Rules, unchecked, first, restart, repeat, next, gap, CheckAsPrinted, NewerAsPrinted}

remainder_is : (a b d : ℕ) → Remainder a b d → d ≡ remainder a b
remainder_is a b d e = remainder_only a b d e.0 e.1

is_remainder : (a b : ℕ) → Remainder a b (remainder a b)
is_remainder a b = (remainder_bound a b, remainder_on a b)

module _ (n1 : ℕ) (rv : Version) (r : Number) (v : Version) (s : Number) where
  same : ¬ (v.0 ≢ rv.0) → v.0 ≡ rv.0
  same n = ⊎_elim (λ e. e) (λ e. absurd (n e)) (eq_or_ne v.0 rv.0)

  from_says : {x : Verdict} → Says n1 rv r v s x → Rules n1 rv r v s x
  from_says (rule_1 e) = unchecked e
  from_says (rule_2 n e) = first n e
  from_says (rule_3 n e f) = restart n e f
  from_says (rule_4_repeat n e f h) = repeat (record { not_1 = n; not_2 = e; not_3 = λ g. g f; is = is_remainder r.0 s.0 }) h
  from_says (rule_4_next n e f h g) = next (record { not_1 = n; not_2 = e; not_3 = λ k. k f; is = is_remainder r.0 s.0 }) h g
  from_says (rule_4_gap n e f h g) =
      gap (record { not_1 = n; not_2 = e; not_3 = λ k. k f; is = is_remainder r.0 s.0 }) h g (is_remainder s.0 (r.0 + 1))

  to_says : {x : Verdict} → Rules n1 rv r v s x → Says n1 rv r v s x
  to_says (unchecked e) = rule_1 e
  to_says (first n e) = rule_2 n e
  to_says (restart n e f) = rule_3 n e f
  to_says (repeat {d} w h) =
      let e = remainder_is r.0 s.0 d w.is in
      subst (λ (i : ℕ). Says n1 rv r v s (Repeat i)) (sym e) (rule_4_repeat w.not_1 w.not_2 (same w.not_3) (omega arith))
  to_says (next {d} w h g) =
      let e = remainder_is r.0 s.0 d w.is in rule_4_next w.not_1 w.not_2 (same w.not_3) (omega arith) (omega arith)
  to_says (gap {d} {k} w h g q) =
      let e = remainder_is r.0 s.0 d w.is in
      subst (λ (i : ℕ). Says n1 rv r v s (Gap i)) (sym (remainder_is s.0 (r.0 + 1) k q))
      (rule_4_gap w.not_1 w.not_2 (same w.not_3) (omega arith) (λ f. g (e ∙ f)))

pub check_as_printed : CheckAsPrinted
check_as_printed = record {
  given = λ n1 rv r v s x e. subst (Rules n1 rv r v s) e (from_says n1 rv r v s (says_check n1 rv r v s));
  says = λ n1 rv r v s x w. sym (says_only n1 rv r v s (to_says n1 rv r v s w));
  table_14 = λ n1 rv r v s d w low high r-low r-high s-low s-high.
      ap result (check_rule4 n1 rv r v s w.not_1 w.not_2 (same n1 rv r v s w.not_3))
      ∙ rule4_is_table14 n1 r s (record { first = r-low; last = r-high }) (record { first = s-low; last = s-high }) low high;
  numbers = λ d k. refl;
  skipped = λ d k. refl;
  ages = λ d k. refl;
}

pub newer_as_printed : NewerAsPrinted
newer_as_printed = record {
  newer_when = λ seq opened d is low high. let e = remainder_is seq.0 opened.0 d is in newer_near seq opened (omega arith) (omega arith);
  older_when = λ seq opened d is high. let e = remainder_is seq.0 opened.0 d is in newer_far seq opened (omega arith);
  neither_when = λ seq opened is. newer_none seq opened (sym (remainder_is seq.0 opened.0 0 is));
  same_when = λ seq opened is s-low s-high o-low o-high.
      remainder_none seq.0 opened.0
      (record { first = s-low; last = s-high })
      (record { first = o-low; last = o-high })
      (sym (remainder_is seq.0 opened.0 0 is));
}
