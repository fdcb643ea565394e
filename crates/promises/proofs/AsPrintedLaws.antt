-- The cutter writes, as 01 prints it. Assumes nothing.
use Rattle.std.specs.Prelude.{ℕ, ◌+◌, ◌≤◌, ◌≡◌, refl, Bool, true, false, cond, List, ◌++◌, Result, Ok, Err, drop}
use Rattle.std.proofs.Math.Path.{sym, ap}
use Rattle.std.proofs.Common.{◌∙◌}
use native.Mathlib.Omega.{arith}
use Rattle.std.proofs.Math.ListN.{length}
use Rattle.octets.specs.Run.{run, laid}
use Rattle.octets.proofs.RunLaws.{laid_fits, laid_drop, length_laid}
use Rattle.refusal.specs.declared.Refusal.{Refusal}
use Rattle.refusal.specs.declared.Refusal.TheVariants.{Writing}
use Rattle.header.specs.declared.Given.{Given}
use Rattle.header.specs.declared.Head.{Head}
use Rattle.header.specs.Head.{head_of, is_fixed}
use Rattle.cut.specs.Cutter.{Words, head_for, pdu, cuts, cutter_answer, cutter_told}
use Rattle.cut.proofs.CutterLaws.{Within, length_pdu, cut_possible, cutter_written}
use Rattle.cut.specs.Pieces.{pieces, piece_length, piece}
use Rattle.cut.specs.Possible.{possible}
use Rattle.cut.proofs.ReadLaws.{cuts_within, cuts_room, pdu_head, pdu_fixed, pdu_piece}
use Rattle.promises.specs.Course.{CutterMeets}
use Rattle.cut.proofs.PrintedLaws.{carries_is, limits_cut, given_limits, cuts_tests}
use Rattle.promises.specs.AsPrinted.{Writes, CuttingAsPrinted}

module _ (g : Given) (m : List ℕ) (u c : ℕ) (buffer : List ℕ) (r : Result ℕ Refusal) (left : List ℕ) (meets : CutterMeets g m u c buffer r left) where
  abbrev n : ℕ
  n = length m

  -- It wrote,
  module _ (yes : cuts g m u c (length buffer) ≡ true) (words : Words g) (p : ℕ) (own : p ≡ piece_length n u c) where
    within : Within n u c
    within = cuts_within g m u c (length buffer) yes

    whole : List ℕ
    whole = pdu g m u c

    long : length whole ≡ 64 + p
    unfolding whole
    long = length_pdu g m u c within ∙ omega arith

    fits : 0 + length whole ≤ length buffer
    fits = omega (arith, long, cuts_room g m u c (length buffer) yes)

    is_laid : left ≡ laid buffer 0 whole
    unfolding whole
    is_laid = meets.written ∙ sym (cutter_written g m u c buffer yes).1

    tail : List ℕ
    tail = drop (0 + length whole) buffer

    left_is : left ≡ whole ++ tail
    unfolding tail
    left_is = is_laid ∙ laid_fits buffer 0 whole fits

    head_is : head_of left ≡ head_for g m u c
    unfolding whole
    head_is = ap head_of left_is ∙ pdu_head g m u c (length buffer) yes tail words

    did_write : Writes g m u (pieces n u) c p buffer r left
    unfolding whole run piece
    did_write = record {
      answer = ap cutter_told (meets.answered ∙ sym (cutter_written g m u c buffer yes).0)
          ∙ ap (λ (k : ℕ). record { number = 0; length = 64 + k }) (sym own);
      head = head_is
          ∙ ap (λ (k : ℕ). record { given = g; cut = record { ml = n + 64; bsize = k; cbn = c; tbn = pieces n u } }) (omega arith);
      fixed = ap is_fixed left_is ∙ pdu_fixed g m u c (length buffer) yes tail;
      cut = ap (λ (h : Head). possible h.cut) head_is ∙ cut_possible n u c within;
      piece = rw (own, left_is) (pdu_piece g m u c (length buffer) yes tail);
      behind =
          let e : 0 + length whole ≡ 64 + p = omega (arith, long) in
          rw e at (ap (drop (0 + length whole)) is_laid ∙ laid_drop buffer 0 whole fits);
      room = ap length is_laid ∙ length_laid buffer 0 whole;
    }

number_0 : (b : Bool) (k : ℕ) → (cutter_told (cond {A = Result ℕ Refusal} b (Ok k) (Err Writing))).number ≡ 0 → b ≡ true
number_0 true k e = refl
number_0 false k e = absurd (omega (arith, e))

pub cutting_as_printed : CuttingAsPrinted
unfolding cutter_answer
cutting_as_printed = record {
  writes = λ g m u c buffer r left meets l words p k room.
      let own = carries_is (length m) u c p (omega (arith, l.unit.0)) l.piece.0 l.piece.1 k in
      did_write g m u c buffer r left meets (limits_cut g m u c (length buffer) l (omega arith)) words p own;
  only = λ g m u c buffer r left meets e.
      let yes = number_0 (cuts g m u c (length buffer)) (64 + piece_length (length m) u c) (sym (ap (λ (x : Result ℕ Refusal). (cutter_told x).number) meets.answered) ∙ e) in
      let w = cuts_within g m u c (length buffer) yes in (
        given_limits g (length m) u c (cuts_tests g m u c (length buffer) yes) w,
        λ p k. omega (arith, carries_is (length m) u c p (omega (arith, w.low)) w.first w.last k, cuts_room g m u c (length buffer) yes),
      );
}
