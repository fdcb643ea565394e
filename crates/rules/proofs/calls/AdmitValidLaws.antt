-- What an admitted PDU makes of its sender's record is within its limits. Assumes nothing.
use Rattle.std.specs.Prelude.{◌≡◌, refl, ◌≢◌, true, false, ◌&&◌, ℕ, ◌+◌, ◌-◌, ◌^◌, ◌<◌, leb, ltb}
use Rattle.std.proofs.Common.{sym, ◌∙◌, arith, pow_pos}
use Rattle.std.proofs.Math.Logic.{⊎_elim}
use Rattle.std.proofs.lemmas.Bool.{false≢true}
use Rattle.std.proofs.Math.Numerals.{add-one}
use Rattle.std.specs.Int.Count.{ones}
use Rattle.std.proofs.Math.Dec.{eqb}
use borrow.Author.Tests.{eqb-true, eqb-false, lt-ltb}
use Rattle.octets.specs.Split.{true_or_false, cond_case, both, and_left, and_right, or_right}
use Rattle.ring.specs.Check.{is_unchecked}
use Rattle.ring.specs.Ring.{M, is_number}
use Rattle.header.specs.declared.Head.{Head}
use Rattle.header.specs.Codes.{is_user}
use Rattle.cut.specs.Possible.{unit, message_length}
use Rattle.cut.proofs.PossibleLaws.{possible_facts, possible_several, several_of}
use Rattle.map.specs.Map.{full_map, piece_bit}
use Rattle.map.proofs.MapLaws.{bit_zero, set_below, holds_not}
use Rattle.state.specs.declared.Last.{Last}
use Rattle.state.specs.declared.Sender.{Sender}
use Rattle.rules.specs.calls.Admit.{rejoins, same_cut, verdict_of, map_after, kept_after, fills, last_by, closed, message_after, opened, sender_after}
use Rattle.rules.proofs.calls.AdmitLaws.{Admitted, rejoins_open, map_adds, map_one_more, fills_full}
use Rattle.state.specs.Limits.{last_within}
use Rattle.state.proofs.WithinLaws.{MessageWithin, message_facts, message_of_lem, held_most, SenderWithin, Stays}

-- A number that 13 lets pass is within the limits of a last number, under any version.
number_last : (v n : ℕ) → is_number n ≡ true → last_within (record { version = record { 0 = v }; number = record { 0 = n } }) ≡ true
unfolding last_within
number_last v n e = both (leb n M) _ (and_right (leb 1 n) (leb n M) e) (or_right (eqb v 0) (ltb 0 n) (and_left (leb 1 n) (leb n M) e))

module _ (n1 clock : ℕ) (s : Sender) (h : Head) (a : Admitted n1 s h) where
  same_tbn : rejoins s h ≡ true → s.message.tbn ≡ h.cut.tbn
  unfolding same_cut
  same_tbn e =
      let tcd = eqb s.message.tcd h.given.tcd in
      let n = eqb s.message.n (message_length h.cut) in
      let tbn = eqb s.message.tbn h.cut.tbn in
      let u = eqb s.message.u (unit h.cut) in
      eqb-true s.message.tbn h.cut.tbn (and_right (tcd && n) tbn (and_left (tcd && n && tbn) u (a.same_cut_lem e)))

  -- The map is not empty,
  map_some : 0 < map_after s h
  map_some = rw (map_adds n1 s h a) (omega (arith, pow_pos (h.cut.cbn - 1)))

  -- and nothing is "marked past TBN".
  map_most : SenderWithin clock s → map_after s h < 2 ^ h.cut.tbn
  map_most f =
      let p = possible_facts h.cut a.cut_possible in
      let t = h.cut.tbn in
      let c = h.cut.cbn in
      rw (map_adds n1 s h a) (cond_case (λ (m : ℕ). m + piece_bit c < 2 ^ t) (rejoins s h) s.message.map 0
      (λ e.
      let o = message_facts clock s.message (f.message (rejoins_open s h e)) in
      let l : s.message.map < full_map t = rw (same_tbn e) at o.not_full in
      set_below t (c - 1) s.message.map (omega arith) (omega arith) (holds_not s.message.map c (a.new_piece e)))
      (λ _. set_below t (c - 1) 0 (omega arith) (pow_pos t) (bit_zero (c - 1))))

  -- "How many pieces are held is the count of ones in the map", and as many are kept.
  pub kept_ones : SenderWithin clock s → kept_after s h ≡ ones (map_after s h)
  unfolding kept_after
  kept_ones f = ⊎_elim
      (λ (r : rejoins s h ≡ true).
      let m = s.message in
      let o = message_facts clock m (f.message (rejoins_open s h r)) in
      rw (map_one_more n1 s h a, r, lt-ltb m.held 255 (omega (arith, held_most clock m o)), o.held, add-one (ones m.map)))
      (λ (r : rejoins s h ≡ false). rw (map_one_more n1 s h a, r) (unfold ones in refl))
      (true_or_false (rejoins s h))

  module _ (number : is_number h.given.number.0 ≡ true) (code : is_user h.given.tcd ≡ true) where
    -- One piece always fills the map, so a message that stays open has several.
    open_within_lem : SenderWithin clock s → fills s h ≡ false → MessageWithin clock (message_after clock s h)
    open_within_lem f e =
        let t = h.cut.tbn in
        let not_full = eqb-false (map_after s h) (full_map t) (sym (fills_full s h) ∙ e) in
        let several : t ≢ 1 = λ z.
        let two : 2 ^ t ≡ 2 = rw z in
        not_full (omega (arith, map_some, map_most f)) in
        record {
          number = number;
          code = code;
          cut = several_of (message_length h.cut) t (unit h.cut) (possible_several h.cut a.cut_possible several);
          not_empty = map_some;
          not_full = omega (arith, map_most f);
          held = kept_ones f;
          stamp = omega arith;
        }

    last_within_lem : SenderWithin clock s → last_within (last_by (verdict_of n1 s h) s h) ≡ true
    last_within_lem f = cond_case (λ (l : Last). last_within l ≡ true) (is_unchecked (verdict_of n1 s h)) s.last _
        (λ _. f.last)
        (λ _. number_last h.given.version.0 h.given.number.0 number)

    pub after_stays : Stays clock clock s (sender_after n1 clock s h)
    unfolding sender_after
    after_stays = cond_case (Stays clock clock s) (fills s h) (closed s (last_by (verdict_of n1 s h) s h)) (opened s (message_after clock s h))
        (λ _. record {
          address = refl;
          within = λ f. record { address = f.address; last = last_within_lem f; message = λ z. absurd (false≢true z); heard = f.heard };
        })
        (λ e. record {
          address = refl;
          within = λ f. record {
            address = f.address;
            last = f.last;
            message = λ _. message_of_lem clock (message_after clock s h) (open_within_lem f e);
            heard = f.heard;
          };
        })
