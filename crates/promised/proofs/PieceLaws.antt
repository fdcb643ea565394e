-- What a sender's record makes of a piece of a message that is on its way. Assumes nothing.
use Rattle.std.specs.Prelude.{ℕ, ◌+◌, ◌≤◌, ◌<◌, ◌≡◌, Bool, not, cond, ◌&&◌, List, leb, drop}
use Rattle.std.proofs.Math.Path.{sym, ap}
use Rattle.std.proofs.Common.{subst, ◌∙◌, ⊎_elim, arith, eq-eqb, leb-true}
use Rattle.std.proofs.Math.Bool.{true, false}
use Rattle.std.proofs.Math.Dec.{eqb}
use Rattle.std.proofs.Math.ListN.{length}
use Rattle.std.proofs.Math.Seq.{take_all}
use Rattle.octets.specs.Run.{run}
use Rattle.octets.specs.Split.{lt_or_le, true_or_false, both, and_left, and_right}
use Rattle.ring.specs.Check.{is_repeat, check}
use Rattle.ring.specs.Ring.{OnRing, is_number, newer}
use Rattle.ring.specs.declared.Verdict.{Verdict}
use Rattle.ring.proofs.RingLaws.{on_ring, same_version, same_number}
use Rattle.header.specs.Codes.{within as in_range}
use Rattle.header.specs.declared.Cut.{Cut}
use Rattle.header.specs.declared.Head.{Head}
use Rattle.header.specs.Head.{head_of}
use Rattle.header.specs.Places.{header_size}
use Rattle.cut.specs.Cutter.{cut_for}
use Rattle.cut.proofs.CutterLaws.{Within, length_piece, unit_same, cut_possible, cut_same}
use Rattle.cut.specs.Pieces.{most_octets, least_unit, most_unit, piece}
use Rattle.cut.proofs.PiecesLaws.{pieces_one, pieces_some, pieces_most}
use Rattle.cut.specs.Possible.{possible, message_length, own_length, unit, is_unit}
use Rattle.map.specs.Map.{holds, piece_bit, full_map}
use Rattle.map.proofs.MapLaws.{holds_zero, marked_adds}
use Rattle.state.specs.declared.Last.{Last}
use Rattle.state.specs.declared.Message.{Message}
use Rattle.state.specs.declared.Sender.{Sender}
use Rattle.rules.specs.calls.Admit.{rejoins, same_cut, verdict_of, sender_rows, map_after, fills}
use Rattle.promised.proofs.JoinLaws.{kin_in}
use Rattle.promised.specs.Judged.{has_length, has_header, is_message, sent_from, in_order, is_from}
use Rattle.promised.specs.Delivery.{Sent, count, Numbered, PieceOf}
use Rattle.rules.proofs.calls.AdmitLaws.{fills_full}
use Rattle.rules.specs.calls.First.{first}
use Rattle.promised.specs.Join.{Kin, kin_of, number_in, behind}

-- ---- the pieces of one message

-- The message is cut by the rules.
pub record Cuttable (m : Sent) : Type 0 where
  pub most : length m.octets ≤ most_octets
  pub wide : is_unit m.u ≡ true

-- What all of its pieces have alike.
abbrev pub kin_for : Sent → Kin
kin_for m = record {
  version = m.version.0;
  number = m.number.0;
  tcd = m.code;
  n = length m.octets;
  tbn = count m;
  u = unit (cut_for (length m.octets) m.u 1);
}

module _ (m : Sent) (k : Cuttable m) where
  abbrev n : ℕ
  n = length m.octets

  pub least : least_unit ≤ m.u
  least = leb-true least_unit m.u (and_left (leb least_unit m.u) (leb m.u most_unit) k.wide)

  within : (c : ℕ) → Numbered m c → Within n m.u c
  within c numbered = record {
    big = k.most;
    low = least;
    high = leb-true m.u most_unit (and_right (leb least_unit m.u) (leb m.u most_unit) k.wide);
    first = numbered.0;
    last = numbered.1;
  }

  pub first_numbered : Numbered m 1
  first_numbered = (omega arith, pieces_some n m.u (omega (arith, least)))

  -- The joiner finds one u for all of them.
  unit_alike : (c : ℕ) → Numbered m c → unit (cut_for n m.u c) ≡ unit (cut_for n m.u 1)
  unit_alike c numbered = ⊎_elim
      (λ (h : m.u < n). unit_same n m.u c (within c numbered) h ∙ sym (unit_same n m.u 1 (within 1 first_numbered) h))
      (λ (h : n ≤ m.u). unfold unit in rw (pieces_one n m.u h))
      (lt_or_le m.u n)

  module _ (c : ℕ) (p : List ℕ) (is : PieceOf m c p) where
    abbrev its : Within n m.u c
    its = within c is.numbered

    pub piece_possible : possible (head_of p).cut ≡ true
    piece_possible = subst (λ (x : Cut). possible x ≡ true) (sym is.cut) (cut_possible n m.u c its)

    pub piece_number : number_in p ≡ c
    piece_number = ap (λ (x : Cut). x.cbn) is.cut

    pub piece_kin : kin_of p ≡ kin_for m
    piece_kin =
        let n_is = ap message_length is.cut ∙ (cut_same n m.u c its).0 in
        let tbn_is = ap (λ (x : Cut). x.tbn) is.cut in
        let u-is = ap unit is.cut ∙ unit_alike c is.numbered in
        λ j. record { version = is.version j; number = is.number j; tcd = is.code j; n = n_is j; tbn = tbn_is j; u = u-is j }

    pub piece_octets : behind p ≡ piece m.octets m.u c
    unfolding run
    piece_octets =
        let own : own_length (head_of p).cut ≡ length (drop header_size p)
        = ap own_length is.cut ∙ (cut_same n m.u c its).2 ∙ sym (length_piece m.octets m.u c its) ∙ ap length (sym is.octets) in
        take_all (own_length (head_of p).cut) (drop header_size p) (omega (arith, own)) ∙ is.octets

    pub piece_on_ring : OnRing m.number.0
    unfolding is_from in_order
    piece_on_ring =
        let h = head_of p in
        let ordered = and_left (in_order p) (sent_from m.address p) is.from in
        let head = and_right (has_length 64 1460 p) (is_message p) ordered in
        on_ring m.number.0 (subst (λ (x : ℕ). is_number x ≡ true) is.number
        (and_right (has_header p && in_range 1 59999 h.given.tcd) (is_number h.given.number.0) head))

-- ---- a sender's record and the message

-- The message is the one that is open.
unfoldable pub is_open : Sent → Sender → Bool
is_open m s = s.«open» && eqb s.message.version.0 m.version.0 && eqb s.message.number.0 m.number.0

-- What the number check says of it.
abbrev pub verdict_by : ℕ → Sent → Last → Verdict
verdict_by n1 m l = check n1 l.version l.number m.version m.number

-- The pieces of the message that a record holds.
abbrev pub map_of : Sent → Sender → ℕ
map_of m s = cond (is_open m s) s.message.map 0

-- A newer number of its version is open.
abbrev pub newer_open : Sent → Sender → Bool
newer_open m s = s.«open» && eqb s.message.version.0 m.version.0 && newer s.message.number m.number

same_cut_lem : (m : Message) (p : List ℕ) → kin_in m ≡ kin_of p → same_cut m (head_of p) ≡ true
unfolding same_cut
same_cut_lem m p e =
    let h = head_of p in
    let a = eqb m.tcd h.given.tcd in
    let b = eqb m.n (message_length h.cut) in
    let c = eqb m.tbn h.cut.tbn in
    both (a && b && c) (eqb m.u (unit h.cut))
    (both (a && b) c
    (both a b (eq-eqb m.tcd h.given.tcd (ap (λ (k : Kin). k.tcd) e)) (eq-eqb m.n (message_length h.cut) (ap (λ (k : Kin). k.n) e)))
    (eq-eqb m.tbn h.cut.tbn (ap (λ (k : Kin). k.tbn) e)))
    (eq-eqb m.u (unit h.cut) (ap (λ (k : Kin). k.u) e))

module _ (test : Bool) (n1 : ℕ) (m : Sent) (k : Cuttable m) (admits : eqb m.mode 1 && not test ≡ false) (s : Sender) (c : ℕ) (p : List ℕ) (is : PieceOf m c p) where
  abbrev h : Head
  h = head_of p

  pub rejoins_is : rejoins s h ≡ is_open m s
  unfolding rejoins is_open
  rejoins_is = rw (is.version, is.number)

  pub verdict_is : verdict_of n1 s h ≡ verdict_by n1 m s.last
  verdict_is = rw (same_version is.version, same_number is.number)

  number_is : number_in p ≡ c
  number_is = piece_number m k c p is

  fits_mode : eqb h.given.mode 1 && not test ≡ false
  fits_mode = rw is.mode admits

  -- 17, once it was delivered.
  pub number_again : is_repeat (verdict_by n1 m s.last) ≡ true → first (sender_rows test n1 s h) ≡ 17
  unfolding sender_rows first
  number_again e = rw (fits_mode, piece_possible m k c p is, verdict_is, e)

  -- Before that, 20 where the piece is held, and no number where it is not.
  pub number_new : is_repeat (verdict_by n1 m s.last) ≡ false → newer_open m s ≡ false → (is_open m s ≡ true → kin_in s.message ≡ kin_for m)
      → first (sender_rows test n1 s h) ≡ cond (holds (map_of m s) c) 20 0
  unfolding sender_rows first
  number_new new none kin =
      let late : s.«open» && eqb s.message.version.0 h.given.version.0 && newer s.message.number h.given.number ≡ false
      = rw (is.version, same_number is.number) none in
      rw (fits_mode, piece_possible m k c p is, verdict_is, new, late, rejoins_is) (⊎_elim
      (λ (o : is_open m s ≡ true).
      let same : same_cut s.message h ≡ true = same_cut_lem s.message p (kin o ∙ sym (piece_kin m k c p is)) in
      rw (o, same, number_is))
      (λ (o : is_open m s ≡ false). rw (o, holds_zero c))
      (true_or_false (is_open m s)))

  pub map_is : holds (map_of m s) c ≡ false → map_after s h ≡ map_of m s + piece_bit c
  unfolding map_after
  map_is clear =
      let most : count m ≤ 64 = pieces_most (length m.octets) m.u k.most (least m k) in
      rw (rejoins_is, number_is) (marked_adds (map_of m s) c (omega (arith, is.numbered.1)) clear)

  pub fills_is : holds (map_of m s) c ≡ false → fills s h ≡ eqb (map_of m s + piece_bit c) (full_map (count m))
  fills_is clear = fills_full s h ∙ rw (map_is clear, ap (λ (x : Kin). x.tbn) (piece_kin m k c p is))
