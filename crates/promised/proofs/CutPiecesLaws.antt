-- What our cutter writes are pieces as `Delivery` means them: "its pieces, cut by the rules". Assumes nothing.
use Rattle.std.specs.Prelude.{ℕ, ◌+◌, ◌≤◌, ◌≡◌, false, ◌&&◌, leb, length, drop}
use Rattle.std.proofs.Math.Path.{refl}
use Rattle.std.proofs.Math.Bool.{true}
use mathlib.Core.List.{List, [], append-nil}
use Rattle.std.proofs.Common.{arith}
use Rattle.std.proofs.Math.Seq.{drop_at}
use borrow.Author.Tests.{eq-eqb, le-ltb}
use Rattle.octets.specs.Split.{and_left, and_right}
use Rattle.ring.specs.Ring.{is_number}
use Rattle.header.specs.declared.Given.{Given}
use Rattle.header.specs.Codes.{is_data_field, is_node, is_user, is_mode, is_pri}
use Rattle.header.specs.Head.{header, head_of, is_fixed}
use Rattle.header.proofs.HeadLaws.{length_header}
use Rattle.header.specs.Places.{header_size}
use Rattle.cut.specs.Cutter.{Words, head_for, pdu, given_within, piece_within, limits_within, cuts}
use Rattle.cut.proofs.CutterLaws.{Within, within_short, length_pdu}
use Rattle.cut.specs.Pieces.{piece_length, piece, most_unit}
use Rattle.cut.proofs.ReadLaws.{cuts_within, pdu_head, pdu_fixed}
use Rattle.promised.specs.Judged.{is_from}
use Rattle.promised.proofs.JudgedLaws.{in_order_is}
use Rattle.promised.specs.Delivery.{sent_by, PieceOf}
use Rattle.rules.specs.calls.Message.{length_wrong, head_within, most_pdu}

module _ (g : Given) (octets : List ℕ) (u c room : ℕ) (yes : cuts g octets u c room ≡ true) (words : Words g) where
  abbrev packet : List ℕ
  packet = pdu g octets u c

  within : Within (length octets) u c
  within = cuts_within g octets u c room yes

  head_is : head_of packet ≡ head_for g octets u c
  head_is = rw append-nil at (pdu_head g octets u c room yes [] words)

  -- 12 does not apply: "64 … 1,460", and the length is BSIZE.
  length_right : length_wrong (length packet) (head_for g octets u c) ≡ false
  length_right =
      let k = piece_length (length octets) u c in
      let short : k ≤ most_unit = within_short (length octets) u c within in
      let same : header_size + k ≡ k + header_size = omega arith in
      rw (
        length_pdu g octets u c within,
        le-ltb (header_size + k) header_size (omega arith),
        le-ltb most_pdu (header_size + k) (omega arith),
        eq-eqb (header_size + k) (k + header_size) same,
      )

  -- Nor does 13: the header values are within the cutter's limits.
  head_within_lem : head_within packet (head_for g octets u c) ≡ true
  unfolding head_within cuts given_within
  head_within_lem =
      let a = is_data_field g.field.0 && is_node g.node.0 in
      let d = is_number g.number.0 in
      let f = is_user g.tcd in
      let h = is_mode g.mode in
      let k = is_pri g.pri in
      let limits = and_left (limits_within g (length octets) u c) (leb (header_size + piece_length (length octets) u c) room) yes in
      let e5 = and_left (given_within g) (piece_within (length octets) u c) limits in
      let e4 = and_left (a && d && f && h) k e5 in
      let e3 = and_left (a && d && f) h e4 in
      let e2 = and_left (a && d) f e3 in
      let fixed : is_fixed packet ≡ true = rw append-nil at (pdu_fixed g octets u c room yes []) in
      rw (fixed, and_right (a && d && f && h) k e5, and_right (a && d && f) h e4, and_right (a && d) f e3, and_right a d e2)

  from_sender : is_from (sent_by g octets u).address packet ≡ true
  unfolding is_from
  from_sender = rw (in_order_is packet, head_is, length_right, head_within_lem, eq-eqb g.field.0 g.field.0 refl, eq-eqb g.node.0 g.node.0 refl)

  behind : drop header_size packet ≡ piece octets u c
  unfolding pdu
  behind = drop_at (header (head_for g octets u c)) (piece octets u c) header_size (length_header (head_for g octets u c))

  pub cuts_piece : PieceOf (sent_by g octets u) c (pdu g octets u c)
  cuts_piece = record {
    numbered = (within.first, within.last);
    from = from_sender;
    version = rw head_is;
    number = rw head_is;
    code = rw head_is;
    mode = rw head_is;
    cut = rw head_is;
    octets = behind;
  }
