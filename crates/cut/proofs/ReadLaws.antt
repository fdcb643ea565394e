-- What the cutter wrote, read by a receiver: the same header, and the piece behind it. Assumes nothing.
use Rattle.std.specs.Prelude.{◌≡◌, true, ◌&&◌, ℕ, ◌+◌, ◌^◌, ◌≤◌, ◌<◌, leb, length, drop}
use Rattle.std.proofs.Math.Path.{ap}
use Rattle.std.proofs.Common.{◌∙◌, arith, drop_at}
use mathlib.Core.List.{List, ◌++◌, append_assoc}
use Rattle.std.proofs.Math.ListN.{take}
use Rattle.std.proofs.Math.Seq.{take_at}
use borrow.Author.Tests.{leb-true}
use Rattle.octets.specs.Split.{and_left, and_right}
use Rattle.octets.specs.Run.{run}
use Rattle.ring.specs.Ring.{OnRing, is_number}
use Rattle.ring.proofs.RingLaws.{on_ring}
use Rattle.header.specs.declared.Cut.{Cut}
use Rattle.header.specs.declared.Given.{Given}
use Rattle.header.specs.Codes.{is_data_field, is_node, is_user, is_mode, is_pri}
use Rattle.header.proofs.CodesLaws.{user_code}
use Rattle.header.specs.Head.{value, header, head_of, is_fixed}
use Rattle.header.proofs.HeadLaws.{Fits, read_back, written_fixed, length_header}
use Rattle.header.specs.Places.{Field, place, header_size}
use Rattle.header.specs.Places.Field.{h_type, ml, domain, data_field, node, da, v_seq, seq, m_ctl, inq_id, tcd, ver, gtid, mode, pver, pri, cbn, tbn, bsize, fui}
use Rattle.cut.specs.Pieces.{piece_length, piece}
use Rattle.cut.specs.Cutter.{Words, cut_for, head_for, pdu, given_within, piece_within, limits_within, cuts}
use Rattle.cut.proofs.CutterLaws.{Within, within_facts, within_short, within_count, length_piece}

-- The header values within their limits.
pub record GivenWithin (g : Given) : Type 0 where
  pub field_most : g.field.0 ≤ 255
  pub node_most : g.node.0 ≤ 4095
  pub number_on : OnRing g.number.0
  pub tcd_most : g.tcd ≤ 59999
  pub mode_most : g.mode ≤ 1
  pub pri_most : g.pri ≤ 7

pub given_facts : (g : Given) → given_within g ≡ true → GivenWithin g
unfolding given_within
given_facts g e =
    let a = is_data_field g.field.0 in
    let b = is_node g.node.0 in
    let d = is_number g.number.0 in
    let f = is_user g.tcd in
    let h = is_mode g.mode in
    let k = is_pri g.pri in
    let e5 = and_left (a && b && d && f && h) k e in
    let e4 = and_left (a && b && d && f) h e5 in
    let e3 = and_left (a && b && d) f e4 in
    let e2 = and_left (a && b) d e3 in
    record {
      field_most = leb-true g.field.0 255 (and_right (leb 1 g.field.0) (leb g.field.0 255) (and_left a b e2));
      node_most = leb-true g.node.0 4095 (and_right (leb 1 g.node.0) (leb g.node.0 4095) (and_right a b e2));
      number_on = on_ring g.number.0 (and_right (a && b) d e3);
      tcd_most = (user_code g.tcd (and_right (a && b && d) f e4)).1;
      mode_most = leb-true g.mode 1 (and_right (a && b && d && f) h e5);
      pri_most = leb-true g.pri 7 (and_right (a && b && d && f && h) k e);
    }

-- Header values within their limits fit their places, with any cut that does.
pub given_fits : (g : Given) → GivenWithin g → Words g → (k : Cut) → k.ml < 2 ^ 32 → k.cbn < 256 → k.tbn < 256 → k.bsize < 65536 → Fits (record { given = g; cut = k })
given_fits g f words k long own all short = record { each = fit }
  where
    fit : (i : Field) → value (record { given = g; cut = k }) i < 256 ^ (place i).1
    fit h_type = omega arith
    fit ml = long
    fit domain = omega arith
    fit data_field = omega (arith, f.field_most)
    fit node = omega (arith, f.node_most)
    fit da = words.da_fits
    fit v_seq = words.version_fits
    fit seq = omega (arith, f.number_on.last)
    fit m_ctl = words.mctl_fits
    fit inq_id = omega arith
    fit tcd = omega (arith, f.tcd_most)
    fit ver = omega arith
    fit gtid = omega arith
    fit mode = omega (arith, f.mode_most)
    fit pver = omega arith
    fit pri = omega (arith, f.pri_most)
    fit cbn = own
    fit tbn = all
    fit bsize = short
    fit fui = omega arith

module _ (g : Given) (m : List ℕ) (u c room : ℕ) (yes : cuts g m u c room ≡ true) where
  limits : limits_within g (length m) u c ≡ true
  unfolding cuts
  limits = and_left (limits_within g (length m) u c) (leb (header_size + piece_length (length m) u c) room) yes

  pub cuts_given : GivenWithin g
  cuts_given = given_facts g (and_left (given_within g) (piece_within (length m) u c) limits)

  pub cuts_within : Within (length m) u c
  cuts_within = within_facts (length m) u c (and_right (given_within g) (piece_within (length m) u c) limits)

  pub cuts_room : header_size + piece_length (length m) u c ≤ room
  unfolding cuts
  cuts_room = leb-true (header_size + piece_length (length m) u c) room (and_right (limits_within g (length m) u c) (leb (header_size + piece_length (length m) u c) room) yes)

  head_fits : Words g → Fits (head_for g m u c)
  head_fits words =
      let w = cuts_within in
      given_fits g cuts_given words (cut_for (length m) u c) (omega (arith, w.big)) (omega (arith, w.last, within_count (length m) u c w))
      (omega (arith, within_count (length m) u c w)) (omega (arith, within_short (length m) u c w))

  -- The header reads back, whatever stands behind the PDU,
  pub pdu_head : (t : List ℕ) → Words g → head_of (pdu g m u c ++ t) ≡ head_for g m u c
  unfolding pdu
  pdu_head t words =
      ap head_of (append_assoc (header (head_for g m u c)) (piece m u c) t) ∙ read_back (head_for g m u c) (piece m u c ++ t) (head_fits words)

  -- holds what Table 7 fixes,
  pub pdu_fixed : (t : List ℕ) → is_fixed (pdu g m u c ++ t) ≡ true
  unfolding pdu
  pdu_fixed t =
      ap is_fixed (append_assoc (header (head_for g m u c)) (piece m u c) t) ∙ written_fixed (head_for g m u c) (piece m u c ++ t)

  -- and behind it stands the piece.
  pub pdu_piece : (t : List ℕ) → run header_size (piece_length (length m) u c) (pdu g m u c ++ t) ≡ piece m u c
  unfolding pdu run
  pdu_piece t =
      ap (λ (l : List ℕ). take (piece_length (length m) u c) (drop header_size l)) (append_assoc (header (head_for g m u c)) (piece m u c) t)
      ∙ ap (take (piece_length (length m) u c)) (drop_at (header (head_for g m u c)) (piece m u c ++ t) header_size (length_header (head_for g m u c)))
      ∙ take_at (piece m u c) t (piece_length (length m) u c) (length_piece m u c cuts_within)
