-- Laws of the header: what was written reads back, and is fixed where Table 7 fixes it; what is fixed there is the
-- header of what is read. Assumes nothing.
use Rattle.std.specs.Prelude.{◌≡◌, refl, true, ◌&&◌, List, ◌++◌, ℕ, ◌+◌, ◌^◌, ◌≤◌, ◌<◌, length, take, drop, eqb}
use Rattle.std.proofs.Common.{sym, ap, ◌∙◌, append_assoc, zero-add, arith, length-append, length-drop, take_at, drop-drop, eqb-true, le-leb}
use Rattle.std.proofs.Math.Seq.{drop-append-add}
use Rattle.std.proofs.lemmas.Bool.{lt-leb}
use Rattle.octets.specs.Run.{laid}
use Rattle.octets.proofs.RunLaws.{laid_fits}
use Rattle.octets.proofs.NumberLaws.{number_bound}
use Rattle.octets.specs.Number.{Octets}
use Rattle.octets.specs.Split.{and_left, and_right}
use Rattle.header.specs.declared.Head.{Head}
use Rattle.header.specs.Layout.{slot_of}
use Rattle.header.proofs.LayoutLaws.{In, nth_in, fill_append, fill_layout, layout_slot, length_layout, none, more, layout_read}
use Rattle.header.specs.Places.{Field, place, header_size, slots, places_apart, places_end, places_cover}
use Rattle.header.specs.Places.Field.{h_type, ml, domain, data_field, node, da, v_seq, seq, m_ctl, inq_id, tcd, ver, gtid, mode, pver, pri, cbn, tbn, bsize, fui}
use Rattle.header.specs.Head.{value_at, nuxm, value, header, head_of, headed, is_fixed}
use Rattle.header.specs.private.Filled.{fill, front_slots, middle_slots, back_slots}

pub length_header : (h : Head) → length (header h) ≡ header_size
unfolding header
length_header h = length_layout header_size (slots (value h))

-- A buffer that has no room for a header stays,
pub headed_short : (s : List ℕ) (h : Head) → length s < header_size → headed s h ≡ s
unfolding headed
headed_short s h short = rw (lt-leb header_size (length s) short)

-- and of one that has room for it all behind it.
pub headed_fits : (s : List ℕ) (h : Head) → header_size ≤ length s → headed s h ≡ header h ++ drop header_size s
unfolding headed
headed_fits s h room = rw (le-leb header_size (length s) room)

-- The parts of Table 7 written one after the other are the header.
pub filled_headed : (s : List ℕ) (h : Head) → header_size ≤ length s
    → fill (back_slots h) (fill (middle_slots h) (fill (front_slots h) s)) ≡ headed s h
unfolding header
filled_headed s h room =
    fill_append (middle_slots h) (back_slots h) (fill (front_slots h) s) ∙ fill_append (front_slots h) (middle_slots h ++ back_slots h) s
    ∙ fill_layout header_size (slots (value h)) s (places_apart (value h)) (places_end (value h)) (places_cover (value h)) room
    ∙ sym (headed_fits s h room)

-- ---- what was written reads back

-- Every field has its slot in the table.
in_table : (v : Field → ℕ) (f : Field) → In (slot_of place v f) (slots v)
in_table v h_type = nth_in 0 (slots v) (omega arith)
in_table v ml = nth_in 1 (slots v) (omega arith)
in_table v domain = nth_in 2 (slots v) (omega arith)
in_table v data_field = nth_in 3 (slots v) (omega arith)
in_table v node = nth_in 4 (slots v) (omega arith)
in_table v da = nth_in 5 (slots v) (omega arith)
in_table v v_seq = nth_in 6 (slots v) (omega arith)
in_table v seq = nth_in 7 (slots v) (omega arith)
in_table v m_ctl = nth_in 8 (slots v) (omega arith)
in_table v inq_id = nth_in 9 (slots v) (omega arith)
in_table v tcd = nth_in 10 (slots v) (omega arith)
in_table v ver = nth_in 11 (slots v) (omega arith)
in_table v gtid = nth_in 12 (slots v) (omega arith)
in_table v mode = nth_in 13 (slots v) (omega arith)
in_table v pver = nth_in 14 (slots v) (omega arith)
in_table v pri = nth_in 15 (slots v) (omega arith)
in_table v cbn = nth_in 16 (slots v) (omega arith)
in_table v tbn = nth_in 17 (slots v) (omega arith)
in_table v bsize = nth_in 18 (slots v) (omega arith)
in_table v fui = nth_in 19 (slots v) (omega arith)

-- A field's number reads back, if it fits into the field's octets, whatever stands behind the header.
pub field_back : (h : Head) (t : List ℕ) (f : Field) → value h f < 256 ^ (place f).1 → value_at (header h ++ t) f ≡ value h f
unfolding header
field_back h t f fits =
    layout_slot header_size (slot_of place (value h) f) (slots (value h)) t (in_table (value h) f) (places_apart (value h)) (places_end (value h)) fits

-- Each number fits into its field's octets.
pub record Fits (h : Head) : Type 0 where
  pub each : (f : Field) → value h f < 256 ^ (place f).1

pub read_back : (h : Head) (t : List ℕ) → Fits h → head_of (header h ++ t) ≡ h
unfolding head_of
read_back h t fits =
    let back : (f : Field) → value_at (header h ++ t) f ≡ value h f = λ f. field_back h t f (fits.each f) in
    simp (back ml, back data_field, back node, back da, back v_seq, back seq, back m_ctl, back tcd, back mode, back pri, back cbn, back tbn, back bsize)

-- A header that was read fits.
pub read_fits : (s : List ℕ) → Octets s → Fits (head_of s)
unfolding head_of
read_fits s o = record { each = fit }
  where
    fit : (f : Field) → value (head_of s) f < 256 ^ (place f).1
    fit h_type = omega arith
    fit ml = number_bound 4 s _ o
    fit domain = omega arith
    fit data_field = number_bound 1 s _ o
    fit node = number_bound 2 s _ o
    fit da = number_bound 4 s _ o
    fit v_seq = number_bound 4 s _ o
    fit seq = number_bound 4 s _ o
    fit m_ctl = number_bound 4 s _ o
    fit inq_id = omega arith
    fit tcd = number_bound 2 s _ o
    fit ver = omega arith
    fit gtid = omega arith
    fit mode = number_bound 2 s _ o
    fit pver = omega arith
    fit pri = number_bound 1 s _ o
    fit cbn = number_bound 1 s _ o
    fit tbn = number_bound 1 s _ o
    fit bsize = number_bound 2 s _ o
    fit fui = omega arith

-- A header that was written holds what Table 7 fixes.
pub written_fixed : (h : Head) (t : List ℕ) → is_fixed (header h ++ t) ≡ true
unfolding is_fixed
written_fixed h t =
    let back = field_back h t in
    simp (
      back h_type (omega arith),
      back domain (omega arith),
      back inq_id (omega arith),
      back ver (omega arith),
      back gtid (omega arith),
      back pver (omega arith),
      back fui (omega arith),
    )

-- What Table 7 fixes, each by itself.
pub record Fixed (s : List ℕ) : Type 0 where
  pub h_type_lem : value_at s h_type ≡ nuxm
  pub domain_0 : value_at s domain ≡ 0
  pub inq_id_lem : value_at s inq_id ≡ 0
  pub ver_0 : value_at s ver ≡ 0
  pub gtid_0 : value_at s gtid ≡ 0
  pub pver_1 : value_at s pver ≡ 1
  pub fui_0 : value_at s fui ≡ 0

fixed_facts : (s : List ℕ) → is_fixed s ≡ true → Fixed s
unfolding is_fixed
fixed_facts s e =
    let a = eqb (value_at s h_type) nuxm in
    let b = eqb (value_at s domain) 0 in
    let c = eqb (value_at s inq_id) 0 in
    let d = eqb (value_at s ver) 0 in
    let f = eqb (value_at s gtid) 0 in
    let g = eqb (value_at s pver) 1 in
    let h = eqb (value_at s fui) 0 in
    let e6 = and_left (a && b && c && d && f && g) h e in
    let e5 = and_left (a && b && c && d && f) g e6 in
    let e4 = and_left (a && b && c && d) f e5 in
    let e3 = and_left (a && b && c) d e4 in
    let e2 = and_left (a && b) c e3 in
    record {
      h_type_lem = eqb-true (value_at s h_type) nuxm (and_left a b e2);
      domain_0 = eqb-true (value_at s domain) 0 (and_right a b e2);
      inq_id_lem = eqb-true (value_at s inq_id) 0 (and_right (a && b) c e3);
      ver_0 = eqb-true (value_at s ver) 0 (and_right (a && b && c) d e4);
      gtid_0 = eqb-true (value_at s gtid) 0 (and_right (a && b && c && d) f e5);
      pver_1 = eqb-true (value_at s pver) 1 (and_right (a && b && c && d && f) g e6);
      fui_0 = eqb-true (value_at s fui) 0 (and_right (a && b && c && d && f && g) h e);
    }

-- A header that holds what Table 7 fixes is that of what is read from it.
pub fixed_read : (s : List ℕ) → Octets s → header_size ≤ length s → is_fixed s ≡ true → take header_size s ≡ header (head_of s)
unfolding header head_of
fixed_read s o room e =
    let f = fixed_facts s e in
    layout_read header_size (slots (value (head_of s))) s o room
    (more (sym f.h_type_lem) (more refl (more (sym f.domain_0) (more refl (more refl (more refl (more refl (more refl (more refl
    (more (sym f.inq_id_lem) (more refl (more (sym f.ver_0) (more (sym f.gtid_0) (more refl (more (sym f.pver_1)
    (more refl (more refl (more refl (more refl (more (sym f.fui_0) none))))))))))))))))))))
    (places_cover (value (head_of s)))

-- A header written at the front, and then a run laid down behind it: both together, laid down as one.
pub headed_laid : (b : List ℕ) (h : Head) (p : List ℕ) → header_size + length p ≤ length b
    → laid (headed b h) header_size p ≡ laid b 0 (header h ++ p)
headed_laid b h p room = two_runs ∙ sym one_run
  where
    wide : length (header h) ≡ header_size
    wide = length_header h

    front : headed b h ≡ header h ++ drop header_size b
    front = headed_fits b h (omega arith)

    short : header_size + length p ≤ length (header h ++ drop header_size b)
    short = rw (length-append (header h) (drop header_size b), wide, length-drop header_size b) (omega arith)

    behind : drop (header_size + length p) (header h ++ drop header_size b) ≡ drop (header_size + length p) b
    behind =
        ap (λ (k : ℕ). drop (k + length p) (header h ++ drop header_size b)) (sym wide)
        ∙ drop-append-add (header h) (drop header_size b) (length p) ∙ drop-drop (length p) header_size b

    two_runs : laid (headed b h) header_size p ≡ header h ++ (p ++ drop (header_size + length p) b)
    two_runs =
        ap (λ (l : List ℕ). laid l header_size p) front ∙ laid_fits (header h ++ drop header_size b) header_size p short
        ∙ rw (take_at (header h) (drop header_size b) header_size wide, behind)

    both : length (header h ++ p) ≡ header_size + length p
    both = length-append (header h) p ∙ rw wide

    one_run : laid b 0 (header h ++ p) ≡ header h ++ (p ++ drop (header_size + length p) b)
    one_run =
        laid_fits b 0 (header h ++ p) (rw both (omega arith))
        ∙ rw (both, zero-add (header_size + length p), append_assoc (header h) p (drop (header_size + length p) b))
