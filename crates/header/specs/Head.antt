-- What a header says, and the 64 octets of one (5.1, Table 7; byte order by 5.1 and E.1).
use Rattle.std.specs.Prelude.{Bool, not, cond, ◌&&◌, ◌||◌, List, ◌++◌, ℕ, eqb, leb, ltb, length, drop}
use Rattle.octets.specs.Number.{number}
use Rattle.header.specs.declared.Given.{Given}
use Rattle.header.specs.declared.Cut.{Cut}
use Rattle.header.specs.declared.Head.{Head}
use Rattle.header.specs.Codes.{is_mode, is_pri}
use Rattle.header.specs.Layout.{layout}
use Rattle.header.specs.Places.{Field, place, header_size, slots}
use Rattle.header.specs.Places.Field.{h_type, ml, domain, data_field, node, da, v_seq, seq, m_ctl, inq_id, tcd, ver, gtid, mode, pver, pri, cbn, tbn, bsize, fui}

-- The number at a field's place.
abbrev pub value_at : List ℕ → Field → ℕ
value_at s f = number (place f).1 s (place f).0

-- "Specify "NUXM" in ASCII"
abbrev pub nuxm : ℕ
nuxm = 0x4e55584d

abbrev pub given_of : List ℕ → Given
given_of s = record {
  field = record { 0 = value_at s data_field };
  node = record { 0 = value_at s node };
  da = value_at s da;
  version = record { 0 = value_at s v_seq };
  number = record { 0 = value_at s seq };
  mctl = value_at s m_ctl;
  tcd = value_at s tcd;
  mode = value_at s mode;
  pri = value_at s pri;
}

abbrev pub cut_of : List ℕ → Cut
cut_of s = record { ml = value_at s ml; bsize = value_at s bsize; cbn = value_at s cbn; tbn = value_at s tbn }

-- The header that a packet begins with. An octet past its end counts as 0.
unfoldable pub head_of : List ℕ → Head
head_of s = record { given = given_of s; cut = cut_of s }

-- The number of each field: Table 7's fixed ones, and the others as given.
abbrev pub value : Head → Field → ℕ
value h h_type = nuxm
value h ml = h.cut.ml
value h domain = 0
value h data_field = h.given.field.0
value h node = h.given.node.0
value h da = h.given.da
value h v_seq = h.given.version.0
value h seq = h.given.number.0
value h m_ctl = h.given.mctl
value h inq_id = 0
value h tcd = h.given.tcd
value h ver = 0
value h gtid = 0
value h mode = h.given.mode
value h pver = 1
value h pri = h.given.pri
value h cbn = h.cut.cbn
value h tbn = h.cut.tbn
value h bsize = h.cut.bsize
value h fui = 0

-- The 64 octets.
unfoldable pub header : Head → List ℕ
header h = layout header_size (slots (value h))

-- A buffer with the header written at its front. One that is shorter than a header stays.
unfoldable pub headed : List ℕ → Head → List ℕ
headed s h = cond (leb header_size (length s)) (header h ++ drop header_size s) s

-- Whether every field that Table 7 fixes holds what it fixes.
unfoldable pub is_fixed : List ℕ → Bool
is_fixed s =
    eqb (value_at s h_type) nuxm && eqb (value_at s domain) 0 && eqb (value_at s inq_id) 0 && eqb (value_at s ver) 0
    && eqb (value_at s gtid) 0 && eqb (value_at s pver) 1 && eqb (value_at s fui) 0

-- ---- what every PDU is judged by

-- "12: PDU too short …, too long …, or length unlike BSIZE", of a PDU of k octets.
abbrev pub length_outside : ℕ → ℕ → ℕ → Head → Bool
length_outside least most k h = ltb k least || ltb most k || not (eqb k h.cut.bsize)

-- "13: a fixed field of 5.1, PRI, MODE, … out of range"
abbrev pub common_within : List ℕ → Head → Bool
common_within packet h = is_fixed packet && is_pri h.given.pri && is_mode h.given.mode
