-- Headers as the papers print them: they pin the places of Places.antt by octets that no place made. Each field's
-- octets stand on a line of their own, which ends in its name, so that tools/move-places can exchange them.
use Rattle.std.specs.Prelude.{List, [], ◌∷◌, ◌++◌, ℕ, ◌^◌, ◌≤◌, ◌<◌, ◌≡◌, true, length, take, drop}
use Rattle.octets.specs.Number.{octets, Octets}
use Rattle.header.specs.declared.Head.{Head}
use Rattle.header.specs.Head.{header, head_of, headed, is_fixed}

-- ---- Table 7, for any values

-- Its rows in their order, each with its size and its number: "Specify "NUXM" in ASCII … (fixed)", "Fixed to 0 for
-- future uses", "Protocol version (Fixed to 1)", and the others as given; SA as domain, data field and node.
unfoldable pub table7 : Head → List ℕ
table7 h =
    octets 4 0x4e55584d  -- h_type
    ++ octets 4 h.cut.ml  -- ml
    ++ octets 1 0  -- domain
    ++ octets 1 h.given.field.0  -- data_field
    ++ octets 2 h.given.node.0  -- node
    ++ octets 4 h.given.da  -- da
    ++ octets 4 h.given.version.0  -- v_seq
    ++ octets 4 h.given.number.0  -- seq
    ++ octets 4 h.given.mctl  -- m_ctl
    ++ octets 12 0  -- inq_id
    ++ octets 2 h.given.tcd  -- tcd
    ++ octets 2 0  -- ver
    ++ octets 8 0  -- gtid
    ++ octets 2 h.given.mode  -- mode
    ++ octets 1 1  -- pver
    ++ octets 1 h.given.pri  -- pri
    ++ octets 1 h.cut.cbn  -- cbn
    ++ octets 1 h.cut.tbn  -- tbn
    ++ octets 2 h.cut.bsize  -- bsize
    ++ octets 4 0  -- fui

-- ---- two headers, octet for octet

-- E.3.2: "ml = 128, sa = 0x00010002, da = 0x00010001, v_seq = 0, seq = 1, m_ctl = 0x80000000, … tcd = 60003, … mode =
-- 0, … pri = 1, cbn = 1, tbn = 1, bsize = ml setting value (128)", of "Data field : 1, Local node number : 2"
abbrev pub sample_head : Head
sample_head = record {
  given = record {
    field = record { 0 = 1 };
    node = record { 0 = 2 };
    da = 0x00010001;
    version = record { 0 = 0 };
    number = record { 0 = 1 };
    mctl = 0x80000000;
    tcd = 60003;
    mode = 0;
    pri = 1;
  };
  cut = record { ml = 128; bsize = 128; cbn = 1; tbn = 1 };
}

-- and with "h_type = "NUXM", … inq_id = 0, … ver = 0, gtid = 0, … pver = 1, … fu1 = 0", its octets.
unfoldable pub sample_octets : List ℕ
sample_octets =
    0x4e ∷ 0x55 ∷ 0x58 ∷ 0x4d  -- h_type
    ∷ 0x00 ∷ 0x00 ∷ 0x00 ∷ 0x80  -- ml
    ∷ 0x00  -- domain
    ∷ 0x01  -- data_field
    ∷ 0x00 ∷ 0x02  -- node
    ∷ 0x00 ∷ 0x01 ∷ 0x00 ∷ 0x01  -- da
    ∷ 0x00 ∷ 0x00 ∷ 0x00 ∷ 0x00  -- v_seq
    ∷ 0x00 ∷ 0x00 ∷ 0x00 ∷ 0x01  -- seq
    ∷ 0x80 ∷ 0x00 ∷ 0x00 ∷ 0x00  -- m_ctl
    ∷ 0x00 ∷ 0x00 ∷ 0x00 ∷ 0x00 ∷ 0x00 ∷ 0x00 ∷ 0x00 ∷ 0x00 ∷ 0x00 ∷ 0x00 ∷ 0x00 ∷ 0x00  -- inq_id
    ∷ 0xea ∷ 0x63  -- tcd
    ∷ 0x00 ∷ 0x00  -- ver
    ∷ 0x00 ∷ 0x00 ∷ 0x00 ∷ 0x00 ∷ 0x00 ∷ 0x00 ∷ 0x00 ∷ 0x00  -- gtid
    ∷ 0x00 ∷ 0x00  -- mode
    ∷ 0x01  -- pver
    ∷ 0x01  -- pri
    ∷ 0x01  -- cbn
    ∷ 0x01  -- tbn
    ∷ 0x00 ∷ 0x80  -- bsize
    ∷ 0x00 ∷ 0x00 ∷ 0x00 ∷ 0x00  -- fui
    ∷ []

-- Figure 54, the third of "Fragmented into four packets": "SEQ 100, CBN/TBN 3/4, BSIZE 1396, ML 4564", with node 7 and
-- V_SEQ 5 of 01's listing. The caller's other values are chosen so that no two fields of one size hold the same.
abbrev pub figure_head : Head
figure_head = record {
  given = record {
    field = record { 0 = 2 };
    node = record { 0 = 7 };
    da = 0x00010002;
    version = record { 0 = 5 };
    number = record { 0 = 100 };
    mctl = 0x80000000;
    tcd = 59999;
    mode = 1;
    pri = 6;
  };
  cut = record { ml = 4564; bsize = 1396; cbn = 3; tbn = 4 };
}

unfoldable pub figure_octets : List ℕ
figure_octets =
    0x4e ∷ 0x55 ∷ 0x58 ∷ 0x4d  -- h_type
    ∷ 0x00 ∷ 0x00 ∷ 0x11 ∷ 0xd4  -- ml
    ∷ 0x00  -- domain
    ∷ 0x02  -- data_field
    ∷ 0x00 ∷ 0x07  -- node
    ∷ 0x00 ∷ 0x01 ∷ 0x00 ∷ 0x02  -- da
    ∷ 0x00 ∷ 0x00 ∷ 0x00 ∷ 0x05  -- v_seq
    ∷ 0x00 ∷ 0x00 ∷ 0x00 ∷ 0x64  -- seq
    ∷ 0x80 ∷ 0x00 ∷ 0x00 ∷ 0x00  -- m_ctl
    ∷ 0x00 ∷ 0x00 ∷ 0x00 ∷ 0x00 ∷ 0x00 ∷ 0x00 ∷ 0x00 ∷ 0x00 ∷ 0x00 ∷ 0x00 ∷ 0x00 ∷ 0x00  -- inq_id
    ∷ 0xea ∷ 0x5f  -- tcd
    ∷ 0x00 ∷ 0x00  -- ver
    ∷ 0x00 ∷ 0x00 ∷ 0x00 ∷ 0x00 ∷ 0x00 ∷ 0x00 ∷ 0x00 ∷ 0x00  -- gtid
    ∷ 0x00 ∷ 0x01  -- mode
    ∷ 0x01  -- pver
    ∷ 0x06  -- pri
    ∷ 0x03  -- cbn
    ∷ 0x04  -- tbn
    ∷ 0x05 ∷ 0x74  -- bsize
    ∷ 0x00 ∷ 0x00 ∷ 0x00 ∷ 0x00  -- fui
    ∷ []

-- ---- what is said of them

-- Each number within its size in Table 7, of 4, 2 or 1 octets.
pub record Sized (h : Head) : Type 0 where
  pub ml : h.cut.ml < 2 ^ 32
  pub data_field_octet : h.given.field.0 < 2 ^ 8
  pub node : h.given.node.0 < 2 ^ 16
  pub da : h.given.da < 2 ^ 32
  pub version : h.given.version.0 < 2 ^ 32
  pub number : h.given.number.0 < 2 ^ 32
  pub mctl : h.given.mctl < 2 ^ 32
  pub tcd : h.given.tcd < 2 ^ 16
  pub mode : h.given.mode < 2 ^ 16
  pub pri : h.given.pri < 2 ^ 8
  pub cbn : h.cut.cbn < 2 ^ 8
  pub tbn : h.cut.tbn < 2 ^ 8
  pub bsize : h.cut.bsize < 2 ^ 16

pub record HeaderAsPrinted : Type 0 where
  -- "The header is 64 octets": the rows of Table 7. They are written at the front of a buffer that has room for them.
  pub size : (h : Head) → length (table7 h) ≡ 64
  pub written : (h : Head) → header h ≡ table7 h
  pub laid : (h : Head) (s : List ℕ) → 64 ≤ length s → headed s h ≡ table7 h ++ drop 64 s
  pub short : (h : Head) (s : List ℕ) → length s < 64 → headed s h ≡ s
  -- What was written reads back, whatever stands behind it, and what Table 7 fixes is found there;
  pub read : (h : Head) → Sized h → (t : List ℕ) → head_of (table7 h ++ t) ≡ h
  pub fixed : (h : Head) (t : List ℕ) → is_fixed (table7 h ++ t) ≡ true
  -- and wherever it is found, the octets are Table 7's for what is read.
  pub only : (s : List ℕ) → Octets s → 64 ≤ length s → is_fixed s ≡ true → take 64 s ≡ table7 (head_of s)
  -- The sample of E.3.2, and the third PDU of Figure 54.
  pub sample : (header sample_head ≡ sample_octets) × (head_of sample_octets ≡ sample_head)
  pub figure : (header figure_head ≡ figure_octets) × (head_of figure_octets ≡ figure_head)
