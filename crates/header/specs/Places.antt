-- The places of the ADP header: the one table. All else uses only what is proved of it here: no two places overlap,
-- each ends by 64, and together they cover all 64. docs/HEADER.md says where each comes from.
use Rattle.std.specs.Prelude.{◌≡◌, refl, true, List, [], ◌∷◌, ℕ}
use Rattle.header.specs.Layout.{Slot, slots_of, apart_from, apart, ends_by, spanned, covers}

-- The fields of Table 7, SA in its three parts: domain, data field, node.
pub data Field : Type 0 where
  h_type ml domain data_field node da v_seq seq m_ctl inq_id tcd ver gtid mode pver pri cbn tbn bsize fui : Field

-- Where a field starts, and its size.
abbrev pub place : Field → ℕ × ℕ
place h_type = (0, 4)
place ml = (4, 4)
place domain = (8, 1)
place data_field = (9, 1)
place node = (10, 2)
place da = (12, 4)
place v_seq = (16, 4)
place seq = (20, 4)
place m_ctl = (24, 4)
place inq_id = (28, 12)
place tcd = (40, 2)
place ver = (42, 2)
place gtid = (44, 8)
place mode = (52, 2)
place pver = (54, 1)
place pri = (55, 1)
place cbn = (56, 1)
place tbn = (57, 1)
place bsize = (58, 2)
place fui = (60, 4)

-- "The header is 64 octets."
abbrev pub header_size : ℕ
header_size = 64

-- The whole table, with a number for each field.
abbrev pub slots : (Field → ℕ) → List Slot
slots v = slots_of place v (h_type ∷ ml ∷ domain ∷ data_field ∷ node ∷ da ∷ v_seq ∷ seq ∷ m_ctl ∷ inq_id ∷ tcd ∷ ver ∷ gtid ∷ mode ∷ pver ∷ pri ∷ cbn ∷ tbn ∷ bsize ∷ fui ∷ [])

pub places_apart : (v : Field → ℕ) → apart (slots v) ≡ true
unfolding apart apart_from
places_apart v = refl

pub places_end : (v : Field → ℕ) → ends_by header_size (slots v) ≡ true
unfolding ends_by
places_end v = refl

pub places_cover : (v : Field → ℕ) → covers header_size (slots v) ≡ true
unfolding covers spanned
places_cover v = refl
