-- The places of the alive header (5.3, Table 8), counted from the start of the PDU: the one table. All else uses only
-- what is proved of it here: together with the ADP header's places no two overlap, each ends by 128, and they cover all
-- 128. docs/HEADER.md says where each comes from.
use Rattle.std.specs.Prelude.{◌≡◌, refl, true, List, [], ◌∷◌, ◌++◌, ℕ}
use Rattle.header.specs.Layout.{Slot, slots_of, apart_from, apart, ends_by, spanned, covers}
use Rattle.header.specs.Places.{Field, slots}

-- The fields of Table 8, al_ipaddr in its two parts.
pub data AliveField : Type 0 where
  nd_name os_name al_tm_out msg_serno al_mode al_protocol al_fu1 chg_time ipaddr0 ipaddr1 al_ver al_fu2 reserved : AliveField

-- Where a field starts, and its size.
abbrev pub alive_place : AliveField → ℕ × ℕ
alive_place nd_name = (64, 10)
alive_place os_name = (74, 10)
alive_place al_tm_out = (84, 4)
alive_place msg_serno = (88, 2)
alive_place al_mode = (90, 1)
alive_place al_protocol = (91, 1)
alive_place al_fu1 = (92, 1)
alive_place chg_time = (93, 4)
alive_place ipaddr0 = (97, 4)
alive_place ipaddr1 = (101, 4)
alive_place al_ver = (105, 1)
alive_place al_fu2 = (106, 15)
alive_place reserved = (121, 7)

-- "PDU too short (64; alive 128)"
abbrev pub alive_size : ℕ
alive_size = 128

-- The alive header's part of the table, with a number for each field,
abbrev pub body_slots : (AliveField → ℕ) → List Slot
body_slots v = slots_of alive_place v (nd_name ∷ os_name ∷ al_tm_out ∷ msg_serno ∷ al_mode ∷ al_protocol ∷ al_fu1 ∷ chg_time ∷ ipaddr0 ∷ ipaddr1 ∷ al_ver ∷ al_fu2 ∷ reserved ∷ [])

-- and behind the ADP header's.
abbrev pub head_body_slots : (Field → ℕ) → (AliveField → ℕ) → List Slot
head_body_slots v u = slots v ++ body_slots u

pub alive_apart : (v : Field → ℕ) (u : AliveField → ℕ) → apart (head_body_slots v u) ≡ true
unfolding apart apart_from
alive_apart v u = refl

pub alive_end : (v : Field → ℕ) (u : AliveField → ℕ) → ends_by alive_size (head_body_slots v u) ≡ true
unfolding ends_by
alive_end v u = refl

pub alive_cover : (v : Field → ℕ) (u : AliveField → ℕ) → covers alive_size (head_body_slots v u) ≡ true
unfolding covers spanned
alive_cover v u = refl
