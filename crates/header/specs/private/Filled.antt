-- For private functions' contracts alone, no public contract cites it. A header on its way: fields laid down at their
-- places, one after the other.
use Rattle.std.specs.Prelude.{List, [], ◌∷◌, ℕ}
use Rattle.octets.specs.Number.{octets}
use Rattle.octets.specs.Run.{laid}
use Rattle.header.specs.declared.Head.{Head}
use Rattle.header.specs.Layout.{Slot, slots_of}
use Rattle.header.specs.Places.{place}
use Rattle.header.specs.Places.Field.{h_type, ml, domain, data_field, node, da, v_seq, seq, m_ctl, inq_id, tcd, ver, gtid, mode, pver, pri, cbn, tbn, bsize, fui}
use Rattle.header.specs.Head.{value}

-- The slots' numbers written one after the other.
unfoldable pub fill : List Slot → List ℕ → List ℕ
fill [] s = s
fill (r ∷ rs) s = fill rs (laid s r.start (octets r.size r.value))

-- Table 7's rows in three parts.
abbrev pub front_slots : Head → List Slot
front_slots h = slots_of place (value h) (h_type ∷ ml ∷ domain ∷ data_field ∷ node ∷ da ∷ [])

abbrev pub middle_slots : Head → List Slot
middle_slots h = slots_of place (value h) (v_seq ∷ seq ∷ m_ctl ∷ inq_id ∷ tcd ∷ ver ∷ gtid ∷ [])

abbrev pub back_slots : Head → List Slot
back_slots h = slots_of place (value h) (mode ∷ pver ∷ pri ∷ cbn ∷ tbn ∷ bsize ∷ fui ∷ [])
