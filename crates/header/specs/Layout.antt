-- A layout: numbers of fixed sizes at fixed places, each high octet first, that together make up a run of octets.
use Rattle.std.specs.Prelude.{ℕ, zero, suc, ◌+◌, ◌-◌, Bool, true, false, cond, ◌&&◌, ◌||◌, List, [], ◌∷◌, ◌++◌, leb, ltb}
use Rattle.octets.specs.Number.{octet, octets}

-- Where a number stands, in how many octets, and which number it is.
pub record Slot : Type 0 where
  pub start : ℕ
  pub size : ℕ
  pub value : ℕ

-- The slot of a field, by a table that says where each field starts and its size, and by the number of each.
abbrev pub slot_of : {F : Type 0} → (F → ℕ × ℕ) → (F → ℕ) → F → Slot
slot_of place v f = record { start = (place f).0; size = (place f).1; value = v f }

abbrev pub slots_of : {F : Type 0} → (F → ℕ × ℕ) → (F → ℕ) → List F → List Slot
slots_of place v [] = []
slots_of place v (f ∷ fs) = slot_of place v f ∷ slots_of place v fs

abbrev pub end : Slot → ℕ
end r = r.start + r.size

-- Whether the octet at place i is one of the slot's.
abbrev pub spans : Slot → ℕ → Bool
spans r i = leb r.start i && ltb i (end r)

-- The octet at place i: that of the slot that spans i, and z where none does.
unfoldable pub octet_of : List Slot → ℕ → ℕ → ℕ
octet_of [] z i = z
octet_of (r ∷ rs) z i = cond (spans r i) (octet (octets r.size r.value) (i - r.start)) (octet_of rs z i)

unfoldable pub tabulate : ℕ → (ℕ → ℕ) → List ℕ
tabulate zero f = []
tabulate (suc n) f = tabulate n f ++ (f n ∷ [])

-- The n octets that the slots make up.
unfoldable pub layout : ℕ → List Slot → List ℕ
layout n rs = tabulate n (octet_of rs 0)

-- ---- tests that are computed over a whole table

-- No slot of the list shares an octet with r.
unfoldable pub apart_from : Slot → List Slot → Bool
apart_from r [] = true
apart_from r (q ∷ qs) = (leb (end r) q.start || leb (end q) r.start) && apart_from r qs

-- No two slots overlap.
unfoldable pub apart : List Slot → Bool
apart [] = true
apart (r ∷ rs) = apart_from r rs && apart rs

-- Each slot ends by n.
unfoldable pub ends_by : ℕ → List Slot → Bool
ends_by n [] = true
ends_by n (r ∷ rs) = leb (end r) n && ends_by n rs

unfoldable pub spanned : List Slot → ℕ → Bool
spanned [] i = false
spanned (r ∷ rs) i = spans r i || spanned rs i

-- Each of the first n places is spanned by some slot.
unfoldable pub covers : ℕ → List Slot → Bool
covers zero rs = true
covers (suc n) rs = covers n rs && spanned rs n
