-- 02, Item 5: "0 to 8 registered groups (0 in the program), numbered 1 to 255".
use Rattle.std.specs.Prelude.{ℕ, zero, suc, Bool, true, cond, ◌&&◌, List, eqb, leb, ltb, get_or, set, replicate}
use Rattle.octets.specs.FirstPlace.{first_place}
use Rattle.groups.specs.declared.Group.{Group}
use Rattle.groups.specs.declared.Groups.{Groups}

-- "0 to 8 registered groups"
abbrev pub groups_most : ℕ
groups_most = 8

abbrev pub no_group : Group
no_group = record { 0 = 0 }

abbrev pub no_groups : Groups
no_groups = record { count = 0; list = replicate groups_most no_group }

-- "numbered 1 to 255"
abbrev pub is_group : ℕ → Bool
is_group x = leb 1 x && leb x 255

-- The number at a place.
abbrev pub number_at : Groups → ℕ → ℕ
number_at g k = (get_or g.list k no_group).0

-- The first of the first k places with this number; k where none has it.
abbrev pub place_among : (ℕ → ℕ) → ℕ → ℕ → ℕ
place_among f k x = first_place (λ j. eqb (f j) x) k

-- The first k are within their limits, and none is "named twice": none before it has its number.
unfoldable pub each_group : (ℕ → ℕ) → ℕ → Bool
each_group f zero = true
each_group f (suc k) = each_group f k && (is_group (f k) && eqb (place_among f k (f k)) k)

unfoldable pub groups_within : Groups → Bool
groups_within g = leb g.count groups_most && each_group (number_at g) g.count

-- Where a group stands, "from 0, in the order of setup"; the count where it is "not registered".
abbrev pub place_of : Groups → ℕ → ℕ
place_of g x = place_among (number_at g) g.count x

-- "Places past the count are written 0 and never looked at."
unfoldable pub kept_at : Groups → ℕ → Group
kept_at g k = cond (ltb k g.count) (get_or g.list k no_group) no_group

-- The first k places as they are kept.
unfoldable pub kept_list : Groups → ℕ → List Group
kept_list g zero = replicate groups_most no_group
kept_list g (suc k) = set (kept_list g k) k (kept_at g k)

abbrev pub kept : Groups → Groups
kept g = record { count = g.count; list = kept_list g groups_most }
