-- "Is a PDU's cut possible?" of ML, BSIZE, CBN and TBN alone.
use Rattle.std.specs.Prelude.{ℕ, ◌-◌, ◌*◌, ◌/◌, ◌%◌, Bool, cond, ◌&&◌, eqb, leb, ltb}
use Rattle.header.specs.declared.Cut.{Cut}
use Rattle.header.specs.Codes.{within}
use Rattle.header.specs.Places.{header_size}
use Rattle.cut.specs.Pieces.{most_octets, least_unit, most_unit, piece_place}

-- "Let n = ML − 64 and p = BSIZE − 64."
abbrev pub message_length : Cut → ℕ
message_length c = c.ml - header_size

abbrev pub own_length : Cut → ℕ
own_length c = c.bsize - header_size

-- "With CBN < TBN: u = p … With CBN = TBN > 1: n − p … divides evenly by TBN − 1, the quotient is u". With TBN = 1 no u
-- is named; the one piece is the whole message, and n stands for it.
unfoldable pub unit : Cut → ℕ
unit c =
    cond (eqb c.tbn 1) (message_length c)
    (cond (ltb c.cbn c.tbn) (own_length c) ((message_length c - own_length c) / (c.tbn - 1)))

-- "Its place in the message is (CBN − 1) × u."
abbrev pub own_place : Cut → ℕ
own_place c = piece_place (unit c) c.cbn

-- "256 ≤ u ≤ 1,396"
abbrev pub is_unit : ℕ → Bool
is_unit = within least_unit most_unit

-- "With CBN < TBN: u = p, 256 ≤ u ≤ 1,396, and (TBN − 1) × u < n ≤ TBN × u."
unfoldable pub front_possible : ℕ → ℕ → ℕ → Bool
front_possible n t u = is_unit u && ltb ((t - 1) * u) n && leb n (t * u)

-- "With CBN = TBN > 1: n − p is positive and divides evenly by TBN − 1, the quotient is u, 256 ≤ u ≤ 1,396, and 1 ≤ p ≤
-- u."
unfoldable pub last_possible : ℕ → ℕ → ℕ → ℕ → Bool
last_possible n t p u = ltb p n && eqb ((n - p) % (t - 1)) 0 && is_unit u && leb 1 p && leb p u

-- Whether n octets can be cut into t pieces of u, t more than one: what a piece before the last says of the message.
unfoldable pub several_possible : ℕ → ℕ → ℕ → Bool
several_possible n t u = ltb 1 t && leb n most_octets && front_possible n t u

-- "Needed: 0 ≤ n ≤ 16,384": neither n nor p may be negative.
abbrev pub sizes_within : Cut → Bool
sizes_within c = leb header_size c.ml && leb (message_length c) most_octets && leb header_size c.bsize

-- "and 1 ≤ CBN ≤ TBN. With TBN = 1: p = n."
unfoldable pub possible : Cut → Bool
possible c =
    sizes_within c && leb 1 c.cbn && leb c.cbn c.tbn
    && cond (eqb c.tbn 1) (eqb (own_length c) (message_length c))
    (cond (ltb c.cbn c.tbn) (front_possible (message_length c) c.tbn (unit c))
    (last_possible (message_length c) c.tbn (own_length c) (unit c)))
