-- What an alive signal says behind its ADP header (5.3, Table 8), as far as 01 looks at it: "other places of the alive
-- header may hold anything".
use Rattle.std.specs.Prelude.{Bool, ◌&&◌, List, ℕ, ◌%◌, eqb}
use Rattle.octets.specs.Number.{number}
use Rattle.signal.specs.declared.Body.{Body}
use Rattle.signal.specs.AlivePlaces.{AliveField, alive_place}
use Rattle.signal.specs.AlivePlaces.AliveField.{al_tm_out, al_mode, al_protocol, al_ver}
use Rattle.header.specs.Codes.{within}

-- The number at a field's place.
abbrev pub alive_value : List ℕ → AliveField → ℕ
alive_value s f = number (alive_place f).1 s (alive_place f).0

unfoldable pub body_of : List ℕ → Body
body_of s = record { timeout = alive_value s al_tm_out; mode = alive_value s al_mode; protocol = alive_value s al_protocol; ver = alive_value s al_ver }

-- "al_protocol is 4, al_ver 1, al_mode 1 to 3"
unfoldable pub is_body : Body → Bool
is_body b = eqb b.protocol 4 && eqb b.ver 1 && within 1 3 b.mode

-- The group of a destination address: its last two octets.
abbrev pub group_of : ℕ → ℕ
group_of da = da % 65536
