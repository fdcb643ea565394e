-- An address as one number, by which two are compared at once.
use Rattle.std.specs.Prelude.{ℕ, zero, suc, ◌+◌, ◌*◌, ◌<◌, Bool, true, not, ◌&&◌, List, eqb, get_or}
use Rattle.state.specs.declared.Address.{Address}

unfoldable pub key_of : Address → ℕ
key_of a = a.field.0 * 65536 + a.node.0

-- A node has two octets.
abbrev pub Narrow : Address → Type 0
Narrow a = a.node.0 < 65536

-- None of the first k numbers is this one.
unfoldable pub new_key : List ℕ → ℕ → ℕ → Bool
new_key l zero x = true
new_key l (suc k) x = new_key l k x && not (eqb (get_or l k 0) x)
