-- Which numbers 01 admits in a header: transaction codes, MODE, PRI, data fields and nodes.
use Rattle.std.specs.Prelude.{Bool, true, false, cond, ◌&&◌, ℕ, eqb, leb}
use Rattle.header.specs.declared.codes.Code.{Code}
use Rattle.header.specs.declared.codes.Code.TheVariants.{User, Alive, System, Neither}

abbrev pub within : ℕ → ℕ → ℕ → Bool
within low high x = leb low x && leb x high

-- "Transaction codes: 1 to 59,999 are the user's, 60,000 to 65,534 the system's, of which 60,003 is the alive signal."
unfoldable pub code_of : ℕ → Code
code_of n = cond (within 1 59999 n) User (cond (eqb n 60003) Alive (cond (within 60000 65534 n) System Neither))

-- "Messages carry user codes only."
abbrev pub is_user_code : Code → Bool
is_user_code User = true
is_user_code Alive = false
is_user_code System = false
is_user_code Neither = false

abbrev pub is_user : ℕ → Bool
is_user n = is_user_code (code_of n)

-- "of which 60,003 is the alive signal"
abbrev pub is_alive_code : Code → Bool
is_alive_code User = false
is_alive_code Alive = true
is_alive_code System = false
is_alive_code Neither = false

abbrev pub is_alive : ℕ → Bool
is_alive n = is_alive_code (code_of n)

-- "MODE … (0 = Online mode, 1 = Test mode)"
abbrev pub is_mode : ℕ → Bool
is_mode m = leb m 1

-- "PRI is 0 to 7"
abbrev pub is_pri : ℕ → Bool
is_pri p = leb p 7

-- "Data field numbers (1 to 255) and node numbers (1 to 4,095)"
abbrev pub is_data_field : ℕ → Bool
is_data_field = within 1 255

abbrev pub is_node : ℕ → Bool
is_node = within 1 4095
