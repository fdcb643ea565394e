-- What a field of docs/EDGES.md leaves of the two lent tables.
use Rattle.std.specs.Prelude.{ℕ, ◌%◌, cond, ◌||◌, List, ◌++◌, eqb, take, drop, set, replicate}
use Rattle.octets.specs.Number.{number}
use Rattle.state.specs.declared.Receiver.{Receiver}
use Rattle.rules.specs.calls.Multicast.{Tables, multicast_tables}
use Rattle.multicast.specs.Lent.{tables}

-- "clears both tables (0 in every entry)"
abbrev pub cleared : Tables
cleared = tables (replicate 1040 0) (replicate 1040 0)

-- "how many entries of the versions are lent (2), how many of the numbers (2), the group (1), then the PDU"; "Both counts of `M`
-- are at most 1,040".
abbrev pub versions_lent : List ℕ → ℕ
versions_lent contents = number 2 contents 0 % 1041

abbrev pub numbers_lent : List ℕ → ℕ
numbers_lent contents = number 2 contents 2 % 1041

-- What the call leaves of the entries lent.
abbrev pub lent_cast : Receiver → Tables → List ℕ → Tables
lent_cast w t contents = multicast_tables w t (number 1 contents 4) (drop 5 contents)

-- Those behind them stay.
abbrev pub cast_in : Receiver → Tables → List ℕ → Tables
cast_in w t contents =
    let lent = tables (take (versions_lent contents) t.versions) (take (numbers_lent contents) t.numbers) in
    tables
    ((lent_cast w lent contents).versions ++ drop (versions_lent contents) t.versions)
    ((lent_cast w lent contents).numbers ++ drop (numbers_lent contents) t.numbers)

-- "damage of an entry: place (2), version (4), number (4): the entry at that place of both tables becomes these"; "the place of `e`
-- is below 1,040".
abbrev pub damaged_by : Tables → List ℕ → Tables
damaged_by t contents =
    let place = number 2 contents 0 % 1040 in
    tables (set t.versions place (number 4 contents 2)) (set t.numbers place (number 4 contents 6))

-- By the field's tag: a setup (S, s), the multicast call (M, m), damage (e); every other leaves them as they are.
abbrev pub tables_by : Receiver → Tables → ℕ → List ℕ → Tables
tables_by w t tag contents =
    cond (eqb tag 83 || eqb tag 115) cleared
    (cond (eqb tag 77 || eqb tag 109) (cast_in w t contents)
    (cond (eqb tag 101) (damaged_by t contents) t))
