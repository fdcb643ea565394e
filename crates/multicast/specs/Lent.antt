-- "two lent tables of 32-bit numbers, versions and SEQ"
use Rattle.std.specs.Prelude.{ℕ, List}
use Rattle.rules.specs.calls.Multicast.{Tables}

abbrev pub tables : List ℕ → List ℕ → Tables
tables versions numbers = record { versions = versions; numbers = numbers }
