-- 02, Item 6: how old a repeat was, by the past alone. Proved in AgeLaws.antt.
use Rattle.std.specs.Prelude.{ℕ, ◌<◌, ◌≡◌, ◌≢◌}
use Rattle.ring.specs.declared.Number.{Number}
use Rattle.ring.specs.Printed.{Remainder}
use Rattle.answers.specs.Told.{OutcomeTold}

-- What is told of a packet with a number, where `last` is the number last delivered.
pub record HowOld (n1 : ℕ) (last number : Number) (told : OutcomeTold) : Type 0 where
  -- "how far back the number lies": "the remainder of R − SEQ by M",
  pub age : told.number ≡ 17 → Remainder last.0 number.0 told.age
  -- "0 to N1 − 1",
  pub below : told.number ≡ 17 → told.age < n1
  -- 0 exactly for the number last delivered.
  pub none : told.number ≡ 17 → (told.age ≡ 0 → number.0 ≡ last.0) × (number.0 ≡ last.0 → told.age ≡ 0)
  -- "In every other answer it is 0."
  pub otherwise : told.number ≢ 17 → told.age ≡ 0
