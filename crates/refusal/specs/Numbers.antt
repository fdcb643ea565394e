-- The number of each refusal, as 01 and 02 list them.
use Rattle.std.specs.Prelude.{ℕ, Result, Ok, Err}
use Rattle.refusal.specs.declared.Refusal.{Refusal}
use Rattle.refusal.specs.declared.Refusal.TheVariants as refusal

abbrev pub number_of : Refusal → ℕ
number_of refusal.State = 9
number_of refusal.Setup = 10
number_of refusal.Storage = 11
number_of refusal.Length = 12
number_of refusal.Header = 13
number_of refusal.Sender = 14
number_of refusal.Test = 15
number_of refusal.Cut = 16
number_of refusal.Repeat = 17
number_of refusal.Older = 18
number_of refusal.Differs = 19
number_of refusal.Held = 20
number_of refusal.Clock = 21
number_of refusal.Alive = 22
number_of refusal.Writing = 23
number_of refusal.Fault = 24
number_of refusal.Group = 25
number_of refusal.Tables = 26

-- "0 stored, done or written": the number of an answer where nothing is refused is 0.
abbrev pub number_in : {A : Type 0} → Result A Refusal → ℕ
number_in (Ok x) = 0
number_in (Err r) = number_of r
