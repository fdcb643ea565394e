-- The maintenance page: of each place of a list it asks how many pieces are held.
use Rattle.std.specs.Prelude.{ℕ, ◌+◌, ◌%◌, ◌^◌, List}
use Rattle.std.specs.List.{fold}
use Rattle.state.specs.declared.Receiver.{Receiver}
use Rattle.state.specs.Held.{held_at}

-- The sum with the answers for these places in it.
abbrev pub held_sum : ℕ → Receiver → List ℕ → ℕ
held_sum sum w places = fold (λ s i. (s + held_at w i) % 2 ^ 64) sum places
