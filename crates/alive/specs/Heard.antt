-- What an alive signal makes of a sender's record, or of its words.
use Rattle.std.specs.Prelude.{ℕ, Bool, true, false, cond, eqb}
use Rattle.signal.specs.declared.Body.{Body}
use Rattle.state.specs.declared.Heard.{Heard}
use Rattle.state.specs.State.{no_heard}

-- "Mode 1: the sender is alive … Modes 2 and 3: dead from then on". `heard_by` of `rules` is this of a sender's record.
unfoldable pub heard_in : {A : Type 0} → (A → Bool → Heard → A) → ℕ → A → Body → A
heard_in heard_as clock x b =
    cond (eqb b.mode 1) (heard_as x true (record { stamp = clock; timeout = b.timeout })) (heard_as x false no_heard)
