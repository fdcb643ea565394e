-- The senders are written into a settled state, which is then the one that setup answers with. Assumes nothing.
use Rattle.std.specs.Prelude.{◌≤◌, ◌≡◌, refl, Bool, true, false, cond}
use Rattle.std.proofs.Common.{arith}
use Rattle.answers.specs.declared.Setup.{Setup}
use Rattle.rules.specs.calls.Setup.{new_senders, setup_state}
use Rattle.setup.specs.private.Settled.{settled, seated}
use Rattle.state.specs.State.{senders_most, empty_receiver}

pub settled_few : (q : Setup) (within : Bool) → (within ≡ true → q.count ≤ senders_most) → (settled q within).count ≤ senders_most
unfolding settled
settled_few q true few = few refl
settled_few q false few = omega arith

pub seated_none : (q : Setup) (within : Bool) → settled q within ≡ seated (settled q within) q.senders 0
unfolding settled new_senders
seated_none q true = refl
seated_none q false = refl

pub seated_all : (q : Setup) (within : Bool) → seated (settled q within) q.senders (settled q within).count ≡ cond within (setup_state q) empty_receiver
unfolding settled new_senders setup_state
seated_all q true = refl
seated_all q false = refl
