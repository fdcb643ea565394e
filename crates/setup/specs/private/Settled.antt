-- For private functions' contracts alone, no public contract cites it. A state on its way: the settings are written,
-- nobody stands in the table yet. Where the setup is outside its limits it is the empty state, and stays it.
use Rattle.std.specs.Prelude.{ℕ, Bool, cond, List, replicate}
use Rattle.answers.specs.declared.Setup.{Setup}
use Rattle.rules.specs.calls.Setup.{new_senders, settings_by}
use Rattle.state.specs.declared.Address.{Address}
use Rattle.state.specs.declared.Receiver.{Receiver}
use Rattle.state.specs.State.{senders_most, no_sender, state_of, empty_receiver, with_senders}

unfoldable pub settled : Setup → Bool → Receiver
settled q within =
    cond within (state_of (settings_by q) 0 (replicate senders_most no_sender)) empty_receiver

-- The first k senders are written in.
abbrev pub seated : Receiver → List Address → ℕ → Receiver
seated w l k = with_senders w (new_senders l k)
