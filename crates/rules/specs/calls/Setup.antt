-- Setup: "takes the node's mode (online or test), N1 (1 to 1,024), the drop time T in ms (1 to 600,000) and 1 to 16
-- senders, each a data field and a node, no pair twice".
use Rattle.std.specs.Prelude.{ℕ, zero, suc, Bool, cond, ◌&&◌, List, eqb, leb, set, replicate, Ok, Err}
use Rattle.refusal.specs.declared.Refusal.TheVariants as refusals
use Rattle.groups.specs.Groups.{groups_within, kept}
use Rattle.header.specs.Codes.{within}
use Rattle.state.specs.declared.Address.{Address}
use Rattle.state.specs.declared.Sender.{Sender}
use Rattle.state.specs.declared.Receiver.{Receiver}
use Rattle.answers.specs.declared.Started.{Started}
use Rattle.answers.specs.declared.Setup.{Setup}
use Rattle.state.specs.Limits.{is_n1, is_drop_time, given, addresses_within}
use Rattle.state.specs.State.{senders_most, no_sender, new_sender, empty_receiver, Settings, state_of}

-- "Tag 1 setup: mode (1 octet: 0 online, 1 test, any other meets 10)"
-- 02, Item 5: "10 for groups outside these limits or named twice".
unfoldable pub setup_within : Setup → Bool
setup_within q =
    leb q.mode 1 && is_n1 q.n1 && is_drop_time q.t && groups_within q.groups && within 1 senders_most q.count
    && addresses_within q.senders q.count

-- The first k senders of the table; "places past the senders are written 0".
unfoldable pub new_senders : List Address → ℕ → List Sender
new_senders l zero = replicate senders_most no_sender
new_senders l (suc k) = set (new_senders l k) k (new_sender (given l k))

-- Of the groups, "places past the count are written 0" too.
abbrev pub settings_by : Setup → Settings
settings_by q = record { test = eqb q.mode 1; n1 = q.n1; t = q.t; count = q.count; groups = kept q.groups }

-- "At setup the clock is 0, nobody is heard, nothing is open and every last version and number is 0."
unfoldable pub setup_state : Setup → Receiver
setup_state q = state_of (settings_by q) 0 (new_senders q.senders q.count)

-- "10: setup outside its limits: empty state"
unfoldable pub setup_answer : Setup → Started
setup_answer q =
    cond (setup_within q) (record { call = Ok tt; state = setup_state q }) (record { call = Err refusals.Setup; state = empty_receiver })
