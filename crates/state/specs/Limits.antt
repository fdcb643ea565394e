-- Number 9: "a state with a setting, sender, time, last number, open SEQ or open code outside this paper's limits, a
-- stamp after the clock, last number 0 under a version not 0, or an open message with an impossible cut or a map that
-- is empty, full or marked past TBN".
use Rattle.std.specs.Prelude.{ℕ, zero, suc, Bool, true, not, ◌&&◌, ◌||◌, List, eqb, leb, ltb, get_or}
use Rattle.std.specs.Int.Count.{ones}
use Rattle.ring.specs.Ring.{M, is_number}
use Rattle.header.specs.Codes.{within, is_data_field, is_node, is_user}
use Rattle.cut.specs.Possible.{several_possible}
use Rattle.map.specs.Map.{is_empty, is_full, marked_past}
use Rattle.groups.specs.declared.Groups.{Groups}
use Rattle.groups.specs.Groups.{groups_within}
use Rattle.state.specs.declared.Last.{Last}
use Rattle.state.specs.declared.Message.{Message}
use Rattle.state.specs.declared.Address.{Address}
use Rattle.state.specs.declared.Sender.{Sender}
use Rattle.state.specs.declared.Receiver.{Receiver}
use Rattle.state.specs.State.{senders_most, no_address, no_sender}

-- "N1 (1 to 1,024), the drop time T in ms (1 to 600,000)"
abbrev pub is_n1 : ℕ → Bool
is_n1 = within 1 1024

abbrev pub is_drop_time : ℕ → Bool
is_drop_time = within 1 600000

-- "whole ms, 0 to 1,099,511,627,776"
abbrev pub clock_most : ℕ
clock_most = 1099511627776

-- "each a data field and a node"
abbrev pub is_address : Address → Bool
is_address a = is_data_field a.field.0 && is_node a.node.0

abbrev pub same_address : Address → Address → Bool
same_address a b = eqb a.field.0 b.field.0 && eqb a.node.0 b.node.0

-- "last number … outside this paper's limits", "last number 0 under a version not 0"
unfoldable pub last_within : Last → Bool
last_within l = leb l.number.0 M && (eqb l.version.0 0 || ltb 0 l.number.0)

-- "an open message with an impossible cut or a map that is empty, full or marked past TBN". 02, Item 1: the number kept
-- is to be "equal to the number of ones in the map; a state where they differ meets 9".
unfoldable pub message_within : ℕ → Message → Bool
message_within clock m =
    is_number m.number.0 && is_user m.tcd && several_possible m.n m.tbn m.u
    && not (is_empty m.map || is_full m.map m.tbn || marked_past m.map m.tbn) && eqb m.held (ones m.map)
    && leb m.stamp clock

-- Of a sender, what is not open or not alive is not looked at.
unfoldable pub sender_within : ℕ → Sender → Bool
sender_within clock s =
    is_address s.address && last_within s.last && (not s.«open» || message_within clock s.message)
    && (not s.alive || leb s.heard.stamp clock)

-- None of the first k addresses is this one.
unfoldable pub new_among : (ℕ → Address) → ℕ → Address → Bool
new_among f zero a = true
new_among f (suc k) a = new_among f k a && not (same_address (f k) a)

-- The address at a place of a list.
abbrev pub given : List Address → ℕ → Address
given l k = get_or l k no_address

-- The first k addresses are within their limits, and "no pair twice".
unfoldable pub addresses_within : List Address → ℕ → Bool
addresses_within l zero = true
addresses_within l (suc k) = addresses_within l k && (is_address (given l k) && new_among (given l) k (given l k))

-- The address of the sender at a place of the table.
abbrev pub address_at : List Sender → ℕ → Address
address_at l k = (get_or l k no_sender).address

-- The first k senders are within their limits, and "no pair twice".
unfoldable pub senders_within : ℕ → List Sender → ℕ → Bool
senders_within clock l zero = true
senders_within clock l (suc k) =
    senders_within clock l k && (sender_within clock (get_or l k no_sender) && new_among (address_at l) k (address_at l k))

-- "An empty state … 9 lets it pass": of the states without senders only that one, at any time. 02, Item 5: groups "outside
-- these limits or named twice" are 9 in a state, as they are 10 in setup.
unfoldable pub settings_of : Bool → ℕ → ℕ → ℕ → ℕ → Groups → Bool
settings_of test n1 t clock count groups =
    leb clock clock_most && leb count senders_most && is_n1 n1 && is_drop_time t && groups_within groups
    && (ltb 0 count || (not test && eqb n1 1 && eqb t 1 && eqb groups.count 0))

abbrev pub settings_within : Receiver → Bool
settings_within w = settings_of w.test w.n1 w.t w.clock w.count w.groups

unfoldable pub valid : Receiver → Bool
valid w = settings_within w && senders_within w.clock w.senders w.count
