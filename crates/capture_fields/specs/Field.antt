-- "The program reads tagged fields: tag octet, two-octet length, contents; its own numbers have the high octet first."
use Rattle.std.specs.Prelude.{ℕ, ◌+◌, ◌*◌, cond, ◌&&◌, ◌||◌, List, eqb, ltb, length, map, Option, None, Some, Result, Ok, Err}
use Rattle.std.specs.List.{range_with_len}
use Rattle.octets.specs.Number.{number}
use Rattle.octets.specs.Run.{run}
use Rattle.groups.specs.Groups.{no_groups}
use Rattle.state.specs.declared.Address.{Address}
use Rattle.answers.specs.declared.Setup.{Setup}
use Rattle.state.specs.State.{senders_most, no_address}
use Rattle.capture_fields.specs.declared.Kind.{Kind}
use Rattle.capture_fields.specs.declared.Kind.TheVariants as kind
use Rattle.capture_fields.specs.declared.Unread.{Unread}
use Rattle.capture_fields.specs.declared.Unread.TheVariants.{Cut, Bad}
use Rattle.capture_fields.specs.declared.Whole.{Whole}

-- "tag octet, two-octet length"
abbrev pub tag_of : List ℕ → ℕ
tag_of s = number 1 s 0

abbrev pub size_of : List ℕ → ℕ
size_of s = number 2 s 1

abbrev pub head_size : ℕ
head_size = 3

-- "Tag 1 setup …", of "10, 13, 16 or 19 octets"; "Tag 2 message PDU, 3 clock (8 octets), 4 alive PDU"; "Bad is another
-- tag, tag 1 not of 10, 13, 16 or 19 octets, tag 3 not of 8; a PDU of any length goes to its call."
unfoldable pub kind_of : ℕ → ℕ → Option Kind
kind_of tag n =
    cond (eqb tag 1 && (eqb n 10 || eqb n 13 || eqb n 16 || eqb n 19)) (Some kind.Setup)
    (cond (eqb tag 2) (Some kind.Message) (cond (eqb tag 3 && eqb n 8) (Some kind.Clock) (cond (eqb tag 4) (Some kind.Alive) None)))

-- The field at the front of the octets at hand, by its kind: a field is cut where octets of it are missing.
abbrev pub field_of : List ℕ → Option Kind → Result (Option Whole) Unread
field_of s None = Err Bad
field_of s (Some k) = cond (ltb (length s) (head_size + size_of s)) (Err Cut) (Ok (Some (record { kind = k; size = size_of s })))

-- What stands at the front of the octets at hand; nothing where no octet is left.
unfoldable pub next_of : List ℕ → Result (Option Whole) Unread
next_of s = cond (eqb (length s) 0) (Ok None) (cond (ltb (length s) head_size) (Err Cut) (field_of s (kind_of (tag_of s) (size_of s))))

-- The contents of a field of n octets.
abbrev pub contents_of : List ℕ → ℕ → List ℕ
contents_of s n = run head_size n s

-- ---- the contents of a setup

-- "then data field (1) and node (2) for each of 1 to 4 senders"
abbrev pub address_in : List ℕ → ℕ → Address
address_in s at = record { field = record { 0 = number 1 s at }; node = record { 0 = number 2 s (at + 1) } }

-- "1 to 4 senders": the address for a place of the table; none for those past the fourth.
abbrev pub sender_in : List ℕ → ℕ → Address
sender_in s place = cond (ltb place 4) (address_in s (7 + 3 * place)) no_address

-- How many senders a setup of n octets has.
unfoldable pub senders_of : ℕ → ℕ
senders_of n = cond (eqb n 10) 1 (cond (eqb n 13) 2 (cond (eqb n 16) 3 (cond (eqb n 19) 4 0)))

-- "mode (1 octet …), N1 (2), T (4), then …". Places past the senders are not looked at. 02, Item 5: "0 to 8 registered groups
-- (0 in the program)".
unfoldable pub setup_of : List ℕ → Setup
setup_of s = record {
  mode = number 1 s 0;
  n1 = number 2 s 1;
  t = number 4 s 3;
  count = senders_of (length s);
  senders = map (sender_in s) (range_with_len 0 senders_most);
  groups = no_groups;
}

-- "3 clock (8 octets)"
abbrev pub clock_of : List ℕ → ℕ
clock_of s = number 8 s 0
