-- What a PDU is judged by before its sender is looked at, in 01's words and numbers.
use Rattle.std.specs.Prelude.{ℕ, ◌%◌, Bool, ◌&&◌, ◌||◌, List, eqb, leb, length, drop}
use Rattle.header.specs.Codes.{within}
use Rattle.header.specs.Head.{head_of, is_fixed}
use Rattle.signal.specs.Alive.{body_of}
use Rattle.fault.specs.Reading.{is_section}
use Rattle.state.specs.declared.Address.{Address}
use Rattle.state.specs.Limits.{same_address}
use Rattle.state.specs.Table.{source}

-- "PDU too short …, too long …, or length unlike BSIZE"
abbrev pub has_length : (least most : ℕ) → List ℕ → Bool
has_length least most packet = within least most (length packet) && eqb (length packet) (head_of packet).cut.bsize

-- "a fixed field of 5.1, PRI, MODE … out of range": "PRI is 0 to 7", "0 = Online mode, 1 = Test mode".
abbrev pub has_header : List ℕ → Bool
has_header packet = is_fixed packet && leb (head_of packet).given.pri 7 && leb (head_of packet).given.mode 1

-- "code, or SEQ (0 or above M …)": "1 to 59,999 are the user's … Messages carry user codes only.", "M = 2,147,483,647".
abbrev pub is_message : List ℕ → Bool
is_message packet = has_header packet && within 1 59999 (head_of packet).given.tcd && within 1 2147483647 (head_of packet).given.number.0

-- Whom a packet is from.
abbrev pub sent_from : Address → List ℕ → Bool
sent_from a packet = same_address a (source (head_of packet))

-- A packet of this sender's: neither 12 nor 13 applies to it.
unfoldable pub in_order : List ℕ → Bool
in_order packet = has_length 64 1460 packet && is_message packet

unfoldable pub is_from : Address → List ℕ → Bool
is_from a packet = in_order packet && sent_from a packet

-- "60,003 is the alive signal"
abbrev pub is_alive : List ℕ → Bool
is_alive packet = has_header packet && eqb (head_of packet).given.tcd 60003

-- "its length equal to … ML, CBN = TBN = 1, … group 0", which is the last two octets of the destination address (4.1);
-- "al_protocol is 4, al_ver 1, al_mode 1 to 3; other places of the alive header may hold anything."
abbrev pub has_body : List ℕ → Bool
has_body packet =
    eqb (head_of packet).cut.ml (length packet) && eqb (head_of packet).cut.cbn 1 && eqb (head_of packet).cut.tbn 1
    && eqb ((head_of packet).given.da % 65536) 0 && eqb (body_of packet).protocol 4 && eqb (body_of packet).ver 1 && within 1 3 (body_of packet).mode

-- 02, Item 2: "The section ends the PDU exactly, or is absent in a PDU of 128 octets": behind these stand the octets of a
-- section within the rules, `SectionOf`, and nothing else.
abbrev pub has_section : List ℕ → Bool
has_section packet = eqb (length packet) 128 || is_section (drop 128 packet)
