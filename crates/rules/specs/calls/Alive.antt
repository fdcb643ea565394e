-- The alive call: "An alive PDU is 128 to 1,472 octets, its length equal to BSIZE and ML, CBN = TBN = 1, code 60,003,
-- group 0, layout by 5.3. … No number check."
use Rattle.std.specs.Prelude.{ℕ, Bool, true, false, not, cond, ◌&&◌, ◌||◌, List, [], ◌∷◌, eqb, leb, length, drop, Ok, Err}
use Rattle.refusal.specs.declared.Refusal.{Refusal}
use Rattle.refusal.specs.declared.Refusal.TheVariants as refusals
use Rattle.header.specs.declared.Head.{Head}
use Rattle.signal.specs.declared.Body.{Body}
use Rattle.signal.specs.Alive.{body_of, is_body, group_of}
use Rattle.signal.specs.AlivePlaces.{alive_size}
use Rattle.fault.specs.Reading.{is_section}
use Rattle.header.specs.Codes.{is_alive}
use Rattle.header.specs.Head.{head_of, length_outside, common_within}
use Rattle.state.specs.declared.Sender.{Sender}
use Rattle.state.specs.declared.Receiver.{Receiver}
use Rattle.answers.specs.declared.Noted.{Noted}
use Rattle.rules.specs.calls.First.{Row, row, checked, by_check}
use Rattle.state.specs.Limits.{valid}
use Rattle.state.specs.Table.{found}
use Rattle.rules.specs.calls.Message.{with_sender}
use Rattle.state.specs.State.{sender_at, no_heard, with_heard}

-- ---- the numbers

-- "An alive PDU is 128 to 1,472 octets"
abbrev pub most_alive_pdu : ℕ
most_alive_pdu = 1472

-- "12: PDU too short (64; alive 128), too long (1,460; alive 1,472), or length unlike BSIZE"
abbrev pub alive_length_wrong : ℕ → Head → Bool
alive_length_wrong = length_outside alive_size most_alive_pdu

-- "13: a fixed field of 5.1, PRI, MODE, code, or SEQ (…; not looked at in alive signals) out of range"; "Code in 13
-- means … in an alive signal not 60,003."
unfoldable pub alive_head_within : List ℕ → Head → Bool
alive_head_within packet h = common_within packet h && is_alive h.given.tcd

-- "22: alive ML, CBN, TBN, group or body wrong"
unfoldable pub alive_within : ℕ → Head → Body → Bool
alive_within k h b =
    eqb h.cut.ml k && eqb h.cut.cbn 1 && eqb h.cut.tbn 1 && eqb (group_of h.given.da) 0 && is_body b

-- 02, Item 2: "The section ends the PDU exactly, or is absent in a PDU of 128 octets; this narrows 01."
unfoldable pub fault_within : List ℕ → Bool
fault_within packet = eqb (length packet) alive_size || is_section (drop alive_size packet)

-- "Alive signals use 9, 12, 13, 14, 22 only", and "24 for a fault section that breaks these rules, after 22".
abbrev pub signal_rows : Bool → ℕ → ℕ → List ℕ → Head → Body → List Row
signal_rows ok count i packet h b =
    row refusals.State (not ok)
    ∷ row refusals.Length (alive_length_wrong (length packet) h)
    ∷ row refusals.Header (not (alive_head_within packet h))
    -- "sender not registered"
    ∷ row refusals.Sender (leb count i)
    ∷ row refusals.Alive (not (alive_within (length packet) h b))
    ∷ row refusals.Fault (not (fault_within packet))
    ∷ []

unfoldable pub alive_rows : Receiver → List ℕ → List Row
alive_rows w packet = signal_rows (valid w) w.count (found w (head_of packet)) packet (head_of packet) (body_of packet)

-- ---- what an alive signal does

-- "Mode 1: the sender is alive, stamped with the clock and al_tm_out (unit by 5.3). Modes 2 and 3: dead from then on"
unfoldable pub heard_by : ℕ → Sender → Body → Sender
heard_by clock s b =
    cond (eqb b.mode 1) (with_heard s true (record { stamp = clock; timeout = b.timeout })) (with_heard s false no_heard)

-- ---- the call

abbrev pub noted : Receiver → ℕ → Body → Noted
noted w i b = record { call = Ok tt; state = with_sender w i (heard_by w.clock (sender_at w i) b) }

-- "A refusal alters no state, stamp, clock, …"
abbrev pub not_noted : Receiver → Refusal → Noted
not_noted w r = record { call = Err r; state = w }

unfoldable pub alive_answer : Receiver → List ℕ → Noted
alive_answer w packet =
    by_check (checked (alive_rows w packet)) (noted w (found w (head_of packet)) (body_of packet)) (not_noted w)
