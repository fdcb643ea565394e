-- The message call: its numbers in the order in which they are tried, and what an admitted PDU does to state and
-- storage.
use Rattle.std.specs.Prelude.{ℕ, ◌+◌, ◌*◌, Bool, not, cond, ◌&&◌, List, [], ◌∷◌, ◌++◌, eqb, leb, set, length}
use Rattle.refusal.specs.declared.Refusal.TheVariants as refusals
use Rattle.octets.specs.Run.{run, laid}
use Rattle.ring.specs.declared.Verdict.{Verdict}
use Rattle.ring.specs.Ring.{is_number}
use Rattle.header.specs.declared.Head.{Head}
use Rattle.header.specs.Codes.{is_user}
use Rattle.header.specs.Head.{head_of, length_outside, common_within}
use Rattle.header.specs.Places.{header_size}
use Rattle.cut.specs.Pieces.{most_octets}
use Rattle.cut.specs.Possible.{own_place, message_length, own_length}
use Rattle.state.specs.declared.Sender.{Sender}
use Rattle.state.specs.declared.Receiver.{Receiver}
use Rattle.answers.specs.declared.Admission.{Admission}
use Rattle.answers.specs.declared.Answer.{Answer}
use Rattle.answers.specs.declared.Outcome.{Outcome}
use Rattle.answers.specs.declared.Outcome.TheVariants.{Refused, Stored, Delivered}
use Rattle.answers.specs.Told.{refusal}
use Rattle.answers.specs.declared.Where.{Where}
use Rattle.answers.specs.declared.Where.TheVariants.{Nothing, Packet, Storage}
use Rattle.rules.specs.calls.Admit.{verdict_of, sender_rows, admitted, none_dropped}
use Rattle.rules.specs.calls.First.{Row, row, checked, first, by_check}
use Rattle.state.specs.Limits.{valid}
use Rattle.state.specs.State.{sender_at, with_senders}
use Rattle.state.specs.Table.{found}

-- "The storage is exactly 16,384 octets for each sender, in table order."
abbrev pub area : ℕ
area = most_octets

-- ---- the numbers

-- "64 … 1,460"
abbrev pub most_pdu : ℕ
most_pdu = 1460

abbrev pub length_wrong : ℕ → Head → Bool
length_wrong = length_outside header_size most_pdu

-- "a fixed field of 5.1, PRI, MODE, code, or SEQ (0 or above M) out of range" is 13.
unfoldable pub head_within : List ℕ → Head → Bool
head_within packet h = common_within packet h && is_user h.given.tcd && is_number h.given.number.0

-- 9 and 11 to 14, of a packet with this header from the sender at place i.
abbrev pub packet_rows : Bool → ℕ → ℕ → ℕ → List ℕ → Head → List Row
packet_rows ok count i room packet h =
    row refusals.State (not ok)
    -- "storage length wrong"
    ∷ row refusals.Storage (not (eqb room (count * area)))
    ∷ row refusals.Length (length_wrong (length packet) h)
    ∷ row refusals.Header (not (head_within packet h))
    -- "sender not registered"
    ∷ row refusals.Sender (leb count i)
    ∷ []

unfoldable pub message_rows : Receiver → ℕ → List ℕ → List Row
message_rows w room packet =
    packet_rows (valid w) w.count (found w (head_of packet)) room packet (head_of packet)
    ++ sender_rows w.test w.n1 (sender_at w (found w (head_of packet))) (head_of packet)

abbrev pub message_number : Receiver → ℕ → List ℕ → ℕ
message_number w room packet = first (message_rows w room packet)

-- ---- what an admitted PDU does

-- "A piece of several changes exactly its p octets in its sender's area." "A message of one piece is delivered at once
-- and storage is untouched."
unfoldable pub storage_after : List ℕ → ℕ → Head → List ℕ → List ℕ
storage_after storage i h packet =
    cond (eqb h.cut.tbn 1) storage (laid storage (i * area + own_place h.cut) (run header_size (own_length h.cut) packet))

-- "The message is handed over as a part of the packet or of the storage"
abbrev pub lies_at : ℕ → Head → Where
lies_at i h = cond (eqb h.cut.tbn 1) Packet (Storage (i * area) (message_length h.cut))

abbrev pub where_by : Outcome → ℕ → Head → Where
where_by (Refused r age) i h = Nothing
where_by Stored i h = Nothing
where_by (Delivered v) i h = lies_at i h

-- The state with another record for the sender at place i.
unfoldable pub with_sender : Receiver → ℕ → Sender → Receiver
with_sender w i s = with_senders w (set w.senders i s)

-- The answer, by what the record of the sender at place i made of the PDU.
abbrev pub answer_of : Receiver → ℕ → Admission → Where → Answer
answer_of w i o lies = record { outcome = o.outcome; held = o.held; dropped = o.dropped; lies = lies; state = with_sender w i o.sender }

unfoldable pub taken : Receiver → ℕ → Sender → Head → Answer
taken w i s h =
    let o = admitted w.n1 w.clock s h in
    answer_of w i o (where_by o.outcome i h)

-- "returns nothing more"; "A refusal alters no state, stamp, clock, storage or buffer."
unfoldable pub refused : Receiver → Outcome → Answer
refused w o = record { outcome = o; held = 0; dropped = none_dropped; lies = Nothing; state = w }

-- ---- the call

-- What the number check says of a packet with this header.
abbrev pub verdict_at : Receiver → Head → Verdict
verdict_at w h = verdict_of w.n1 (sender_at w (found w h)) h

unfoldable pub message_answer : Receiver → ℕ → List ℕ → Answer
message_answer w room packet =
    by_check (checked (message_rows w room packet))
    (taken w (found w (head_of packet)) (sender_at w (found w (head_of packet))) (head_of packet))
    (λ r. refused w (refusal r (verdict_at w (head_of packet))))

unfoldable pub message_storage : Receiver → List ℕ → List ℕ → List ℕ
message_storage w storage packet =
    by_check (checked (message_rows w (length storage) packet)) (storage_after storage (found w (head_of packet)) (head_of packet) packet) (λ r. storage)
