-- The cutter: "writes one PDU by its number. Octets behind it in the buffer stay."
use Rattle.std.specs.Prelude.{ℕ, ◌+◌, ◌^◌, ◌<◌, Bool, cond, ◌&&◌, List, ◌++◌, Result, Ok, Err, leb, length}
use Rattle.std.specs.Result.{result_unwrap_or}
use Rattle.octets.specs.Run.{laid}
use Rattle.refusal.specs.declared.Refusal.{Refusal}
use Rattle.refusal.specs.declared.Refusal.TheVariants.{Writing}
use Rattle.refusal.specs.Numbers.{number_in}
use Rattle.ring.specs.Ring.{is_number}
use Rattle.header.specs.declared.Cut.{Cut}
use Rattle.header.specs.declared.Given.{Given}
use Rattle.header.specs.declared.Head.{Head}
use Rattle.header.specs.Codes.{is_data_field, is_node, is_user, is_mode, is_pri}
use Rattle.header.specs.Head.{header}
use Rattle.header.specs.Places.{header_size}
use Rattle.cut.specs.Pieces.{most_octets, pieces, piece_length, piece}
use Rattle.cut.specs.Possible.{is_unit}

-- "ML: message length + 64. BSIZE: PDU length, header included. CBN: piece number from 1. TBN: number of pieces."
abbrev pub cut_for : ℕ → ℕ → ℕ → Cut
cut_for n u c = record { ml = n + header_size; bsize = piece_length n u c + header_size; cbn = c; tbn = pieces n u }

-- "5.1's other fields are given by the caller, the same for every piece of a message."
abbrev pub head_for : Given → List ℕ → ℕ → ℕ → Head
head_for g m u c = record { given = g; cut = cut_for (length m) u c }

-- "V_SEQ is any 32-bit number": the given numbers that 01 leaves free are 32-bit words, as their types say.
pub record Words (g : Given) : Type 0 where
  pub da_fits : g.da < 2 ^ 32
  pub version_fits : g.version.0 < 2 ^ 32
  pub mctl_fits : g.mctl < 2 ^ 32

-- The PDU of piece c: its header, and behind it the piece.
unfoldable pub pdu : Given → List ℕ → ℕ → ℕ → List ℕ
pdu g m u c = header (head_for g m u c) ++ piece m u c

-- The header values within their limits.
unfoldable pub given_within : Given → Bool
given_within g =
    is_data_field g.field.0 && is_node g.node.0 && is_number g.number.0 && is_user g.tcd && is_mode g.mode && is_pri g.pri

-- n, u and the piece number within theirs.
unfoldable pub piece_within : ℕ → ℕ → ℕ → Bool
piece_within n u c = leb n most_octets && is_unit u && leb 1 c && leb c (pieces n u)

abbrev pub limits_within : Given → ℕ → ℕ → ℕ → Bool
limits_within g n u c = given_within g && piece_within n u c

-- Whether the cutter writes, into a buffer of so many octets. If not, "23: cutter: n, u, piece number or a header value
-- outside limits, or buffer short".
unfoldable pub cuts : Given → List ℕ → ℕ → ℕ → ℕ → Bool
cuts g m u c room = limits_within g (length m) u c && leb (header_size + piece_length (length m) u c) room

-- "A refusal alters no … buffer", and the octets behind the PDU stay.
unfoldable pub cutter_buffer : Given → List ℕ → ℕ → ℕ → List ℕ → List ℕ
cutter_buffer g m u c b = cond (cuts g m u c (length b)) (laid b 0 (pdu g m u c)) b

-- The answer, with the PDU's length.
unfoldable pub cutter_answer : Given → List ℕ → ℕ → ℕ → ℕ → Result ℕ Refusal
cutter_answer g m u c room = cond (cuts g m u c room) (Ok (header_size + piece_length (length m) u c)) (Err Writing)

-- This paper's number for each case, and the PDU's length: "0 stored, done or written"; 23 says nothing more.
pub record CutterTold : Type 0 where
  pub number : ℕ
  pub length : ℕ

abbrev pub cutter_told : Result ℕ Refusal → CutterTold
cutter_told a = record { number = number_in a; length = result_unwrap_or a 0 }
