-- "The message is handed over as a part of the packet or of the storage, never copied out; any other answer gives an
-- empty part."
use Rattle.std.specs.Prelude.{ℕ, ◌+◌, cond, List, [], leb, length, drop}
use Rattle.octets.specs.Run.{run}
use Rattle.header.specs.Places.{header_size}
use Rattle.answers.specs.declared.Where.{Where}
use Rattle.answers.specs.declared.Where.TheVariants.{Nothing, Packet, Storage}

-- "a one-piece message comes back as the part of the lent packet behind its header"
abbrev pub behind_header : List ℕ → List ℕ
behind_header packet = drop header_size packet

-- What does not lie within the storage is empty.
unfoldable pub stored_part : List ℕ → ℕ → ℕ → List ℕ
stored_part storage start n = cond (leb (start + n) (length storage)) (run start n storage) []

-- "packet for one piece, storage for several"
abbrev pub part_of : Where → List ℕ → List ℕ → List ℕ
part_of Nothing packet storage = []
part_of Packet packet storage = behind_header packet
part_of (Storage start n) packet storage = stored_part storage start n
