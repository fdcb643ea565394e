-- What a delivered message is joined from: the packets accepted since it last opened.
use Rattle.std.specs.Prelude.{ℕ, ◌≤◌, ◌≡◌, ◌≢◌, length}
use mathlib.Core.List.{List, [], ◌∷◌, Memᴰ}
use Rattle.octets.specs.Run.{run}
use Rattle.header.specs.Head.{head_of}
use Rattle.header.specs.Places.{header_size}
use Rattle.cut.specs.Pieces.{piece, joined}
use Rattle.cut.specs.Possible.{message_length, own_length, unit}

-- What all pieces of a message have alike.
pub record Kin : Type 0 where
  pub version : ℕ
  pub number : ℕ
  pub tcd : ℕ
  pub n : ℕ
  pub tbn : ℕ
  pub u : ℕ

abbrev pub kin_of : List ℕ → Kin
kin_of packet = record {
  version = (head_of packet).given.version.0;
  number = (head_of packet).given.number.0;
  tcd = (head_of packet).given.tcd;
  n = message_length (head_of packet).cut;
  tbn = (head_of packet).cut.tbn;
  u = unit (head_of packet).cut;
}

abbrev pub number_in : List ℕ → ℕ
number_in packet = (head_of packet).cut.cbn

-- The octets behind the header.
abbrev pub behind : List ℕ → List ℕ
behind packet = run header_size (own_length (head_of packet).cut) packet

-- These octets are those of piece c of a message, as one of the packets brought them.
pub record Brought (packets : List (List ℕ)) (kin : Kin) (c : ℕ) (octets : List ℕ) : Type 0 where
  pub packet : List ℕ
  pub among : Memᴰ packet packets
  pub alike : kin_of packet ≡ kin
  pub number : number_in packet ≡ c
  pub same : behind packet ≡ octets

-- "one for each piece number"
abbrev pub OnePerNumber : List (List ℕ) → Type 0
OnePerNumber [] = Unit {0}
OnePerNumber (packet ∷ packets) = ((o : List ℕ) → Memᴰ o packets → number_in o ≢ number_in packet) × OnePerNumber packets

-- "a join of pieces accepted since that message last opened, one for each piece number"
pub record Joined (packets : List (List ℕ)) (packet octets : List ℕ) : Type 0 where
  pub all : length octets ≡ (kin_of packet).n
  pub parts : (c : ℕ) → 1 ≤ c → c ≤ (kin_of packet).tbn → Brought packets (kin_of packet) c (piece octets (kin_of packet).u c)
  pub whole : joined (kin_of packet).tbn (piece octets (kin_of packet).u) ≡ octets
  pub one_each : OnePerNumber packets
