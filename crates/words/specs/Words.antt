-- A receiver's state in words of 64 bits that a board lends: which words are a state, and which state they are. One
-- table says where each word stands.
use Rattle.std.specs.Prelude.{ℕ, zero, suc, ◌+◌, ◌*◌, ◌/◌, ◌%◌, Bool, true, not, cond, ◌&&◌, ◌||◌, List, [], ◌∷◌, ◌++◌, eqb, leb, ltb, length, get_or, drop}
use Rattle.groups.specs.declared.Groups.{Groups}
use Rattle.groups.specs.Groups.{number_at}
use Rattle.state.specs.declared.Address.{Address}
use Rattle.state.specs.declared.Heard.{Heard}
use Rattle.state.specs.declared.Last.{Last}
use Rattle.state.specs.declared.Message.{Message}
use Rattle.state.specs.declared.Receiver.{Receiver}
use Rattle.state.specs.declared.Sender.{Sender}
use Rattle.state.specs.State.{senders_most, sender_at, Settings, state_of}
use Rattle.words.specs.declared.Record.{Record}

-- ---- the table

-- Seven words come first: test, N1, T, the clock, the count, how many groups there are, and the groups. Then each of the
-- 16 senders has ten.
abbrev pub before : ℕ
before = 7

abbrev pub each : ℕ
each = 10

abbrev pub place : ℕ → ℕ
place i = before + i * each

abbrev pub words_most : ℕ
words_most = place senders_most

abbrev pub word : List ℕ → ℕ → ℕ
word l k = get_or l k 0

-- The ten words of one sender, in their order.
abbrev pub record_in : List ℕ → Record
record_in l = record {
  address = word l 0;
  last = word l 1;
  «open» = word l 2;
  message = word l 3;
  cut = word l 4;
  map = word l 5;
  stamp = word l 6;
  alive = word l 7;
  heard = word l 8;
  timeout = word l 9;
}

abbrev pub record_words : Record → List ℕ
record_words r =
    r.address ∷ r.last ∷ r.«open» ∷ r.message ∷ r.cut ∷ r.map ∷ r.stamp ∷ r.alive ∷ r.heard ∷ r.timeout ∷ []

abbrev pub no_record : Record
no_record = record_in []

-- The words of the sender at a place; none where there are not so many.
unfoldable pub record_at : List ℕ → ℕ → Record
record_at l i = cond (leb (place i + each) (length l)) (record_in (drop (place i) l)) no_record

-- ---- what one word says

-- "each a data field and a node", as the header has them: one octet, and two behind it.
abbrev pub address_in : ℕ → Address
address_in w = record { field = record { 0 = w / 65536 }; node = record { 0 = w % 65536 } }

abbrev pub address_word : Address → ℕ
address_word a = a.field.0 * 65536 + a.node.0

-- A version and a number, as the header has them: four octets each.
abbrev pub half : ℕ
half = 4294967296

abbrev pub pair : ℕ → ℕ → ℕ
pair version number = version * half + number

-- TCD, n and u, two octets each; how many pieces are held and TBN, one each.
abbrev pub cut_word : Message → ℕ
cut_word m = m.tcd * 281474976710656 + m.n * half + m.u * 65536 + m.held * 256 + m.tbn

-- The groups, an octet each, the first lowest.
abbrev pub groups_in : ℕ → ℕ → Groups
groups_in count w = record {
  count = count;
  list = record { 0 = w % 256 } ∷ record { 0 = w / 256 % 256 } ∷ record { 0 = w / 65536 % 256 } ∷ record { 0 = w / 16777216 % 256 }
      ∷ record { 0 = w / half % 256 } ∷ record { 0 = w / 1099511627776 % 256 } ∷ record { 0 = w / 281474976710656 % 256 }
      ∷ record { 0 = w / 72057594037927936 } ∷ [];
}

-- Four of them from a place on.
abbrev pub four_at : Groups → ℕ → ℕ
four_at g k = number_at g (k + 3) * 16777216 + number_at g (k + 2) * 65536 + number_at g (k + 1) * 256 + number_at g k

abbrev pub groups_word : Groups → ℕ
groups_word g = four_at g 4 * half + four_at g 0

-- ---- what one sender's words say

abbrev pub last_in : ℕ → Last
last_in w = record { version = record { 0 = w / half }; number = record { 0 = w % half } }

abbrev pub message_in : Record → Message
message_in r = record {
  version = record { 0 = r.message / half };
  number = record { 0 = r.message % half };
  tcd = r.cut / 281474976710656;
  n = r.cut / half % 65536;
  tbn = r.cut % 256;
  held = r.cut / 256 % 256;
  u = r.cut / 65536 % 65536;
  map = r.map;
  stamp = r.stamp;
}

-- A flag is 1 where it is set, otherwise 0.
abbrev pub flag : ℕ → Bool
flag w = eqb w 1

abbrev pub flag_word : Bool → ℕ
flag_word b = cond b 1 0

abbrev pub sender_of : Record → Sender
sender_of r = record {
  address = address_in r.address;
  last = last_in r.last;
  «open» = flag r.«open»;
  message = message_in r;
  alive = flag r.alive;
  heard = record { stamp = r.heard; timeout = r.timeout };
}

abbrev pub record_of : Sender → Record
record_of s = record {
  address = address_word s.address;
  last = pair s.last.version.0 s.last.number.0;
  «open» = flag_word s.«open»;
  message = pair s.message.version.0 s.message.number.0;
  cut = cut_word s.message;
  map = s.message.map;
  stamp = s.message.stamp;
  alive = flag_word s.alive;
  heard = s.heard.stamp;
  timeout = s.heard.timeout;
}

-- A word that no field can hold: a flag of 2, an al_tm_out of more than four octets. Other words that are too large for
-- their field are outside the state's limits (Limits of `state`). What is not looked at may be anything.
unfoldable pub fits : Record → Bool
fits r = leb r.«open» 1 && leb r.alive 1 && (not (flag r.alive) || ltb r.timeout half)

-- The words with another last version and number, and another message, open or not: what a message call changes.
abbrev pub joined_by : Record → Sender → Record
joined_by r s = record {
  address = r.address;
  last = (record_of s).last;
  «open» = (record_of s).«open»;
  message = (record_of s).message;
  cut = (record_of s).cut;
  map = (record_of s).map;
  stamp = (record_of s).stamp;
  alive = r.alive;
  heard = r.heard;
  timeout = r.timeout;
}

-- The words of a sender heard at another time, alive or not: what an alive signal changes.
abbrev pub heard_as : Record → Bool → Heard → Record
heard_as r alive h = record {
  address = r.address;
  last = r.last;
  «open» = r.«open»;
  message = r.message;
  cut = r.cut;
  map = r.map;
  stamp = r.stamp;
  alive = flag_word alive;
  heard = h.stamp;
  timeout = h.timeout;
}

-- ---- the whole state

-- What f says of 0 to k - 1.
unfoldable pub listed : {A : Type 0} → (ℕ → A) → ℕ → List A
listed f zero = []
listed f (suc k) = listed f k ++ (f k ∷ [])

abbrev pub settings_in : List ℕ → Settings
settings_in l = record { test = flag (word l 0); n1 = word l 1; t = word l 2; count = word l 4; groups = groups_in (word l 5) (word l 6) }

unfoldable pub senders_in : List ℕ → List Sender
senders_in l = listed (λ i. sender_of (record_at l i)) senders_most

-- The state that words are.
abbrev pub state_in : List ℕ → Receiver
state_in l = state_of (settings_in l) (word l 3) (senders_in l)

-- Words that are a state's: as many as it has, no more senders than there are places, and none that no field can hold.
-- "places past the senders are … never looked at".
unfoldable pub fit_to : List ℕ → ℕ → Bool
fit_to l zero = true
fit_to l (suc k) = fit_to l k && fits (record_at l k)

unfoldable pub is_state : List ℕ → Bool
is_state l = eqb (length l) words_most && leb (word l 0) 1 && leb (word l 4) senders_most && fit_to l (word l 4)

-- ---- a state, in words

-- The words of the first k senders, one behind the other.
unfoldable pub sender_words : (ℕ → Sender) → ℕ → List ℕ
sender_words f zero = []
sender_words f (suc k) = sender_words f k ++ record_words (record_of (f k))

abbrev pub settings_words : Receiver → List ℕ
settings_words w = flag_word w.test ∷ w.n1 ∷ w.t ∷ w.clock ∷ w.count ∷ w.groups.count ∷ groups_word w.groups ∷ []

-- The words of a state, with those of its first k senders.
abbrev pub front : Receiver → ℕ → List ℕ
front w k = settings_words w ++ sender_words (sender_at w) k

-- All words of a state: "places past the senders are written 0".
abbrev pub words_of : Receiver → List ℕ
words_of w = front w senders_most

-- The words l with the state w in them. Words past the senders stay.
unfoldable pub written : List ℕ → Receiver → List ℕ
written l w = front w w.count ++ drop (place w.count) l

-- What a call leaves, if it leaves the state w; words that are no state stay.
unfoldable pub left_by : List ℕ → Receiver → List ℕ
left_by l w = cond (is_state l) (written l w) l
