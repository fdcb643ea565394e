-- What a call changes of one sender's words is what it changes of the sender. Assumes nothing.
use Rattle.std.specs.Prelude.{ℕ, ◌+◌, ◌*◌, ◌/◌, ◌%◌, ◌<◌, ◌≡◌, Bool, not, ◌&&◌, ◌||◌}
use Rattle.std.proofs.Math.Path.{refl}
use Rattle.std.proofs.Math.Bool.{true, false}
use Rattle.std.proofs.Common.{arith}
use Rattle.std.proofs.Math.Dec.{leb, ltb}
use borrow.Author.Tests.{leb-true, lt-ltb}
use Rattle.octets.specs.Split.{and_left, and_right}
use Rattle.ring.specs.Ring.{M}
use Rattle.cut.proofs.PossibleLaws.{several_facts, several_most}
use Rattle.state.specs.declared.Heard.{Heard}
use Rattle.state.specs.declared.Last.{Last}
use Rattle.state.specs.declared.Message.{Message}
use Rattle.state.specs.declared.Sender.{Sender}
use Rattle.state.specs.Limits.{last_within, message_within}
use Rattle.state.specs.State.{no_message, with_message, with_heard, with_last}
use Rattle.state.proofs.WithinLaws.{message_facts, held_most}
use Rattle.rules.specs.calls.Alike.{seen}
use Rattle.words.specs.declared.Record.{Record}
use Rattle.words.specs.Words.{half, flag, flag_word, pair, cut_word, last_in, message_in, sender_of, joined_by, heard_as, fits}

-- ---- one word

pub flag_there : (b : Bool) → flag (flag_word b) ≡ b
flag_there true = refl
flag_there false = refl

flag_most : (b : Bool) → leb (flag_word b) 1 ≡ true
flag_most true = refl
flag_most false = refl

-- A number that four octets hold.
pub pair_there : (l : Last) → l.number.0 < half → last_in (pair l.version.0 l.number.0) ≡ l
pair_there l h =
    let v = l.version.0 in
    let n = l.number.0 in
    let hi : (v * half + n) / half ≡ v = omega arith in
    let lo : (v * half + n) % half ≡ n = omega arith in
    rw (hi, lo)

last_short : (l : Last) → last_within l ≡ true → l.number.0 < half
unfolding last_within
last_short l e = omega (arith, leb-true l.number.0 M (and_left (leb l.number.0 M) _ e))

-- A message whose numbers their octets hold.
message_there : (r : Record) (m : Message) → r.message ≡ pair m.version.0 m.number.0 → r.cut ≡ cut_word m → r.map ≡ m.map → r.stamp ≡ m.stamp
    → m.number.0 < half → m.n < 65536 → m.u < 65536 → m.held < 256 → m.tbn < 256 → message_in r ≡ m
message_there r m e f g d number n u k t =
    let v = m.version.0 in
    let s = m.number.0 in
    let w = cut_word m in
    let a1 : (v * half + s) / half ≡ v = omega arith in
    let a2 : (v * half + s) % half ≡ s = omega arith in
    let a3 : w / 281474976710656 ≡ m.tcd = omega arith in
    let front : w / half ≡ m.tcd * 65536 + m.n = omega arith in
    let a4 : w / half % 65536 ≡ m.n = rw front (omega arith) in
    let a5 : w % 256 ≡ m.tbn = omega arith in
    let most : w / 65536 ≡ (m.tcd * 65536 + m.n) * 65536 + m.u = omega arith in
    let a6 : w / 65536 % 65536 ≡ m.u = rw most (omega arith) in
    let all : w / 256 ≡ ((m.tcd * 65536 + m.n) * 65536 + m.u) * 256 + m.held = omega arith in
    let a7 : w / 256 % 256 ≡ m.held = rw all (omega arith) in
    rw (e, f, g, d, a1, a2, a3, a4, a5, a6, a7)

within_there : (clock : ℕ) (r : Record) (m : Message) → message_within clock m ≡ true → r.message ≡ pair m.version.0 m.number.0
    → r.cut ≡ cut_word m → r.map ≡ m.map → r.stamp ≡ m.stamp → message_in r ≡ m
within_there clock r m ok e f g d =
    let facts = message_facts clock m ok in
    let several = several_facts m.n m.tbn m.u facts.cut in
    let number = leb-true m.number.0 M (and_right (leb 1 m.number.0) (leb m.number.0 M) facts.number) in
    let most = several_most m.n m.tbn m.u several in
    message_there r m e f g d (omega arith) (omega (arith, several.big)) (omega (arith, several.high)) (omega (arith, held_most clock m facts)) (omega (arith, most))

-- ---- a message call

module _ (r : Record) where
  -- A sender with nothing open.
  pub closed_there : (l : Last) → last_within l ≡ true → sender_of (joined_by r (seen (with_last (with_message (sender_of r) false no_message) l))) ≡ with_last (with_message (sender_of r) false no_message) l
  unfolding seen
  closed_there l e = rw (pair_there l (last_short l e))

  -- A sender with this message open.
  pub opened_there : (clock : ℕ) (m : Message) → message_within clock m ≡ true
      → sender_of (joined_by r (seen (with_message (sender_of r) true m))) ≡ with_message (sender_of r) true m
  unfolding seen
  opened_there clock m ok =
      let q = joined_by r (seen (with_message (sender_of r) true m)) in
      rw (pair_there (last_in r.last) (omega arith), within_there clock q m ok refl refl refl refl)

  pub joined_fits : (s : Sender) → fits r ≡ true → fits (joined_by r s) ≡ true
  unfolding fits
  joined_fits s e =
      let flags = and_left (leb r.«open» 1 && leb r.alive 1) (not (flag r.alive) || ltb r.timeout half) e in
      let timeout = and_right (leb r.«open» 1 && leb r.alive 1) (not (flag r.alive) || ltb r.timeout half) e in
      rw (flag_most s.«open», and_right (leb r.«open» 1) (leb r.alive 1) flags, timeout)

  -- ---- an alive signal

  pub heard_there : (b : Bool) (h : Heard) → sender_of (heard_as r b h) ≡ with_heard (sender_of r) b h
  heard_there b h = rw (flag_there b)

  pub heard_fits : (b : Bool) (h : Heard) → h.timeout < half → fits r ≡ true → fits (heard_as r b h) ≡ true
  unfolding fits
  heard_fits b h short e =
      let flags = and_left (leb r.«open» 1 && leb r.alive 1) (not (flag r.alive) || ltb r.timeout half) e in
      rw (flag_most b, and_left (leb r.«open» 1) (leb r.alive 1) flags, lt-ltb h.timeout half short) (or_true (not (flag (flag_word b))))
    where
      or_true : (p : Bool) → p || true ≡ true
      or_true true = refl
      or_true false = refl
