-- Laws of a state in words: what one sender's words say, and that nothing is lost by it. Assumes nothing.
use Rattle.std.specs.Prelude.{ℕ, ◌+◌, ◌*◌, ◌/◌, ◌%◌, ◌≤◌, ◌<◌, ◌≡◌, refl, Bool, true, false, cond, ◌&&◌, List, ltb, length, take, drop}
use Rattle.std.proofs.Common.{mod-eq_of_lt, lit<, arith, get_or-drop, ltb-true, leb-true, le-leb}
use Rattle.std.proofs.Math.Numerals.{unary_clauses}
use mir.Val.{bool_byte}
use Rattle.std.proofs.Math.Dec.{leb}
use Rattle.std.proofs.lemmas.Bool.{lt-leb}
use Rattle.std.proofs.lemmas.List.{get_or-take}
use Rattle.octets.specs.Split.{and_left, and_right}
use Rattle.header.specs.Codes.{is_data_field, is_node}
use Rattle.state.specs.declared.Address.{Address}
use Rattle.state.specs.Key.{Narrow}
use Rattle.state.specs.Limits.{sender_within}
use Rattle.state.specs.State.{no_heard}
use Rattle.state.proofs.WithinLaws.{if_so, sender_facts}
use Rattle.rules.specs.calls.Alike.{seen}
use Rattle.words.specs.declared.Record.{Record}
use Rattle.words.specs.Words.{place, each, word, record_in, no_record, record_at, half, flag, flag_word, address_in, address_word, sender_of, fits}
use Rattle.words.specs.Shown.{heard_shown, shown}

-- ---- flags

pub flag_byte : (b : Bool) → bool_byte b ≡ flag_word b
flag_byte true = refl
flag_byte false = refl

-- ---- addresses

-- The word of an address says it.
pub address_back : (a : Address) → Narrow a → address_in (address_word a) ≡ a
address_back a h =
    let n = a.node.0 in
    let f = a.field.0 in
    let hi : (f * 65536 + n) / 65536 ≡ f = omega arith in
    let lo : (f * 65536 + n) % 65536 ≡ n = omega arith in
    rw (hi, lo)

-- ---- one sender's words

pub record_there : (l : List ℕ) (i : ℕ) → place i + each ≤ length l → record_at l i ≡ record_in (drop (place i) l)
unfolding record_at
record_there l i h = rw (le-leb (place i + each) (length l) h)

pub record_past : (l : List ℕ) (i : ℕ) → length l < place i + each → record_at l i ≡ no_record
unfolding record_at
record_past l i h = rw (lt-leb (place i + each) (length l) h)

-- The words where they stand.
pub record_read : (l : List ℕ) (n : ℕ) → record_in (drop n l) ≡ record {
  address = word l n;
  last = word l (n + 1);
  «open» = word l (n + 2);
  message = word l (n + 3);
  cut = word l (n + 4);
  map = word l (n + 5);
  stamp = word l (n + 6);
  alive = word l (n + 7);
  heard = word l (n + 8);
  timeout = word l (n + 9);
}
record_read l n = simp (get_or-drop, unary_clauses)

-- Ten words are enough to read them.
pub record_taken : (l : List ℕ) → record_in (take each l) ≡ record_in l
record_taken l =
    let at = λ (k : ℕ) (few : k < each). get_or-take each l k 0 few in
    rw (at 0 (lit< tt), at 1 (lit< tt), at 2 (lit< tt), at 3 (lit< tt), at 4 (lit< tt), at 5 (lit< tt), at 6 (lit< tt), at 7 (lit< tt), at 8 (lit< tt), at 9 (lit< tt))

-- ---- what is looked at

cond_same : {A : Type 0} (b : Bool) {x y : A} (z : A) → (b ≡ true → x ≡ y) → cond b x z ≡ cond b y z
cond_same true z e = e refl
cond_same false z e = refl

module _ (clock : ℕ) (r : Record) (within : fits r && sender_within clock (sender_of r) ≡ true) where
  abbrev is_within : sender_within clock (sender_of r) ≡ true
  is_within = and_right (fits r) (sender_within clock (sender_of r)) within

  one_octet : r.address / 65536 % 256 ≡ r.address / 65536
  one_octet =
      let field = r.address / 65536 in
      let is_field = and_left (is_data_field field) (is_node (r.address % 65536)) (sender_facts clock (sender_of r) is_within).address in
      mod-eq_of_lt (omega (arith, leb-true field 255 (and_right (leb 1 field) (leb field 255) is_field)))

  heard_same : heard_shown r ≡ cond (flag r.alive) (sender_of r).heard no_heard
  unfolding fits
  heard_same = cond_same (flag r.alive) no_heard
      (λ yes.
      let narrow = if_so (flag r.alive) (ltb r.timeout half) (and_right (leb r.«open» 1 && leb r.alive 1) _ (and_left (fits r) (sender_within clock (sender_of r)) within)) yes in
      rw (mod-eq_of_lt (ltb-true r.timeout half narrow)))

  -- Nothing that is looked at is lost where the words fit.
  pub shown_seen : shown r ≡ seen (sender_of r)
  unfolding shown seen
  shown_seen = rw (one_octet, heard_same)
