-- A sender's address by its word: by its key two are compared at once. Assumes nothing.
use Rattle.std.specs.Prelude.{ℕ, ◌/◌, ◌%◌, ◌<◌, ◌≡◌, true, List, eqb, leb, length}
use Rattle.std.proofs.Common.{sym, ap, ◌∙◌, div-add-mod', mod-lt, arith, leb-true}
use Rattle.octets.specs.Split.{and_left, and_right}
use Rattle.header.specs.Codes.{is_data_field, is_node}
use Rattle.state.specs.declared.Sender.{Sender}
use Rattle.state.specs.Key.{key_of, Narrow}
use Rattle.state.proofs.KeyLaws.{same_key}
use Rattle.state.specs.Limits.{is_address, same_address, address_at}
use Rattle.state.specs.State.{senders_most}
use Rattle.words.specs.declared.Record.{Record}
use Rattle.words.specs.Words.{place, words_most, word, half, record_at, address_in, senders_in}
use Rattle.words.proofs.StateLaws.{sender_in_lem}
use Rattle.words.proofs.WordsLaws.{record_there, record_read}

pub address_key : (w : ℕ) → key_of (address_in w) ≡ w
unfolding key_of
address_key w = div-add-mod' w 65536

pub address_narrow : (w : ℕ) → Narrow (address_in w)
address_narrow w = mod-lt w (omega arith)

pub address_same : (w v : ℕ) → eqb w v ≡ same_address (address_in w) (address_in v)
address_same w v =
    ap (λ (x : ℕ). eqb x v) (sym (address_key w)) ∙ ap (λ (y : ℕ). eqb (key_of (address_in w)) y) (sym (address_key v))
    ∙ same_key (address_in w) (address_in v) (address_narrow w) (address_narrow v)

-- An address within its limits has three octets.
pub address_short : (w : ℕ) → is_address (address_in w) ≡ true → w < half
address_short w e =
    let field = w / 65536 in
    let is_field = and_left (is_data_field field) (is_node (w % 65536)) e in
    omega (arith, leb-true field 255 (and_right (leb 1 field) (leb field 255) is_field))

-- A sender's address is its first word.
module _ (l : List ℕ) (many : length l ≡ words_most) (i : ℕ) (few : i < senders_most) where
  pub address_word : (record_at l i).address ≡ word l (place i)
  address_word = ap (λ (r : Record). r.address) (record_there l i (omega arith) ∙ record_read l (place i))

  pub address_in_lem : address_at (senders_in l) i ≡ address_in (word l (place i))
  address_in_lem = ap (λ (s : Sender). s.address) (sender_in_lem l i few) ∙ ap address_in address_word
