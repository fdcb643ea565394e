-- A look at all words of a state: number 9, and a sender's place.
use Rattle.std.specs.Prelude.{ℕ, zero, suc, Bool, false, cond, ◌&&◌, List, ltb}
use Rattle.state.specs.declared.Address.{Address}
use Rattle.state.specs.declared.Look.{Look}
use Rattle.state.specs.Limits.{same_address, valid}
use Rattle.state.specs.Table.{look_at}
use Rattle.words.specs.Words.{place, word, address_in, is_state, state_in}

-- Number 9 is told unless the words are a state, and it is within its limits.
unfoldable pub is_held : List ℕ → Bool
is_held l = is_state l && valid (state_in l)

abbrev pub outside : Look
outside = record { valid = false; at = 0 }

-- What a look at the words finds: number 9 for words that are no state, and for a state outside its limits.
unfoldable pub look_in : List ℕ → Address → Look
look_in l a = cond (is_state l) (look_at (state_in l) a) outside

-- "in table order": the first of the first k places whose sender has this address; k where none has it.
unfoldable pub place_in : List ℕ → Address → ℕ → ℕ
place_in l a zero = 0
place_in l a (suc k) = cond (ltb (place_in l a k) k) (place_in l a k) (cond (same_address (address_in (word l (place k))) a) k (suc k))
