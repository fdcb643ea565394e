-- For private functions' contracts alone: the tests of number 9, in the order in which they are made.
use Rattle.std.specs.Prelude.{ℕ, zero, suc, ◌/◌, ◌%◌, ◌≤◌, ◌≡◌, Bool, true, not, cond, ◌&&◌, ◌||◌, List, eqb, leb, ltb, length}
use Rattle.std.specs.Int.Count.{ones}
use Rattle.header.specs.Codes.{is_user}
use Rattle.groups.specs.Groups.{groups_within}
use Rattle.cut.specs.Possible.{several_possible}
use Rattle.map.specs.Map.{is_empty, is_full, marked_past}
use Rattle.state.specs.Limits.{is_n1, is_drop_time, clock_most, message_within, sender_within, new_among, address_at, settings_within}
use Rattle.state.specs.State.{senders_most}
use Rattle.words.specs.declared.Record.{Record}
use Rattle.words.specs.Words.{words_most, word, groups_in, half, flag, message_in, sender_of, fits, record_at, senders_in, state_in}

-- ---- the settings

-- Each by itself, the test flag too.
unfoldable pub each_setting : List ℕ → Bool
each_setting l =
    leb (word l 0) 1
    && (leb (word l 3) clock_most && leb (word l 4) senders_most && is_n1 (word l 1) && is_drop_time (word l 2) && groups_within (groups_in (word l 5) (word l 6)))

unfoldable pub settings_fit : List ℕ → Bool
settings_fit l = leb (word l 0) 1 && settings_within (state_in l)

-- ---- one sender's words

-- What is asked where a flag is set, of a word that is a flag.
abbrev pub where_set : ℕ → Bool → Bool
where_set w asked = cond (flag w) asked (eqb w 0)

abbrev pub alive_within : ℕ → Record → Bool
alive_within clock r = where_set r.alive (ltb r.timeout half && leb r.heard clock)

abbrev pub open_within : ℕ → Record → Bool
open_within clock r = where_set r.«open» (message_within clock (message_in r))

-- Of an open message, by its words: its code, its cut and its map, and how many pieces are held.
unfoldable pub cut_within : ℕ → ℕ → Bool
cut_within cut map =
    is_user (cut / 281474976710656) && (several_possible (cut / half % 65536) (cut % 256) (cut / 65536 % 65536)
    && (not (is_empty map || is_full map (cut % 256) || marked_past map (cut % 256)) && eqb (cut / 256 % 256) (ones map)))

unfoldable pub record_within : ℕ → Record → Bool
record_within clock r = fits r && sender_within clock (sender_of r)

-- ---- all senders

-- As many words as a state has, and no more senders than it has places.
pub record Sized (l : List ℕ) (count : ℕ) : Type 0 where
  pub many : length l ≡ words_most
  pub most : count ≤ senders_most

-- A test that each of 0 to k - 1 passes.
unfoldable pub each_to : (ℕ → Bool) → ℕ → Bool
each_to f zero = true
each_to f (suc k) = each_to f k && f k

abbrev pub records_within : List ℕ → ℕ → Bool
records_within l k = each_to (λ i. record_within (word l 3) (record_at l i)) k

-- "no pair twice"
abbrev pub none_twice : List ℕ → ℕ → Bool
none_twice l k = each_to (λ i. new_among (address_at (senders_in l)) i (address_at (senders_in l) i)) k
