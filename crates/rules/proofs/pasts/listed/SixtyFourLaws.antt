-- The 64 pieces: the answers of that listing are those that stand in it. Assumes nothing.
use Rattle.std.specs.Prelude.{ℕ, ◌+◌, ◌≡◌, true, ◌&&◌, List, [], ◌∷◌, ◌++◌, eqb, ltb, length, replicate}
use Rattle.std.proofs.Math.Path.{refl}
use Rattle.std.proofs.Common.{ap₂, ◌∙◌, lit<, eq-eqb}
use Rattle.std.specs.Int.Count.{ones}
use Rattle.std.proofs.lemmas.Nat.{ones_cat}
use Rattle.std.proofs.lemmas.List.{length-replicate}
use Rattle.octets.specs.Run.{laid}
use Rattle.octets.proofs.RunLaws.{length_laid}
use Rattle.map.specs.Map.{full_map}
use Rattle.map.proofs.MapLaws.{partial_is}
use Rattle.state.specs.declared.Receiver.{Receiver}
use Rattle.state.specs.Limits.{valid}
use Rattle.state.specs.State.{new_sender, with_message}
use Rattle.answers.specs.Told.{call_number}
use Rattle.rules.specs.calls.Message.{message_rows, with_sender, message_answer, message_storage}
use Rattle.rules.specs.calls.Question.{question_answer}
use Rattle.rules.specs.calls.Setup.{setup_answer}
use Rattle.rules.specs.pasts.Past.{World, Event, aside, question, step, said}
use Rattle.rules.specs.pasts.Listings.{Line, address, raft, of64, stored, missing, refused as refused_with, told, met, all, sixty_four_pieces, listings}
use Rattle.rules.proofs.pasts.listed.Computing.{kept}

-- 9 counts the ones of the map, and `ones` computes small numbers alone: those of the 64th bit follow by its law.
ones_0 : ones 0 ≡ 0
unfolding ones
ones_0 = refl

ones_1 : ones 1 ≡ 1
unfolding ones
ones_1 = refl

last_alone : ones 9223372036854775808 ≡ 1
last_alone = ones_cat 63 1 0 (lit< tt) ∙ ap₂ ◌+◌ ones_1 ones_0

last_and_first : ones 9223372036854775809 ≡ 2
last_and_first = ones_cat 63 1 1 (lit< tt) ∙ ap₂ ◌+◌ ones_1 ones_1

-- The raft with a map of 64 pieces.
holding : (map held : ℕ) → Receiver
holding map held = with_sender (setup_answer raft).state 0 (with_message (new_sender (address 1 7)) true (
    record { version = record { 0 = 5 }; number = record { 0 = 100 }; tcd = 1; n = 16384; tbn = 64; held = held; u = 256; map = map; stamp = 0 }
    ))

holding_valid : (map held : ℕ) → ones map ≡ held → ltb 0 map && ltb map (full_map 64) ≡ true → valid (holding map held) ≡ true
unfolding kept holding
holding_valid map held e m = rw (e, eq-eqb held held refl, partial_is map 64, m)

abbrev last_held : Receiver
last_held = holding 9223372036854775808 1

abbrev both_held : Receiver
both_held = holding 9223372036854775809 2

last_valid : valid last_held ≡ true
last_valid = holding_valid 9223372036854775808 1 last_alone refl

both_valid : valid both_held ≡ true
both_valid = holding_valid 9223372036854775809 2 last_and_first refl

abbrev world : Receiver → List ℕ → World
world state storage = record { state = state; storage = storage }

sets_up : eqb (call_number (setup_answer raft).call) 0 ≡ true
unfolding kept
sets_up = refl {a = true}

-- Call by call: what is told does not hang on what the storage holds.
module _ (storage : List ℕ) (room : length storage ≡ 16384) (cs : List (Event × Line)) (left : List (ℕ × List ℕ)) where
  last_stored : told (world (setup_answer raft).state storage) ((of64 64, stored 1) ∷ cs) left ≡ told (world last_held (laid storage 16128 (replicate 256 64))) cs left
  unfolding told said step message_answer message_rows message_storage
  last_stored = rw room (unfold kept holding in refl)

  first_missing : told (world last_held storage) ((aside question, missing 0 1) ∷ cs) left ≡ told (world last_held storage) cs left
  unfolding told said step question_answer
  first_missing = rw last_valid (unfold kept holding in refl)

  first_stored : told (world last_held storage) ((of64 1, stored 2) ∷ cs) left ≡ told (world both_held (laid storage 0 (replicate 256 1))) cs left
  unfolding told said step message_answer message_rows message_storage
  first_stored = rw (room, last_valid) (unfold kept holding in refl)

  second_missing : told (world both_held storage) ((aside question, missing 0 2) ∷ cs) left ≡ told (world both_held storage) cs left
  unfolding told said step question_answer
  second_missing = rw both_valid (unfold kept holding in refl)

  last_refused : told (world both_held storage) ((of64 64, refused_with 20) ∷ cs) left ≡ told (world both_held storage) cs left
  unfolding told said step message_answer message_rows message_storage
  last_refused = rw (room, both_valid) (unfold kept holding in refl)

pub sixty_four_pieces_kept : all (listings sixty_four_pieces) ≡ true
unfolding all met listings
sixty_four_pieces_kept = rw (sets_up, goes)
  where
    none : List ℕ
    none = replicate 16384 170

    none_room : length none ≡ 16384
    none_room = length-replicate {A = ℕ} 16384 170

    last : List ℕ
    last = laid none 16128 (replicate 256 64)

    both : List ℕ
    both = laid last 0 (replicate 256 1)

    last_room : length last ≡ 16384
    last_room = length_laid none 16128 (replicate 256 64) ∙ none_room

    both_room : length both ≡ 16384
    both_room = length_laid last 0 (replicate 256 1) ∙ last_room

    left : List (ℕ × List ℕ)
    left = (0, replicate 256 1 ++ (170 ∷ [])) ∷ (16127, 170 ∷ replicate 256 64) ∷ []

    goes : told (world (setup_answer raft).state none) ((of64 64, stored 1) ∷ (aside question, missing 0 1) ∷ (of64 1, stored 2) ∷ (aside question, missing 0 2) ∷ (of64 64, refused_with 20) ∷ []) left ≡ true
    goes =
        last_stored none none_room _ left ∙ first_missing last last_room _ left ∙ first_stored last last_room _ left
        ∙ second_missing both both_room _ left ∙ last_refused both both_room [] left ∙ unfold kept in refl
