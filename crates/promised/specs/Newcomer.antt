-- 02, Item 3: what a packet is told where a message of its sender is open, by how far on its number lies from the open
-- one. Proved in NewcomerLaws.antt.
use Rattle.std.specs.Prelude.{ℕ, ◌≤◌, ◌<◌, ◌≡◌, ◌≢◌, List, [], ◌∷◌}
use Rattle.ring.specs.Printed.{Remainder}
use Rattle.state.specs.Table.{source}
use Rattle.header.specs.Head.{head_of}
use Rattle.answers.specs.declared.Setup.{Setup}
use Rattle.answers.specs.Told.{MessageTold, message_refused}
use Rattle.promised.specs.Log.{Exchange, Name, name_of, deliveries, last_of, open_of}
use Rattle.promised.specs.Says.{senders_of, place_of, message_by, verdict_after}

-- A message with a name is open for the packet's sender: "A sender has at most one open message". Which it is says the
-- last packet that was accepted of it.
pub record Under (q : Setup) (log : List Exchange) (packet : List ℕ) (opened : Name) : Type 0 where
  pub last : List ℕ
  pub others : List (List ℕ)
  pub is_open : let a = source (head_of packet) in
      open_of a (place_of (senders_of q) a) log ≡ last ∷ others
  pub is_named : name_of last ≡ opened

-- d is "(SEQ − open SEQ) modulo M", "with the same version".
abbrev pub LiesOn : Name → Name → ℕ → Type 0
LiesOn newcomer opened d = (newcomer.version ≡ opened.version) × Remainder newcomer.number.0 opened.number.0 d

-- What the packet would be told were nothing open for its sender.
abbrev pub fresh_told : Setup → List Exchange → List ℕ → MessageTold
fresh_told q log packet =
    let a = source (head_of packet) in
    (message_by q (place_of (senders_of q) a) (verdict_after q (last_of a (deliveries log)) (name_of packet)) [] packet).0

-- It is told that, and where it is stored or delivered "the open message is dropped, its version and number stand in the
-- answer".
pub record Replaces (opened : Name) (fresh told : MessageTold) : Type 0 where
  pub outcome : told.outcome ≡ fresh.outcome
  pub held : told.held ≡ fresh.held
  pub lies : told.lies ≡ fresh.lies
  pub drops : told.outcome.number ≤ 1 → (told.dropped_version ≡ opened.version.0) × (told.dropped_number ≡ opened.number.0)

-- "18" where it would be stored or delivered, and otherwise what it would be told: "17 still comes first."
pub record Late (fresh told : MessageTold) : Type 0 where
  pub eighteen : fresh.outcome.number ≤ 1 → told ≡ message_refused 18 0
  pub lower : 1 < fresh.outcome.number → told ≡ fresh

pub record Newcomer (newcomer opened : Name) (fresh told : MessageTold) : Type 0 where
  -- "newer when (SEQ − open SEQ) modulo M is 1 to 1,073,741,823,"
  pub newer : (d : ℕ) → LiesOn newcomer opened d → 1 ≤ d → d ≤ 1073741823 → Replaces opened fresh told
  -- "and older when it is larger."
  pub older : (d : ℕ) → LiesOn newcomer opened d → 1073741823 < d → Late fresh told
  -- "0 the same": not 18.
  pub same : LiesOn newcomer opened 0 → told.outcome.number ≢ 18
  -- "Another version always replaces."
  pub another : newcomer.version.0 ≢ opened.version.0 → Replaces opened fresh told
