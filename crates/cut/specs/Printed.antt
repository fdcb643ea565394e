-- Cutting as 01 prints it, with its own numbers: how many pieces there are and what each carries, what the cutter
-- takes, and when a PDU's cut is possible. Proved in PrintedLaws.antt.
use Rattle.std.specs.Prelude.{ℕ, ◌+◌, ◌-◌, ◌*◌, ◌≤◌, ◌<◌, ◌≡◌, ◌⊎◌, true, List, length}
use Rattle.header.specs.declared.Cut.{Cut}
use Rattle.header.specs.declared.Given.{Given}
use Rattle.cut.specs.Cutter.{cuts}
use Rattle.cut.specs.Pieces.{pieces}
use Rattle.cut.specs.Possible.{possible}

-- ---- "Cutting"

-- "If n ≤ u there is one piece, also for n = 0. Otherwise there are n / u rounded up, at most 64."
pub record CountIs (n u t : ℕ) : Type 0 where
  pub one : n ≤ u → t ≡ 1
  pub rounded_up : u < n → ((t - 1) * u < n) × (n ≤ t * u)
  pub least : 1 ≤ t
  pub most : t ≤ 64

-- "All but the last carry u octets, the last carries the rest": of t pieces, piece c carries p octets.
pub record Carries (n u t c p : ℕ) : Type 0 where
  pub front : c < t → p ≡ u
  pub last : c ≡ t → (t - 1) * u + p ≡ n

-- "n, u, piece number or a header value" within their limits: "0 to 16,384", "256 to 1,396", "Data field numbers (1 to
-- 255) and node numbers (1 to 4,095)", "SEQ is 1 to M", "1 to 59,999 are the user's", "(0 = Online mode, 1 = Test
-- mode)", "PRI is 0 to 7".
pub record Limits (g : Given) (n u c : ℕ) : Type 0 where
  pub octets : n ≤ 16384
  pub unit : (256 ≤ u) × (u ≤ 1396)
  pub piece : (1 ≤ c) × (c ≤ pieces n u)
  pub data_field_octet : (1 ≤ g.field.0) × (g.field.0 ≤ 255)
  pub node : (1 ≤ g.node.0) × (g.node.0 ≤ 4095)
  pub number : (1 ≤ g.number.0) × (g.number.0 ≤ 2147483647)
  pub code : (1 ≤ g.tcd) × (g.tcd ≤ 59999)
  pub mode : (g.mode ≡ 0) ⊎ (g.mode ≡ 1)
  pub pri : g.pri ≤ 7

-- The cutter takes what is within these limits, in a buffer that is not short, and nothing else.
pub record CutsAsPrinted : Type 0 where
  pub count : (n u : ℕ) → n ≤ 16384 → 256 ≤ u → u ≤ 1396 → CountIs n u (pieces n u)
  pub takes : (g : Given) (m : List ℕ) (u c p room : ℕ) → Limits g (length m) u c → Carries (length m) u (pieces (length m) u) c p → 64 + p ≤ room
      → cuts g m u c room ≡ true
  pub only : (g : Given) (m : List ℕ) (u c p room : ℕ) → cuts g m u c room ≡ true
      → Limits g (length m) u c × (Carries (length m) u (pieces (length m) u) c p → 64 + p ≤ room)

-- ---- "Is a PDU's cut possible?"

-- "Needed: 0 ≤ n ≤ 16,384 and 1 ≤ CBN ≤ TBN. With TBN = 1: p = n. With CBN < TBN: u = p, 256 ≤ u ≤ 1,396, and (TBN −
-- 1) × u < n ≤ TBN × u. With CBN = TBN > 1: n − p is positive and divides evenly by TBN − 1, the quotient is u, 256 ≤ u
-- ≤ 1,396, and 1 ≤ p ≤ u." c is CBN, t is TBN.
pub data PossibleCut (n p c t : ℕ) : Type 0 where
  one_piece_lem : n ≤ 16384 → c ≡ 1 → t ≡ 1 → p ≡ n → PossibleCut n p c t
  front_piece : n ≤ 16384 → 1 ≤ c → c < t → 256 ≤ p → p ≤ 1396 → (t - 1) * p < n → n ≤ t * p → PossibleCut n p c t
  last_piece : {u : ℕ} → n ≤ 16384 → 1 < c → c ≡ t → n ≡ (t - 1) * u + p → 256 ≤ u → u ≤ 1396 → 1 ≤ p → p ≤ u → PossibleCut n p c t

-- "Let n = ML − 64 and p = BSIZE − 64", neither below 0.
pub record IsPossible (cut : Cut) : Type 0 where
  pub ml_least : 64 ≤ cut.ml
  pub bsize_least : 64 ≤ cut.bsize
  pub needed : PossibleCut (cut.ml - 64) (cut.bsize - 64) cut.cbn cut.tbn

-- A cut is possible exactly when the paper says so.
pub record PossibleAsPrinted : Type 0 where
  pub says : (cut : Cut) → IsPossible cut → possible cut ≡ true
  pub given : (cut : Cut) → possible cut ≡ true → IsPossible cut
