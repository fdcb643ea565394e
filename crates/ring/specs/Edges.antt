-- Both sides of the half and of the ring's end: one table of which number is newer, and one claim over it. The rows were
-- worked out by hand.
use Rattle.std.specs.Prelude.{ℕ, ◌≡◌, refl, Bool, true, not, ◌&&◌, List, [], ◌∷◌}
use Rattle.ring.specs.declared.Number.{Number}
use Rattle.ring.specs.Ring.{remainder, newer}

pub data Edge : Type 0 where
  -- the open number, and one that is newer
  replaced : (opened seq : ℕ) → Edge
  -- the open number, and one that is older
  late : (opened seq : ℕ) → Edge
  -- a number and itself
  itself : ℕ → Edge

abbrev numbered : ℕ → Number
numbered x = record { 0 = x }

abbrev pub met : Edge → Bool
met (replaced opened seq) = newer (numbered seq) (numbered opened) && not (newer (numbered opened) (numbered seq))
met (late opened seq) = newer (numbered opened) (numbered seq) && not (newer (numbered seq) (numbered opened))
met (itself x) = not (newer (numbered x) (numbered x))

abbrev pub all : List Edge → Bool
all [] = true
all (e ∷ es) = met e && all es

abbrev pub edges : List Edge
edges =
    -- 02: "open M, 1 comes: replaced. Open 1, M comes: 18."
    replaced 2147483647 1
    ∷ late 1 2147483647
    -- 1,073,741,823 on and 1,073,741,824 on: ending below M,
    ∷ replaced 1 1073741824
    ∷ late 1 1073741825
    ∷ replaced 1073741822 2147483645
    ∷ late 1073741822 2147483646
    ∷ replaced 1073741823 2147483646
    -- at M,
    ∷ late 1073741823 2147483647
    ∷ replaced 1073741824 2147483647
    -- and above it
    ∷ late 1073741824 1
    ∷ replaced 1073741825 1
    ∷ late 1073741825 2
    ∷ replaced 2147483646 1073741822
    ∷ late 2147483646 1073741823
    ∷ replaced 2147483647 1073741823
    ∷ late 2147483647 1073741824
    -- one on and one back
    ∷ replaced 1 2
    ∷ late 2 1
    ∷ replaced 2147483646 2147483647
    ∷ late 2147483647 2147483646
    ∷ itself 1
    ∷ itself 1073741824
    ∷ itself 2147483647
    ∷ []

pub every_edge : all edges ≡ true
unfolding newer remainder
every_edge = refl {a = true}
