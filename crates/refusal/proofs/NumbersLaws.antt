-- Laws of the refusals' numbers: none is 0, 1 or any other below 9, and no two refusals have the same. Assumes nothing.
use Rattle.std.specs.Prelude.{ℕ, ◌-◌, ◌≤◌, ◌≡◌, refl, List, [], ◌∷◌, get_or}
use Rattle.std.proofs.Common.{sym, ap, ◌∙◌, arith}
use Rattle.refusal.specs.declared.Refusal.{Refusal}
use Rattle.refusal.specs.declared.Refusal.TheVariants as refusal
use Rattle.refusal.specs.Numbers.{number_of}

pub nine_or_more : (r : Refusal) → 9 ≤ number_of r
nine_or_more refusal.State = omega arith
nine_or_more refusal.Setup = omega arith
nine_or_more refusal.Storage = omega arith
nine_or_more refusal.Length = omega arith
nine_or_more refusal.Header = omega arith
nine_or_more refusal.Sender = omega arith
nine_or_more refusal.Test = omega arith
nine_or_more refusal.Cut = omega arith
nine_or_more refusal.Repeat = omega arith
nine_or_more refusal.Older = omega arith
nine_or_more refusal.Differs = omega arith
nine_or_more refusal.Held = omega arith
nine_or_more refusal.Clock = omega arith
nine_or_more refusal.Alive = omega arith
nine_or_more refusal.Writing = omega arith
nine_or_more refusal.Fault = omega arith
nine_or_more refusal.Group = omega arith
nine_or_more refusal.Tables = omega arith

-- A refusal is read back from its number: of a list of all, in order.
abbrev all_refusals : List Refusal
all_refusals =
    refusal.State
    ∷ refusal.Setup
    ∷ refusal.Storage
    ∷ refusal.Length
    ∷ refusal.Header
    ∷ refusal.Sender
    ∷ refusal.Test
    ∷ refusal.Cut
    ∷ refusal.Repeat
    ∷ refusal.Older
    ∷ refusal.Differs
    ∷ refusal.Held
    ∷ refusal.Clock
    ∷ refusal.Alive
    ∷ refusal.Writing
    ∷ refusal.Fault
    ∷ refusal.Group
    ∷ refusal.Tables
    ∷ []

pub refusal_from : ℕ → Refusal
refusal_from k = get_or all_refusals (k - 9) refusal.Tables

pub refusal_back : (r : Refusal) → refusal_from (number_of r) ≡ r
unfolding refusal_from
refusal_back refusal.State = refl
refusal_back refusal.Setup = refl
refusal_back refusal.Storage = refl
refusal_back refusal.Length = refl
refusal_back refusal.Header = refl
refusal_back refusal.Sender = refl
refusal_back refusal.Test = refl
refusal_back refusal.Cut = refl
refusal_back refusal.Repeat = refl
refusal_back refusal.Older = refl
refusal_back refusal.Differs = refl
refusal_back refusal.Held = refl
refusal_back refusal.Clock = refl
refusal_back refusal.Alive = refl
refusal_back refusal.Writing = refl
refusal_back refusal.Fault = refl
refusal_back refusal.Group = refl
refusal_back refusal.Tables = refl

pub one_number : (r s : Refusal) → number_of r ≡ number_of s → r ≡ s
one_number r s e = sym (refusal_back r) ∙ ap refusal_from e ∙ refusal_back s
