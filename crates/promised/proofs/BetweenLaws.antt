-- Calls that may come between the pieces of a message, where more or less is asked of its sender's packets. Assumes
-- nothing.
use Rattle.std.specs.Prelude.{ℕ, ◌≡◌, refl, true}
use mathlib.Core.List.{List, [], ◌∷◌, Memᴰ}
use Rattle.answers.specs.Told.{MessageTold}
use Rattle.rules.specs.pasts.Past.{Event, message, alive, clock, aside, Answers}
use Rattle.promised.specs.Delivery.{Sent, Allowed, Between}
use Rattle.promised.specs.Judged.{is_from}
use Rattle.promised.specs.Log.{ToldOf, told_by, Exchange, exchange}

module _ (own asked : List ℕ → MessageTold → Type 0) (m : Sent) (i : ℕ) where
  allowed_by : (log : List Exchange) (e : Event) (told : ToldOf e)
      → ((p : List ℕ) (t : MessageTold) → message p ≡ e → is_from m.address p ≡ true → own p t → asked p t) → Allowed own m i log e told → Allowed asked m i log e told
  allowed_by log (message p) told so f = λ mine. so p told.0 refl mine (f mine)
  allowed_by log (alive p) told so f = f
  allowed_by log (clock ms) told so f = f
  allowed_by log (aside call) told so f = f

  -- They may come too where what is asked of the sender's packets holds of those that come.
  pub between_by : (log : List Exchange) (es : List Event) (rs : Answers es)
      → ((p : List ℕ) (t : MessageTold) → Memᴰ (message p) es → is_from m.address p ≡ true → own p t → asked p t)
      → Between own m i log es rs → Between asked m i log es rs
  between_by log [] rs so f = f
  between_by log (e ∷ es) rs so f = (
    allowed_by log e (told_by e rs.0) (λ p t is. so p t (Memᴰ.head is)) f.0,
    between_by (exchange e (told_by e rs.0) ∷ log) es rs.1 (λ p t there. so p t (Memᴰ.tail there)) f.1,
  )
