-- What is looked at of one sender: each definition that takes a sender's record looks only at what is `seen` of it, and
-- each change of a record changes only that. Assumes nothing.
use Rattle.std.specs.Prelude.{◌≡◌, Bool, true, false, not, cond, ℕ, eqb}
use Rattle.std.proofs.Math.Path.{refl}
use Rattle.std.proofs.Common.{sym, ap, ◌∙◌}
use Rattle.header.specs.declared.Head.{Head}
use Rattle.signal.specs.declared.Body.{Body}
use Rattle.state.specs.declared.Sender.{Sender}
use Rattle.answers.specs.declared.Admission.{Admission}
use Rattle.answers.specs.declared.Outcome.{Outcome}
use Rattle.rules.specs.calls.Admit.{rejoins, verdict_of, sender_rows, map_after, kept_after, fills, dropped_by, held_after, sender_after, admitted, not_admitted, admission}
use Rattle.rules.specs.calls.Alike.{seen}
use Rattle.rules.specs.calls.Alive.{heard_by}
use Rattle.rules.specs.calls.Clock.{drops, dies, aged}
use Rattle.rules.specs.calls.First.{checked}
use Rattle.rules.proofs.calls.FirstLaws.{check_ap}
use Rattle.state.specs.Limits.{sender_within}
use Rattle.state.specs.State.{with_message, with_heard}

-- ---- branches

cond_ap : {A B : Type 0} (f : A → B) (b : Bool) (x y : A) → f (cond b x y) ≡ cond b (f x) (f y)
cond_ap f true x y = refl
cond_ap f false x y = refl

-- What was emptied is empty.
emptied : {A : Type 0} (b : Bool) (none x : A) → cond (not b) (cond b none x) none ≡ cond b none x
emptied true none x = refl
emptied false none x = refl

-- ---- what is looked at of one sender

-- A function that never looks at the rest.
abbrev pub LooksAtSeen : {A : Type 0} → (Sender → A) → Type 0
LooksAtSeen f = (s : Sender) → f (seen s) ≡ f s

pub looks_same : {A : Type 0} (f : Sender → A) → LooksAtSeen f → (s r : Sender) → seen s ≡ seen r → f s ≡ f r
looks_same f law s r e = sym (law s) ∙ ap f e ∙ law r

-- A change that never looks at the rest, and leaves it 0 where it was.
abbrev pub ChangesSeen : (Sender → Sender) → Type 0
ChangesSeen f = (s : Sender) → seen (f s) ≡ f (seen s)

pub changes_same : (f : Sender → Sender) → ChangesSeen f → (s r : Sender) → seen s ≡ seen r → seen (f s) ≡ seen (f r)
changes_same f law s r e = law s ∙ ap f e ∙ sym (law r)

pub changes_zero : (f : Sender → Sender) → ChangesSeen f → (s : Sender) → seen s ≡ s → seen (f s) ≡ f s
changes_zero f law s e = law s ∙ ap f e

-- A sender has a message open or not, and is alive or not.
abbrev flagged : Sender → Bool → Bool → Sender
flagged s o v = with_heard (with_message s o s.message) v s.heard

module _ (P : Sender → Type 0) where
  abbrev Cases : Sender → Type 0
  Cases s = P (flagged s true true) × P (flagged s true false) × P (flagged s false true) × P (flagged s false false)

  by_cases : ((s : Sender) → Cases s) → (s : Sender) → P s
  by_cases f s = by (f s) s.«open» s.alive
    where
      by : Cases s → (o v : Bool) → P (flagged s o v)
      by c true true = c.0
      by c true false = c.1
      by c false true = c.2
      by c false false = c.3

pub looks_address : LooksAtSeen (λ s. s.address)
unfolding seen
looks_address s = refl

pub looks_open : LooksAtSeen (λ s. s.«open»)
unfolding seen
looks_open s = refl

-- The record of an open message is looked at.
pub looks_message : (s : Sender) → s.«open» ≡ true → (seen s).message ≡ s.message
unfolding seen
looks_message s e = rw e

pub looks_within : (clock : ℕ) → LooksAtSeen (sender_within clock)
unfolding seen sender_within
looks_within clock = by_cases _ (λ s. (refl, refl, refl, refl))

-- The clock call.

pub looks_drops : (t now : ℕ) → LooksAtSeen (drops t now)
unfolding seen
looks_drops t now = by_cases _ (λ s. (refl, refl, refl, refl))

pub looks_dies : (now : ℕ) → LooksAtSeen (dies now)
unfolding seen
looks_dies now = by_cases _ (λ s. (refl, refl, refl, refl))

pub changes_aged : (t now : ℕ) → ChangesSeen (aged t now)
unfolding seen aged
changes_aged t now = by_cases _ (λ s. (simp emptied, simp emptied, simp emptied, refl))

-- The alive call.

pub changes_heard : (clock : ℕ) (b : Body) → ChangesSeen (λ s. heard_by clock s b)
unfolding seen heard_by
changes_heard clock b s = cond_ap seen (eqb b.mode 1) _ _

-- The message call.

module _ (h : Head) where
  pub looks_verdict : (n1 : ℕ) → LooksAtSeen (λ s. verdict_of n1 s h)
  unfolding seen
  looks_verdict n1 s = refl

  pub looks_rows : (test : Bool) (n1 : ℕ) → LooksAtSeen (λ s. sender_rows test n1 s h)
  unfolding seen sender_rows rejoins
  looks_rows test n1 = by_cases _ (λ s. (refl, refl, refl, refl))

  pub looks_map : LooksAtSeen (λ s. map_after s h)
  unfolding seen map_after rejoins
  looks_map = by_cases _ (λ s. (refl, refl, refl, refl))

  pub looks_dropped : LooksAtSeen (λ s. dropped_by s h)
  unfolding seen dropped_by rejoins
  looks_dropped = by_cases _ (λ s. (refl, refl, refl, refl))

  pub looks_fills : LooksAtSeen (λ s. fills s h)
  unfolding fills
  looks_fills s = rw (looks_map s)

  pub looks_kept : LooksAtSeen (λ s. kept_after s h)
  unfolding seen kept_after rejoins
  looks_kept = by_cases _ (λ s. (refl, refl, refl, refl))

  pub looks_held : LooksAtSeen (λ s. held_after s h)
  unfolding held_after
  looks_held s = rw (looks_fills s, looks_kept s)

  pub looks_outcome : (n1 clock : ℕ) → LooksAtSeen (λ s. (admitted n1 clock s h).outcome)
  unfolding seen admitted
  looks_outcome n1 clock s = rw (looks_fills s)

  pub looks_admission : (test : Bool) (n1 clock : ℕ) → LooksAtSeen (λ s. (admission test n1 clock s h).outcome)
  unfolding admission not_admitted
  looks_admission test n1 clock s =
      let rows = looks_rows test n1 s in
      let outcome : Admission → Outcome = λ a. a.outcome in
      check_ap outcome (checked (sender_rows test n1 (seen s) h)) _ _
      ∙ rw (rows, looks_outcome n1 clock s, looks_verdict n1 s) (sym (check_ap outcome (checked (sender_rows test n1 s h)) _ _))

  pub changes_after : (n1 clock : ℕ) → ChangesSeen (λ s. sender_after n1 clock s h)
  unfolding seen sender_after
  changes_after n1 clock s = cond_ap seen (fills s h) _ _ ∙ rw (looks_fills s, looks_map s, looks_kept s)
