-- What lies within the storage is its run; what does not is cut off, and that is seen by its length. Assumes nothing.
use mathlib.Core.Path.{◌≡◌, ap, ◌∙◌}
use mathlib.Core.Logic.{⊎_elim}
use mathlib.Core.List.{List, []}
use Prim.Native.Nat.{ℕ, ◌+◌, ◌≤◌, ◌<◌}
use native.Mathlib.Omega.{arith}
use lib.ListN.{length, take, drop, length-take, length-drop}
use borrow.Author.Tests.{le-leb, lt-leb}
use Rattle.octets.specs.Run.{run}
use Rattle.octets.proofs.RunLaws.{length_run}
use Rattle.octets.specs.Split.{lt_or_le}
use Rattle.rules.specs.calls.Part.{stored_part}
use Rattle.receiver.proofs.part.stored_part.Goals as goal

module _ (s : List ℕ) (start n : ℕ) where
  short : length (run start n s) < n → [] ≡ stored_part s start n
  unfolding stored_part
  short h = ⊎_elim
      (λ (l : length s < start + n). rw (lt-leb (start + n) (length s) l))
      (λ (l : start + n ≤ length s). absurd (omega (arith, length_run start n s l)))
      (lt_or_le (length s) (start + n))

  whole : n ≤ length (run start n s) → run start n s ≡ stored_part s start n
  unfolding stored_part run
  whole h = ⊎_elim
      (λ (l : length s < start + n).
      let none : n ≡ 0 = omega (arith, simp (length-take, length-drop) at h) in
      rw (lt-leb (start + n) (length s) l) (ap (λ (k : ℕ). take k (drop start s)) none))
      (λ (l : start + n ≤ length s). rw (le-leb (start + n) (length s) l))
      (lt_or_le (length s) (start + n))

pub returns-then-part-size : goal.returns-then-part-size
returns-then-part-size c =
    let a = c.args in
    short a.storage.now a.start a.size (rw c.run-part.ensures at c.if-part-size.true)

pub returns-else-part-size : goal.returns-else-part-size
returns-else-part-size c =
    let a = c.args in
    c.run-part.ensures ∙ whole a.storage.now a.start a.size (rw c.run-part.ensures at c.if-part-size.false)
