-- Every turn reads at most one field, and there are turns enough. No contract of a program says what it read or wrote,
-- but what it holds between turns is known: after so many turns it is what a run of so many whole fields left
-- (`OfRun`), and so the state and the storage that is lent to it are those that a past left (`run_past`). Assumes
-- nothing.
use Rattle.std.proofs.Common.{ℕ, ◌≡◌, Option, Some, Ok, sym, ap, subst, ◌∙◌, replicate}
use Rattle.std.proofs.lemmas.List.{length-replicate}
use Rattle.std.proofs.Math.Seq.{length_front}
use Rattle.state.specs.declared.Receiver.{Receiver}
use Rattle.capture_run.specs.declared.Turn.{Turn}
use Rattle.capture_run.specs.Run.{OfRun}
use Rattle.capture_run.proofs.RunLaws.{of_none, goes_on}
use Rattle.capture.proofs.main.Goals as goal

pub loop-turn-init : goal.loop-turn-init
loop-turn-init c =
    let room = length-replicate {A = ℕ} 65536 0 in (
      room,
      subst (λ (x : Receiver). OfRun (replicate 65536 0) 0 (record { state = x; room = replicate 65536 0 })) (sym c.empty-state.ensures) (of_none (replicate 65536 0) room),
    )

pub loop-turn-preserved : goal.loop-turn-preserved
loop-turn-preserved c =
    let room = c.lent-room in
    let before = c.loop-turn in
    let taken = c.next_turn-taken in
    let left = taken.new.storage in
    let on = c.in-Ok-Some in
    let inner : on.field-0 ≡ Some on.next = rw on.is at on.field-0-is in
    let went : taken.result ≡ Ok (Some on.next) = on.is ∙ ap (λ (x : Option Turn). Ok x) inner in (
      length_front before.storage left room.result taken.auto.storage ∙ before.invariant.0,
      goes_on (replicate 65536 0) before._turn (record { state = before.state; room = before.storage }) before.invariant.1
          room.result room.ensures _ on.next left (sym went ∙ taken.ensures.answer) taken.ensures.stored,
    )
