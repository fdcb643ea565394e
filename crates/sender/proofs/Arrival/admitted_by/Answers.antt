-- Each part is that of the definition. Assumes nothing.
use mathlib.Core.Path.{◌≡◌, sym, ◌∙◌}
use mathlib.Core.Bool.{true, false}
use Rattle.rules.specs.calls.Admit.{admitted, fills, held_after, sender_after}
use Rattle.sender.proofs.Arrival.admitted_by.Goals as goal

pub returns-then-is_full : goal.returns-then-is_full
unfolding admitted held_after sender_after
returns-then-is_full c =
    let a = c.args in
    let f : fills a.self.s a.self.h ≡ true = unfold fills in (rw c.map_after-map.ensures at (sym c.is_full.ensures ∙ c.if-is_full.true)) in
    simp (f, c.delivered.ensures, c.verdict-v.ensures, c.dropped_by-dropped.ensures)

pub returns : goal.returns
unfolding admitted held_after sender_after
returns c =
    let a = c.args in
    let f : fills a.self.s a.self.h ≡ false = unfold fills in (rw c.map_after-map.ensures at (sym c.is_full.ensures ∙ c.if-is_full.false)) in
    simp (f, c.kept_after-held.ensures, c.with_message.ensures, c.message_of-message.ensures, c.dropped_by-dropped.ensures, c.map_after-map.ensures)
