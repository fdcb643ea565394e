-- Each way out is a case of the definition. Assumes nothing.
use Rattle.std.proofs.Common.{◌≡◌, ℕ, List, length, get_or, true, ltb, sym, ap, ◌∙◌, ltb-true, ltb-false}
use Rattle.std.proofs.lemmas.List.{get_or_default}
use Rattle.state.proofs.HeldLaws.{held_open, held_shut, held_past, held_beyond}
use Rattle.state.specs.declared.Sender.{Sender}
use Rattle.state.specs.State.{no_sender}
use Rattle.state.proofs.Receiver.held.Goals as goal

-- A sender that stands at a place of the table is the one there.
stands : (l : List Sender) (i : ℕ) (s : Sender) → true ≡ ltb i (length l) → s ≡ get_or l i s → s ≡ get_or l i no_sender
stands l i s there is = is ∙ get_or_default l i s no_sender (ltb-true i (length l) (sym there))

pub returns-then-self-place : goal.returns-then-self-place
returns-then-self-place c = sym (held_past _ _ c.if-self-place.true)

pub returns-in_default : goal.returns-in_default
returns-in_default c = sym (held_beyond c.args.self c.args.place (ltb-false _ _ (sym c.in_default.ensures.lookup.0)))

pub returns-then-s : goal.returns-then-s
returns-then-s c =
    let is = stands c.args.self.senders c.args.place c.in-Some.s.now c.in-Some.ensures.lookup.0 c.in-Some.ensures.lookup.1 in
    ap (λ (s : Sender). s.message.held) is ∙ sym (held_open _ _ c.if-self-place.false (ap (λ (s : Sender). s.«open») (sym is) ∙ c.if-s.true))

pub returns-else-s : goal.returns-else-s
returns-else-s c =
    let is = stands c.args.self.senders c.args.place c.in-Some.s.now c.in-Some.ensures.lookup.0 c.in-Some.ensures.lookup.1 in
    sym (held_shut _ _ (ap (λ (s : Sender). s.«open») (sym is) ∙ c.if-s.false))
