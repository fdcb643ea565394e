-- After any setup, every call is told what setup's arguments and the calls before it make it: the log of a past is a
-- function of the two alone. Assumes nothing.
use Rattle.std.specs.Prelude.{ℕ, ◌<◌, ◌≡◌, refl, true, List, [], ◌∷◌, length}
use Rattle.std.proofs.Common.{ap, ◌∙◌, arith}
use Rattle.state.specs.declared.Address.{Address}
use Rattle.state.specs.declared.Sender.{Sender}
use Rattle.state.specs.Limits.{given}
use Rattle.state.specs.State.{sender_at}
use Rattle.answers.specs.declared.Setup.{Setup}
use Rattle.rules.specs.pasts.Past.{World, Event, message, alive, clock, aside, question, multicast, step, after, said, answers, Start}
use Rattle.rules.proofs.pasts.PastLaws.{after_count}
use Rattle.promised.proofs.AgreesLaws.{Agrees, agrees_start, agrees_step}
use Rattle.promised.specs.AlivePast.{AliveBy}
use Rattle.promised.proofs.AlivePastLaws.{alive_after, after_alive}
use Rattle.promised.specs.Log.{ToldOf, told_by, Exchange, exchange, logged, life_of}
use Rattle.promised.proofs.CastLaws.{cast_says_lem}
use Rattle.promised.proofs.MessageSaysLaws.{message_says_lem}
use Rattle.promised.specs.Says.{senders_of, says, log_of}
use Rattle.promised.proofs.SaysLaws.{alive_says_lem, clock_says_lem, question_says_lem}

pub says_is : (q : Setup) (log : List Exchange) (w : World) → Agrees q log w → (e : Event) → told_by e (said w e) ≡ says q log e
unfolding said says
says_is q log w a (message packet) = message_says_lem q log w a packet
says_is q log w a (alive packet) = alive_says_lem q log w a packet
says_is q log w a (clock ms) = clock_says_lem q log w a ms
says_is q log w a (aside question) = question_says_lem q log w a
says_is q log w a (aside (multicast t g packet)) = cast_says_lem q log w a t g packet

pub agrees_after : (q : Setup) (log : List Exchange) (w : World) → Agrees q log w → (es : List Event) → Agrees q (logged log es (answers w es)) (after w es)
unfolding logged answers after
agrees_after q log w a [] = a
agrees_after q log w a (e ∷ es) = agrees_after q (exchange e (told_by e (said w e)) ∷ log) (step w e) (agrees_step q log w a e) es

pub log_is : (q : Setup) (log : List Exchange) (w : World) → Agrees q log w → (es : List Event) → logged log es (answers w es) ≡ log_of q log es
unfolding logged answers log_of
log_is q log w a [] = refl
log_is q log w a (e ∷ es) =
    log_is q (exchange e (told_by e (said w e)) ∷ log) (step w e) (agrees_step q log w a e) es
    ∙ ap (λ (t : ToldOf e). log_of q (exchange e t ∷ log) es) (says_is q log w a e)

-- Who is alive by what the calls were told is alive by the signals that came.
module _ (w : World) (s : Start w) (es : List Event) (i : ℕ) (here : i < length (senders_of s.given)) where
  abbrev a : Address
  a = given (senders_of s.given) i

  at_start : Agrees s.given [] w
  at_start = agrees_start w s

  place : i < w.state.count
  place = omega (arith, here, at_start.count)

  alive_is : (sender_at (after w es).state i).alive ≡ (life_of a i (logged [] es (answers w es))).alive
  alive_is = ap (λ (x : Sender). x.alive) ((agrees_after s.given [] w at_start es).lives i (omega (arith, place, after_count w es)))

  pub told_alive : ((life_of a i (logged [] es (answers w es))).alive ≡ true → AliveBy a es) × (AliveBy a es → (life_of a i (logged [] es (answers w es))).alive ≡ true)
  told_alive = rw (← alive_is, ← at_start.address i place) (alive_after w s es i place, after_alive w s es i place)
