-- A board's calls are a course. Assumes nothing.
use Rattle.std.specs.Prelude.{◌≡◌, refl, true, [], ◌∷◌, length}
use Rattle.std.proofs.Common.{sym, ap, ap₂, subst, ◌∙◌, eq-eqb}
use Rattle.rules.specs.pasts.Past.{Event, message, alive, clock, aside, question, multicast, step, said, answers}
use Rattle.rules.specs.calls.Setup.{setup_answer}
use Rattle.rules.specs.calls.Multicast.{Tables}
use Rattle.words.specs.Words.{words_most, is_state, state_in, words_of}
use Rattle.board.specs.declared.Told.{Told}
use Rattle.board.specs.Calls.{setup_for, setup_words, message_for, storage_for, alive_for, clock_for, question_for, multicast_for, tables_for}
use Rattle.board_message.proofs.MessageLaws.{message_means}
use Rattle.board_alive.proofs.HeardLaws.{alive_means}
use Rattle.board_clock.proofs.TickedLaws.{clock_means}
use Rattle.board_setup.proofs.StartedLaws.{setup_means}
use Rattle.promises.specs.Board.{Board, world_of, InNumbers, BoardMeets, AllInNumbers, numbers_of, BoardBegins, BoardIsCourse}
use Rattle.promises.specs.Course.{Meets}
use Rattle.promises.proofs.CourseLaws.{same_world, a_call}

-- One call: it is told what the call by value says, and leaves the words of what that call leaves.
one_call : (b : Board) → is_state b.words ≡ true → (e : Event) (r : InNumbers e) (c : Board) → BoardMeets b e r c
    → (is_state c.words ≡ true) × (world_of c ≡ step (world_of b) e) × (r ≡ numbers_of e (said (world_of b) e))
unfolding step said message_for storage_for alive_for clock_for question_for multicast_for tables_for
one_call b is (message packet) r c m =
    let means = message_means b.words b.storage packet is in
    (rw m.1 means.means_state, same_world (ap state_in m.1 ∙ means.state) (m.2 ∙ rw is), m.0 ∙ rw is)
one_call b is (alive packet) r c m =
    let means = alive_means b.words packet m.3 is in
    (rw m.1 means.means_state, same_world (ap state_in m.1 ∙ means.state) m.2, m.0 ∙ rw is)
one_call b is (clock ms) r c m =
    let means = clock_means b.words ms is in
    (rw m.1 means.means_state, same_world (ap state_in m.1 ∙ means.state) m.2, m.0 ∙ rw is)
one_call b is (aside question) r c m =
    (rw m.1 is, same_world (ap state_in m.1) m.2, m.0 ∙ rw is)
one_call b is (aside (multicast t g packet)) r c m =
    (rw m.1 is, same_world (ap state_in m.1) m.2, ap₂ (λ (x : Told) (y : Tables). (x, y)) (m.0.0 ∙ rw is) (m.0.1 ∙ rw is))

pub board_is_course : BoardIsCourse
unfolding answers
board_is_course b is [] rs c m = (rw m is, (tt, ap world_of m, refl))
board_is_course b is (e ∷ es) rs c m =
    let first = one_call b is e rs.0 m.0 m.1 in
    let rest = board_is_course m.0 first.0 es rs.1 c m.2 in
    let called : Meets (world_of b) e (said (world_of b) e) (world_of m.0)
    = subst (Meets (world_of b) e (said (world_of b) e)) (sym first.1) (a_call (world_of b) e) in (
      rest.0,
      (
        (said (world_of b) e, rest.1.0),
        (world_of m.0, called, rest.1.1),
        ap (λ (x : InNumbers e). (x, rs.1)) first.2 ∙ ap (λ (x : AllInNumbers es). (numbers_of e (said (world_of b) e), x)) rest.1.2,
      ),
    )

pub board_begins : BoardBegins
unfolding setup_for setup_words
board_begins q l number b s =
    let many = eq-eqb (length l) words_most s.many in
    let words : b.words ≡ words_of (setup_answer q).state = s.left ∙ rw many in
    let state : state_in b.words ≡ (setup_answer q).state = ap state_in words ∙ (setup_means q).1 in
    (rw words (setup_means q).0, s.answered ∙ rw many, record { answered = refl; handed_on = state; room = s.room })
