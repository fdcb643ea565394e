-- The two calls are a course, since each meets its contract at what the one before left. Assumes nothing.
use Rattle.promises.proofs.CourseLaws.{two_messages}
use Rattle.promises.proofs.messages.Goals as goal

pub returns : goal.returns
returns c =
    let first = c.message-a.ensures.meets in
    let second = c.message.ensures.meets in
    let both = two_messages first second in
    record { answer = both.0; stored = both.1.0; course = both.1.1 }
