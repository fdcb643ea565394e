-- What the call answers and leaves is what the record asks. Assumes nothing.
use Rattle.promises.proofs.write_section.Goals as goal

pub returns : goal.returns
returns c =
    let met = c.write_section.ensures in record { answer = met.answer; written = met.written; meets = record { answered = met.answer; written = met.written } }
