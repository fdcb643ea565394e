-- What the call answers is what the record asks, and so it tells a section. Assumes nothing.
use Rattle.promises.proofs.FaultLaws.{reads_exactly}
use Rattle.promises.proofs.read_section.Goals as goal

pub returns-clause-section : goal.returns-clause-section
returns-clause-section c = reads_exactly _ _ (record { answered = c.read_section.ensures })
