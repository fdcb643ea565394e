-- After i turns the settings and the first i senders are written. Assumes nothing.
use mathlib.Core.Path.{ap, ◌∙◌}
use native.Mathlib.Omega.{arith}
use lib.ListN.{length}
use Rattle.octets.proofs.RunLaws.{length_laid}
use Rattle.board_setup.proofs.StartedLaws.{settings_many, senders_none, sender_set}
use Rattle.board_setup.proofs.write.Goals as goal

pub loop-i-init : goal.loop-i-init
loop-i-init c =
    let a = c.args in
    let many = settings_many a.words.now _ a.state (omega arith) c.write_settings.ensures in
    (many, many, senders_none a.words.now _ a.state c.write_settings.ensures)

pub loop-i-preserved : goal.loop-i-preserved
loop-i-preserved c =
    let l = c.loop-i in
    let a = c.args in
    (l.invariant.0, ap length c.put.ensures ∙ length_laid l.words _ _ ∙ l.invariant.1, c.put.ensures ∙ sender_set _ l.words a.state l.i _ l.invariant.0 (omega arith) l.invariant.2 c.of.ensures)
