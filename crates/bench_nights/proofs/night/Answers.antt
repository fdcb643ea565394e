-- After so many packets the rest leads to the night's end. Assumes nothing.
use Rattle.std.proofs.Common.{ap, arith, rules}
use Rattle.rules.specs.pasts.Past.{World, step}
use Rattle.bench_nights.specs.Night.{begun, sum_by}
use Rattle.bench_nights.proofs.NightLaws.{ends_within, begins, turn, counted, reached}
use Rattle.bench_nights.proofs.night.Goals as goal

pub loop-size-init : goal.loop-size-init
unfolding begun
loop-size-init c = (search rules, begins _ _ _ _ (simp (c.unasked-a.ensures, c.setup.ensures, c.board.ensures)))

pub loop-size-preserved : goal.loop-size-preserved
unfolding step sum_by
loop-size-preserved c =
    let l = c.loop-size in
    let p = c.run-packet in
    let m = c.message-a in (
      ends_within _ _ l.at _ l.invariant.0 p.ensures,
      turn _ _ _ l.invariant.1 c.loop-size-test.true p.ensures
          (simp (c.with_answer-sum.ensures, c.part.ensures, m.ensures.answer, m.ensures.stored))
          (simp (m.ensures.answer, m.ensures.stored)),
    )

pub returns : goal.returns
returns c =
    let l = c.loop-size in
    let end = reached _ _ l.invariant.1 (omega arith) in
    record {
      answer = counted _ _ l.invariant.1 (omega arith);
      left = ap (λ (w : World). w.state) end;
      stored = ap (λ (w : World). w.storage) end;
    }
