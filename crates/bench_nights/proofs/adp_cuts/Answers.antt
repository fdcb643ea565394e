-- After c turns the pieces 1 to c are cut. Assumes nothing.
use Rattle.std.proofs.Common.{◌≡◌, refl, add-one, arith}
use Rattle.bench_nights.specs.Cuts.{cuts_sum, cuts_buffer}
use Rattle.bench_nights.proofs.adp_cuts.Goals as goal

pub loop-c-init : goal.loop-c-init
unfolding cuts_sum cuts_buffer
loop-c-init c = (refl, refl)

pub loop-c-preserved : goal.loop-c-preserved
unfolding cuts_sum cuts_buffer
loop-c-preserved c =
    let cut = c.cutter.ensures in
    let l = c.loop-c.invariant in
    (simp (add-one, cut.written, l.0), simp (add-one, c.with_cut-sum.ensures, cut.answer, l.0, l.1))

pub returns : goal.returns
returns c =
    let l = c.loop-c in
    let e : l.c ≡ c.args.last = omega arith in
    let g = c.given_of-given.ensures in
    record { answer = rw (e, g) at l.invariant.1; written = rw (e, g) at l.invariant.0 }
