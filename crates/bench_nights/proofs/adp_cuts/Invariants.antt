-- After c turns the pieces 1 to c are cut. Assumes nothing.
use Rattle.std.proofs.Common.{◌≡◌}
use Rattle.bench_nights.specs.Cuts.{cuts_sum, cuts_buffer}
use Rattle.bench_nights.proofs.adp_cuts.Given as goal

abbrev pub invariant-loop-c : goal.invariant-loop-c
invariant-loop-c l = (l.buffer ≡ cuts_buffer l.given l.message l.u l.initial.buffer l.c) × (l.sum ≡ cuts_sum l.given l.message l.u l.initial.buffer l.c)
