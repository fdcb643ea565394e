-- After so many packets the rest leads to the night's end. Assumes nothing.
use Rattle.std.proofs.Common.{◌≤◌, length}
use Rattle.bench_nights.specs.Night.{board_of, begun}
use Rattle.bench_nights.proofs.NightLaws.{Towards}
use Rattle.bench_nights.proofs.night.Given as goal

abbrev pub invariant-loop-size : goal.invariant-loop-size
invariant-loop-size l =
    (l.at ≤ length l.packets)
    × Towards l.sizes l.packets (begun (board_of l.mode l.n1 l.t l.senders) l.initial.storage) l.sum (record { state = l.a.state; storage = l.storage }) l.at l.size-index
