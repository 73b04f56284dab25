use Rattle.std.proofs.Common.{arith}
use Rattle.cilk_races.proofs.Lines.{longest-more}
use Rattle.cilk_races.proofs.gauge.longest_of.Goals as goal

pub loop-seat-preserved : goal.loop-seat-preserved
loop-seat-preserved c =
    let more = longest-more c.args.seats.now c.loop-seat.seat-index (omega arith) in
    let invariant = c.loop-seat.invariant in
    let greater = c.max-longest.ensures in
    omega (arith, more, invariant, greater)
