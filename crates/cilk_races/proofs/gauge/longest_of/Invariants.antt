use Rattle.std.proofs.Common.{◌≡◌, take}
use Rattle.cilk_races.specs.Seats.{longest_in}
use Rattle.cilk_races.proofs.gauge.longest_of.Given as goal

abbrev pub invariant-loop-seat : goal.invariant-loop-seat
invariant-loop-seat l = l.longest ≡ longest_in (take l.seat-index l.seats)
