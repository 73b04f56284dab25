use Rattle.std.proofs.Common.{◌≡◌, take}
use Rattle.cilk_races.specs.Seats.{shares_in}
use Rattle.cilk_races.proofs.gauge.shares_of.Given as goal

abbrev pub invariant-loop-seat : goal.invariant-loop-seat
invariant-loop-seat l = l.shares.items ≡ shares_in (take l.seat-index l.seats)
