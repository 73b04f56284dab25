use Rattle.std.proofs.Common.{◌≡◌, ◌++◌, reverse}
use Rattle.cilk_races.specs.Ways.{path_of, path_up}
use Rattle.cilk_races.proofs.ways.path_of.Given as goal

abbrev pub invariant-loop-left : goal.invariant-loop-left
invariant-loop-left l = path_up l.rows l.left l.at ++ reverse l.numbers.items ≡ path_of l.rows l.place

abbrev pub decreases-loop-left : goal.decreases-loop-left
decreases-loop-left l = l.left
