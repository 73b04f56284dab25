use Rattle.std.proofs.Common.{◌≡◌, ◌++◌, take, map}
use Rattle.cilk_eval.specs.Known.{known_in}
use Rattle.cilk_frame.specs.nodes.Areas.{cells_of}
use Rattle.cilk_eval.proofs.listed.push_held.Given as goal

abbrev pub invariant-loop-slot : goal.invariant-loop-slot
invariant-loop-slot l = l.values.items ≡ l.fn.values.items ++ map (known_in (cells_of l.slots)) (take l.slot-index l.variables)
