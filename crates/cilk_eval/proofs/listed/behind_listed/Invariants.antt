use Rattle.std.proofs.Common.{◌≡◌, drop, map}
use Rattle.cilk_eval.specs.Known.{behind_known, known_in}
use Rattle.cilk_frame.specs.nodes.Areas.{cells_of}
use Rattle.cilk_eval.proofs.listed.behind_listed.Given as goal

abbrev pub invariant-loop-slot : goal.invariant-loop-slot
invariant-loop-slot l =
    behind_known (map (known_in (cells_of l.slots)) (drop l.slot-index l.variables)) l.others
    ≡ behind_known (map (known_in (cells_of l.slots)) l.variables) l.values
