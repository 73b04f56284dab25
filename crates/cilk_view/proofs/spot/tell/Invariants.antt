use Rattle.std.proofs.Common.{◌≡◌, ◌≤◌, ◌++◌, length, vec_capacity}
use Rattle.cilk_view.specs.Entries.{rest_text, work_left}
use Rattle.cilk_view.proofs.spot.tell.Given as goal

abbrev pub invariant-loop-spot : goal.invariant-loop-spot
invariant-loop-spot l =
    (rest_text l.links l.entries l.initial.spot ≡ l.portion ++ rest_text l.links l.entries l.spot)
    × (length l.links ≤ vec_capacity l.spot.numbers)

abbrev pub decreases-loop-spot : goal.decreases-loop-spot
decreases-loop-spot l = work_left l.links l.entries l.spot
