use Rattle.std.proofs.Common.{◌≡◌, ◌≤◌, length}
use Rattle.std.specs.Prelude.{filter}
use Rattle.cilk_run.specs.labelled.Bodies.{label}
use Rattle.cilk_run.specs.machine.Stands.{StandsAt}
use Rattle.cilk_run.specs.model.End.{numbers}
use Rattle.cilk_run.specs.model.Run.{Standing}
use Rattle.cilk_run.specs.Drawn.{can_move}
use Rattle.cilk_run.proofs.choosing.find_movers.Given as goal

abbrev pub invariant-loop-before : goal.invariant-loop-before
invariant-loop-before l =
    ((at : Standing) → StandsAt l.machine at → l.found.items ≡ filter (can_move (label l.machine.program) l.workers at) (numbers l.before))
    × (length l.found.items ≤ l.before)
