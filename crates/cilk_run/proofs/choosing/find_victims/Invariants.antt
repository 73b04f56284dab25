use Rattle.std.proofs.Common.{◌≡◌, ◌≤◌, length}
use Rattle.cilk_run.specs.labelled.Bodies.{label}
use Rattle.cilk_run.specs.machine.Stands.{StandsAt}
use Rattle.cilk_run.specs.model.Run.{Standing}
use Rattle.cilk_run.specs.Drawn.{victims}
use Rattle.cilk_run.proofs.choosing.find_victims.Given as goal

abbrev pub invariant-loop-before : goal.invariant-loop-before
invariant-loop-before l =
    ((at : Standing) → StandsAt l.machine at → l.found.items ≡ victims (label l.machine.program) l.before at l.worker) × (length l.found.items ≤ l.before)
