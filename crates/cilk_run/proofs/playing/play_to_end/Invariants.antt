use Rattle.std.proofs.Common.{◌≡◌, ℕ}
use Rattle.cilk_run.specs.machine.Situation.{workers_of}
use Rattle.cilk_run.specs.syntax.Tree.{Program}
use Rattle.cilk_run.specs.Drawing.{Follows}
use Rattle.cilk_run.proofs.playing.play_to_end.Given as goal

abbrev pub invariant-loop-made : goal.invariant-loop-made
invariant-loop-made l =
    (l.locked.machine.program ≡ l.fn.locked.machine.program) × (workers_of l.locked.machine ≡ workers_of l.fn.locked.machine)
    × ((p : Program) (n seed : ℕ) → Follows p n seed l.limit 0 l.fn.locked l.fn.draws → Follows p n seed l.limit l.made l.locked l.draws)
