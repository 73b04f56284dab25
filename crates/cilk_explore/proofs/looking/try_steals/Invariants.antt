use Rattle.std.proofs.Common.{◌≤◌, ℕ}
use Rattle.cilk_machine.specs.model.Choice.{steal}
use Rattle.cilk_explore.specs.Linking.{IsLinked}
use Rattle.cilk_explore.specs.Exploring.{program_of, workers_of, Grows, Gathers}
use Rattle.cilk_explore.proofs.looking.try_steals.Given as goal

abbrev pub invariant-loop-k : goal.invariant-loop-k
invariant-loop-k l = record {
  grows : Grows l.initial.explorer l.explorer;
  gathers : Gathers l.initial.explorer l.explorer;
  linked : (v : ℕ) → 1 ≤ v → v ≤ l.k
      → IsLinked (program_of l.initial.explorer) (workers_of l.initial.explorer) l.explorer.store l.explorer.links.here l.initial.explorer.walker.log
      (record { worker = l.worker; act = steal v });
}
