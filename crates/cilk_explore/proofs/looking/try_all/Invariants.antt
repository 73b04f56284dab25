use Rattle.std.proofs.Common.{◌≤◌, ℕ}
use Rattle.cilk_explore.specs.Linking.{AreLinkedBy}
use Rattle.cilk_explore.specs.Exploring.{program_of, workers_of, Grows, Gathers}
use Rattle.cilk_explore.proofs.looking.try_all.Given as goal

abbrev pub invariant-loop-k : goal.invariant-loop-k
invariant-loop-k l = record {
  grows : Grows l.initial.explorer l.explorer;
  gathers : Gathers l.initial.explorer l.explorer;
  linked : (w : ℕ) → 1 ≤ w → w ≤ l.k
      → AreLinkedBy (program_of l.initial.explorer) (workers_of l.initial.explorer) l.explorer.store l.explorer.links.here l.initial.explorer.walker.log w;
}
