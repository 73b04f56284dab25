use Rattle.std.proofs.Common.{◌≡◌, ◌≤◌, length, take}
use Rattle.cilk_explore.proofs.walker.Walker.back_to.Given as goal

abbrev pub invariant-loop-self : goal.invariant-loop-self
invariant-loop-self l = record {
  high : l.count ≤ length l.self.log;
  front : l.self.log ≡ take (length l.self.log) l.initial.self.log;
  program : l.self.program ≡ l.initial.self.program;
  workers : l.self.workers ≡ l.initial.self.workers;
}

abbrev pub decreases-loop-self : goal.decreases-loop-self
decreases-loop-self l = length l.self.log
