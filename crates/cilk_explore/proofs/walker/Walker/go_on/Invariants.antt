use Rattle.std.proofs.Common.{◌≡◌, ◌++◌, take, map}
use Rattle.cilk_machine.specs.sched.Words.{choice_of}
use Rattle.cilk_explore.proofs.walker.Walker.go_on.Given as goal

abbrev pub invariant-loop-i : goal.invariant-loop-i
invariant-loop-i l = record {
  front : l.self.log ≡ l.initial.self.log ++ take l.i (map choice_of l.tail);
  program : l.self.program ≡ l.initial.self.program;
  workers : l.self.workers ≡ l.initial.self.workers;
}
