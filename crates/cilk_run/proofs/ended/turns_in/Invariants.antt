use Rattle.std.proofs.Common.{take}
use Rattle.cilk_run.specs.Histories.{IsCounted}
use Rattle.cilk_run.proofs.ended.turns_in.Given as goal

abbrev pub invariant-loop-choice : goal.invariant-loop-choice
invariant-loop-choice l = IsCounted l.workers l.turns.items (take l.choice-index l.history)
