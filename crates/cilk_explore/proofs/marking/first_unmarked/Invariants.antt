use Rattle.std.proofs.Common.{◌≡◌, ◌<◌, ℕ, true}
use Rattle.cilk_explore.specs.Marking.{mark_of}
use Rattle.cilk_explore.proofs.marking.first_unmarked.Given as goal

abbrev pub invariant-loop-k : goal.invariant-loop-k
invariant-loop-k l = (j : ℕ) → j < l.k → mark_of l.marks j ≡ true
