use Rattle.std.proofs.Common.{◌<◌, ℕ}
use Rattle.cilk_machine_agree.specs.Matching.{IsSameAt}
use Rattle.cilk_machine_agree.proofs.matching.Both.is_same_deque.Given as goal

abbrev pub invariant-loop-k : goal.invariant-loop-k
invariant-loop-k l = (i : ℕ) → i < l.k → IsSameAt l.self i l.worker l.to
