use Rattle.std.proofs.Common.{◌≡◌, ◌++◌, length}
use Rattle.cilk_eval.specs.model.Printing.{printed}
use Rattle.cilk_eval.proofs.printing.printed.Given as goal

abbrev pub invariant-loop-first : goal.invariant-loop-first
invariant-loop-first l = printed l.format l.values ≡ l.bytes.items ++ printed l.rest l.left

abbrev pub decreases-loop-first : goal.decreases-loop-first
decreases-loop-first l = length l.rest
