use Rattle.std.proofs.Common.{◌≡◌, length}
use Rattle.cilk_run.specs.Turning.{IsListed}
use Rattle.cilk_run.proofs.ahead.all_listed.Given as goal

abbrev pub invariant-loop-before : goal.invariant-loop-before
invariant-loop-before l = IsListed l.program l.expressions.items × (length l.expressions.items ≡ l.before)
