use Rattle.std.proofs.Common.{◌≡◌, ◌≢◌, ◌<◌, ℕ, Some, map, slice_get}
use Rattle.cilk_explore.specs.explore.Search.{Told}
use Rattle.cilk_explore.specs.Telling.{ending_by, told_by}
use Rattle.cilk_explore.proofs.endings.is_told.Given as goal

abbrev pub invariant-loop-k : goal.invariant-loop-k
invariant-loop-k l = (j : ℕ) → j < l.k → (one : Told) → slice_get (map told_by l.told) j ≡ Some one → one.ending ≢ ending_by l.end l.output
