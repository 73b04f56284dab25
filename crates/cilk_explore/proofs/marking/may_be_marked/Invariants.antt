use Rattle.std.proofs.Common.{◌≡◌, ◌<◌, ℕ, false, Some, slice_get}
use Rattle.cilk_explore.specs.Marking.{mark_of}
use Rattle.cilk_explore.proofs.marking.may_be_marked.Given as goal

abbrev pub invariant-loop-i : goal.invariant-loop-i
invariant-loop-i l = (place to : ℕ) → place < l.i → slice_get l.own place ≡ Some to → mark_of l.marks to ≡ false
