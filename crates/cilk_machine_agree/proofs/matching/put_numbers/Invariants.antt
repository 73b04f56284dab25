use Rattle.std.proofs.Common.{◌≡◌, ◌<◌, ◌+◌, ℕ, slice_index}
use Rattle.cilk_machine_agree.proofs.matching.put_numbers.Given as goal

abbrev pub invariant-loop-k : goal.invariant-loop-k
invariant-loop-k l = (i : ℕ) → i < l.k → slice_index l.order i ≡ i + 1
