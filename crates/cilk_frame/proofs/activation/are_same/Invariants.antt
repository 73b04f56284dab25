use Rattle.std.proofs.Common.{◌≡◌, ◌<◌, ℕ, slice_index_or}
use Rattle.cilk_frame.specs.Frames.{no_activation}
use Rattle.cilk_frame.proofs.activation.are_same.Given as goal

abbrev pub invariant-loop-i : goal.invariant-loop-i
invariant-loop-i l = (k : ℕ) → k < l.i → slice_index_or l.activations k no_activation ≡ slice_index_or l.others k no_activation
