-- The frames of two deques, the topmost first.
use Rattle.std.specs.Prelude.{◌≡◌, ℕ, Some, slice_get}
use Rattle.cilk_machine_agree.specs.frame.Frames.{Frame}
use Rattle.cilk_machine_agree.specs.model.Hands.{deque_of}
use Rattle.cilk_machine_agree.specs.explore.Alike.{SameHeld}
use Rattle.cilk_machine_agree.specs.declared.matching.Both.{Both}

-- the frames at place k are the same
abbrev pub IsSameAt : Both → ℕ → ℕ → ℕ → Type 0
IsSameAt both k worker to = (f g : Frame) → slice_get (deque_of both.hands.now worker) k ≡ Some f
    → slice_get (deque_of both.others.now to) k ≡ Some g → SameHeld both.tree.now.nodes both.other.now.nodes f g
