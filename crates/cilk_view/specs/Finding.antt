-- The frame of an instance.
use Rattle.std.specs.Prelude.{ℕ, nat_eq, List, [], ◌∷◌, Option, Some, None, if◌then◌else◌}
use Rattle.std.specs.Option.{option_or}
use Rattle.cilk_machine_agree.specs.model.Hands.{WorkerOf}
use Rattle.cilk_machine_agree.specs.frame.Frames.{Frame}
use Rattle.cilk_machine_agree.specs.spawn.Nodes.{Node, node_at}

-- the first of these frames that is of instance id
abbrev pub frame_among : ℕ → List Frame → Option Frame
frame_among id [] = None
frame_among id (f ∷ frames) = if nat_eq f.id id then Some f else frame_among id frames

-- that of a worker: the one in its hand, or the first in its deque
abbrev pub frame_at_by : ℕ → Option Frame → List Frame → Option Frame
frame_at_by id None deque = frame_among id deque
frame_at_by id (Some f) deque = frame_among id (f ∷ deque)

abbrev pub frame_at : ℕ → WorkerOf Frame → Option Frame
frame_at id at = frame_at_by id at.hand at.deque

-- that of the first worker who has one
abbrev pub frame_held : ℕ → List (WorkerOf Frame) → Option Frame
frame_held id [] = None
frame_held id (at ∷ places) = option_or (frame_at id at) (frame_held id places)

-- the frame of a live instance, parked or with a worker
abbrev pub frame_live : List Node → List (WorkerOf Frame) → ℕ → Option Frame
frame_live ns places id = option_or (node_at ns id).parked (frame_held id places)
