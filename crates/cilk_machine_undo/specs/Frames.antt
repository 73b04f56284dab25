-- What a frame in a hand was before a step.
use Rattle.std.specs.Prelude.{ℕ, ℤ, Bool, true, List}
use Rattle.cilk_machine_plan.specs.nodes.Areas.{slot_cell}
use Rattle.cilk_machine_plan.specs.eval.declared.reached.Reached.{Reached}
use Rattle.cilk_machine_plan.specs.frame.Frames.{Frame, Activation, stood, entered, left}
use Rattle.cilk_machine_plan.specs.frame.Cells.{frame_put}
use Rattle.cilk_machine_plan.specs.frame.Reads.{lent}

-- what a cell holds that the top activation sees, where those of the top level are these
abbrev pub held_at : Reached → Frame → List ℤ → ℤ
held_at r f globals = slot_cell (lent f globals true) r.slot r.index

abbrev pub put_at : Reached → ℤ → Frame → Frame
put_at r z f = frame_put r.slot r.index z f

-- what a step changed of the frame
pub data Change : Type 0 where
  -- nothing
  stays : Change
  -- the top activation stood at action n, with this flag
  went : (n : ℕ) (flag : Bool) → Change
  -- and this cell held z
  wrote : (n : ℕ) (flag : Bool) (cell : Reached) (z : ℤ) → Change
  -- this cell held z, and nothing else was changed
  took : (cell : Reached) (z : ℤ) → Change
  -- a body was called
  called : (n : ℕ) (flag : Bool) → Change
  -- an inlet was started
  opened : Change
  -- a body was left
  closed : (a : Activation) → Change
  -- and a cell of its caller, which held z, took its value
  answered : (a : Activation) (cell : Reached) (z : ℤ) → Change

abbrev pub frame_before : Change → Frame → Frame
frame_before stays f = f
frame_before (went n flag) f = stood n flag f
frame_before (wrote n flag cell z) f = stood n flag (put_at cell z f)
frame_before (took cell z) f = put_at cell z f
frame_before (called n flag) f = stood n flag (left f)
frame_before opened f = left f
frame_before (closed a) f = entered a f
frame_before (answered a cell z) f = entered a (put_at cell z f)
