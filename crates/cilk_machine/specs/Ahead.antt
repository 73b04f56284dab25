-- What the next step of a worker looks at.
use Rattle.std.specs.Prelude.{◌≡◌, ℕ, Some}
use Rattle.cilk_sched.specs.model.Hands.{IsWorker, hand_of}
use Rattle.cilk_machine_undo.specs.frame.Frames.{Frame}
use Rattle.cilk_machine_undo.specs.plans.StepInput.{StepInput}
use Rattle.cilk_machine.specs.Situation.{Situation, input_at}

-- it is that of the frame in the worker's hand
pub record IsAhead (m : Situation) (w : ℕ) (g : StepInput) : Type 0 where
  pub worker : IsWorker m.machine.places w
  pub frame : Frame
  pub held : hand_of m.machine.places w ≡ Some frame
  pub is : g ≡ input_at m frame
