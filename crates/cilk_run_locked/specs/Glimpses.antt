-- What a worker saw of its step, and the value that it proposes.
use Rattle.std.specs.Prelude.{ℕ, ℤ, Result}
use Rattle.cilk_machine.specs.model.declared.trap.Trap.{Trap}
use Rattle.cilk_machine.specs.step.Peeks.{Peek}

pub record Glimpse : Type 0 where
  pub worker : ℕ
  pub peek : Peek

pub record Proposed : Type 0 where
  pub worker : ℕ
  pub peek : Peek
  pub value : Result ℤ Trap
