-- What is kept of a machine at one moment, by which the whole of it is told again, where a later one tells what had ended and what was printed.
use Rattle.std.specs.Prelude.{◌≡◌, ℕ, ℤ, List, length}
use Rattle.cilk_machine_plan.specs.model.Hands.{WorkerOf}
use Rattle.cilk_machine_plan.specs.frame.Frames.{Frame}
use Rattle.cilk_machine_plan.specs.spawn.Cut.{IsCut}
use Rattle.cilk_machine_plan.specs.spawn.Living.{Living, IsLivingOf}
use Rattle.cilk_machine_plan.specs.agree.declared.lock.Lock.{Lock}
use Rattle.cilk_machine_plan.specs.agree.Outside.{running}
use Rattle.cilk_machine_plan.specs.agree.Agrees.{MachineParts}
use Rattle.cilk_machine_undo.specs.Growth.{Prints}

pub record Moment : Type 0 where
  pub living : Living
  -- the hands and the deques
  pub places : List (WorkerOf Frame)
  -- the cells of the variables of the top level
  pub cells : List ℤ
  pub locks : List Lock
  -- how many bytes were printed
  pub printed : ℕ

-- it is kept of this machine
pub record IsMomentOf (moment : Moment) (m : MachineParts) : Type 0 where
  pub living : IsLivingOf moment.living m.nodes
  pub places : moment.places ≡ m.places
  pub cells : moment.cells ≡ m.outside.cells
  pub locks : moment.locks ≡ m.outside.locks
  pub printed : moment.printed ≡ length m.outside.output

-- what had ended behind choice c, and what was printed, is told by a later machine
pub record IsBefore (c : ℕ) (m later : MachineParts) : Type 0 where
  pub nodes : IsCut c m.nodes later.nodes
  pub output : Prints m.outside.output later.outside.output

-- it was kept of some machine behind choice c, before the later one
pub record WasMoment (c : ℕ) (moment : Moment) (later : MachineParts) : Type 0 where
  pub machine : MachineParts
  pub kept : IsMomentOf moment machine
  pub before : IsBefore c machine later

-- whose program runs
abbrev pub running_as : MachineParts → MachineParts
running_as m = record m { outside = record m.outside { outcome = running } }
