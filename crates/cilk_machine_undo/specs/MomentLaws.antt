-- A machine tells of itself and of those before it what had ended and what was printed, and goes on doing so.
use Rattle.std.specs.Prelude.{◌<◌, ℕ}
use Rattle.cilk_machine_plan.specs.agree.Agrees.{MachineParts}
use Rattle.cilk_machine_undo.specs.Growth.{AreWithin, MachineGrows}
use Rattle.cilk_machine_undo.specs.Moment.{IsBefore}

-- a machine is told by itself
abbrev pub MachinesTell : Type 0
MachinesTell = (c : ℕ) (m : MachineParts) → AreWithin c m.nodes → IsBefore c m m

-- and by what choices make of one that tells of it
abbrev pub MachinesGoOn : Type 0
MachinesGoOn = (c n : ℕ) (m now later : MachineParts) → c < n → IsBefore c m now → MachineGrows n now later → IsBefore c m later
