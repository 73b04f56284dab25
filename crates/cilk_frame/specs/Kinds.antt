-- What the kinds of traps of the code mean.
use Rattle.cilk_load_nodes.specs.model.State as state
use Rattle.cilk_frame.specs.declared.trap_kind.TrapKind.{TrapKind}
use Rattle.cilk_frame.specs.declared.trap_kind.TrapKind.TheVariants.{Value, Lock, HeldLock, Depth, Instances, Output}

abbrev pub kind_of : TrapKind → state.TrapKind
kind_of (Value trap) = state.of_value trap
kind_of Lock = state.lock
kind_of HeldLock = state.held_lock
kind_of Depth = state.depth
kind_of Instances = state.instances
kind_of Output = state.output
