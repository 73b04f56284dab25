-- What a scene shows.
use Rattle.std.specs.Prelude.{◌≡◌, Bool, true, false, length, Some}
use Rattle.cilk_machine_plan.specs.nodes.Areas.{sizes_of}
use Rattle.cilk_machine_plan.specs.nodes.declared.action.Action.{Action}
use Rattle.cilk_machine_plan.specs.nodes.declared.action.Action.TheVariants.{Assign, Call, Spawn, Print, Locking, Null, Break, Continue, Test, Sync}
use Rattle.cilk_machine_plan.specs.nodes.declared.action.Action.TheVariants.{Abort, Return, ReturnNothing, Close}
use Rattle.cilk_machine_plan.specs.nodes.declared.node.Node.{Node}
use Rattle.cilk_machine_plan.specs.nodes.Table.{node_of}
use Rattle.cilk_machine_plan.specs.frame.declared.receiver.Receiver as receiver
use Rattle.cilk_machine_plan.specs.frame.declared.receiver.Receiver.{Receiver}
use Rattle.cilk_machine_plan.specs.effects.Fits.{FitsAct}
use Rattle.cilk_machine_plan.specs.agree.Locks.{LockTurn, lock_turned, refused, blocked, lock_turn_among}
use Rattle.cilk_machine_plan.specs.declared.plan.Plan.{Plan}
use Rattle.cilk_machine_plan.specs.declared.plan.Plan.TheVariants as plan
use Rattle.cilk_machine_plan.specs.StepInput.{StepInput, id_of, head_number, cells_in}
use Rattle.cilk_machine_step.specs.declared.scene.Scene.{Scene}

abbrev pub input_of : Scene → StepInput
input_of scene = record {
  program = scene.loaded.now;
  globals = scene.globals.now.items;
  locks = scene.locks.now.items;
  printed = length scene.output.now.items;
  nodes = scene.tree.now.nodes;
  frame = scene.frame.now;
}

-- the slots of the head lie in the cells
abbrev pub HeadFits : StepInput → Type 0
HeadFits g = (node : Node) → node_of g.program (head_number g) ≡ Some node → FitsAct (sizes_of (cells_in g)) node.action

abbrev pub is_wait : Plan → Bool
is_wait plan.Wait = true
is_wait plan.Park = false
is_wait plan.End = false
is_wait (plan.Trap kind n) = false
is_wait (plan.Take child n reached z) = false
is_wait (plan.Enter child n inlet arguments) = false
is_wait (plan.Go n to) = false
is_wait (plan.Write n reached z to) = false
is_wait (plan.Call n awaits callee arguments to) = false
is_wait (plan.Leave n) = false
is_wait (plan.Answer n reached z) = false
is_wait (plan.Return n z) = false
is_wait (plan.Spawn n receiver callee arguments to) = false
is_wait (plan.Print n bytes to) = false
is_wait (plan.TurnLock n lock now to) = false
is_wait (plan.Abort n to) = false

abbrev pub takes_nothing : Receiver → Bool
takes_nothing receiver.TheVariants.Nothing = true
takes_nothing (receiver.TheVariants.Place op slot index n) = false
takes_nothing (receiver.TheVariants.Call n others) = false

abbrev pub is_blocked : LockTurn → Bool
is_blocked (lock_turned now) = false
is_blocked refused = false
is_blocked blocked = true

-- the action is a call of a lock that has to wait (Cilk 5.4 manual, locks)
abbrev pub wants_held_lock : StepInput → Action → Bool
wants_held_lock g (Assign target value) = false
wants_held_lock g (Call target callee arguments) = false
wants_held_lock g (Spawn taker callee arguments) = false
wants_held_lock g (Print format arguments) = false
wants_held_lock g (Locking what lock) = is_blocked (lock_turn_among g.locks (id_of g) what lock)
wants_held_lock g Null = false
wants_held_lock g Break = false
wants_held_lock g Continue = false
wants_held_lock g (Test value) = false
wants_held_lock g Sync = false
wants_held_lock g Abort = false
wants_held_lock g (Return value) = false
wants_held_lock g ReturnNothing = false
wants_held_lock g Close = false
