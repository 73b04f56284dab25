-- The same over slots: which step a scene shows as private.
use Rattle.std.specs.Prelude.{Bool, true, false, not, ◌&&◌, ◌||◌, Option, Some, None}
use Rattle.cilk_load.specs.labelled.Term.{Term}
use Rattle.cilk_machine_plan.specs.nodes.declared.area.Area.{Area}
use Rattle.cilk_machine_plan.specs.nodes.declared.area.Area.TheVariants.{Own, Outer, Global}
use Rattle.cilk_machine_plan.specs.nodes.declared.slot.Slot.{Slot}
use Rattle.cilk_machine_plan.specs.syntax.Tree.{Program}
use Rattle.cilk_machine_plan.specs.frame.declared.awaited.Await.{Await}
use Rattle.cilk_machine_plan.specs.frame.Frames.{top_of}
use Rattle.cilk_machine_plan.specs.nodes.declared.action.Action.{Action}
use Rattle.cilk_machine_plan.specs.nodes.declared.action.Action.TheVariants.{Assign, Call, Spawn, Print, Locking, Null, Break, Continue, Test, Sync}
use Rattle.cilk_machine_plan.specs.nodes.declared.action.Action.TheVariants.{Abort, Return, ReturnNothing, Close}
use Rattle.cilk_machine_plan.specs.nodes.declared.node.Node.{Node}
use Rattle.cilk_machine_plan.specs.nodes.declared.slot_place.SlotPlace.{SlotPlace}
use Rattle.cilk_machine_plan.specs.nodes.declared.target.Target.{Target}
use Rattle.cilk_machine_plan.specs.nodes.Table.{node_of}
use Rattle.cilk_machine_plan.specs.declared.plan.Plan.{Plan}
use Rattle.cilk_machine_plan.specs.declared.plan.Plan.TheVariants as plan
use Rattle.cilk_machine_plan.specs.Made.{target_of_node, leaves, at_boundary, planned}
use Rattle.cilk_machine_plan.specs.StepInput.{StepInput, head_number}
use Rattle.cilk_machine_step.specs.Private.{owns}

abbrev pub is_own_area : Area → Bool
is_own_area Own = true
is_own_area Outer = true
is_own_area Global = false

abbrev pub is_own : Slot → Bool
is_own slot = is_own_area slot.area

abbrev pub owns_subscript : Option (Term Slot) → Bool
owns_subscript None = true
owns_subscript (Some t) = owns is_own t

abbrev pub owns_place : SlotPlace → Bool
owns_place place = is_own place.slot && owns_subscript place.subscript

abbrev pub owns_act : Action → Bool
owns_act (Assign target code) = owns_place target.place && owns is_own code
owns_act (Call target callee codes) = false
owns_act (Spawn taker callee codes) = false
owns_act (Print format codes) = false
owns_act (Locking what lock) = false
owns_act Null = true
owns_act Break = true
owns_act Continue = true
owns_act (Test code) = owns is_own code
owns_act Sync = false
owns_act Abort = false
owns_act (Return code) = owns is_own code
owns_act ReturnNothing = true
owns_act Close = true

abbrev pub owns_target : Option Target → Bool
owns_target None = true
owns_target (Some target) = is_own target.place.slot

-- what takes the value of the top activation, if anything does
abbrev pub owns_awaited : Program → Option Await → Bool
owns_awaited p None = true
owns_awaited p (Some w) = owns_target (target_of_node (node_of p w.n))

abbrev pub owns_node : StepInput → Node → Bool
owns_node g node =
    not (at_boundary g node) && (owns_act node.action && (not (leaves node.action) || owns_awaited g.program (top_of g.frame).awaits))

abbrev pub owns_next : StepInput → Option Node → Bool
owns_next g None = false
owns_next g (Some node) = owns_node g node

-- an action is acted
abbrev pub is_acting : Plan → Bool
is_acting plan.Wait = false
is_acting plan.Park = false
is_acting plan.End = false
is_acting (plan.Trap kind n) = false
is_acting (plan.Take child n reached z) = false
is_acting (plan.Enter child n inlet arguments) = false
is_acting (plan.Go n to) = true
is_acting (plan.Write n reached z to) = true
is_acting (plan.Call n awaits callee arguments to) = true
is_acting (plan.Leave n) = true
is_acting (plan.Answer n reached z) = true
is_acting (plan.Return n z) = false
is_acting (plan.Spawn n receiver callee arguments to) = false
is_acting (plan.Print n bytes to) = true
is_acting (plan.TurnLock n lock now to) = true
is_acting (plan.Abort n to) = true

-- the step that is planned is private
abbrev pub is_private : StepInput → Bool
is_private g = owns_next g (node_of g.program (head_number g)) && is_acting (planned g)
