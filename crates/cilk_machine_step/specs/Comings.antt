-- What comes next for an instance: an aborted one ends, at a boundary the delivery that waits longest is taken, and else the head is acted (Cilk 5.4
-- manual, `inlet`, `abort`).
use Rattle.std.specs.Prelude.{◌≡◌, ⊤, Option, Some, None}
use Rattle.cilk_load.specs.labelled.Term.{Term}
use Rattle.cilk_machine_plan.specs.nodes.declared.slot.Slot.{Slot}
use Rattle.cilk_machine_plan.specs.nodes.Table.{node_of}
use Rattle.cilk_machine_plan.specs.declared.plan.Plan.{Plan}
use Rattle.cilk_machine_plan.specs.declared.plan.Plan.TheVariants as plan
use Rattle.cilk_machine_plan.specs.StepInput.{StepInput, head_number}
use Rattle.cilk_machine_plan.specs.Made.{aborted, taken_by, acted}
use Rattle.cilk_machine_step.specs.declared.coming.Coming.{Coming}
use Rattle.cilk_machine_step.specs.declared.coming.Coming.TheVariants.{End, Nothing, Delivery, Act}
use Rattle.cilk_machine_step.specs.Peeks.{code_of}

-- the plan of the step then
abbrev pub plan_for : StepInput → Coming → Plan
plan_for g End = aborted g
plan_for g Nothing = plan.Wait
plan_for g (Delivery delivery) = taken_by g delivery.now.child delivery.now.value delivery.now.receiver
plan_for g (Act n node) = acted g n node.now

-- the expression that one may see of it beforehand
abbrev pub code_for : Coming → Option (Term Slot)
code_for End = None
code_for Nothing = None
code_for (Delivery delivery) = None
code_for (Act n node) = code_of node.now.action

-- an action is the head
abbrev pub ActsHead : StepInput → Coming → Type 0
ActsHead g End = ⊤
ActsHead g Nothing = ⊤
ActsHead g (Delivery delivery) = ⊤
ActsHead g (Act n node) = (n ≡ head_number g) × (node_of g.program (head_number g) ≡ Some node.now)
