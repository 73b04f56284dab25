-- What a plan needs tells that a C function that is left has a caller.
use Rattle.std.proofs.Common.{ℕ, ℤ, List, Option}
use Rattle.cilk_machine_undo.specs.nodes.declared.body.Body.{Body}
use Rattle.cilk_machine_undo.specs.frame.Frames.{Frame}
use Rattle.cilk_machine_undo.specs.spawn.Nodes.{Node}
use Rattle.cilk_machine_undo.specs.plans.declared.plan.Plan.{Plan}
use Rattle.cilk_machine_undo.specs.plans.declared.plan.Plan.TheVariants as plan
use Rattle.cilk_machine_undo.specs.plans.declared.parts.Parts.{Parts}
use Rattle.cilk_machine_undo.specs.plans.Ready.{Needs, frame_in}
use Rattle.cilk_machine_carry.specs.Carries.{CanCarry}
use Rattle.cilk_machine_undo.proofs.plans_laws.Holds.{there}
use Rattle.cilk_machine_carry.proofs.Whole.{hand-there, ready-there}
use Rattle.cilk_machine_undo.specs.Notes.{HasCaller}

has-caller : (choice : ℕ) (ns : List Node) (cells : List ℤ) (f : Frame) (body : Option Body) (x : Plan) → Needs choice ns cells f body x → HasCaller x f
has-caller choice ns cells f body (plan.Answer n reached z) needs = needs.0
has-caller choice ns cells f body x needs = tt

pub caller-there : (choice : ℕ) (parts : Parts) (w : ℕ) (body : Option Body) (x : Plan) → CanCarry parts w body x → HasCaller x (frame_in parts.hands w)
caller-there choice parts w body x can =
    let f = frame_in parts.hands w in
    let held = there parts.hands w can.in_hand.frame (hand-there choice parts w body x can.in_hand can.planned) in
    has-caller choice parts.tree.nodes parts.globals.items f body x (ready-there choice parts w body x can f held).needs
