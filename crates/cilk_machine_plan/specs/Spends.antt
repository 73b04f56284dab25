-- What a step moves out of the machine.
use Rattle.std.specs.Prelude.{◌≡◌, ℕ, ⊤, List, Some}
use Rattle.cilk_machine_agree.specs.model.Hands.{hand_of}
use Rattle.cilk_machine_agree.specs.frame.Frames.{Frame, top_of}
use Rattle.cilk_machine_agree.specs.spawn.Nodes.{Node, node_at}
use Rattle.cilk_machine_agree.specs.spawn.Remains.{Remains, remains_of}
use Rattle.cilk_machine_agree.specs.Laws.{sent}
use Rattle.cilk_machine_plan.specs.declared.plan.Plan.{Plan}
use Rattle.cilk_machine_plan.specs.declared.plan.Plan.TheVariants as plan
use Rattle.cilk_machine_plan.specs.declared.parts.Parts.{Parts}
use Rattle.cilk_machine_plan.specs.declared.spent.Spent.{Spent}
use Rattle.cilk_machine_plan.specs.declared.spent.Spent.TheVariants.{Activation, Instance}

-- what is left of k where it ends
abbrev pub remains_in : List Node → ℕ → Remains
remains_in ns k = remains_of (node_at ns k).receiver (node_at ns k).waiting

abbrev pub LeavesTop : Frame → Spent → Type 0
LeavesTop f spent = spent ≡ Activation (Some (top_of f))

abbrev pub EndsIn : List Node → Frame → Spent → Type 0
EndsIn ns f spent = spent ≡ Instance f (Some (remains_in ns f.id))

-- f is the frame of the instance whose plan it is
abbrev pub Spends : List Node → Frame → Plan → Spent → Type 0
Spends ns f plan.Wait spent = ⊤
Spends ns f plan.Park spent = ⊤
Spends ns f plan.End spent = EndsIn ns f spent
Spends ns f (plan.Trap kind n) spent = ⊤
Spends ns f (plan.Take child n reached z) spent = ⊤
Spends ns f (plan.Enter child n inlet arguments) spent = ⊤
Spends ns f (plan.Go n to) spent = ⊤
Spends ns f (plan.Write n reached z to) spent = ⊤
Spends ns f (plan.Call n awaits callee arguments to) spent = ⊤
Spends ns f (plan.Leave n) spent = LeavesTop f spent
Spends ns f (plan.Answer n reached z) spent = LeavesTop f spent
Spends ns f (plan.Return n z) spent = EndsIn (sent ns f.id z) f spent
Spends ns f (plan.Spawn n receiver callee arguments to) spent = ⊤
Spends ns f (plan.Print n bytes to) spent = ⊤
Spends ns f (plan.TurnLock n lock now to) spent = ⊤
Spends ns f (plan.Abort n to) spent = ⊤

-- whatever frame is in the hand
abbrev pub SpendsIn : Parts → ℕ → Plan → Spent → Type 0
SpendsIn parts w plan spent = (f : Frame) → hand_of parts.hands w ≡ Some f → Spends parts.tree.nodes f plan spent
