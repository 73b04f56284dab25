-- What is noted of a step before it is taken.
use Rattle.std.specs.Prelude.{◌≡◌, ◌<◌, ℕ, ⊤}
use Rattle.cilk_machine_plan.specs.frame.Frames.{Frame, depth}
use Rattle.cilk_machine_plan.specs.agree.Agrees.{MachineParts}
use Rattle.cilk_machine_plan.specs.declared.plan.Plan.{Plan}
use Rattle.cilk_machine_plan.specs.declared.plan.Plan.TheVariants as plan
use Rattle.cilk_machine_plan.specs.declared.parts.Parts.{Parts}
use Rattle.cilk_machine_plan.specs.declared.spent.Spent.{Spent}
use Rattle.cilk_machine_plan.specs.Spends.{Spends}
use Rattle.cilk_machine_undo.specs.declared.undo.Undo as code
use Rattle.cilk_machine_undo.specs.Records.{undo_of}
use Rattle.cilk_machine_undo.specs.Undo.{Undo, undone}
use Rattle.cilk_machine_undo.specs.Able.{CanTakeBack}
use Rattle.cilk_machine_undo.specs.Words.{undo_with, machine_in}

-- with what the step moves out of the machine it is the record of the step
abbrev pub Notes : MachineParts → ℕ → Frame → Plan → code.Undo → Type 0
Notes m w f x u = (moved : Spent) → Spends m.nodes f x moved → undo_with u moved ≡ undo_of m w f x

-- the record can be taken back, and gives the machine of those parts again
pub record Undoes (u : Undo) (parts now : Parts) : Type 0 where
  pub can : CanTakeBack u (machine_in now)
  pub back : undone u (machine_in now) ≡ machine_in parts

-- a C function that is left has a caller
abbrev pub HasCaller : Plan → Frame → Type 0
HasCaller (plan.Answer n reached z) f = 1 < depth f
HasCaller x f = ⊤
