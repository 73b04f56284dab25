-- A body that is left.
use Rattle.std.proofs.Common.{◌≡◌, ℕ, zero, suc, ◌<◌, ◌==◌, ℤ, Bool, true, false, ap, ◌∙◌, arith, if◌then◌else◌}
use Rattle.cilk_machine_plan.specs.nodes.declared.node.Node.{Node}
use Rattle.cilk_machine_plan.specs.nodes.Bodies.{body_of}
use Rattle.cilk_machine_plan.specs.frame.Frames.{top_of}
use Rattle.cilk_machine_plan.specs.declared.plan.Plan.TheVariants as plan
use Rattle.cilk_machine_plan.specs.Made.{given, answered, is_function_body}
use Rattle.cilk_machine_plan.specs.StepInput.{StepInput, is_outer}

-- a procedure whose own activation is not on top has another one above it
pub inner-by : (d : ℕ) → (d == 1) ≡ false → 0 < d → 1 < d
inner-by zero e h = omega (arith, h)
inner-by (suc zero) e h = cc
inner-by (suc (suc d)) e h = omega (arith)

pub given-answers : (g : StepInput) (n : ℕ) (node : Node) (z : ℤ) → is_outer g ≡ false → is_function_body (body_of g.program node.body) ≡ true
    → given g n node z ≡ answered g n z (top_of g.frame).awaits
given-answers g n node z outer function =
    ap (λ (b : Bool). if b then plan.Return n z
    else (if is_function_body (body_of g.program node.body) then answered g n z (top_of g.frame).awaits else plan.Leave n)) outer
    ∙ ap (λ (b : Bool). if b then answered g n z (top_of g.frame).awaits else plan.Leave n) function
