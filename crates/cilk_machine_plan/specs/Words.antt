-- What the light plans of the code mean.
use Rattle.cilk_machine_plan.specs.declared.light.Light.{Light}
use Rattle.cilk_machine_plan.specs.declared.light.Light.TheVariants as light
use Rattle.cilk_machine_plan.specs.declared.plan.Plan.{Plan}
use Rattle.cilk_machine_plan.specs.declared.plan.Plan.TheVariants as plan

-- the plan that a light one is
abbrev pub plan_of : Light → Plan
plan_of (light.Take child n reached z) = plan.Take child n reached z
plan_of (light.Go n to) = plan.Go n to
plan_of (light.Write n reached z to) = plan.Write n reached z to
plan_of (light.Leave n) = plan.Leave n
plan_of (light.Answer n reached z) = plan.Answer n reached z
