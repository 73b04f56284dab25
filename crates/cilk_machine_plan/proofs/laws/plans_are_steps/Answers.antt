use Rattle.cilk_eval.proofs.effects_laws.KnownActions.{heads, follows}
use Rattle.cilk_machine_agree.proofs.Asked.{asked}
use Rattle.cilk_machine_plan.proofs.Planned.{plan-is}
use Rattle.cilk_machine_plan.proofs.laws.plans_are_steps.Goals as goal

pub returns : goal.returns
returns c t well =
    plan-is t (record {
      well = well;
      heads = λ b answers head there at. heads t.program b answers head well there at;
      follows = λ b answers answer head there at goes. follows t.program b answers answer head well there at goes;
    }) (asked t)
