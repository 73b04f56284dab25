use Rattle.std.proofs.Common.{◌≡◌, ◌∙◌, IfOk, IfErr, subst, sym}
use Rattle.cilk_machine_plan.specs.declared.plan.Plan.{Plan}
use Rattle.cilk_machine_plan.specs.Words.{plan_of}
use Rattle.cilk_machine_step.specs.Scenes.{input_of}
use Rattle.cilk_machine_step.proofs.Peeks.{seen-number, seen-plan}
use Rattle.cilk_machine_step.proofs.look.plan_by_value.Goals as goal

pub returns-clause-light : goal.returns-clause-light
returns-clause-light c =
    let g = input_of c.args.scene.now in
    let s = c.requires.seen in
    subst (λ (p : Plan). IfOk c.by_value.result (λ light. plan_of light ≡ p))
    (seen-plan g s.peek s.seen c.args.value s.value_is c.args.n c.in-Some.node.now
    (sym s.number ∙ seen-number g s.peek s.seen c.args.value s.value_is) c.in-Some.ensures.value) c.by_value.ensures.light

pub returns-clause-other : goal.returns-clause-other
returns-clause-other c =
    let g = input_of c.args.scene.now in
    let s = c.requires.seen in
    subst (λ (p : Plan). IfErr c.by_value.result (λ plan. plan ≡ p))
    (seen-plan g s.peek s.seen c.args.value s.value_is c.args.n c.in-Some.node.now
    (sym s.number ∙ seen-number g s.peek s.seen c.args.value s.value_is) c.in-Some.ensures.value) c.by_value.ensures.other
