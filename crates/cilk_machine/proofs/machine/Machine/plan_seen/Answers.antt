use Rattle.std.proofs.Common.{ap, ◌∙◌}
use Rattle.std.specs.Prelude.{option_and_then}
use Rattle.cilk_sched.specs.model.Hands.{hand_of}
use Rattle.cilk_machine_undo.specs.plans.Made.{planned}
use Rattle.cilk_machine_step.specs.Scenes.{input_of}
use Rattle.cilk_machine_step.specs.Peeks.{peek_in}
use Rattle.cilk_machine.specs.Situation.{Situation}
use Rattle.cilk_machine.specs.Refused.{planned_by}
use Rattle.cilk_machine.specs.Looking.{peek_by, plan_by}
use Rattle.cilk_machine.proofs.Looking.{plan-free, value-goes, either-plan}
use Rattle.cilk_machine.proofs.machine.Machine.plan_seen.Goals as goal

pub plan_by_value-requires-clause-seen : goal.plan_by_value-requires-clause-seen
plan_by_value-requires-clause-seen c =
    let s = c.requires.seen in record {
      peek = s.peek;
      seen =
          ap peek_in c.scene.ensures
          ∙ ap (option_and_then (peek_by c.args.self.now)) (c.in-Some.ensures ∙ ap (λ (x : Situation). hand_of x.machine.places c.args.worker) c.self.view_is)
          ∙ s.seen;
      number = s.number;
      value_is = s.value_is;
    }

pub returns-clause-free : goal.returns-clause-free
returns-clause-free c =
    plan-free c.args.self.now c.args.worker (plan_by c.plan_by_value.result) c.requires.runs c.requires.crew c.requires.full
    (value-goes c.plan_by_value.result c.plan_by_value.ensures.goes)
    (either-plan c.plan_by_value.result (planned (input_of c.scene.result)) c.plan_by_value.ensures.light c.plan_by_value.ensures.other
    ∙ ap planned c.scene.ensures
    ∙ ap (planned_by c.args.self.now) (c.in-Some.ensures ∙ ap (λ (x : Situation). hand_of x.machine.places c.args.worker) c.self.view_is))

pub returns-clause-planned : goal.returns-clause-planned
returns-clause-planned c =
    either-plan c.plan_by_value.result (planned (input_of c.scene.result)) c.plan_by_value.ensures.light c.plan_by_value.ensures.other
    ∙ ap planned c.scene.ensures
    ∙ ap (planned_by c.args.self.now) (c.in-Some.ensures ∙ ap (λ (x : Situation). hand_of x.machine.places c.args.worker) c.self.view_is)
