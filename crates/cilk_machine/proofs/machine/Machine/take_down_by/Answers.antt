use Rattle.std.proofs.Common.{ap, ◌∙◌}
use Rattle.cilk_sched.specs.model.Hands.{hand_of}
use Rattle.cilk_machine_step.specs.Scenes.{input_of}
use Rattle.cilk_machine.specs.Situation.{Situation}
use Rattle.cilk_machine.proofs.Looking.{taken-down}
use Rattle.cilk_machine.proofs.machine.Machine.take_down_by.Goals as goal

pub returns : goal.returns
returns c =
    taken-down c.take_down.result c.args.self.now c.in-Some.frame.now (input_of c.scene.result) _ c.args.listed.now _ c.scene.ensures
    (c.in-Some.ensures ∙ ap (λ (x : Situation). hand_of x.machine.places c.args.worker) c.self.view_is) c.take_down.ensures
