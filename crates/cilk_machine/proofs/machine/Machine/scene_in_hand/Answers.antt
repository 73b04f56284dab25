use Rattle.std.proofs.Common.{ap, ◌∙◌, subst}
use Rattle.cilk_sched.specs.model.Hands.{hand_of}
use Rattle.cilk_machine_step.specs.Scenes.{input_of}
use Rattle.cilk_machine.specs.Situation.{Situation}
use Rattle.cilk_machine.specs.Stands.{IsSound}
use Rattle.cilk_machine.proofs.Steps.{fits-here}
use Rattle.cilk_machine.proofs.machine.Machine.scene_in_hand.Goals as goal

pub returns-in-Some-clause-fits : goal.returns-in-Some-clause-fits
returns-in-Some-clause-fits c =
    fits-here c.args.self.now (subst IsSound c.self.view_is c.self.invariant.sound) c.args.worker c.requires c.in-Some.frame.now
    (c.in-Some.ensures ∙ ap (λ (x : Situation). hand_of x.machine.places c.args.worker) c.self.view_is) (input_of c.scene.result) c.scene.ensures
