use Rattle.std.proofs.Common.{ap, ◌∙◌, subst}
use Rattle.cilk_sched.specs.model.Hands.{hand_of}
use Rattle.cilk_machine_step.specs.Scenes.{input_of}
use Rattle.cilk_machine.specs.Situation.{Situation}
use Rattle.cilk_machine.specs.Stands.{IsSound}
use Rattle.cilk_machine.proofs.Steps.{fits-here}
use Rattle.cilk_machine.proofs.machine.Machine.still_taken_down.Goals as goal

pub is_still_seen-requires-clause-fits : goal.is_still_seen-requires-clause-fits
is_still_seen-requires-clause-fits c =
    fits-here c.args.self.now (subst IsSound c.self.view_is c.self.invariant.sound) c.args.worker c.requires.worker c.in-Some.frame.now
    (c.in-Some.ensures ∙ ap (λ (x : Situation). hand_of x.machine.places c.args.worker) c.self.view_is) (input_of c.scene.result) c.scene.ensures
