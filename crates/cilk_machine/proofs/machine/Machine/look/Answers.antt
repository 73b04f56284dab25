use Rattle.std.proofs.Common.{ap, ◌∙◌, subst}
use Rattle.std.specs.Prelude.{option_and_then}
use Rattle.cilk_sched.specs.model.Hands.{hand_of}
use Rattle.cilk_machine_step.specs.Scenes.{input_of}
use Rattle.cilk_machine_step.specs.Peeks.{peek_in}
use Rattle.cilk_machine.specs.Situation.{Situation}
use Rattle.cilk_machine.specs.Stands.{IsSound}
use Rattle.cilk_machine.specs.Looking.{peek_by}
use Rattle.cilk_machine.proofs.Steps.{fits-here}
use Rattle.cilk_machine.proofs.machine.Machine.look.Goals as goal

pub look_ahead-requires-clause-fits : goal.look_ahead-requires-clause-fits
look_ahead-requires-clause-fits c =
    fits-here c.args.self.now (subst IsSound c.self.view_is c.self.invariant.sound) c.args.worker c.requires.worker c.in-Some.frame.now
    (c.in-Some.ensures ∙ ap (λ (x : Situation). hand_of x.machine.places c.args.worker) c.self.view_is) (input_of c.scene.result) c.scene.ensures

pub returns-in-Ok-clause-looks : goal.returns-in-Ok-clause-looks
returns-in-Ok-clause-looks c =
    c.in-Ok.ensures ∙ ap peek_in c.scene.ensures
    ∙ ap (option_and_then (peek_by c.args.self.now)) (c.in-Some.ensures ∙ ap (λ (x : Situation). hand_of x.machine.places c.args.worker) c.self.view_is)
