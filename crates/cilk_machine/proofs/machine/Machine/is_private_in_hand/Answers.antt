use Rattle.std.proofs.Common.{ap, ◌∙◌, subst}
use Rattle.cilk_sched.specs.declared.act.Act.TheVariants.{Step}
use Rattle.cilk_sched.specs.model.Hands.{hand_of}
use Rattle.cilk_machine_step.specs.Scenes.{input_of}
use Rattle.cilk_machine.specs.Situation.{Situation}
use Rattle.cilk_machine.specs.Stands.{IsSound}
use Rattle.cilk_machine.proofs.Free.{frees}
use Rattle.cilk_machine.proofs.Steps.{fits-here}
use Rattle.cilk_machine.proofs.Unseen.{private-by}
use Rattle.cilk_machine.proofs.machine.Machine.is_private_in_hand.Goals as goal

pub is_private-requires-clause-fits : goal.is_private-requires-clause-fits
is_private-requires-clause-fits c =
    fits-here c.args.self.now (subst IsSound c.self.view_is c.self.invariant.sound) c.args.worker (frees c.args.self.now (record {
      worker =
          c.args.worker;
      act = Step;
    }) c.requires).worker
    c.in-Some.frame.now
    (c.in-Some.ensures ∙ ap (λ (x : Situation). hand_of x.machine.places c.args.worker) c.self.view_is) (input_of c.scene.result) c.scene.ensures

pub returns : goal.returns
returns c =
    private-by c.is_private.result c.args.self.now (subst IsSound c.self.view_is c.self.invariant.sound) c.args.worker c.requires c.in-Some.frame.now
    (c.in-Some.ensures ∙ ap (λ (x : Situation). hand_of x.machine.places c.args.worker) c.self.view_is) (input_of c.scene.result) c.scene.ensures
    c.is_private.ensures
