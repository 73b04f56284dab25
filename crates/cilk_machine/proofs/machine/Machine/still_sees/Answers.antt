use Rattle.std.proofs.Common.{◌≡◌, Option, Some, ap, ◌∙◌, subst}
use Rattle.std.specs.Prelude.{option_and_then, Decides}
use Rattle.cilk_sched.specs.model.Hands.{hand_of}
use Rattle.cilk_machine_step.specs.Scenes.{input_of}
use Rattle.cilk_machine_step.specs.Peeks.{Peek, peek_in, peek_of}
use Rattle.cilk_machine.specs.Situation.{Situation}
use Rattle.cilk_machine.specs.Stands.{IsSound}
use Rattle.cilk_machine.specs.Looking.{peek_by}
use Rattle.cilk_machine.proofs.Steps.{fits-here}
use Rattle.cilk_machine.proofs.machine.Machine.still_sees.Goals as goal

pub is_seen-requires-clause-fits : goal.is_seen-requires-clause-fits
is_seen-requires-clause-fits c =
    fits-here c.args.self.now (subst IsSound c.self.view_is c.self.invariant.sound) c.args.worker c.requires.worker c.in-Some.frame.now
    (c.in-Some.ensures ∙ ap (λ (x : Situation). hand_of x.machine.places c.args.worker) c.self.view_is) (input_of c.scene.result) c.scene.ensures

pub returns : goal.returns
returns c =
    subst (λ (o : Option Peek). Decides c.is_seen.result (o ≡ Some (peek_of c.args.peek.now)))
    (ap peek_in c.scene.ensures
    ∙ ap (option_and_then (peek_by c.args.self.now)) (c.in-Some.ensures ∙ ap (λ (x : Situation). hand_of x.machine.places c.args.worker) c.self.view_is))
    c.is_seen.ensures
