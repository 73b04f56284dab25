use Rattle.std.proofs.Common.{sym, ap, ◌∙◌}
use Rattle.cilk_machine_step.specs.Scenes.{input_of, is_wait}
use Rattle.cilk_machine_step.proofs.Waits.{aborted-goes, taken-waits, acted-waits}
use Rattle.cilk_machine_step.proofs.waiting.has_to_wait.Goals as goal

pub returns-in-End : goal.returns-in-End
returns-in-End c = sym (aborted-goes (input_of c.args.scene.now)) ∙ ap is_wait c.in-End.ensures.plan

pub returns-in-Nothing : goal.returns-in-Nothing
returns-in-Nothing c = ap is_wait c.in-Nothing.ensures.plan

pub returns-in-Delivery : goal.returns-in-Delivery
returns-in-Delivery c =
    c.takes_nothing.ensures
    ∙ sym (taken-waits (input_of c.args.scene.now) _ _ c.in-Delivery.delivery.now.receiver)
    ∙ ap is_wait c.in-Delivery.ensures.plan

pub returns-in-Act : goal.returns-in-Act
returns-in-Act c =
    c.wants_held_lock.ensures ∙ sym (acted-waits (input_of c.args.scene.now) _ c.in-Act.node.now) ∙ ap is_wait c.in-Act.ensures.plan
