use Rattle.cilk_machine_step.specs.Scenes.{input_of}
use Rattle.cilk_machine_step.proofs.Owning.{idle, act-private}
use Rattle.cilk_machine_step.proofs.privacy.is_private.Goals as goal

pub returns-in-End : goal.returns-in-End
returns-in-End c = idle (input_of c.args.scene.now) c.comes_next.result c.in-End.is c.comes_next.ensures.plan

pub returns-in-Act : goal.returns-in-Act
returns-in-Act c =
    act-private (input_of c.args.scene.now) c.in-Act.n c.in-Act.node.now c.acts_privately.result c.in-Act.ensures.head.1 c.in-Act.ensures.plan
    c.acts_privately.ensures
