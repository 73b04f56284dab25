use Rattle.cilk_eval.proofs.effects_laws.Room.{variables, parameters_first, globals}
use Rattle.cilk_eval.proofs.effects_laws.Start.{main_starts}
use Rattle.cilk_eval.proofs.soundness.bodies_have_room.Goals as goal

pub returns : goal.returns
returns c = record {
  variables = λ p b well. variables p well b;
  parameters = λ p b well. parameters_first p well b;
  globals = globals;
  main = main_starts;
}
