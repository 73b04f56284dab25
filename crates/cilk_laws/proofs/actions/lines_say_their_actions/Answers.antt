use Rattle.cilk_laws.proofs.SaysParts.{program_says}
use Rattle.cilk_laws.proofs.Downward.{program_down}
use Rattle.cilk_laws.proofs.actions.lines_say_their_actions.Goals as goal

pub returns-clause-says : goal.returns-clause-says
returns-clause-says c = program_says

pub returns-clause-down : goal.returns-clause-down
returns-clause-down c = program_down
