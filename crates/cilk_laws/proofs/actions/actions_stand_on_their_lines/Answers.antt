use Rattle.cilk_laws.proofs.OnLines.{program_stands}
use Rattle.cilk_laws.proofs.actions.actions_stand_on_their_lines.Goals as goal

pub returns : goal.returns
returns c = program_stands
