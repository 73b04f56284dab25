use Rattle.cilk_machine_undo.proofs.Within.{taken-once}
use Rattle.cilk_machine_undo.proofs.growth_laws.values_are_taken_once.Goals as goal

pub returns : goal.returns
returns c = taken-once
