use Rattle.cilk_machine_undo.proofs.Within.{fated-within, stay-within}
use Rattle.cilk_machine_undo.proofs.growth_laws.fates_are_within.Goals as goal

pub returns : goal.returns
returns c = record { told = fated-within; on = stay-within }
