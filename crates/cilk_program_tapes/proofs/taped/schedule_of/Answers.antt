use Rattle.cilk_program_tapes.proofs.Whole.{any_held}
use Rattle.cilk_program_tapes.proofs.taped.schedule_of.Goals as goal

pub returns-in_default-clause-declined : goal.returns-in_default-clause-declined
returns-in_default-clause-declined g c = λ held is. any_held held _ (λ bytes. tt)
