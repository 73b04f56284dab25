use Rattle.cilk_commands.proofs.Fronts.{front_either}
use Rattle.cilk_program_tapes.proofs.failure.RecordFailure.report_with.Goals as goal

pub returns-clause-told : goal.returns-clause-told
returns-clause-told g c = front_either _ _ _ _ c.tell_all.ensures.ok c.tell_all.ensures.front
