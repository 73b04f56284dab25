use Rattle.cilk_program_runs.proofs.commands_laws.Statuses.{not_both}
use Rattle.cilk_program.proofs.dap.dap_text.Goals as goal

pub returns-in-Err-clause-only : goal.returns-in-Err-clause-only
returns-in-Err-clause-only g c = λ answered. not_both c.give_up.result answered c.give_up.ensures.failed

pub returns-in-Err-clause-told : goal.returns-in-Err-clause-told
returns-in-Err-clause-told g c = λ none. c.give_up.ensures.told

pub returns-in-Err-clause-quiet : goal.returns-in-Err-clause-quiet
returns-in-Err-clause-quiet g c = λ answered. not_both c.give_up.result answered c.give_up.ensures.failed
