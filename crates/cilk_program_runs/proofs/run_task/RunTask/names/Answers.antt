use Rattle.std.proofs.Common.{refl, ap, ◌∙◌, Bor, ℕ, List}
use Rattle.cilk_program_runs.proofs.NotRead.{name_told}
use Rattle.cilk_program_runs.proofs.run_task.RunTask.names.Goals as goal

pub returns-clause-log : goal.returns-clause-log
returns-clause-log c = ap (λ (it : Bor (List ℕ)). it.now) c.unwrap_or.ensures ∙ name_told c.args.self.now.log _ refl
