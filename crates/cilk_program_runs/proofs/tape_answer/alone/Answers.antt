use Rattle.std.proofs.Common.{subst, string_bytes}
use Rattle.std.proofs.lemmas.Result.{IfOk-weaker}
use Rattle.cilk_program_tapes.specs.commands.syntax.Tree.{Program}
use Rattle.cilk_program_runs.specs.OnTapes.{alone_limit}
use Rattle.cilk_program_runs.proofs.Ran.{alone_is}
use Rattle.cilk_run.specs.Runs.{IsRun}
use Rattle.cilk_program_runs.proofs.tape_answer.alone.Goals as goal

pub returns-in-Ok-run_by_seed-clause-ok : goal.returns-in-Ok-run_by_seed-clause-ok
returns-in-Ok-run_by_seed-clause-ok g c =
    let p = c.args.program in
    let made : IsRun p 1 alone_limit c.in-Ok-run_by_seed.run' = subst (λ (q : Program). IsRun q 1 alone_limit c.in-Ok-run_by_seed.run') c.in-Ok.ensures
    c.in-Ok-run_by_seed.ensures.ok in
    IfOk-weaker c.told_of_run.result _ _
    (λ told are text ready. alone_is g.A.TapeAnswering.tells p c.in-Ok-run_by_seed.run' told.status (string_bytes told.text) text made are ready)
    c.told_of_run.ensures.ok
