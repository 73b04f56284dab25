use Rattle.cilk_program_runs.proofs.Ran.{named_by, unnamed}
use Rattle.cilk_program_runs.proofs.run.made.Goals as goal

pub returns-in-None-clause-named : goal.returns-in-None-clause-named
returns-in-None-clause-named g c =
    unnamed c.args.task.now.seed c.args.program c.args.task.now.workers c.args.task.now.limit c.run.result c.in-None.is

pub returns-in-Some-clause-named : goal.returns-in-Some-clause-named
returns-in-Some-clause-named g c =
    named_by c.args.task.now.seed c.in-Some.seed c.from.result c.args.program c.args.task.now.workers c.args.task.now.limit c.run_by_seed.result c.in-Some.is
    c.from.ensures c.run_by_seed.ensures.drawn
