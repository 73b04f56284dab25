use Rattle.cilk_program_runs.proofs.Ran.{told_of}
use Rattle.cilk_program_runs.proofs.run.run_answered.Goals as goal

pub returns-clause-ok : goal.returns-clause-ok
returns-clause-ok g c =
    told_of c.args.task.now.workers c.args.task.now.limit c.args.task.now.seed c.args.program c.in-Ok.ended c.args.is_logged c.answer_of-texts.result
    c.in-Ok.ensures.ok c.in-Ok.ensures.named
    c.answer_of-texts.ensures.status c.answer_of-texts.ensures.text c.answer_of-texts.ensures.log
