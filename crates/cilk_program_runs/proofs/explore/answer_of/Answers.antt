use Rattle.cilk_program_runs.proofs.Explored.{explored-of}
use Rattle.cilk_program_runs.proofs.explore.answer_of.Goals as goal

pub returns-clause-ok : goal.returns-clause-ok
returns-clause-ok g c =
    explored-of c.args.task.now.workers c.args.task.now.limit (g.F.LogFolder.wanted c.args.folder.now) c.args.program.now c.in-Ok.exploration
    (g.F.LogFolder.stored c.answer_by-answer.new.folder) c.answer_by-answer.result c.in-Ok.ensures.found c.answer_by-answer.ensures.status
    c.answer_by-answer.ensures.text c.answer_by-answer.ensures.kept
