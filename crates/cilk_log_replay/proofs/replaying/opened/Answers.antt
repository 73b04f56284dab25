use Rattle.cilk_log_replay.proofs.Again.{at_start}
use Rattle.cilk_log_replay.proofs.replaying.opened.Goals as goal

pub returns-in-Ok-clause-stands : goal.returns-in-Ok-clause-stands
returns-in-Ok-clause-stands c =
    at_start c.in-Ok.machine c.args.program c.args.workers c.in-Ok.ensures.program c.in-Ok.ensures.crew c.in-Ok.ensures.choices c.in-Ok.ensures.opening
