use Rattle.cilk_run.specs.labelled.Bodies.{label}
use Rattle.cilk_run.specs.Tallying.{outcome_by}
use Rattle.cilk_run.proofs.Alone.{alone-ok}
use Rattle.cilk_run.proofs.tallying.tally_alone.Goals as goal

pub returns-in-Ok-clause-ok : goal.returns-in-Ok-clause-ok
returns-in-Ok-clause-ok c =
    alone-ok (label c.args.program.now) c.args.workers c.args.limit c.args.seed c.args.runs c.from-first.result (outcome_by c.in-Ok.outcome)
    c.only_row.result c.requires.alone c.requires.some c.from-first.ensures c.in-Ok.ensures.ok c.only_row.ensures.ok
