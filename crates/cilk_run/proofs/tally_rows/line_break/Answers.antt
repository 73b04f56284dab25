use Rattle.cilk_run.proofs.machine_laws.sched_laws.Newlines.{break-none, break-some}
use Rattle.cilk_run.proofs.tally_rows.line_break.Goals as goal

pub returns-in-Some-eq10 : goal.returns-in-Some-eq10
returns-in-Some-eq10 c = break-none c.args.printed.now c.in-Some-eq10.field-0.now c.in-Some-eq10.ensures.value c.in-Some-eq10.field-0-test

pub returns-in-Some : goal.returns-in-Some
returns-in-Some c = break-some c.args.printed.now c.in-Some.field-0.now c.in-Some.ensures.value c.in-Some.field-0-test.1
