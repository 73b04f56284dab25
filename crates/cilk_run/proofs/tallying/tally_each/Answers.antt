use Rattle.std.proofs.Common.{◌+◌, arith}
use Rattle.cilk_run.specs.labelled.Bodies.{label}
use Rattle.cilk_run.specs.Tallying.{rows_by}
use Rattle.cilk_run.proofs.Bumps.{few-counted, next-tally}
use Rattle.cilk_run.proofs.tallying.tally_each.Goals as goal

pub add_run-requires : goal.add_run-requires
add_run-requires c = record {
  few =
      few-counted (label c.args.program.now) c.args.workers c.args.limit c.args.seed c.loop-made.made (4294967294) (rows_by c.loop-made.rows.items)
      c.loop-made.invariant (omega (arith, c.loop-made-test.true, c.ranges.runs.fits));
}

pub loop-made-preserved : goal.loop-made-preserved
loop-made-preserved c =
    next-tally (label c.args.program.now) c.args.workers c.args.limit c.args.seed c.loop-made.made (c.from.result + c.from-in-loop-made.result)
    (rows_by c.loop-made.rows.items) (rows_by c.add_run.new.rows.items) c.loop-made.invariant (λ i. c.from.ensures i + c.from-in-loop-made.ensures i)
    c.in-Ok.ensures.ok
