use Rattle.std.proofs.Common.{arith}
use Rattle.cilk_program_runs.specs.Outcomes.{outcome_by, outcomes_by}
use Rattle.cilk_program_runs.proofs.Explored.{kept-all, kept-next, kept-none}
use Rattle.cilk_program_runs.proofs.logs.keep_logs.Goals as goal

pub loop-k-init : goal.loop-k-init
loop-k-init g c = kept-none c.args.program.now c.args.workers (outcomes_by c.args.exploration.now) (g.F.LogFolder.stored c.args.folder.now)

pub loop-k-preserved : goal.loop-k-preserved
loop-k-preserved g c =
    kept-next c.args.program.now c.args.workers (outcomes_by c.args.exploration.now) c.loop-k.k (outcome_by c.outcome_at.result) _ _ _ c.outcome_at.ensures
    c.log_in-log.ensures c.loop-k.invariant (c.in-Ok-keep_log.ensures.kept c.args.program.now c.in-Ok.ensures) c.in-Ok-keep_log.ensures.others

pub returns-clause-kept : goal.returns-clause-kept
returns-clause-kept g c = λ wanted.
    kept-all c.args.program.now c.args.workers (outcomes_by c.args.exploration.now) c.loop-k.k (g.F.LogFolder.stored c.loop-k.folder) (omega arith)
    c.loop-k.invariant
