use Rattle.cilk_program_runs.specs.Outcomes.{outcomes_by}
use Rattle.cilk_program_runs.proofs.Explored.{AreKeptTo}
use Rattle.cilk_program_runs.proofs.logs.keep_logs.Given as goal

abbrev pub invariant-loop-k : goal.invariant-loop-k
invariant-loop-k g l = AreKeptTo l.k l.program l.workers (outcomes_by l.exploration) (g.F.LogFolder.stored l.folder)
