use Rattle.std.proofs.Common.{◌≡◌, ◌+◌, map, drop}
use Rattle.cilk_explore.specs.Telling.{told_by}
use Rattle.cilk_run.specs.choices.Words.{choice_of}
use Rattle.cilk_program_runs.specs.Outcomes.{before_endless}
use Rattle.cilk_program_runs.proofs.outcome.before_endless.Given as goal

abbrev pub invariant-loop-k : goal.invariant-loop-k
invariant-loop-k l =
    l.k + before_endless (map choice_of l.log) (map told_by (drop l.k l.told)) ≡ before_endless (map choice_of l.log) (map told_by l.told)
