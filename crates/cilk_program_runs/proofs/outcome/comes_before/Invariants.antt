use Rattle.std.proofs.Common.{◌≡◌, map, drop}
use Rattle.cilk_run.specs.choices.Words.{choice_of}
use Rattle.cilk_program_runs.specs.Outcomes.{comes_before}
use Rattle.cilk_program_runs.proofs.outcome.comes_before.Given as goal

abbrev pub invariant-loop-k : goal.invariant-loop-k
invariant-loop-k l =
    comes_before (map choice_of (drop l.k l.log)) (map choice_of (drop l.k l.other)) ≡ comes_before (map choice_of l.log) (map choice_of l.other)
