use Rattle.std.proofs.Common.{◌≡◌, ◌++◌, ◌+◌, drop}
use Rattle.cilk_program_runs.specs.Exploring.{outcomes_text}
use Rattle.cilk_program_runs.specs.Outcomes.{outcomes_by}
use Rattle.cilk_program_runs.proofs.outcomes.put_outcomes.Given as goal

abbrev pub invariant-loop-k : goal.invariant-loop-k
invariant-loop-k l =
    l.out.items ++ outcomes_text (l.k + 1) (drop l.k (outcomes_by l.exploration)) ≡ l.initial.out.items ++ outcomes_text 1 (outcomes_by l.exploration)
