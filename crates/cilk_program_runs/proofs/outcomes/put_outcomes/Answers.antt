use Rattle.cilk_program_runs.specs.Outcomes.{outcome_by, outcomes_by}
use Rattle.cilk_program_runs.proofs.Among.{text-more}
use Rattle.cilk_program_runs.proofs.outcomes.put_outcomes.Goals as goal

pub loop-k-preserved : goal.loop-k-preserved
loop-k-preserved c =
    text-more (outcomes_by c.args.exploration.now) c.loop-k.k (outcome_by c.outcome_at.result) _ c.loop-k.out.items c.put_outcome.new.out.items
    c.outcome_at.ensures c.loop-k.invariant c.in_ok-put_outcome.ensures
