use Rattle.std.proofs.Common.{◌∙◌, ◌+◌, ap, map, option_map}
use Rattle.cilk_run.specs.choices.Words.{choice_of}
use Rattle.cilk_program_runs.proofs.Among.{count-some}
use Rattle.cilk_program_runs.proofs.outcome.outcome_count.Goals as goal

pub returns-in-Some : goal.returns-in-Some
returns-in-Some c =
    ap (λ n. n + 1) (c.len-in-Some.ensures ∙ c.args.exploration.now.told.ok.0)
    ∙ count-some c.args.exploration.now (map choice_of c.in-Some.field-0.items) (ap (option_map (λ log. map choice_of log.items)) c.in-Some.is)
