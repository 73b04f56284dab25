use Rattle.std.proofs.Common.{is_some, option_map}
use Rattle.cilk_program_tapes.specs.commands.declared.failure.Failure.TheVariants.{Memory}
use Rattle.cilk_program_tapes.specs.GivingUp.{GivesUpRun}
use Rattle.cilk_program_runs.specs.AsAsked.{log_name}
use Rattle.cilk_program_runs.proofs.NotRead.{no_run}
use Rattle.cilk_program_tapes.proofs.Said.{failure_no_trap}
use Rattle.cilk_program_tapes.proofs.Told.{no_usage_told, not_told}
use Rattle.cilk_program_tapes.specs.declared.failure.RecordFailure.TheVariants as why
use Rattle.cilk_program_runs.proofs.asked.run_named.Goals as goal

pub returns-in_default-clause-told : goal.returns-in_default-clause-told
returns-in_default-clause-told g c = λ none.
    let task = c.args.task.now in
    no_run task.workers (is_some task.log) task.explain task.program.now (log_name (option_map (λ it. it.now) task.log)) c.report.result _ _ _ Memory
    (λ bad. cc) c.report.ensures.status c.report.ensures.told

pub returns-clause-told : goal.returns-clause-told
returns-clause-told g c = λ none.
    let task = c.args.task.now in
    let told : GivesUpRun task.workers (g.T.Store.LogStore.wanted c.in-Ok.store) task.explain task.program.now
    (log_name (option_map (λ it. it.now) task.log)) c.run_text.result (g.R.Read.remaining c.args.reader.now) (g.E.Write.contents c.args.streams.now.errors)
    (g.E.Write.contents c.run_text.new.streams.errors) = c.run_text.ensures.told none in
    rw (← c.in-Ok.ensures) told

pub returns-in_default-clause-explained : goal.returns-in_default-clause-explained
returns-in_default-clause-explained g c = λ told. failure_no_trap c.args.task.now.explain c.report.result Memory c.report.ensures.status told

pub returns-clause-done : goal.returns-clause-done
returns-clause-done g c = λ answered. record { stored_old = _; stored_new = _; is = c.run_text.ensures.done answered }

pub returns-clause-begun : goal.returns-clause-begun
returns-clause-begun g c = λ failed. record { stored_old = _; stored_new = _; is = c.run_text.ensures.begun failed }

pub returns-clause-usage : goal.returns-clause-usage
returns-clause-usage g c = c.run_text.ensures.usage

pub returns-clause-explained : goal.returns-clause-explained
returns-clause-explained g c = c.run_text.ensures.explained

pub returns-clause-quiet : goal.returns-clause-quiet
returns-clause-quiet g c = c.run_text.ensures.quiet

pub returns-clause-kept : goal.returns-clause-kept
returns-clause-kept g c = c.run_text.ensures.kept

pub returns-in_default-clause-done : goal.returns-in_default-clause-done
returns-in_default-clause-done g c = λ answered. not_told c.report.result (why.Program Memory) c.report.ensures.status answered

pub returns-in_default-clause-usage : goal.returns-in_default-clause-usage
returns-in_default-clause-usage g c = no_usage_told c.report.result (why.Program Memory) c.report.ensures.status

pub returns-in_default-clause-quiet : goal.returns-in_default-clause-quiet
returns-in_default-clause-quiet g c = λ answered traps. not_told c.report.result (why.Program Memory) c.report.ensures.status answered
