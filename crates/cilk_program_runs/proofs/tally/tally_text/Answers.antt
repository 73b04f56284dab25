use Rattle.std.proofs.Common.{subst, sym, ◌∙◌, option_map, is_some}
use Rattle.cilk_program_tapes.specs.commands.Held.{IsReadOf}
use Rattle.cilk_program_tapes.proofs.commands_laws.WholeText.{gains_whole, gains_front_whole}
use Rattle.cilk_program_runs.specs.Tallying.{IsTally}
use Rattle.cilk_program_runs.specs.AsAsked.{log_name}
use Rattle.cilk_program_tapes.proofs.Whole.{no_program_held, renamed, run_gave_up, run_not_read}
use Rattle.cilk_program_tapes.specs.declared.failure.RecordFailure.TheVariants as why
use Rattle.cilk_program_tapes.proofs.Told.{not_told, no_usage_told}
use Rattle.cilk_program_runs.proofs.tally.tally_text.Goals as goal

pub returns-in-Err-clause-told : goal.returns-in-Err-clause-told
returns-in-Err-clause-told g c = λ none.
    let task = c.args.task.now in
    renamed task.workers (is_some task.log) task.explain _ _ task.program.now (log_name (option_map (λ it. it.now) task.log)) _
    (g.R.Read.remaining c.args.reader.now) _ _ c.names-names.ensures.program c.names-names.ensures.log
    (run_not_read task.workers (is_some task.log) task.explain c.names-names.result.program.now c.names-names.result.log.now _
    (g.R.Read.remaining c.args.reader.now) _ _ c.in-Err.failure c.in-Err.ensures.status c.report.ensures.status c.report.ensures.told)

pub returns-in-Ok-tally-clause-done : goal.returns-in-Ok-tally-clause-done
returns-in-Ok-tally-clause-done g c = λ answered.
    let task = c.args.task.now in
    let read : IsReadOf (g.R.Read.remaining c.args.reader.now) c.as_slice-text.result.now = subst
    (λ t. IsReadOf (g.R.Read.remaining c.args.reader.now) t) (sym c.as_slice-text.ensures.value) c.in-Ok.ensures.ok in
    gains_whole (g.R.Read.remaining c.args.reader.now) c.as_slice-text.result.now _ _ (IsTally task.workers task.limit c.args.seed c.args.runs)
    (λ answer is. is.ready.is.text.short) read c.in-Ok-tally.ensures.ok

pub returns-clause-told : goal.returns-clause-told
returns-clause-told g c = λ none.
    let read : IsReadOf (g.R.Read.remaining c.args.reader.now) c.as_slice-text.result.now = subst
    (λ t. IsReadOf (g.R.Read.remaining c.args.reader.now) t) (sym c.as_slice-text.ensures.value) c.in-Ok.ensures.ok in
    let task = c.args.task.now in
    renamed task.workers (is_some task.log) task.explain _ _ task.program.now (log_name (option_map (λ it. it.now) task.log)) _
    (g.R.Read.remaining c.args.reader.now) _ _ c.names-names.ensures.program c.names-names.ensures.log
    (run_gave_up task.workers (is_some task.log) task.explain c.names-names.result.program.now c.names-names.result.log.now _
    (g.R.Read.remaining c.args.reader.now) _ _ c.as_slice-text.result.now c.in-Err-tally.why read
    (λ refused. no_program_held (g.R.Read.remaining c.args.reader.now) c.as_slice-text.result.now c.in-Err-tally.why read
    (c.in-Err-tally.ensures.declined refused))
    c.in-Err-tally.ensures.follows c.in-Err-tally.ensures.of_run c.report_explained.ensures.status c.report_explained.ensures.told)

pub returns-clause-begun : goal.returns-clause-begun
returns-clause-begun g c = λ failed.
    let task = c.args.task.now in
    let read : IsReadOf (g.R.Read.remaining c.args.reader.now) c.as_slice-text.result.now = subst
    (λ t. IsReadOf (g.R.Read.remaining c.args.reader.now) t) (sym c.as_slice-text.ensures.value) c.in-Ok.ensures.ok in
    gains_front_whole (g.R.Read.remaining c.args.reader.now) c.as_slice-text.result.now _ _ (IsTally task.workers task.limit c.args.seed c.args.runs)
    (λ answer is. is.ready.is.text.short) read (c.in-Err-tally.ensures.begun (sym c.report_explained.ensures.status ∙ failed))

pub returns-in-Err-clause-done : goal.returns-in-Err-clause-done
returns-in-Err-clause-done g c = λ answered. not_told c.report.result (why.Program c.in-Err.failure) c.report.ensures.status answered

pub returns-in-Err-clause-only : goal.returns-in-Err-clause-only
returns-in-Err-clause-only g c = λ answered. not_told c.report.result (why.Program c.in-Err.failure) c.report.ensures.status answered

pub returns-in-Err-clause-usage : goal.returns-in-Err-clause-usage
returns-in-Err-clause-usage g c = no_usage_told c.report.result (why.Program c.in-Err.failure) c.report.ensures.status

pub returns-in-Err-clause-begun : goal.returns-in-Err-clause-begun
returns-in-Err-clause-begun g c = λ failed. absurd (c.in-Err.ensures.reads (sym c.report.ensures.status ∙ failed))

pub returns-in-Err-clause-quiet : goal.returns-in-Err-clause-quiet
returns-in-Err-clause-quiet g c = λ answered. not_told c.report.result (why.Program c.in-Err.failure) c.report.ensures.status answered

pub returns-clause-done : goal.returns-clause-done
returns-clause-done g c = λ answered. not_told c.report_explained.result c.in-Err-tally.why c.report_explained.ensures.status answered

pub returns-clause-only : goal.returns-clause-only
returns-clause-only g c = λ answered. not_told c.report_explained.result c.in-Err-tally.why c.report_explained.ensures.status answered

pub returns-clause-usage : goal.returns-clause-usage
returns-clause-usage g c = no_usage_told c.report_explained.result c.in-Err-tally.why c.report_explained.ensures.status

pub returns-clause-quiet : goal.returns-clause-quiet
returns-clause-quiet g c = λ answered. not_told c.report_explained.result c.in-Err-tally.why c.report_explained.ensures.status answered

pub returns-clause-kept : goal.returns-clause-kept
returns-clause-kept g c = λ none other. c.in-Err-tally.ensures.kept (λ bad. other (c.report_explained.ensures.status ∙ bad))
