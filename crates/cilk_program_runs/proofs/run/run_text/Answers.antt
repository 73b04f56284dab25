use Rattle.std.proofs.Common.{subst, sym, ◌∙◌, option_map}
use Rattle.cilk_program_tapes.specs.commands.Held.{IsReadOf}
use Rattle.cilk_program_runs.specs.Running.{IsRun}
use Rattle.cilk_program_runs.specs.AsAsked.{log_name}
use Rattle.cilk_program_tapes.proofs.Whole.{no_program_held, renamed, run_gave_up, run_not_read}
use Rattle.cilk_program_runs.proofs.Stored.{stores_whole, stores_front_whole}
use Rattle.cilk_program_tapes.specs.declared.failure.RecordFailure.TheVariants as why
use Rattle.cilk_program_tapes.proofs.Said.{explains_trap, trap_is_answer}
use Rattle.cilk_program_tapes.proofs.commands_laws.Statuses.{not_both, not_failed, no_usage_answered}
use Rattle.cilk_program_tapes.proofs.Told.{not_told, no_usage_told}
use Rattle.cilk_program_runs.proofs.run.run_text.Goals as goal

pub returns-in-Err-clause-told : goal.returns-in-Err-clause-told
returns-in-Err-clause-told g c = λ none.
    let task = c.args.task.now in
    renamed task.workers (g.S.LogStore.wanted c.args.store.now) task.explain _ _ task.program.now (log_name (option_map (λ it. it.now) task.log)) _
    (g.R.Read.remaining c.args.reader.now) _ _ c.names-names.ensures.program c.names-names.ensures.log
    (run_not_read task.workers (g.S.LogStore.wanted c.args.store.now) task.explain c.names-names.result.program.now c.names-names.result.log.now _
    (g.R.Read.remaining c.args.reader.now) _ _ c.in-Err.failure c.in-Err.ensures.status c.report.ensures.status c.report.ensures.told)

pub returns-in-Ok-run_stored-clause-done : goal.returns-in-Ok-run_stored-clause-done
returns-in-Ok-run_stored-clause-done g c = λ answered.
    let read : IsReadOf (g.R.Read.remaining c.args.reader.now) c.as_slice-text.result.now = subst
    (λ t. IsReadOf (g.R.Read.remaining c.args.reader.now) t) (sym c.as_slice-text.ensures.value) c.in-Ok.ensures.ok in
    stores_whole (g.R.Read.remaining c.args.reader.now) c.as_slice-text.result.now _ _ _ _
    (IsRun c.args.task.now.workers c.args.task.now.limit c.args.task.now.seed c.in-Ok-run_stored.ended.status)
    (λ log answer is. is.ready.is.text.short) read c.in-Ok-run_stored.ensures.ok

pub returns-clause-told : goal.returns-clause-told
returns-clause-told g c = λ none.
    let read : IsReadOf (g.R.Read.remaining c.args.reader.now) c.as_slice-text.result.now = subst
    (λ t. IsReadOf (g.R.Read.remaining c.args.reader.now) t) (sym c.as_slice-text.ensures.value) c.in-Ok.ensures.ok in
    let task = c.args.task.now in
    renamed task.workers (g.S.LogStore.wanted c.args.store.now) task.explain _ _ task.program.now (log_name (option_map (λ it. it.now) task.log)) _
    (g.R.Read.remaining c.args.reader.now) _ _ c.names-names.ensures.program c.names-names.ensures.log
    (run_gave_up task.workers (g.S.LogStore.wanted c.args.store.now) task.explain c.names-names.result.program.now c.names-names.result.log.now _
    (g.R.Read.remaining c.args.reader.now) _ _ c.as_slice-text.result.now c.in-Err-run_stored.why read
    (λ refused. no_program_held (g.R.Read.remaining c.args.reader.now) c.as_slice-text.result.now c.in-Err-run_stored.why read
    (c.in-Err-run_stored.ensures.declined refused))
    c.in-Err-run_stored.ensures.follows c.in-Err-run_stored.ensures.of_run c.report_explained.ensures.status c.report_explained.ensures.told)

pub returns-clause-begun : goal.returns-clause-begun
returns-clause-begun g c = λ failed.
    let read : IsReadOf (g.R.Read.remaining c.args.reader.now) c.as_slice-text.result.now = subst
    (λ t. IsReadOf (g.R.Read.remaining c.args.reader.now) t) (sym c.as_slice-text.ensures.value) c.in-Ok.ensures.ok in
    let begun = c.in-Err-run_stored.ensures.begun (sym c.report_explained.ensures.status ∙ failed) in (
      begun.0,
      stores_front_whole (g.R.Read.remaining c.args.reader.now) c.as_slice-text.result.now _ _ _ _
          (IsRun c.args.task.now.workers c.args.task.now.limit c.args.task.now.seed begun.0)
          (λ log answer is. is.ready.is.text.short) read begun.1,
    )

pub returns-in-Err-clause-done : goal.returns-in-Err-clause-done
returns-in-Err-clause-done g c = λ answered. not_told c.report.result (why.Program c.in-Err.failure) c.report.ensures.status answered

pub returns-in-Err-clause-usage : goal.returns-in-Err-clause-usage
returns-in-Err-clause-usage g c = no_usage_told c.report.result (why.Program c.in-Err.failure) c.report.ensures.status

pub returns-in-Err-clause-begun : goal.returns-in-Err-clause-begun
returns-in-Err-clause-begun g c = λ failed. absurd (c.in-Err.ensures.reads (sym c.report.ensures.status ∙ failed))

pub returns-in-Err-clause-quiet : goal.returns-in-Err-clause-quiet
returns-in-Err-clause-quiet g c = λ answered. not_told c.report.result (why.Program c.in-Err.failure) c.report.ensures.status answered

pub returns-in-Ok-run_stored-clause-usage : goal.returns-in-Ok-run_stored-clause-usage
returns-in-Ok-run_stored-clause-usage g c = no_usage_answered c.in-Ok-run_stored.ended.status c.in-Ok-run_stored.ensures.answer

pub returns-in-Ok-run_stored-clause-told : goal.returns-in-Ok-run_stored-clause-told
returns-in-Ok-run_stored-clause-told g c = λ none. not_both c.in-Ok-run_stored.ended.status c.in-Ok-run_stored.ensures.answer none

pub returns-in-Ok-run_stored-clause-begun : goal.returns-in-Ok-run_stored-clause-begun
returns-in-Ok-run_stored-clause-begun g c = λ failed. not_failed c.in-Ok-run_stored.ended.status c.in-Ok-run_stored.ensures.answer failed

pub returns-in-Ok-run_stored-clause-kept : goal.returns-in-Ok-run_stored-clause-kept
returns-in-Ok-run_stored-clause-kept g c = λ none other. not_both c.in-Ok-run_stored.ended.status c.in-Ok-run_stored.ensures.answer none

pub returns-in-Ok-run_stored-clause-unopened : goal.returns-in-Ok-run_stored-clause-unopened
returns-in-Ok-run_stored-clause-unopened g c = λ none other apart. not_both c.in-Ok-run_stored.ended.status c.in-Ok-run_stored.ensures.answer none

pub returns-clause-done : goal.returns-clause-done
returns-clause-done g c = λ answered. not_told c.report_explained.result c.in-Err-run_stored.why c.report_explained.ensures.status answered

pub returns-clause-usage : goal.returns-clause-usage
returns-clause-usage g c = no_usage_told c.report_explained.result c.in-Err-run_stored.why c.report_explained.ensures.status

pub returns-clause-quiet : goal.returns-clause-quiet
returns-clause-quiet g c = λ answered. not_told c.report_explained.result c.in-Err-run_stored.why c.report_explained.ensures.status answered

pub returns-clause-kept : goal.returns-clause-kept
returns-clause-kept g c = λ none other. c.in-Err-run_stored.ensures.kept (λ bad. other (c.report_explained.ensures.status ∙ bad))

pub returns-clause-unopened : goal.returns-clause-unopened
returns-clause-unopened g c = λ none other apart.
    c.in-Err-run_stored.ensures.unopened (λ bad. other (c.report_explained.ensures.status ∙ bad)) (λ bad. apart (c.report_explained.ensures.status ∙ bad))

pub returns-in-Ok-run_stored-clause-quiet : goal.returns-in-Ok-run_stored-clause-quiet
returns-in-Ok-run_stored-clause-quiet g c = λ answered none. c.tell_trap.ensures.quiet none

pub returns-in-Ok-run_stored-clause-explained : goal.returns-in-Ok-run_stored-clause-explained
returns-in-Ok-run_stored-clause-explained g c = λ told.
    let read : IsReadOf (g.R.Read.remaining c.args.reader.now) c.as_slice-text.result.now = subst
    (λ t. IsReadOf (g.R.Read.remaining c.args.reader.now) t) (sym c.as_slice-text.ensures.value) c.in-Ok.ensures.ok in
    explains_trap c.args.task.now.program.now c.as_slice-text.result.now (g.R.Read.remaining c.args.reader.now) _ _ _ _ c.in-Ok-run_stored.ended.trap
    c.in-Ok-run_stored.ensures.trap read (λ answer closes. c.tell_trap.ensures.told answer closes told)

pub returns-in-Err-clause-explained : goal.returns-in-Err-clause-explained
returns-in-Err-clause-explained g c = λ told.
    not_told c.report.result (why.Program c.in-Err.failure) c.report.ensures.status (trap_is_answer c.args.task.now.explain c.report.result told)

pub returns-clause-explained : goal.returns-clause-explained
returns-clause-explained g c = λ told.
    not_told c.report_explained.result c.in-Err-run_stored.why c.report_explained.ensures.status
    (trap_is_answer c.args.task.now.explain c.report_explained.result told)
