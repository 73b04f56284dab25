use Rattle.std.proofs.Common.{subst, sym, ◌∙◌}
use Rattle.cilk_program_tapes.specs.commands.Held.{IsReadOf}
use Rattle.cilk_program_tapes.specs.Taped.{Declines}
use Rattle.cilk_program_tapes.proofs.Whole.{declines_held, log_gave_up, not_read}
use Rattle.cilk_program_runs.proofs.Debugged.{debugs_whole, debugs_front, debugs_left}
use Rattle.std.proofs.Common.{ap}
use Rattle.cilk_program_tapes.specs.commands.Status.{is_answer}
use Rattle.cilk_program_tapes.specs.declared.failure.RecordFailure.TheVariants as why
use Rattle.cilk_program_tapes.proofs.Said.{noted}
use Rattle.cilk_program_tapes.proofs.Told.{not_told, no_usage_told}
use Rattle.cilk_program_runs.proofs.debug.debug_text.Goals as goal

pub returns-in-Err-clause-told : goal.returns-in-Err-clause-told
returns-in-Err-clause-told g c = λ held is none.
    not_read Declines c.args.task.now.explain c.args.task.now.names.program.now c.args.task.now.names.log.now _ (g.R.Read.remaining c.args.reader.now) held _ _
    c.in-Err.failure c.in-Err.ensures.status
    c.report.ensures.status c.report.ensures.told

pub returns-in-Ok-debug-clause-done : goal.returns-in-Ok-debug-clause-done
returns-in-Ok-debug-clause-done g c = λ held is done.
    let read : IsReadOf (g.R.Read.remaining c.args.reader.now) c.as_slice-text.result.now = subst
    (λ t. IsReadOf (g.R.Read.remaining c.args.reader.now) t) (sym c.as_slice-text.ensures.value) c.in-Ok.ensures.ok in
    debugs_whole (g.R.Read.remaining c.args.reader.now) held c.as_slice-text.result.now _ _ read _ (c.in-Ok-debug.ensures.ok held is)

pub returns-clause-told : goal.returns-clause-told
returns-clause-told g c = λ held is none.
    let read : IsReadOf (g.R.Read.remaining c.args.reader.now) c.as_slice-text.result.now = subst
    (λ t. IsReadOf (g.R.Read.remaining c.args.reader.now) t) (sym c.as_slice-text.ensures.value) c.in-Ok.ensures.ok in
    log_gave_up Declines c.args.task.now.explain c.args.task.now.names.program.now c.args.task.now.names.log.now _
    (g.R.Read.remaining c.args.reader.now) held _ _
    c.as_slice-text.result.now c.as_str.result.now c.in-Err-debug.why read
    (λ refused. declines_held (g.R.Read.remaining c.args.reader.now) held c.as_slice-text.result.now c.in-Err-debug.why read
    (c.in-Err-debug.ensures.declined held is refused))
    c.in-Err-debug.ensures.follows c.explain_log.ensures.status
    (noted c.args.task.now.explain c.new-note.result.is_wanted held c.in-Err-debug.why _ c.as_str.result.now c.new-note.ensures.wanted c.as_str.ensures.value
    (c.in-Err-debug.ensures.said held is))
    c.explain_log.ensures.told

pub returns-clause-begun : goal.returns-clause-begun
returns-clause-begun g c = λ held is failed.
    let read : IsReadOf (g.R.Read.remaining c.args.reader.now) c.as_slice-text.result.now = subst
    (λ t. IsReadOf (g.R.Read.remaining c.args.reader.now) t) (sym c.as_slice-text.ensures.value) c.in-Ok.ensures.ok in
    debugs_front (g.R.Read.remaining c.args.reader.now) held c.as_slice-text.result.now _ _ read _
    (c.in-Err-debug.ensures.begun held is (sym c.explain_log.ensures.status ∙ failed))

pub returns-in-Err-clause-begun : goal.returns-in-Err-clause-begun
returns-in-Err-clause-begun g c = λ held is failed. absurd (c.in-Err.ensures.reads (sym c.report.ensures.status ∙ failed))

pub returns-clause-part : goal.returns-clause-part
returns-clause-part g c = λ held is none other.
    let read : IsReadOf (g.R.Read.remaining c.args.reader.now) c.as_slice-text.result.now = subst
    (λ t. IsReadOf (g.R.Read.remaining c.args.reader.now) t) (sym c.as_slice-text.ensures.value) c.in-Ok.ensures.ok in
    debugs_left (g.R.Read.remaining c.args.reader.now) held c.as_slice-text.result.now _ _ read _ _
    (c.in-Err-debug.ensures.part held is (λ bad. other (c.explain_log.ensures.status ∙ bad)))

pub returns-in-Err-clause-done : goal.returns-in-Err-clause-done
returns-in-Err-clause-done g c = λ held is done. not_told c.report.result (why.Program c.in-Err.failure) c.report.ensures.status (ap is_answer done)

pub returns-in-Err-clause-usage : goal.returns-in-Err-clause-usage
returns-in-Err-clause-usage g c = no_usage_told c.report.result (why.Program c.in-Err.failure) c.report.ensures.status

pub returns-in-Err-clause-only : goal.returns-in-Err-clause-only
returns-in-Err-clause-only g c = λ answered. not_told c.report.result (why.Program c.in-Err.failure) c.report.ensures.status answered

pub returns-in-Err-clause-quiet : goal.returns-in-Err-clause-quiet
returns-in-Err-clause-quiet g c = λ answered. not_told c.report.result (why.Program c.in-Err.failure) c.report.ensures.status answered

pub returns-clause-done : goal.returns-clause-done
returns-clause-done g c = λ held is done. not_told c.explain_log.result c.in-Err-debug.why c.explain_log.ensures.status (ap is_answer done)

pub returns-clause-usage : goal.returns-clause-usage
returns-clause-usage g c = no_usage_told c.explain_log.result c.in-Err-debug.why c.explain_log.ensures.status

pub returns-clause-only : goal.returns-clause-only
returns-clause-only g c = λ answered. not_told c.explain_log.result c.in-Err-debug.why c.explain_log.ensures.status answered

pub returns-clause-quiet : goal.returns-clause-quiet
returns-clause-quiet g c = λ answered. not_told c.explain_log.result c.in-Err-debug.why c.explain_log.ensures.status answered

pub returns-clause-kept : goal.returns-clause-kept
returns-clause-kept g c = λ refused. c.in-Err-debug.ensures.kept (sym c.explain_log.ensures.status ∙ refused)
