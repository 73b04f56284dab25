use Rattle.std.proofs.Common.{subst, sym, ◌∙◌, ℕ, List}
use Rattle.cilk_commands.specs.Held.{Held, IsReadOf}
use Rattle.cilk_commands.proofs.WholeText.{gains_whole, gains_front_whole}
use Rattle.cilk_program_tapes.specs.Replaying.{IsReplayed}
use Rattle.cilk_program_tapes.specs.Taped.{Declines}
use Rattle.cilk_program_tapes.proofs.Whole.{declines_held, log_gave_up, not_read}
use Rattle.cilk_program_tapes.specs.declared.failure.RecordFailure.TheVariants as why
use Rattle.cilk_program_tapes.proofs.Said.{explains_trap, noted, trap_is_answer}
use Rattle.cilk_commands.proofs.Statuses.{not_both, not_failed, no_usage_answered}
use Rattle.cilk_program_tapes.proofs.Told.{not_told, no_usage_told}
use Rattle.cilk_program_tapes.proofs.replay.replay_text.Goals as goal

pub returns-in-Err-clause-told : goal.returns-in-Err-clause-told
returns-in-Err-clause-told g c = λ held is none.
    not_read Declines c.args.task.now.explain c.args.task.now.names.program.now c.args.task.now.names.log.now _ (g.R.Read.remaining c.args.reader.now) held _ _
    c.in-Err.failure c.in-Err.ensures.status
    c.report.ensures.status c.report.ensures.told

pub returns-in-Ok-replay-clause-done : goal.returns-in-Ok-replay-clause-done
returns-in-Ok-replay-clause-done g c = λ held is answered.
    let read : IsReadOf (g.R.Read.remaining c.args.reader.now) c.as_slice-text.result.now = subst
    (λ t. IsReadOf (g.R.Read.remaining c.args.reader.now) t) (sym c.as_slice-text.ensures.value) c.in-Ok.ensures.ok in
    gains_whole (g.R.Read.remaining c.args.reader.now) c.as_slice-text.result.now _ _
    (λ text answer. Held held (λ (bytes : List ℕ). IsReplayed c.in-Ok-replay.ended.status text bytes answer))
    (λ answer all. all.are.is_tape.is.ready.is.text.short) read (c.in-Ok-replay.ensures.ok held is)

pub returns-clause-told : goal.returns-clause-told
returns-clause-told g c = λ held is none.
    let read : IsReadOf (g.R.Read.remaining c.args.reader.now) c.as_slice-text.result.now = subst
    (λ t. IsReadOf (g.R.Read.remaining c.args.reader.now) t) (sym c.as_slice-text.ensures.value) c.in-Ok.ensures.ok in
    log_gave_up Declines c.args.task.now.explain c.args.task.now.names.program.now c.args.task.now.names.log.now _
    (g.R.Read.remaining c.args.reader.now) held _ _
    c.as_slice-text.result.now c.as_str.result.now c.in-Err-replay.why read
    (λ refused. declines_held (g.R.Read.remaining c.args.reader.now) held c.as_slice-text.result.now c.in-Err-replay.why read
    (c.in-Err-replay.ensures.declined held is refused))
    c.in-Err-replay.ensures.follows c.explain_log.ensures.status
    (noted c.args.task.now.explain c.new-note.result.is_wanted held c.in-Err-replay.why _ c.as_str.result.now c.new-note.ensures.wanted c.as_str.ensures.value
    (c.in-Err-replay.ensures.said held is))
    c.explain_log.ensures.told

pub returns-clause-begun : goal.returns-clause-begun
returns-clause-begun g c = λ held is failed.
    let read : IsReadOf (g.R.Read.remaining c.args.reader.now) c.as_slice-text.result.now = subst
    (λ t. IsReadOf (g.R.Read.remaining c.args.reader.now) t) (sym c.as_slice-text.ensures.value) c.in-Ok.ensures.ok in
    let begun = c.in-Err-replay.ensures.begun held is (sym c.explain_log.ensures.status ∙ failed) in (
      begun.0,
      gains_front_whole (g.R.Read.remaining c.args.reader.now) c.as_slice-text.result.now _ _
          (λ text answer. Held held (λ (bytes : List ℕ). IsReplayed begun.0 text bytes answer))
          (λ answer all. all.are.is_tape.is.ready.is.text.short) read begun.1,
    )

pub returns-in-Err-clause-done : goal.returns-in-Err-clause-done
returns-in-Err-clause-done g c = λ held is answered. not_told c.report.result (why.Program c.in-Err.failure) c.report.ensures.status answered

pub returns-in-Err-clause-usage : goal.returns-in-Err-clause-usage
returns-in-Err-clause-usage g c = no_usage_told c.report.result (why.Program c.in-Err.failure) c.report.ensures.status

pub returns-in-Err-clause-begun : goal.returns-in-Err-clause-begun
returns-in-Err-clause-begun g c = λ held is failed. absurd (c.in-Err.ensures.reads (sym c.report.ensures.status ∙ failed))

pub returns-in-Err-clause-quiet : goal.returns-in-Err-clause-quiet
returns-in-Err-clause-quiet g c = λ answered. not_told c.report.result (why.Program c.in-Err.failure) c.report.ensures.status answered

pub returns-in-Ok-replay-clause-usage : goal.returns-in-Ok-replay-clause-usage
returns-in-Ok-replay-clause-usage g c = no_usage_answered c.in-Ok-replay.ended.status c.in-Ok-replay.ensures.answer

pub returns-in-Ok-replay-clause-told : goal.returns-in-Ok-replay-clause-told
returns-in-Ok-replay-clause-told g c = λ held is none. not_both c.in-Ok-replay.ended.status c.in-Ok-replay.ensures.answer none

pub returns-in-Ok-replay-clause-begun : goal.returns-in-Ok-replay-clause-begun
returns-in-Ok-replay-clause-begun g c = λ held is failed. not_failed c.in-Ok-replay.ended.status c.in-Ok-replay.ensures.answer failed

pub returns-in-Ok-replay-clause-kept : goal.returns-in-Ok-replay-clause-kept
returns-in-Ok-replay-clause-kept g c = λ none other. not_both c.in-Ok-replay.ended.status c.in-Ok-replay.ensures.answer none

pub returns-clause-done : goal.returns-clause-done
returns-clause-done g c = λ held is answered. not_told c.explain_log.result c.in-Err-replay.why c.explain_log.ensures.status answered

pub returns-clause-usage : goal.returns-clause-usage
returns-clause-usage g c = no_usage_told c.explain_log.result c.in-Err-replay.why c.explain_log.ensures.status

pub returns-clause-quiet : goal.returns-clause-quiet
returns-clause-quiet g c = λ answered. not_told c.explain_log.result c.in-Err-replay.why c.explain_log.ensures.status answered

pub returns-clause-kept : goal.returns-clause-kept
returns-clause-kept g c = λ none other. c.in-Err-replay.ensures.kept (λ bad. other (c.explain_log.ensures.status ∙ bad))

pub returns-in-Ok-replay-clause-quiet : goal.returns-in-Ok-replay-clause-quiet
returns-in-Ok-replay-clause-quiet g c = λ answered none. c.tell_trap.ensures.quiet none

pub returns-in-Ok-replay-clause-explained : goal.returns-in-Ok-replay-clause-explained
returns-in-Ok-replay-clause-explained g c = λ told.
    let read : IsReadOf (g.R.Read.remaining c.args.reader.now) c.as_slice-text.result.now = subst
    (λ t. IsReadOf (g.R.Read.remaining c.args.reader.now) t) (sym c.as_slice-text.ensures.value) c.in-Ok.ensures.ok in
    explains_trap c.args.task.now.names.program.now c.as_slice-text.result.now (g.R.Read.remaining c.args.reader.now) _ _ _ _ c.in-Ok-replay.ended.trap
    c.in-Ok-replay.ensures.trap read (λ answer closes. c.tell_trap.ensures.told answer closes told)

pub returns-in-Err-clause-explained : goal.returns-in-Err-clause-explained
returns-in-Err-clause-explained g c = λ told.
    not_told c.report.result (why.Program c.in-Err.failure) c.report.ensures.status (trap_is_answer c.args.task.now.explain c.report.result told)

pub returns-clause-explained : goal.returns-clause-explained
returns-clause-explained g c = λ told.
    not_told c.explain_log.result c.in-Err-replay.why c.explain_log.ensures.status (trap_is_answer c.args.task.now.explain c.explain_log.result told)
