use Rattle.std.proofs.Common.{subst, sym, ap, refl, ℕ, Bool, List}
use Rattle.cilk_program_tapes.specs.Saying.{IsTrapOf}
use Rattle.cilk_program_tapes.specs.commands.Status.{status_of as status_of_program}
use Rattle.cilk_program_tapes.specs.GivingUp.{IsOfRun}
use Rattle.cilk_program_runs.specs.Running.{IsRun}
use Rattle.cilk_program_runs.proofs.Ran.{kept_log}
use Rattle.cilk_program_tapes.proofs.Told.{unready_reads}
use Rattle.cilk_program_tapes.proofs.Whole.{follows_of}
use Rattle.cilk_program_runs.proofs.run.run_stored.Goals as goal

pub returns-then-not-is_apart-clause-follows : goal.returns-then-not-is_apart-clause-follows
returns-then-not-is_apart-clause-follows g c = (c.in-Ok.program, c.in-Ok.ensures.ok)

pub returns-in-Err-run_answered-clause-follows : goal.returns-in-Err-run_answered-clause-follows
returns-in-Err-run_answered-clause-follows g c = follows_of c.args.text.now c.in-Ok.program c.in-Err-run_answered.why c.in-Ok.ensures.ok

pub returns-in-Err-keep-clause-follows : goal.returns-in-Err-keep-clause-follows
returns-in-Err-keep-clause-follows g c = (c.in-Ok.program, c.in-Ok.ensures.ok)

pub returns-in-Ok-write_answer-clause-trap : goal.returns-in-Ok-write_answer-clause-trap
returns-in-Ok-write_answer-clause-trap g c = record {
  answer = c.as_slice-2.result.now;
  is = subst (λ (answer : List ℕ). IsTrapOf answer c.in-Ok-run_answered.texts.trap) (sym c.as_slice-2.ensures.value) c.in-Ok-run_answered.ensures.trap;
  written = c.in-Ok-write_answer.ensures.ok;
}

-- ---- what is kept and written

pub returns-in-Ok-write_answer-clause-ok : goal.returns-in-Ok-write_answer-clause-ok
returns-in-Ok-write_answer-clause-ok g c =
    let task = c.args.task.now in
    let texts = c.in-Ok-run_answered.texts in
    let made = c.in-Ok-run_answered.ensures.ok c.args.text.now c.in-Ok.ensures.ok in
    record {
      log = made.0;
      answer = c.as_slice-2.result.now;
      are =
          subst (λ (answer : List ℕ). IsRun task.workers task.limit task.seed texts.status c.args.text.now made.0 answer) (sym c.as_slice-2.ensures.value)
          made.1;
      stored =
          kept_log c.is_wanted.result _ _ c.as_slice.result.now made.0 texts.log.items c.is_wanted.ensures.none c.as_slice.ensures.value made.2
          c.in-Ok-keep.ensures.kept;
      written = c.in-Ok-write_answer.ensures.ok;
    }

pub returns-clause-begun : goal.returns-clause-begun
returns-clause-begun g c = λ failed.
    let task = c.args.task.now in
    let texts = c.in-Ok-run_answered.texts in
    let made = c.in-Ok-run_answered.ensures.ok c.args.text.now c.in-Ok.ensures.ok in (
      texts.status,
      record {
        log = made.0;
        answer = c.as_slice-2.result.now;
        are =
            subst (λ (answer : List ℕ). IsRun task.workers task.limit task.seed texts.status c.args.text.now made.0 answer) (sym c.as_slice-2.ensures.value)
            made.1;
        stored =
            kept_log c.is_wanted.result _ _ c.as_slice.result.now made.0 texts.log.items c.is_wanted.ensures.none c.as_slice.ensures.value made.2
            c.in-Ok-keep.ensures.kept;
        begun = c.in-Err-write_answer.ensures.front;
      },
    )

-- ---- where nothing is written

pub returns-in-Err-clause-declined : goal.returns-in-Err-clause-declined
returns-in-Err-clause-declined g c = λ refused. c.in-Err.ensures.err

pub returns-in-Err-clause-begun : goal.returns-in-Err-clause-begun
returns-in-Err-clause-begun g c = λ failed. absurd (unready_reads c.args.text.now c.in-Err.failure c.in-Err.ensures.err failed)

pub returns-in-Err-run_answered-clause-declined : goal.returns-in-Err-run_answered-clause-declined
returns-in-Err-run_answered-clause-declined g c = λ refused. absurd (c.in-Err-run_answered.ensures.err.0 refused)

pub returns-in-Err-run_answered-clause-begun : goal.returns-in-Err-run_answered-clause-begun
returns-in-Err-run_answered-clause-begun g c = λ failed. absurd (c.in-Err-run_answered.ensures.err.1 failed)

pub returns-in-Err-run_answered-clause-of_run : goal.returns-in-Err-run_answered-clause-of_run
returns-in-Err-run_answered-clause-of_run g c =
    subst (λ (wanted : Bool). IsOfRun c.args.task.now.workers wanted c.in-Err-run_answered.why) c.is_wanted.ensures.value c.in-Err-run_answered.ensures.of_run

pub returns-in-Err-keep-clause-of_run : goal.returns-in-Err-keep-clause-of_run
returns-in-Err-keep-clause-of_run g c = c.in-Err-keep.ensures.wanted

pub returns-in-Err-keep-clause-unopened : goal.returns-in-Err-keep-clause-unopened
returns-in-Err-keep-clause-unopened g c = λ other apart. absurd (apart refl)

pub returns-clause-kept : goal.returns-clause-kept
returns-clause-kept g c = λ other. absurd (other (ap status_of_program c.in-Err-write_answer.ensures.err))

pub returns-clause-unopened : goal.returns-clause-unopened
returns-clause-unopened g c = λ other apart. absurd (other (ap status_of_program c.in-Err-write_answer.ensures.err))
