use Rattle.std.proofs.Common.{subst, sym, ap, ℕ, List}
use Rattle.cilk_program_tapes.specs.commands.Status.{status_of}
use Rattle.cilk_program_runs.specs.Exploring.{IsExplored}
use Rattle.cilk_program_runs.proofs.explore.explore_in.Goals as goal

pub returns-in-Ok-write_answer-clause-ok : goal.returns-in-Ok-write_answer-clause-ok
returns-in-Ok-write_answer-clause-ok g c =
    let task = c.args.task.now in
    let answer = c.in-Ok-answer.answer in
    let made = c.in-Ok-answer.ensures.ok c.args.text.now c.in-Ok.ensures.ok in
    record {
      answer = c.as_slice.result.now;
      logs = made.0;
      are =
          subst (λ (text : List ℕ). IsExplored task.workers task.limit answer.status c.args.text.now text made.0) (sym c.as_slice.ensures.value) made.1;
      kept = made.2;
      written = c.in-Ok-write_answer.ensures.ok;
    }

pub returns-clause-begun : goal.returns-clause-begun
returns-clause-begun g c = λ failed.
    let task = c.args.task.now in
    let answer = c.in-Ok-answer.answer in
    let made = c.in-Ok-answer.ensures.ok c.args.text.now c.in-Ok.ensures.ok in (
      answer.status,
      record {
        answer = c.as_slice.result.now;
        logs = made.0;
        are =
            subst (λ (text : List ℕ). IsExplored task.workers task.limit answer.status c.args.text.now text made.0) (sym c.as_slice.ensures.value) made.1;
        kept = made.2;
        begun = c.in-Err-write_answer.ensures.front;
      },
    )

pub returns-clause-kept : goal.returns-clause-kept
returns-clause-kept g c = λ other. absurd (other (ap status_of c.in-Err-write_answer.ensures.err))
