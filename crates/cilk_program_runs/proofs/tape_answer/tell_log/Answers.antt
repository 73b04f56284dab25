use Rattle.std.proofs.Common.{subst, sym, List, ℕ}
use Rattle.cilk_program_tapes.specs.commands.Held.{Held}
use Rattle.cilk_program_tapes.specs.commands.declared.status.Status.{Status}
use Rattle.cilk_program_runs.specs.OnTapes.{IsOfLog}
use Rattle.cilk_program_tapes.specs.declared.failure.RecordFailure.TheVariants as why
use Rattle.cilk_program_tapes.proofs.Said.{unsaid}
use Rattle.cilk_program_runs.proofs.tape_answer.tell_log.Goals as goal

pub returns-in-Ok-write_answer-clause-ok : goal.returns-in-Ok-write_answer-clause-ok
returns-in-Ok-write_answer-clause-ok g c = λ held is. record {
  answer = c.as_bytes.result.now;
  is =
      subst (λ (answer : List ℕ). Held held (λ bytes. IsOfLog g.A.TapeAnswering.tells c.args.text.now bytes c.in-Ok.told.status answer))
      (sym c.as_bytes.ensures.value) (c.in-Ok.ensures.ok held is);
  written = c.in-Ok-write_answer.ensures.ok;
}

pub returns-clause-begun : goal.returns-clause-begun
returns-clause-begun g c = λ held is failed.
    let read = c.in-Ok.ensures.ok held is in
    record {
      answer = c.as_bytes.result.now;
      is =
          subst (λ (answer : List ℕ). Held held (λ bytes. (status : Status) × IsOfLog g.A.TapeAnswering.tells c.args.text.now bytes status answer))
          (sym c.as_bytes.ensures.value) (record { bytes = read.bytes; held = read.held; are = (c.in-Ok.told.status, read.are) });
      begun = c.in-Err-write_answer.ensures.front;
    }

pub returns-clause-said : goal.returns-clause-said
returns-clause-said g c = λ held is. unsaid c.args.note.now.is_wanted held (why.Program c.in-Err-write_answer.failure) _ c.in-Ok.ensures.silent
