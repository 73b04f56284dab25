use Rattle.cilk_program_runs.specs.tapes.declared.failure.RecordFailure.TheVariants as why
use Rattle.cilk_program_runs.proofs.Said.{unsaid}
use Rattle.cilk_program.proofs.draw.draw_log.Goals as goal

pub returns-in-Ok-write_answer-clause-ok : goal.returns-in-Ok-write_answer-clause-ok
returns-in-Ok-write_answer-clause-ok g c = λ held is. record {
  answer = c.as_bytes.result.now;
  is = c.in-Ok.ensures.ok held is;
  written = c.in-Ok-write_answer.ensures.ok;
}

pub returns-clause-begun : goal.returns-clause-begun
returns-clause-begun g c = λ held is failed. record {
  answer = c.as_bytes.result.now;
  is = c.in-Ok.ensures.ok held is;
  begun = c.in-Err-write_answer.ensures.front;
}

pub returns-clause-said : goal.returns-clause-said
returns-clause-said g c = λ held is. unsaid c.args.note.now.is_wanted held (why.Program c.in-Err-write_answer.failure) _ c.in-Ok.ensures.silent
