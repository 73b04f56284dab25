use Rattle.std.proofs.Common.{subst, sym, ℕ, List}
use Rattle.cilk_commands.specs.Held.{Held}
use Rattle.cilk_program_tapes.specs.Replaying.{IsReplayed}
use Rattle.cilk_program_tapes.specs.Saying.{IsTrapOf}
use Rattle.cilk_program_tapes.specs.declared.failure.RecordFailure.TheVariants as why
use Rattle.cilk_program_tapes.proofs.Said.{unsaid}
use Rattle.cilk_program_tapes.proofs.replay.replay.Goals as goal

pub returns-in-Ok-write_answer-clause-ok : goal.returns-in-Ok-write_answer-clause-ok
returns-in-Ok-write_answer-clause-ok g c = λ held is. record {
  answer = c.as_slice.result.now;
  is =
      subst (λ (answer : List ℕ). Held held (λ bytes. IsReplayed c.in-Ok.closing.status c.args.text.now bytes answer))
      (sym c.as_slice.ensures.value) (c.in-Ok.ensures.ok held is);
  written = c.in-Ok-write_answer.ensures.ok;
}

pub returns-clause-begun : goal.returns-clause-begun
returns-clause-begun g c = λ held is failed. (
  c.in-Ok.closing.status,
  record {
    answer = c.as_slice.result.now;
    is =
        subst (λ (answer : List ℕ). Held held (λ bytes. IsReplayed c.in-Ok.closing.status c.args.text.now bytes answer))
        (sym c.as_slice.ensures.value) (c.in-Ok.ensures.ok held is);
    begun = c.in-Err-write_answer.ensures.front;
  },
)

pub returns-clause-said : goal.returns-clause-said
returns-clause-said g c = λ held is. unsaid c.args.note.now.is_wanted held (why.Program c.in-Err-write_answer.failure) _ c.in-Ok.ensures.silent

pub returns-in-Ok-write_answer-clause-trap : goal.returns-in-Ok-write_answer-clause-trap
returns-in-Ok-write_answer-clause-trap g c = record {
  answer = c.as_slice.result.now;
  is = subst (λ (answer : List ℕ). IsTrapOf answer c.in-Ok.closing.trap) (sym c.as_slice.ensures.value) c.in-Ok.ensures.trap;
  written = c.in-Ok-write_answer.ensures.ok;
}
