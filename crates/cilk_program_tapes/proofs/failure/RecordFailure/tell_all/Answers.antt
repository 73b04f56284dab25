use Rattle.std.proofs.Common.{subst}
use Rattle.std.proofs.lemmas.Result.{on_ok_weaker, on_err_weaker}
use Rattle.std.specs.Io.KnownBytes.{Appends}
use Rattle.cilk_commands.specs.Front.{AppendsFront}
use Rattle.cilk_commands.proofs.Fronts.{all_behind, front_before, front_behind}
use Rattle.cilk_program_tapes.specs.Telling.{failure_line}
use Rattle.cilk_program_tapes.proofs.Told.{on_err}
use Rattle.cilk_program_tapes.proofs.failure.RecordFailure.tell_all.Goals as goal

pub returns-in_err-tell-clause-front : goal.returns-in_err-tell-clause-front
returns-in_err-tell-clause-front g c = on_err c.from_residual.result
    (front_before _ _ (failure_line c.args.names.now.program.now c.args.names.now.log.now c.args.self.now) c.args.behind.now c.in_err-tell.ensures.front)

pub returns-clause-ok : goal.returns-clause-ok
returns-clause-ok g c = on_ok_weaker c.write_whole.result
    (λ also. all_behind _ _ _ (failure_line c.args.names.now.program.now c.args.names.now.log.now c.args.self.now) c.args.behind.now c.in_ok-tell.ensures.ok
    (subst (λ bytes. Appends (g.W.Write.contents c.tell.new.err) (g.W.Write.contents c.write_whole.new.out) bytes) c.as_bytes.ensures.value also))
    c.write_whole.ensures.ok

pub returns-clause-front : goal.returns-clause-front
returns-clause-front g c = on_err_weaker c.write_whole.result
    (λ begun. front_behind _ _ _ (failure_line c.args.names.now.program.now c.args.names.now.log.now c.args.self.now) c.args.behind.now c.in_ok-tell.ensures.ok
    (subst (λ bytes. AppendsFront (g.W.Write.contents c.tell.new.err) (g.W.Write.contents c.write_whole.new.out) bytes) c.as_bytes.ensures.value begun))
    c.write_whole.ensures.front
