use Rattle.std.proofs.Common.{ap, sym}
use Rattle.cilk_commands.proofs.Fronts.{front_same, ok_same}
use Rattle.cilk_program_tapes.specs.Telling.{failure_line}
use Rattle.cilk_program_tapes.proofs.failure.RecordFailure.tell.Goals as goal

pub returns-in-CannotRead-clause-ok : goal.returns-in-CannotRead-clause-ok
returns-in-CannotRead-clause-ok g c = ok_same _ _ _ _ _
    (ap (failure_line c.args.names.now.program.now c.args.names.now.log.now) (sym c.in-CannotRead.is)) c.write_line-in-CannotRead.ensures.ok

pub returns-in-CannotRead-clause-front : goal.returns-in-CannotRead-clause-front
returns-in-CannotRead-clause-front g c = front_same _ _ _ _ _
    (ap (failure_line c.args.names.now.program.now c.args.names.now.log.now) (sym c.in-CannotRead.is)) c.write_line-in-CannotRead.ensures.front

pub returns-in-Log-clause-ok : goal.returns-in-Log-clause-ok
returns-in-Log-clause-ok g c = ok_same _ _ _ _ _
    (ap (failure_line c.args.names.now.program.now c.args.names.now.log.now) (sym c.in-Log.is)) c.tell_log.ensures.ok

pub returns-in-Log-clause-front : goal.returns-in-Log-clause-front
returns-in-Log-clause-front g c = front_same _ _ _ _ _
    (ap (failure_line c.args.names.now.program.now c.args.names.now.log.now) (sym c.in-Log.is)) c.tell_log.ensures.front

pub returns-in-Replay-clause-ok : goal.returns-in-Replay-clause-ok
returns-in-Replay-clause-ok g c = ok_same _ _ _ _ _
    (ap (failure_line c.args.names.now.program.now c.args.names.now.log.now) (sym c.in-Replay.is)) c.tell_replay.ensures.ok

pub returns-in-Replay-clause-front : goal.returns-in-Replay-clause-front
returns-in-Replay-clause-front g c = front_same _ _ _ _ _
    (ap (failure_line c.args.names.now.program.now c.args.names.now.log.now) (sym c.in-Replay.is)) c.tell_replay.ensures.front

pub returns-in-TooLong-clause-ok : goal.returns-in-TooLong-clause-ok
returns-in-TooLong-clause-ok g c = ok_same _ _ _ _ _
    (ap (failure_line c.args.names.now.program.now c.args.names.now.log.now) (sym c.in-TooLong.is)) c.write_named.ensures.ok

pub returns-in-TooLong-clause-front : goal.returns-in-TooLong-clause-front
returns-in-TooLong-clause-front g c = front_same _ _ _ _ _
    (ap (failure_line c.args.names.now.program.now c.args.names.now.log.now) (sym c.in-TooLong.is)) c.write_named.ensures.front
