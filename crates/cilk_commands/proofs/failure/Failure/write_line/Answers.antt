use Rattle.std.proofs.Common.{ap, sym}
use Rattle.cilk_commands.specs.Telling.{failure_line}
use Rattle.cilk_load.proofs.Fronts.{ok_same, front_same}
use Rattle.cilk_commands.proofs.failure.Failure.write_line.Goals as goal

pub returns-in-NotUtf8-clause-front : goal.returns-in-NotUtf8-clause-front
returns-in-NotUtf8-clause-front g c = front_same _ _ _ _ _ (ap (failure_line c.args.name.now) (sym c.in-NotUtf8.is)) c.write_parts-in-NotUtf8.ensures.front

pub returns-in-TooMany-clause-ok : goal.returns-in-TooMany-clause-ok
returns-in-TooMany-clause-ok g c = ok_same _ _ _ _ _ (ap (failure_line c.args.name.now) (sym c.in-TooMany.is)) c.write_parts-in-TooMany.ensures.ok

pub returns-in-TooMany-clause-front : goal.returns-in-TooMany-clause-front
returns-in-TooMany-clause-front g c = front_same _ _ _ _ _ (ap (failure_line c.args.name.now) (sym c.in-TooMany.is)) c.write_parts-in-TooMany.ensures.front

pub returns-in-CannotWrite-clause-ok : goal.returns-in-CannotWrite-clause-ok
returns-in-CannotWrite-clause-ok g c = ok_same _ _ _ _ _ (ap (failure_line c.args.name.now) (sym c.in-CannotWrite.is)) c.write_parts-in-CannotWrite.ensures.ok
