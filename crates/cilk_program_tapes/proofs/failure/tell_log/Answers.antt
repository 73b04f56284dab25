use Rattle.std.proofs.Common.{ap, sym}
use Rattle.cilk_commands.proofs.Fronts.{ok_same, front_same}
use Rattle.cilk_program_tapes.specs.Telling.{log_line}
use Rattle.cilk_program_tapes.proofs.failure.tell_log.Goals as goal

pub returns-in-Version-clause-front : goal.returns-in-Version-clause-front
returns-in-Version-clause-front g c = front_same _ _ _ _ _ (ap (log_line c.args.name.now) (sym c.in-Version.is)) c.write_named.ensures.front

pub returns-in-Truncated-clause-ok : goal.returns-in-Truncated-clause-ok
returns-in-Truncated-clause-ok g c = ok_same _ _ _ _ _ (ap (log_line c.args.name.now) (sym c.in-Truncated.is)) c.write_named-in-Truncated.ensures.ok

pub returns-in-Truncated-clause-front : goal.returns-in-Truncated-clause-front
returns-in-Truncated-clause-front g c = front_same _ _ _ _ _ (ap (log_line c.args.name.now) (sym c.in-Truncated.is)) c.write_named-in-Truncated.ensures.front

pub returns-in-Count-clause-ok : goal.returns-in-Count-clause-ok
returns-in-Count-clause-ok g c = ok_same _ _ _ _ _ (ap (log_line c.args.name.now) (sym c.in-Count.is)) c.write_named-in-Count.ensures.ok

pub returns-in-Count-clause-front : goal.returns-in-Count-clause-front
returns-in-Count-clause-front g c = front_same _ _ _ _ _ (ap (log_line c.args.name.now) (sym c.in-Count.is)) c.write_named-in-Count.ensures.front

pub returns-in-TooMany-clause-ok : goal.returns-in-TooMany-clause-ok
returns-in-TooMany-clause-ok g c = ok_same _ _ _ _ _ (ap (log_line c.args.name.now) (sym c.in-TooMany.is)) c.write_named-in-TooMany.ensures.ok

pub returns-in-TooMany-clause-front : goal.returns-in-TooMany-clause-front
returns-in-TooMany-clause-front g c = front_same _ _ _ _ _ (ap (log_line c.args.name.now) (sym c.in-TooMany.is)) c.write_named-in-TooMany.ensures.front
