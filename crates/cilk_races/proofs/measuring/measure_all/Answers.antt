use Rattle.std.proofs.Common.{map}
use Rattle.cilk_log_replay.specs.machine.sched.Words.{choice_of}
use Rattle.cilk_log_replay.proofs.Naming.{ok_always}
use Rattle.cilk_races.proofs.measuring.measure_all.Goals as goal

pub returns-in-Ok-clause-own : goal.returns-in-Ok-clause-own
returns-in-Ok-clause-own c = ok_always c.measure_choices.result c.in-Ok.ensures.own

pub returns-in-Err-clause-told : goal.returns-in-Err-clause-told
returns-in-Err-clause-told c = c.in-Err.ensures.told c.args.log.now.workers (map choice_of c.args.log.now.choices)
