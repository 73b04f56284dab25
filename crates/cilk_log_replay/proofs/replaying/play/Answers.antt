use Rattle.std.proofs.Common.{map}
use Rattle.cilk_machine.specs.sched.Words.{choice_of}
use Rattle.cilk_log_replay.proofs.replaying.play.Goals as goal

pub returns-in-Err-clause-told : goal.returns-in-Err-clause-told
returns-in-Err-clause-told c = c.in-Err.ensures.told (map choice_of c.args.choices.now)
