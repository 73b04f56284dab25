use Rattle.std.proofs.Common.{map}
use Rattle.cilk_debug_console.specs.choices.Words.{choice_of}
use Rattle.cilk_log_replay.specs.Tape.{tape_of}
use Rattle.cilk_log_replay.proofs.Naming.{ok_always}
use Rattle.cilk_debug.proofs.Naming.{unplayable_told}
use Rattle.cilk_debug.proofs.debugger.Debugger.open.Goals as goal

pub returns-in-Ok-clause-own : goal.returns-in-Ok-clause-own
returns-in-Ok-clause-own c = ok_always c.begin.result c.in-Ok.ensures.own

pub returns-in-Ok-clause-told : goal.returns-in-Ok-clause-told
returns-in-Ok-clause-told c =
    unplayable_told c.args.log.program (tape_of c.args.program c.args.log.workers c.args.log.choices) c.in-Ok.ensures.own c.begin.result c.begin.ensures.told

pub returns-in-Err-clause-told : goal.returns-in-Err-clause-told
returns-in-Err-clause-told c = c.in-Err.ensures.told c.args.log.workers (map choice_of c.args.log.choices)
