use Rattle.cilk_draw.specs.replay.log.Words.{log_of}
use Rattle.cilk_program_runs.proofs.Said.{fault_said}
use Rattle.cilk_program.proofs.draw.note_fault.Goals as goal

pub returns-in-Replay-clause-said : goal.returns-in-Replay-clause-said
returns-in-Replay-clause-said c = λ held read.
    fault_said c.args.note.now.is_wanted held (log_of c.args.log.now) c.in-Replay.found _ read c.take_down.ensures

pub returns-in-TooLong-clause-said : goal.returns-in-TooLong-clause-said
returns-in-TooLong-clause-said c = λ held read. c.requires
