use Rattle.std.proofs.Common.{string_bytes}
use Rattle.cilk_log_replay.specs.log.Words.{log_of}
use Rattle.cilk_program_tapes.proofs.Said.{untold}
use Rattle.cilk_program_tapes.proofs.note.words_on.Goals as goal

pub returns-in-Err : goal.returns-in-Err
returns-in-Err c = untold c.args.explain (log_of c.args.log.now) c.args.fault.now (string_bytes c.new.result) c.new.ensures.bytes
