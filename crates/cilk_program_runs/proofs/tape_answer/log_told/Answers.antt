use Rattle.cilk_program_tapes.specs.replay.Tape.{tape_of}
use Rattle.cilk_program_tapes.specs.replay.log.Words.{log_of}
use Rattle.cilk_program_tapes.proofs.Said.{fault_said, unsaid}
use Rattle.cilk_program_tapes.proofs.Told.{replay_reads}
use Rattle.cilk_program_runs.proofs.tape_answer.log_told.Goals as goal

pub returns-clause-declined : goal.returns-clause-declined
returns-clause-declined g c = λ held is refused.
    let read = c.in-Ok.ensures.ok held is in
    record {
      bytes = read.bytes;
      held = read.held;
      are = record {
        named = c.in-Ok.taped.log.program;
        tape = tape_of c.in-Ok.taped.program c.in-Ok.taped.log.workers c.in-Ok.taped.log.choices;
        is = read.are;
        told = c.in-Err-tell.ensures.told;
      };
    }

pub returns-in-Ok-tell-clause-ok : goal.returns-in-Ok-tell-clause-ok
returns-in-Ok-tell-clause-ok g c = λ held is.
    let read = c.in-Ok.ensures.ok held is in
    record {
      bytes = read.bytes;
      held = read.held;
      are = record {
        tape = tape_of c.in-Ok.taped.program c.in-Ok.taped.log.workers c.in-Ok.taped.log.choices;
        is_tape = record { named = c.in-Ok.taped.log.program; is = read.are; own = c.in-Ok-tell.ensures.own };
        is = c.in-Ok-tell.ensures.ok;
      };
    }

pub returns-in-Err-clause-declined : goal.returns-in-Err-clause-declined
returns-in-Err-clause-declined g c = λ held is refused. c.in-Err.ensures.declined held is refused

pub returns-in-Err-clause-follows : goal.returns-in-Err-clause-follows
returns-in-Err-clause-follows g c = c.in-Err.ensures.follows

pub returns-clause-follows : goal.returns-clause-follows
returns-clause-follows g c = (c.in-Ok.taped.program, c.in-Ok.ensures.ready)

pub returns-in-Err-clause-reads : goal.returns-in-Err-clause-reads
returns-in-Err-clause-reads g c = c.in-Err.ensures.reads

pub returns-clause-reads : goal.returns-clause-reads
returns-clause-reads g c = replay_reads c.in-Err-tell.fault

pub returns-in-Err-clause-said : goal.returns-in-Err-clause-said
returns-in-Err-clause-said g c = λ held is. unsaid c.args.note.now.is_wanted held c.in-Err.why _ c.requires

pub returns-clause-said : goal.returns-clause-said
returns-clause-said g c = λ held is.
    let read = c.in-Ok.ensures.ok held is in
    fault_said c.args.note.now.is_wanted held (log_of c.in-Ok.taped.log) c.in-Err-tell.fault _
    (record { bytes = read.bytes; held = read.held; are = read.are.read }) c.take_down.ensures
