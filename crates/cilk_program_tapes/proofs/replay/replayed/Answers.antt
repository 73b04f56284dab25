use Rattle.cilk_log_replay.specs.Tape.{tape_of}
use Rattle.cilk_log_replay.specs.log.Words.{log_of}
use Rattle.cilk_program_tapes.specs.declared.failure.RecordFailure.TheVariants as why
use Rattle.cilk_program_tapes.proofs.Said.{fault_said, unsaid}
use Rattle.cilk_program_tapes.proofs.Replayed.{all_replayed}
use Rattle.cilk_program_tapes.proofs.Told.{replay_reads}
use Rattle.cilk_program_tapes.proofs.replay.replayed.Goals as goal

pub returns-in-Err-play_all-clause-declined : goal.returns-in-Err-play_all-clause-declined
returns-in-Err-play_all-clause-declined g c = λ held is refused.
    let read = c.in-Ok.ensures.ok held is in
    record {
      bytes = read.bytes;
      held = read.held;
      are = record {
        named = c.in-Ok.taped.log.program;
        tape = tape_of c.in-Ok.taped.program c.in-Ok.taped.log.workers c.in-Ok.taped.log.choices;
        is = read.are;
        told = c.in-Err-play_all.ensures.told;
      };
    }

pub returns-in-Ok-closing_of-clause-ok : goal.returns-in-Ok-closing_of-clause-ok
returns-in-Ok-closing_of-clause-ok g c = λ held is.
    let read = c.in-Ok.ensures.ok held is in
    record {
      bytes = read.bytes;
      held = read.held;
      are = all_replayed c.in-Ok-closing_of.closing.status c.args.text.now read.bytes c.in-Ok-closing_of.closing.text.items c.in-Ok.taped.program
          c.in-Ok.taped.log.workers c.in-Ok.taped.log.choices c.in-Ok-play_all.machine
          (record { named = c.in-Ok.taped.log.program; is = read.are; own = c.in-Ok-play_all.ensures.own })
          c.in-Ok-play_all.ensures.stands c.in-Ok-closing_of.ensures.closes;
    }

pub returns-in-Err-clause-declined : goal.returns-in-Err-clause-declined
returns-in-Err-clause-declined g c = λ held is refused. c.in-Err.ensures.declined held is refused

pub returns-in-Err-clause-follows : goal.returns-in-Err-clause-follows
returns-in-Err-clause-follows g c = c.in-Err.ensures.follows

pub returns-in-Err-play_all-clause-follows : goal.returns-in-Err-play_all-clause-follows
returns-in-Err-play_all-clause-follows g c = (c.in-Ok.taped.program, c.in-Ok.ensures.ready)

pub returns-in-Err-clause-reads : goal.returns-in-Err-clause-reads
returns-in-Err-clause-reads g c = c.in-Err.ensures.reads

pub returns-in-Err-play_all-clause-reads : goal.returns-in-Err-play_all-clause-reads
returns-in-Err-play_all-clause-reads g c = replay_reads c.in-Err-play_all.fault

pub returns-in-Ok-closing_of-clause-answer : goal.returns-in-Ok-closing_of-clause-answer
returns-in-Ok-closing_of-clause-answer g c = c.in-Ok-closing_of.ensures.answer

pub returns-in-Err-clause-said : goal.returns-in-Err-clause-said
returns-in-Err-clause-said g c = λ held is. unsaid c.args.note.now.is_wanted held c.in-Err.why _ c.requires

pub returns-in-Err-play_all-clause-said : goal.returns-in-Err-play_all-clause-said
returns-in-Err-play_all-clause-said g c = λ held is.
    let read = c.in-Ok.ensures.ok held is in
    fault_said c.args.note.now.is_wanted held (log_of c.in-Ok.taped.log) c.in-Err-play_all.fault _
    (record { bytes = read.bytes; held = read.held; are = read.are.read }) c.take_down.ensures

pub returns-clause-said : goal.returns-clause-said
returns-clause-said g c = λ held is. unsaid c.args.note.now.is_wanted held (why.Program c.in-Err-closing_of.failure) _ c.requires
