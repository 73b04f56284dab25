use Rattle.std.proofs.Common.{◌∙◌, ap, subst, sym}
use Rattle.cilk_draw.specs.replay.Tape.{tape_of}
use Rattle.cilk_program.specs.Picturing.{DeclinesToDraw}
use Rattle.cilk_program_runs.specs.Telling.{status_of}
use Rattle.cilk_program_runs.specs.tapes.declared.failure.RecordFailure.{RecordFailure}
use Rattle.cilk_program.proofs.Pictured.{declines_to_draw, picture_reads, undrawn}
use Rattle.cilk_program_runs.proofs.Said.{unsaid}
use Rattle.cilk_program_runs.proofs.Whole.{follows_of}
use Rattle.cilk_program.proofs.draw.log_depicted.Goals as goal

pub returns-clause-declined : goal.returns-clause-declined
returns-clause-declined g c = λ held is refused.
    let read = c.in-Ok.ensures.ok held is in
    let taped = c.in-Ok.taped in
    record {
      bytes = read.bytes;
      held = read.held;
      are =
          subst (λ (found : RecordFailure). DeclinesToDraw c.args.text.now read.bytes found) (sym c.note_fault.ensures.is)
          (undrawn c.args.text.now read.bytes taped.log.program (tape_of taped.program taped.log.workers taped.log.choices) c.in-Err-depicted.fault read.are
          c.in-Err-depicted.ensures.told);
    }

pub returns-in-Ok-depicted-clause-ok : goal.returns-in-Ok-depicted-clause-ok
returns-in-Ok-depicted-clause-ok g c = λ held is.
    let read = c.in-Ok.ensures.ok held is in
    record {
      bytes = read.bytes;
      held = read.held;
      are = record {
        tape = tape_of c.in-Ok.taped.program c.in-Ok.taped.log.workers c.in-Ok.taped.log.choices;
        is_tape = record { named = c.in-Ok.taped.log.program; is = read.are; own = c.in-Ok-depicted.ensures.own };
        whole = c.in-Ok-depicted.ensures.whole;
      };
    }

pub returns-in-Err-clause-declined : goal.returns-in-Err-clause-declined
returns-in-Err-clause-declined g c = λ held is refused.
    let why = c.in-Err.ensures.declined held is refused in
    record { bytes = why.bytes; held = why.held; are = declines_to_draw c.args.text.now why.bytes c.in-Err.why why.are }

pub returns-in-Err-clause-follows : goal.returns-in-Err-clause-follows
returns-in-Err-clause-follows g c = c.in-Err.ensures.follows

pub returns-clause-follows : goal.returns-clause-follows
returns-clause-follows g c = follows_of c.args.text.now c.in-Ok.taped.program c.note_fault.result c.in-Ok.ensures.ready

pub returns-in-Err-clause-reads : goal.returns-in-Err-clause-reads
returns-in-Err-clause-reads g c = c.in-Err.ensures.reads

pub returns-clause-reads : goal.returns-clause-reads
returns-clause-reads g c = λ bad. picture_reads c.in-Err-depicted.fault (ap status_of (sym c.note_fault.ensures.is) ∙ bad)

pub returns-in-Err-clause-said : goal.returns-in-Err-clause-said
returns-in-Err-clause-said g c = λ held is. unsaid c.args.note.now.is_wanted held c.in-Err.why _ c.requires

pub returns-clause-said : goal.returns-clause-said
returns-clause-said g c = λ held is.
    let read = c.in-Ok.ensures.ok held is in
    c.note_fault.ensures.said held (record { bytes = read.bytes; held = read.held; are = read.are.read })
