use Rattle.cilk_program_tapes.proofs.Whole.{any_held, follows_of, unread_declines}
use Rattle.cilk_program_tapes.proofs.Told.{unready_reads}
use Rattle.cilk_program_tapes.proofs.taped.tape_in.Goals as goal

pub returns-in-Err-clause-declined : goal.returns-in-Err-clause-declined
returns-in-Err-clause-declined g c = λ held is refused. any_held held _ (λ bytes. c.in-Err.ensures.err)

pub returns-in-Err-schedule_of-clause-declined : goal.returns-in-Err-schedule_of-clause-declined
returns-in-Err-schedule_of-clause-declined g c = λ held is refused.
    unread_declines held c.args.text.now c.in-Ok.program c.in-Err-schedule_of.why c.in-Ok.ensures.ok (c.in-Err-schedule_of.ensures.declined held is) refused

pub returns-in-Ok-schedule_of-clause-ok : goal.returns-in-Ok-schedule_of-clause-ok
returns-in-Ok-schedule_of-clause-ok g c = λ held is.
    let read = c.in-Ok-schedule_of.ensures.ok held is in
    record { bytes = read.bytes; held = read.held; are = record { ready = c.in-Ok.ensures.ok; read = read.are } }

pub returns-in-Err-clause-ok : goal.returns-in-Err-clause-ok
returns-in-Err-clause-ok g c = λ held is. tt

pub returns-in-Err-clause-reads : goal.returns-in-Err-clause-reads
returns-in-Err-clause-reads g c = unready_reads c.args.text.now c.in-Err.failure c.in-Err.ensures.err

pub returns-in-Err-schedule_of-clause-ok : goal.returns-in-Err-schedule_of-clause-ok
returns-in-Err-schedule_of-clause-ok g c = λ held is. tt

pub returns-in-Err-schedule_of-clause-reads : goal.returns-in-Err-schedule_of-clause-reads
returns-in-Err-schedule_of-clause-reads g c = c.in-Err-schedule_of.ensures.reads

pub returns-in-Err-clause-ready : goal.returns-in-Err-clause-ready
returns-in-Err-clause-ready g c = tt

pub returns-in-Err-clause-follows : goal.returns-in-Err-clause-follows
returns-in-Err-clause-follows g c = tt

pub returns-in-Err-schedule_of-clause-ready : goal.returns-in-Err-schedule_of-clause-ready
returns-in-Err-schedule_of-clause-ready g c = tt

pub returns-in-Err-schedule_of-clause-follows : goal.returns-in-Err-schedule_of-clause-follows
returns-in-Err-schedule_of-clause-follows g c = follows_of c.args.text.now c.in-Ok.program c.in-Err-schedule_of.why c.in-Ok.ensures.ok

pub returns-in-Ok-schedule_of-clause-ready : goal.returns-in-Ok-schedule_of-clause-ready
returns-in-Ok-schedule_of-clause-ready g c = c.in-Ok.ensures.ok

pub returns-in-Ok-schedule_of-clause-follows : goal.returns-in-Ok-schedule_of-clause-follows
returns-in-Ok-schedule_of-clause-follows g c = tt

pub returns-in-Ok-schedule_of-clause-declined : goal.returns-in-Ok-schedule_of-clause-declined
returns-in-Ok-schedule_of-clause-declined g c = λ held is. tt

pub returns-in-Ok-schedule_of-clause-reads : goal.returns-in-Ok-schedule_of-clause-reads
returns-in-Ok-schedule_of-clause-reads g c = tt
