use Rattle.std.specs.Prelude.{string_bytes}
use Rattle.std.proofs.Common.{subst, sym, ap, ◌∙◌, inl, inr, refl}
use Rattle.cilk_program_tapes.specs.replay.Tape.{tape_of}
use Rattle.cilk_program_runs.specs.Debugging.{broken_off}
use Rattle.cilk_program_tapes.specs.Telling.{status_of}
use Rattle.cilk_program_runs.proofs.Debugged.{opens, playable_of, broken_not_refused, broken_by_writer}
use Rattle.cilk_program_runs.proofs.Debugged.{own_held, answered, broken, broken_writing}
use Rattle.cilk_program_tapes.proofs.Whole.{follows_of}
use Rattle.cilk_program_tapes.proofs.Said.{fault_said, unsaid}
use Rattle.cilk_program_tapes.proofs.Told.{replay_reads}
use Rattle.cilk_program_tapes.specs.replay.log.Words.{log_of}
use Rattle.cilk_program_tapes.specs.replay.log.declared.log.Log.{Log}
use Rattle.cilk_program_tapes.specs.Saying.{IsFaultTold}
use Rattle.cilk_program_runs.proofs.debug.debug.Goals as goal

pub returns-in-Ok-session-clause-ok : goal.returns-in-Ok-session-clause-ok
returns-in-Ok-session-clause-ok g c = λ held is.
    let t = tape_of c.in-Ok.taped.program c.in-Ok.taped.log.workers c.in-Ok.taped.log.choices in
    let made = c.in-Ok-open.ensures in
    answered held c.args.text.now t c.in-Ok-open.debugger.shown _ _ _
    (own_held held c.args.text.now c.in-Ok.taped.log.program t (c.in-Ok.ensures.ok held is) made.own)
    (opens c.in-Ok-open.debugger.shown t made.tape made.start made.marks)
    (playable_of c.in-Ok-open.debugger.shown t made.tape made.whole) _ c.in-Ok-session.ensures.done

pub returns-in-Err-session-clause-part : goal.returns-in-Err-session-clause-part
returns-in-Err-session-clause-part g c = λ held is other.
    let t = tape_of c.in-Ok.taped.program c.in-Ok.taped.log.workers c.in-Ok.taped.log.choices in
    let made = c.in-Ok-open.ensures in
    inr (broken held c.args.text.now t c.in-Ok-open.debugger.shown _ _ _
    (own_held held c.args.text.now c.in-Ok.taped.log.program t (c.in-Ok.ensures.ok held is) made.own)
    (opens c.in-Ok-open.debugger.shown t made.tape made.start made.marks) (playable_of c.in-Ok-open.debugger.shown t made.tape made.whole) _ _
    c.in-Err-session.fault c.in-Err-session.ensures.fault
    (λ is_write. other (ap status_of (c.broken_off.ensures ∙ ap broken_off is_write))))

pub returns-in-Err-clause-declined : goal.returns-in-Err-clause-declined
returns-in-Err-clause-declined g c = λ held is refused. c.in-Err.ensures.declined held is refused

pub returns-in-Err-session-clause-declined : goal.returns-in-Err-session-clause-declined
returns-in-Err-session-clause-declined g c = λ held is refused.
    absurd (broken_not_refused c.in-Err-session.fault (ap status_of (sym c.broken_off.ensures) ∙ refused))

pub returns-in-Err-session-clause-kept : goal.returns-in-Err-session-clause-kept
returns-in-Err-session-clause-kept g c = λ refused. absurd (broken_not_refused c.in-Err-session.fault (ap status_of (sym c.broken_off.ensures) ∙ refused))

pub returns-in-Err-clause-part : goal.returns-in-Err-clause-part
returns-in-Err-clause-part g c = λ held is other. inl refl

pub returns-in-Err-clause-kept : goal.returns-in-Err-clause-kept
returns-in-Err-clause-kept g c = λ refused. refl

pub returns-in-Err-clause-follows : goal.returns-in-Err-clause-follows
returns-in-Err-clause-follows g c = c.in-Err.ensures.follows

pub returns-in-Err-session-clause-follows : goal.returns-in-Err-session-clause-follows
returns-in-Err-session-clause-follows g c = follows_of c.args.text.now c.in-Ok.taped.program c.broken_off.result c.in-Ok.ensures.ready

pub returns-in-Err-clause-begun : goal.returns-in-Err-clause-begun
returns-in-Err-clause-begun g c = λ held is failed. absurd (c.in-Err.ensures.reads failed)

pub returns-in-Err-session-clause-begun : goal.returns-in-Err-session-clause-begun
returns-in-Err-session-clause-begun g c = λ held is failed.
    let t = tape_of c.in-Ok.taped.program c.in-Ok.taped.log.workers c.in-Ok.taped.log.choices in
    let made = c.in-Ok-open.ensures in
    broken_writing held c.args.text.now t c.in-Ok-open.debugger.shown _ _ _
    (own_held held c.args.text.now c.in-Ok.taped.log.program t (c.in-Ok.ensures.ok held is) made.own)
    (opens c.in-Ok-open.debugger.shown t made.tape made.start made.marks) (playable_of c.in-Ok-open.debugger.shown t made.tape made.whole) _ _
    c.in-Err-session.fault c.in-Err-session.ensures.fault (broken_by_writer c.in-Err-session.fault (ap status_of (sym c.broken_off.ensures) ∙ failed))

-- ---- where there is no debugger

pub returns-in-Err-open-clause-declined : goal.returns-in-Err-open-clause-declined
returns-in-Err-open-clause-declined g c = λ held is refused.
    let read = c.in-Ok.ensures.ok held is in
    record {
      bytes = read.bytes;
      held = read.held;
      are = record {
        named = c.in-Ok.taped.log.program;
        tape = tape_of c.in-Ok.taped.program c.in-Ok.taped.log.workers c.in-Ok.taped.log.choices;
        is = read.are;
        told = c.in-Err-open.ensures.told;
      };
    }

pub returns-in-Err-open-clause-follows : goal.returns-in-Err-open-clause-follows
returns-in-Err-open-clause-follows g c = (c.in-Ok.taped.program, c.in-Ok.ensures.ready)

pub returns-in-Err-open-clause-begun : goal.returns-in-Err-open-clause-begun
returns-in-Err-open-clause-begun g c = λ held is failed. absurd (replay_reads c.in-Err-open.unplayable.fault failed)

pub returns-in-Err-open-clause-part : goal.returns-in-Err-open-clause-part
returns-in-Err-open-clause-part g c = λ held is other. inl refl

pub returns-in-Err-open-clause-kept : goal.returns-in-Err-open-clause-kept
returns-in-Err-open-clause-kept g c = λ refused. refl

-- ---- what was noted

pub returns-in-Err-clause-said : goal.returns-in-Err-clause-said
returns-in-Err-clause-said g c = λ held is. unsaid c.args.note.now.is_wanted held c.in-Err.why _ c.requires

pub returns-in-Err-open-clause-said : goal.returns-in-Err-open-clause-said
returns-in-Err-open-clause-said g c = λ held is.
    let read = c.in-Ok.ensures.ok held is in
    let text = string_bytes c.take_down.new.self.text in
    fault_said c.args.note.now.is_wanted held (log_of c.in-Ok.taped.log) c.in-Err-open.unplayable.fault text
    (record { bytes = read.bytes; held = read.held; are = read.are.read })
    (subst (λ (log : Log). IsFaultTold c.args.note.now.is_wanted (log_of log) c.in-Err-open.unplayable.fault text)
    c.in-Err-open.ensures.back c.take_down.ensures)

pub returns-in-Err-session-clause-said : goal.returns-in-Err-session-clause-said
returns-in-Err-session-clause-said g c = λ held is. unsaid c.args.note.now.is_wanted held c.broken_off.result _ c.requires
