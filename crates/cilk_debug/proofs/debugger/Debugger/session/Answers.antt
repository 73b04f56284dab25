use Rattle.std.proofs.Common.{sym, ◌∙◌, subst}
use Rattle.cilk_debug_console.specs.Words.{asked_of}
use Rattle.cilk_debug_console.specs.Taking.{ahead}
use Rattle.cilk_debug.specs.Ending.{Breaks}
use Rattle.cilk_debug.specs.declared.session_fault.SessionFault.{SessionFault}
use Rattle.cilk_debug.proofs.Sessions.{at_end}
use Rattle.cilk_debug.proofs.Commands.{at_quit}
use Rattle.cilk_debug.proofs.Ends.{begins, no_memory, ended, last_done, last_fails, line_fails, line_done}
use Rattle.cilk_debug.proofs.debugger.Debugger.session.Goals as goal

pub returns-in-Err-clause-fault : goal.returns-in-Err-clause-fault
returns-in-Err-clause-fault g c =
    no_memory c.lines_come_one_by_one.ensures c.args.self.now.shown (g.R.Read.remaining c.args.reader.now) (g.W.Write.contents c.args.writer.now)
    (g.R.Read.remaining c.args.reader.now)

pub lines-init : goal.lines-init
lines-init g c =
    begins c.lines_come_one_by_one.ensures c.args.self.now.shown (g.R.Read.remaining c.args.reader.now) (g.W.Write.contents c.args.writer.now)
    c.in-Ok.lines c.in-Ok.ensures.start

pub returns-in-Err-next-clause-fault : goal.returns-in-Err-next-clause-fault
returns-in-Err-next-clause-fault g c = λ all e.
    subst
    (λ (why : SessionFault). Breaks c.args.self.now.shown c.lines.self.shown all (g.R.Read.remaining c.next.new.reader)
    (g.W.Write.contents c.args.writer.now) (g.W.Write.contents c.lines.writer) why) (sym c.ended_by.ensures)
    (ended c.lines_come_one_by_one.ensures (g.R.Read.remaining c.args.reader.now) c.args.self.now.shown c.lines.self.shown c.lines.lines
    (g.R.Read.remaining c.lines.reader) (g.W.Write.contents c.args.writer.now)
    (g.W.Write.contents c.lines.writer) c.lines.invariant (g.R.Read.remaining c.next.new.reader) c.in-Err-next.fault c.in-Err-next.ensures.err all e)

pub returns-in-Ok-End-clause-done : goal.returns-in-Ok-End-clause-done
returns-in-Ok-End-clause-done g c = λ all e.
    at_end c.lines_come_one_by_one.ensures c.args.self.now.shown c.lines.self.shown all c.lines.lines.taken
    (ahead c.lines.lines.unread (g.R.Read.remaining c.lines.reader)) (g.W.Write.contents c.args.writer.now)
    (g.W.Write.contents c.lines.writer) (c.lines.invariant all e) (rw c.in-Ok-End.field-0-is at c.in-Ok-End.ensures.ok)

pub returns-in-Ok-Last-clause-done : goal.returns-in-Ok-Last-clause-done
returns-in-Ok-Last-clause-done g c =
    last_done c.lines_come_one_by_one.ensures (g.R.Read.remaining c.args.reader.now) c.args.self.now.shown c.lines.self.shown c.lines.lines
    (g.R.Read.remaining c.lines.reader) (g.W.Write.contents c.args.writer.now)
    (g.W.Write.contents c.lines.writer) c.lines.invariant (asked_of c.in-Ok-Last.command) c.answer.new.self.shown
    (g.W.Write.contents c.answer.new.writer) (ahead c.next.new.self.unread (g.R.Read.remaining c.next.new.reader))
    c.answer.result (rw c.in-Ok-Last.field-0-is at c.in-Ok-Last.ensures.ok) c.answer.ensures

pub returns-in-Ok-Last-clause-fault : goal.returns-in-Ok-Last-clause-fault
returns-in-Ok-Last-clause-fault g c =
    last_fails c.lines_come_one_by_one.ensures (g.R.Read.remaining c.args.reader.now) c.args.self.now.shown c.lines.self.shown c.lines.lines
    (g.R.Read.remaining c.lines.reader) (g.W.Write.contents c.args.writer.now)
    (g.W.Write.contents c.lines.writer) c.lines.invariant (asked_of c.in-Ok-Last.command) c.answer.new.self.shown
    (g.W.Write.contents c.answer.new.writer) (ahead c.next.new.self.unread (g.R.Read.remaining c.next.new.reader))
    c.answer.result (g.R.Read.remaining c.next.new.reader) (rw c.in-Ok-Last.field-0-is at c.in-Ok-Last.ensures.ok) c.answer.ensures

pub returns-then-ends_it-clause-done : goal.returns-then-ends_it-clause-done
returns-then-ends_it-clause-done g c = λ all e.
    let t = rw c.in-Ok-Line.field-0-is at c.in-Ok-Line.ensures.ok in
    at_quit c.lines_come_one_by_one.ensures c.args.self.now.shown c.lines.self.shown all c.lines.lines.taken
    (ahead c.lines.lines.unread (g.R.Read.remaining c.lines.reader)) (g.W.Write.contents c.args.writer.now)
    (g.W.Write.contents c.lines.writer) (c.lines.invariant all e) (asked_of c.in-Ok-Line.command)
    (ahead c.next.new.self.unread (g.R.Read.remaining c.next.new.reader)) t.0 (sym c.ends_it.ensures ∙ c.if-ends_it.true)

pub returns-in-Err-answer-clause-fault : goal.returns-in-Err-answer-clause-fault
returns-in-Err-answer-clause-fault g c =
    let t = rw c.in-Ok-Line.field-0-is at c.in-Ok-Line.ensures.ok in
    line_fails c.lines_come_one_by_one.ensures (g.R.Read.remaining c.args.reader.now) c.args.self.now.shown c.lines.self.shown c.lines.lines
    (g.R.Read.remaining c.lines.reader) (g.W.Write.contents c.args.writer.now)
    (g.W.Write.contents c.lines.writer) c.lines.invariant (asked_of c.in-Ok-Line.command) c.answer-in-Ok-Line.new.self.shown
    (g.W.Write.contents c.answer-in-Ok-Line.new.writer) (ahead c.next.new.self.unread (g.R.Read.remaining c.next.new.reader))
    (g.R.Read.remaining c.next.new.reader) c.in-Err-answer.fault t.0 (sym c.ends_it.ensures ∙ c.if-ends_it.false) c.in-Err-answer.ensures

pub lines-preserved : goal.lines-preserved
lines-preserved g c =
    let t = rw c.in-Ok-Line.field-0-is at c.in-Ok-Line.ensures.ok in
    line_done c.lines_come_one_by_one.ensures (g.R.Read.remaining c.args.reader.now) c.args.self.now.shown c.lines.self.shown c.lines.lines
    (g.R.Read.remaining c.lines.reader) (g.W.Write.contents c.args.writer.now)
    (g.W.Write.contents c.lines.writer) c.lines.invariant (asked_of c.in-Ok-Line.command) c.answer-in-Ok-Line.new.self.shown
    (g.W.Write.contents c.answer-in-Ok-Line.new.writer) (ahead c.next.new.self.unread (g.R.Read.remaining c.next.new.reader))
    c.next.new.self.taken t.1 t.0 (sym c.ends_it.ensures ∙ c.if-ends_it.false) c.in-Ok-answer.ensures
