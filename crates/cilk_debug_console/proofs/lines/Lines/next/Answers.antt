use Rattle.std.proofs.Common.{ℕ, List, subst, add-one, ◌+◌}
use Rattle.std.specs.Prelude.{IfOk}
use Rattle.cilk_debug_console.specs.Taking.{Reading, ahead, TakesNext, IsTooMany}
use Rattle.cilk_debug_console.specs.Parts.{LineAsks}
use Rattle.cilk_debug_console.proofs.Known.{first_of, gives_line}
use Rattle.cilk_debug_console.proofs.lines.Lines.next.Goals as goal

pub returns-then-self-ge-MOST_LINES-clause-err : goal.returns-then-self-ge-MOST_LINES-clause-err
returns-then-self-ge-MOST_LINES-clause-err g c =
    subst (λ (at : Reading). IsTooMany at.taken (ahead at.unread (g.R.Read.remaining c.args.reader.now))) c.self.view_is
    (first_of _ (g.R.Read.remaining c.is_at_end.new.reader) c.is_at_end.new.self c.in_ok-is_at_end.ensures.kept
    (c.in_ok-is_at_end.ensures.some c.if-branch.false) c.self.inside.taken
    c.if-self-ge-MOST_LINES.true)

pub returns-clause-ok : goal.returns-clause-ok
returns-clause-ok g c =
    let taken = c.in_ok-has_newline.ensures in
    subst
    (λ (at : Reading). IfOk c.next_of.result (TakesNext at (record { unread = c.take_line.new.chunk; taken = c.self.inside.taken + 1 })
    (g.R.Read.remaining c.args.reader.now) (g.R.Read.remaining c.take_line.new.reader)))
    c.self.view_is
    (gives_line (record { unread = c.self.inside.chunk; taken = c.self.inside.taken })
    (record { unread = c.take_line.new.chunk; taken = c.self.inside.taken + 1 }) (g.R.Read.remaining c.args.reader.now)
    (ahead c.is_at_end.new.self (g.R.Read.remaining c.is_at_end.new.reader)) (g.R.Read.remaining c.take_line.new.reader) c.in_ok-is_at_end.ensures.kept
    c.if-self-ge-MOST_LINES.false c.next_of.result c.take_line.new.line.items c.in_ok-has_newline.has_newline
    (subst (λ (l : List ℕ). IfOk c.next_of.result (LineAsks l c.in_ok-has_newline.has_newline)) c.as_slice.ensures.value c.next_of.ensures.ok)
    (add-one c.self.inside.taken)
    taken.plain taken.short taken.some taken.whole taken.last taken.end)
