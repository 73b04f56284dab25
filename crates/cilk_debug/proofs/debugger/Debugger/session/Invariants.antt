use Rattle.std.proofs.Common.{◌≡◌, ◌-◌, List, ℕ, Some}
use Rattle.cilk_debug_console.specs.Input.{most_lines}
use Rattle.cilk_debug_console.specs.Taking.{ahead}
use Rattle.cilk_debug.proofs.Sessions.{Going}
use Rattle.cilk_debug.proofs.debugger.Debugger.session.Given as goal

abbrev pub invariant-lines : goal.invariant-lines
invariant-lines g l = (all : List ℕ) → g.R.Read.remaining l.fn.reader ≡ Some all
    → Going l.fn.self.shown l.self.shown all l.lines.taken (ahead l.lines.unread (g.R.Read.remaining l.reader)) (g.W.Write.contents l.fn.writer)
    (g.W.Write.contents l.writer)

abbrev pub decreases-lines : goal.decreases-lines
decreases-lines g l = most_lines - l.lines.taken
