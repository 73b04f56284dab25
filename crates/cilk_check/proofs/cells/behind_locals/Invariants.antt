use Rattle.std.proofs.Common.{◌≡◌, drop}
use Rattle.cilk_check_scopes.specs.syntax.Tree.{locals_of}
use Rattle.cilk_check_scopes.specs.Declarations.{locals_variables}
use Rattle.cilk_check.specs.Room.{behind}
use Rattle.cilk_check.proofs.cells.behind_locals.Given as goal

abbrev pub invariant-loop-local : goal.invariant-loop-local
invariant-loop-local l =
    behind l.room (locals_variables (locals_of (drop l.local-index l.locals))) ≡ behind l.initial.room (locals_variables (locals_of l.locals))
