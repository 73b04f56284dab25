use Rattle.std.proofs.Common.{◌≡◌, drop}
use Rattle.cilk_check_scopes.specs.syntax.Tree.{stmts_of}
use Rattle.cilk_check_scopes.specs.Declarations.{stmts_variables}
use Rattle.cilk_check.specs.Room.{behind}
use Rattle.cilk_check.proofs.cells.+behind_block.Given as goal

abbrev pub invariant-behind_stmts-loop-stmt : goal.invariant-behind_stmts-loop-stmt
invariant-behind_stmts-loop-stmt l =
    behind l.room (stmts_variables (stmts_of (drop l.stmt-index l.stmts))) ≡ behind l.initial.room (stmts_variables (stmts_of l.stmts))
