use Rattle.std.proofs.Common.{◌≡◌, ◌+◌, ◌++◌, drop}
use Rattle.cilk_tree_syntax.specs.Tree.{stmts_of}
use Rattle.cilk_load_nodes.specs.declared.area.Area.TheVariants.{Own}
use Rattle.cilk_load_nodes.specs.labelled.Label.{stmts_variables}
use Rattle.cilk_load_nodes.specs.Slots.{cells_of}
use Rattle.cilk_load_nodes.specs.Bodies.{vars_from}
use Rattle.cilk_load.proofs.variables.+variables.Given as goal

abbrev pub invariant-put_stmts-loop-stmt : goal.invariant-put_stmts-loop-stmt
invariant-put_stmts-loop-stmt l = record {
  vars : l.vars.items ++ vars_from Own l.cells (stmts_variables (stmts_of (drop l.stmt-index l.stmts))) ≡ l.initial.vars.items
      ++ vars_from Own l.initial.cells (stmts_variables (stmts_of l.stmts));
  cells : l.cells + cells_of (stmts_variables (stmts_of (drop l.stmt-index l.stmts))) ≡ l.initial.cells + cells_of (stmts_variables (stmts_of l.stmts));
}
