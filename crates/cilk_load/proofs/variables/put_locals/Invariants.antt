use Rattle.std.proofs.Common.{◌≡◌, ◌+◌, ◌++◌, drop}
use Rattle.cilk_tree_syntax.specs.Tree.{locals_of}
use Rattle.cilk_load_nodes.specs.declared.area.Area.TheVariants.{Own}
use Rattle.cilk_load_nodes.specs.labelled.Label.{locals_variables}
use Rattle.cilk_load_nodes.specs.Slots.{cells_of}
use Rattle.cilk_load_nodes.specs.Bodies.{vars_from}
use Rattle.cilk_load.proofs.variables.put_locals.Given as goal

abbrev pub invariant-loop-local : goal.invariant-loop-local
invariant-loop-local l = record {
  vars : l.vars.items ++ vars_from Own l.cells (locals_variables (locals_of (drop l.local-index l.locals))) ≡ l.initial.vars.items
      ++ vars_from Own l.initial.cells (locals_variables (locals_of l.locals));
  cells : l.cells + cells_of (locals_variables (locals_of (drop l.local-index l.locals))) ≡ l.initial.cells + cells_of (locals_variables (locals_of l.locals));
}
