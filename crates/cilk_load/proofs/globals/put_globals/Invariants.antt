use Rattle.std.proofs.Common.{◌≡◌, ◌++◌, drop}
use Rattle.std.specs.Prelude.{flat_map}
use Rattle.cilk_load_nodes.specs.declared.area.Area.TheVariants.{Global}
use Rattle.cilk_load_nodes.specs.labelled.Bodies.{item_globals}
use Rattle.cilk_load_nodes.specs.Bodies.{vars_from}
use Rattle.cilk_load.proofs.globals.put_globals.Given as goal

abbrev pub invariant-loop-item : goal.invariant-loop-item
invariant-loop-item l =
    l.vars.items ++ vars_from Global l.cells (flat_map item_globals (drop l.item-index l.items)) ≡ vars_from Global 0 (flat_map item_globals l.items)
