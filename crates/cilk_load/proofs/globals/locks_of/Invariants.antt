use Rattle.std.proofs.Common.{◌≡◌, ◌++◌, map, drop}
use Rattle.std.specs.Prelude.{flat_map}
use Rattle.cilk_load_nodes.specs.declared.area.Area.TheVariants.{Global}
use Rattle.cilk_load_nodes.specs.labelled.Bodies.{item_locks}
use Rattle.cilk_load_nodes.specs.Bodies.{vars_from, lock_variable}
use Rattle.cilk_load.proofs.globals.locks_of.Given as goal

abbrev pub invariant-loop-item : goal.invariant-loop-item
invariant-loop-item l =
    l.vars.items ++ vars_from Global l.cells (map lock_variable (flat_map item_locks (drop l.item-index l.items))) ≡ vars_from Global 0
    (map lock_variable (flat_map item_locks l.items))
