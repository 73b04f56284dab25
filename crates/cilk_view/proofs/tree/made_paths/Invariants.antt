use Rattle.cilk_view.specs.Sorting.{AreMade}
use Rattle.cilk_view.proofs.tree.made_paths.Given as goal

abbrev pub invariant-loop-number : goal.invariant-loop-number
invariant-loop-number l = AreMade l.tree.nodes l.number l.made.items
