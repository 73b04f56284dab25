use Rattle.std.proofs.Common.{◌≡◌, ◌+◌, ◌++◌, pos, map, drop}
use Rattle.cilk_load_nodes.specs.declared.area.Area.TheVariants.{Own}
use Rattle.cilk_load_nodes.specs.labelled.Bodies.{one_cell}
use Rattle.cilk_load_nodes.specs.Slots.{cells_of}
use Rattle.cilk_load_nodes.specs.Bodies.{vars_from}
use Rattle.cilk_load.proofs.variables.put_words.Given as goal

abbrev pub invariant-loop-word : goal.invariant-loop-word
invariant-loop-word l = record {
  vars : l.vars.items ++ vars_from Own l.cells (map (one_cell (pos 0)) (drop l.word-index l.words)) ≡ l.initial.vars.items
      ++ vars_from Own l.initial.cells (map (one_cell (pos 0)) l.words);
  cells : l.cells + cells_of (map (one_cell (pos 0)) (drop l.word-index l.words)) ≡ l.initial.cells + cells_of (map (one_cell (pos 0)) l.words);
}
