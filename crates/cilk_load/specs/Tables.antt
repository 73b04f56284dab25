-- The tables of a program are what its meaning says.
use Rattle.std.specs.Prelude.{◌≡◌, ℕ, suc, ◌≤◌, List, Some, None, length, map, slice_get}
use Rattle.cilk_tree_syntax.specs.Tree as tree
use Rattle.cilk_load.specs.labelled.Bodies.{label}
use Rattle.cilk_load.specs.labelled.Count.{count_program}
use Rattle.cilk_load.specs.labelled.Lines.{action_lines}
use Rattle.cilk_load.specs.nodes.declared.node.Node.{Node}
use Rattle.cilk_load.specs.nodes.declared.var.Var.{Var}
use Rattle.cilk_load.specs.nodes.declared.body.Body.{Body}
use Rattle.cilk_load.specs.nodes.Table.{node_of}
use Rattle.cilk_load.specs.nodes.Bodies.{body_table, globals_of, locks_of}

pub record Tabled (p : tree.Program) (nodes : List Node) (lines : List ℕ) (bodies : List Body) (main : ℕ) (globals locks : List Var) : Type 0 where
  -- the numbers of actions go from 1 on
  pub none_is_0 : node_of p 0 ≡ None
  pub nodes_are : (k : ℕ) → slice_get nodes k ≡ node_of p (suc k)
  pub lines_are : lines ≡ action_lines p
  pub bodies_are : bodies ≡ map body_table (label p).bodies
  pub main_is : (label p).main ≡ Some main
  pub globals_are : globals ≡ globals_of p
  pub locks_are : locks ≡ locks_of p
  pub count_is : length nodes ≡ count_program p
  pub line_count_is : length lines ≡ count_program p
  pub limit : count_program p ≤ 65535
