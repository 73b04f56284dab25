-- A number that is larger for a statement, for what is declared in a block, and for a block than for its parts.
use Rattle.std.specs.Prelude.{ℕ, ◌+◌}
use Rattle.cilk_tree_syntax.specs.Tree.{Stmt, move, spawn_at, print, locking, null, sync_at, abort_at, break_at, continue_at, return_at, when, either}
use Rattle.cilk_tree_syntax.specs.Tree.{while, repeat, loop, switch, labelled, nested, Stmts, none, also, Local, declared, inlet_at, Locals, no_locals}
use Rattle.cilk_tree_syntax.specs.Tree.{and_local}
use Rattle.cilk_tree_syntax.specs.Tree.{Block, block}

abbrev mutual
  pub stmt_size : Stmt → ℕ
  stmt_size (move what) = 0
  stmt_size (spawn_at at taker callee arguments) = 0
  stmt_size (print format arguments) = 0
  stmt_size (locking action name) = 0
  stmt_size null = 0
  stmt_size (sync_at at) = 0
  stmt_size (abort_at at) = 0
  stmt_size (break_at at) = 0
  stmt_size (continue_at at) = 0
  stmt_size (return_at at value) = 0
  stmt_size (when test body) = block_size body + 1
  stmt_size (either test body other) = block_size body + block_size other + 1
  stmt_size (while test body) = block_size body + 1
  stmt_size (repeat body test) = block_size body + 1
  stmt_size (loop first test advance body) = block_size body + 1
  stmt_size (switch test body) = block_size body + 1
  stmt_size (labelled label) = 0
  stmt_size (nested inside) = block_size inside + 1

  pub stmts_size : Stmts → ℕ
  stmts_size none = 0
  stmts_size (also first others) = stmt_size first + 1 + stmts_size others

  pub local_size : Local → ℕ
  local_size (declared decl) = 0
  local_size (inlet_at at name parameters body) = block_size body + 1

  pub locals_size : Locals → ℕ
  locals_size no_locals = 0
  locals_size (and_local first others) = local_size first + 1 + locals_size others

  pub block_size : Block → ℕ
  block_size (block locals stmts) = locals_size locals + stmts_size stmts
