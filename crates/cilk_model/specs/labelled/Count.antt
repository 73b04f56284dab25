-- How many actions a program has.
use Rattle.std.specs.Prelude.{ℕ, ◌+◌, List, [], ◌∷◌, Option, Some, None}
use Rattle.cilk_check_scopes.specs.syntax.Tree.{Shape, variable, array, Stmt, when, either, while, repeat, loop, switch, labelled, nested, Stmts, none}
use Rattle.cilk_check_scopes.specs.syntax.Tree.{also, Local, declared, inlet_at, Locals, no_locals, and_local, Block, block, Item, global, lock, prototype}
use Rattle.cilk_check_scopes.specs.syntax.Tree.{procedure, Program}

-- 1 of what is there
abbrev pub count_option : {A : Type 0} → Option A → ℕ
count_option None = 0
count_option (Some x) = 1

-- a declaration without an initialiser is no action
abbrev pub count_shape : Shape → ℕ
count_shape (variable value) = count_option value
count_shape (array length) = 0

abbrev mutual
  -- every statement is an action but a block and a label; of an `if`, a `switch` or a loop its test is, and of a `for` its first part and
  -- its advance too
  pub count_stmt : Stmt → ℕ
  count_stmt (when test body) = 1 + count_block body
  count_stmt (either test body other) = 1 + (count_block body + count_block other)
  count_stmt (while test body) = 1 + count_block body
  count_stmt (repeat body test) = count_block body + 1
  count_stmt (loop first test advance body) = count_option first + (1 + (count_option advance + count_block body))
  count_stmt (switch test body) = 1 + count_block body
  count_stmt (labelled label) = 0
  count_stmt (nested inside) = count_block inside
  count_stmt other = 1

  pub count_stmts : Stmts → ℕ
  count_stmts none = 0
  count_stmts (also first others) = count_stmt first + count_stmts others

  -- the closing brace of an inlet is an action
  pub count_local : Local → ℕ
  count_local (declared d) = count_shape d.shape
  count_local (inlet_at at name parameters body) = count_block body + 1

  pub count_locals : Locals → ℕ
  count_locals no_locals = 0
  count_locals (and_local first others) = count_local first + count_locals others

  pub count_block : Block → ℕ
  count_block (block locals stmts) = count_locals locals + count_stmts stmts

-- the closing brace of a body comes last; nothing else of the top level is an action
abbrev pub count_item : Item → ℕ
count_item (global g) = 0
count_item (lock name) = 0
count_item (prototype q) = 0
count_item (procedure p) = count_block p.body + 1

abbrev pub count_items : List Item → ℕ
count_items [] = 0
count_items (first ∷ others) = count_item first + count_items others

abbrev pub count_program : Program → ℕ
count_program p = count_items p.items
