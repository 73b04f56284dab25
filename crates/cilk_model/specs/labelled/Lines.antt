-- On which line of the canonical text each action stands, the first line being line 1.
use Rattle.std.specs.Prelude.{ℕ, ◌+◌, List, [], ◌∷◌, ◌++◌, length, Option, Some, None}
use Rattle.cilk_check_scopes.specs.syntax.Tree.{Shape, variable, array, Stmt, when, either, while, repeat, loop, switch, labelled, nested, Stmts, none}
use Rattle.cilk_check_scopes.specs.syntax.Tree.{also, Local, declared, inlet_at, Locals, no_locals, and_local, Block, block, Item, global, lock, prototype}
use Rattle.cilk_check_scopes.specs.syntax.Tree.{procedure, Program}
use Rattle.cilk_check_scopes.specs.syntax.StmtLines.{stmt_lines, local_lines, locals_lines, block_lines}
use Rattle.cilk_check_scopes.specs.syntax.ProgramText.{item_lines}

-- the line, of what is there
abbrev pub option_lines : {A : Type 0} → ℕ → Option A → List ℕ
option_lines at None = []
option_lines at (Some x) = at ∷ []

-- an initialiser stands on the line of its declaration
abbrev pub shape_lines : ℕ → Shape → List ℕ
shape_lines at (variable value) = option_lines at value
shape_lines at (array length) = []

abbrev mutual
  -- the lines of the actions of a statement that begins on the line `at`
  pub stmt_action_lines : ℕ → Stmt → List ℕ
  stmt_action_lines at (when test body) = at ∷ block_action_lines (at + 1) body
  -- the line of `else` stands between the bodies
  stmt_action_lines at (either test body other) =
      at ∷ (block_action_lines (at + 1) body ++ block_action_lines (at + (length (block_lines body) + 2)) other)
  stmt_action_lines at (while test body) = at ∷ block_action_lines (at + 1) body
  -- the test of a `do` stands behind its body
  stmt_action_lines at (repeat body test) = block_action_lines (at + 1) body ++ (at + (length (block_lines body) + 1)) ∷ []
  -- the first part, the test and the advance stand on one line
  stmt_action_lines at (loop first test advance body) =
      option_lines at first ++ (at ∷ (option_lines at advance ++ block_action_lines (at + 1) body))
  stmt_action_lines at (switch test body) = at ∷ block_action_lines (at + 1) body
  stmt_action_lines at (labelled label) = []
  stmt_action_lines at (nested inside) = block_action_lines (at + 1) inside
  stmt_action_lines at other = at ∷ []

  pub stmts_action_lines : ℕ → Stmts → List ℕ
  stmts_action_lines at none = []
  stmts_action_lines at (also first others) = stmt_action_lines at first ++ stmts_action_lines (at + length (stmt_lines first)) others

  pub local_action_lines : ℕ → Local → List ℕ
  local_action_lines at (declared d) = shape_lines at d.shape
  local_action_lines at (inlet_at place name parameters body) =
      block_action_lines (at + 1) body ++ (at + (length (block_lines body) + 1)) ∷ []

  pub locals_action_lines : ℕ → Locals → List ℕ
  locals_action_lines at no_locals = []
  locals_action_lines at (and_local first others) =
      local_action_lines at first ++ locals_action_lines (at + length (local_lines first)) others

  pub block_action_lines : ℕ → Block → List ℕ
  block_action_lines at (block locals stmts) =
      locals_action_lines at locals ++ stmts_action_lines (at + length (locals_lines locals)) stmts

-- the line that opens a body comes first, and that of its closing brace last
abbrev pub item_action_lines : ℕ → Item → List ℕ
item_action_lines at (global g) = []
item_action_lines at (lock name) = []
item_action_lines at (prototype q) = []
item_action_lines at (procedure p) = block_action_lines (at + 1) p.body ++ (at + (length (block_lines p.body) + 1)) ∷ []

abbrev pub items_action_lines : ℕ → List Item → List ℕ
items_action_lines at [] = []
items_action_lines at (first ∷ others) = item_action_lines at first ++ items_action_lines (at + length (item_lines first)) others

-- the line of each action, in the order of the text; the headers have a line each
abbrev pub action_lines : Program → List ℕ
action_lines p = items_action_lines (length p.headers + 1) p.items
