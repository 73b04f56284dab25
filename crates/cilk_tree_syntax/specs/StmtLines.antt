-- The canonical lines of statements and blocks, without the indent that is theirs.
use Rattle.std.specs.Prelude.{ℕ, ℤ, Bool, true, false, List, [], ◌∷◌, ◌++◌, codes, Option, Some, None}
use Rattle.std.specs.Fmt.{signed_decimal}
use Rattle.cilk_tree_syntax.specs.Tree.{Word, Expr, Move, Label, Stmt, move, spawn_at, print, locking, null, sync_at, abort_at, break_at, continue_at}
use Rattle.cilk_tree_syntax.specs.Tree.{return_at, when, either, while, repeat, loop, switch, labelled, nested}
use Rattle.cilk_tree_syntax.specs.Tree.{Stmts, none, also, Local, declared, inlet_at, Locals, no_locals, and_local, Block, block}
use Rattle.cilk_tree_syntax.specs.Lines.{deeper, closed, ended}
use Rattle.cilk_tree_syntax.specs.ExprText.{expr_text}
use Rattle.cilk_tree_syntax.specs.MoveText.{move_text, spawn_text, print_text, locking_text, return_text, decl_text}

-- the line that opens a body, with a word and a test
abbrev pub test_line : List ℕ → Expr → List ℕ
test_line word test = word ++ (codes " (" ++ (expr_text test ++ codes ") {"))

-- the line that closes the body of a `do` (C 1990, 6.6.5.2)
abbrev pub until_line : Expr → List ℕ
until_line test = codes "} while (" ++ (expr_text test ++ codes ");")

-- the first part of a `for`, or the last, if there is one
abbrev pub part_text : Option Move → List ℕ
part_text None = []
part_text (Some what) = move_text what

-- the line that opens a `for` (C 1990, 6.6.5.3)
abbrev pub for_line : Option Move → Expr → Option Move → List ℕ
for_line first test advance =
    codes "for (" ++ (part_text first ++ (codes "; " ++ (expr_text test ++ (codes "; " ++ (part_text advance ++ codes ") {")))))

-- the names behind the first one, a comma before each
abbrev pub next_names_text : List Word → List ℕ
next_names_text [] = []
next_names_text (x ∷ xs) = codes ", int " ++ (x.text ++ next_names_text xs)

-- `int` parameters between the parentheses (C 1990, 6.5.4.3)
abbrev pub names_text : List Word → List ℕ
names_text [] = codes "void"
names_text (x ∷ xs) = codes "int " ++ (x.text ++ next_names_text xs)

-- the line that opens an inlet (Cilk 5.4 manual, `inlet`)
abbrev pub inlet_line : Word → List Word → List ℕ
inlet_line name parameters = codes "inlet void " ++ (name.text ++ (codes "(" ++ (names_text parameters ++ codes ") {")))

-- what a label compares with, or none for `default` (C 1990, 6.6.1)
abbrev pub label_text : Option ℤ → List ℕ
label_text None = codes "default"
label_text (Some z) = codes "case " ++ signed_decimal z

abbrev pub label_line : Label → List ℕ
label_line l = label_text l.value ++ codes ":"

abbrev pub is_label : Stmt → Bool
is_label (labelled label) = true
is_label s = false

-- lines in the block of a `switch`: a label stands at the level of the `switch`, and all else one level in
abbrev pub set_in : Bool → List (List ℕ) → List (List ℕ)
set_in true lines = lines
set_in false lines = deeper lines

abbrev mutual
  -- the lines of a statement (C 1990, 6.6; Cilk 5.4 manual)
  pub stmt_lines : Stmt → List (List ℕ)
  stmt_lines (move what) = ended (move_text what)
  stmt_lines (spawn_at at taker callee arguments) = ended (spawn_text taker callee arguments)
  stmt_lines (print format arguments) = ended (print_text format arguments)
  stmt_lines (locking action name) = ended (locking_text action name)
  stmt_lines null = ended []
  stmt_lines (sync_at at) = ended (codes "sync")
  stmt_lines (abort_at at) = ended (codes "abort")
  stmt_lines (break_at at) = ended (codes "break")
  stmt_lines (continue_at at) = ended (codes "continue")
  stmt_lines (return_at at value) = ended (return_text value)
  stmt_lines (when test body) = test_line (codes "if") test ∷ closed (block_lines body)
  stmt_lines (either test body other) =
      test_line (codes "if") test ∷ (deeper (block_lines body) ++ codes "} else {" ∷ closed (block_lines other))
  stmt_lines (while test body) = test_line (codes "while") test ∷ closed (block_lines body)
  stmt_lines (repeat body test) = codes "do {" ∷ (deeper (block_lines body) ++ until_line test ∷ [])
  stmt_lines (loop first test advance body) = for_line first test advance ∷ closed (block_lines body)
  stmt_lines (switch test body) = test_line (codes "switch") test ∷ (switch_lines body ++ codes "}" ∷ [])
  stmt_lines (labelled label) = label_line label ∷ []
  stmt_lines (nested inside) = codes "{" ∷ closed (block_lines inside)

  pub stmts_lines : Stmts → List (List ℕ)
  stmts_lines none = []
  stmts_lines (also first others) = stmt_lines first ++ stmts_lines others

  -- a declaration, or an inlet
  pub local_lines : Local → List (List ℕ)
  local_lines (declared decl) = ended (decl_text decl)
  local_lines (inlet_at at name parameters body) = inlet_line name parameters ∷ closed (block_lines body)

  pub locals_lines : Locals → List (List ℕ)
  locals_lines no_locals = []
  locals_lines (and_local first others) = local_lines first ++ locals_lines others

  -- the lines between the braces of a block (C 1990, 6.6.2)
  pub block_lines : Block → List (List ℕ)
  block_lines (block locals stmts) = locals_lines locals ++ stmts_lines stmts

  -- the statements of the block of a `switch`
  pub cases_lines : Stmts → List (List ℕ)
  cases_lines none = []
  cases_lines (also first others) = set_in (is_label first) (stmt_lines first) ++ cases_lines others

  -- the lines between the braces of a `switch` (C 1990, 6.6.4.2)
  pub switch_lines : Block → List (List ℕ)
  switch_lines (block locals stmts) = deeper (locals_lines locals) ++ cases_lines stmts

-- what stands behind the lines of the body of an `if`
abbrev pub else_lines : Option Block → List (List ℕ)
else_lines None = codes "}" ∷ []
else_lines (Some other) = codes "} else {" ∷ closed (block_lines other)
