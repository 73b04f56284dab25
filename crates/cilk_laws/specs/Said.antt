-- What the canonical text says of each action, in the order of the text: the line that says it, without its indent, and the action itself.
use Rattle.std.specs.Prelude.{ℕ, List, [], ◌∷◌, ◌++◌, map, codes, Option, Some, None}
use Rattle.cilk_check.specs.syntax.Tree as tree
use Rattle.cilk_tree.specs.syntax.MoveText.{move_text, spawn_text, print_text, locking_text, return_text, decl_text}
use Rattle.cilk_tree.specs.syntax.StmtLines.{test_line, until_line, for_line}
use Rattle.cilk_laws_model.specs.labelled.Labelled.{Action, spawn, print, locking, null, break_off, go_round, tests, sync, abort, close}
use Rattle.cilk_laws_model.specs.labelled.Names.{Names, meaning_of, number_of, label_expr}
use Rattle.cilk_laws_model.specs.labelled.Label.{label_move, label_taker, label_return}

-- a line, and one of the actions that it says, where names mean this
pub record Said : Type 0 where
  pub line : List ℕ
  pub act : Names → Action

-- a statement that a semicolon ends has a line of its own
abbrev pub alone : List ℕ → (Names → Action) → List Said
alone text act = record { line = text ++ codes ";"; act = act } ∷ []

-- a test, on the line that opens the body, or on that which closes it
abbrev pub asked : List ℕ → tree.Expr → Said
asked line test = record { line = line; act = λ names. tests (label_expr names test) }

-- a part of the header of a `for`, if there is one
abbrev pub part_said : List ℕ → Option tree.Move → List Said
part_said line None = []
part_said line (Some what) = record { line = line; act = λ names. label_move names what } ∷ []

-- the closing brace of a body
abbrev pub brace : Said
brace = record { line = codes "}"; act = λ names. close }

-- an initialiser
abbrev pub shape_said : tree.Decl → tree.Shape → List Said
shape_said d (tree.variable None) = []
shape_said d (tree.variable (Some value)) =
    alone (decl_text d) (λ names. label_move names (tree.assign (record { place = record { name = d.name; index = None }; op = None }) value))
shape_said d (tree.array n) = []

abbrev mutual
  pub stmt_said : tree.Stmt → List Said
  stmt_said (tree.move what) = alone (move_text what) (λ names. label_move names what)
  stmt_said (tree.spawn_at at taker callee arguments) =
      alone (spawn_text taker callee arguments)
      (λ names. spawn (label_taker names taker) (number_of (meaning_of names callee)) (map (label_expr names) arguments))
  stmt_said (tree.print format arguments) = alone (print_text format arguments) (λ names. print format.bytes (map (label_expr names) arguments))
  stmt_said (tree.locking what name) = alone (locking_text what name) (λ names. locking what (number_of (meaning_of names name)))
  stmt_said tree.null = alone [] (λ names. null)
  stmt_said (tree.sync_at at) = alone (codes "sync") (λ names. sync)
  stmt_said (tree.abort_at at) = alone (codes "abort") (λ names. abort)
  stmt_said (tree.break_at at) = alone (codes "break") (λ names. break_off)
  stmt_said (tree.continue_at at) = alone (codes "continue") (λ names. go_round)
  stmt_said (tree.return_at at value) = alone (return_text value) (λ names. label_return names value)
  stmt_said (tree.when test body) = asked (test_line (codes "if") test) test ∷ block_said body
  stmt_said (tree.either test body other) = asked (test_line (codes "if") test) test ∷ (block_said body ++ block_said other)
  stmt_said (tree.while test body) = asked (test_line (codes "while") test) test ∷ block_said body
  stmt_said (tree.repeat body test) = block_said body ++ asked (until_line test) test ∷ []
  stmt_said (tree.loop first test advance body) =
      part_said (for_line first test advance) first
      ++ (asked (for_line first test advance) test ∷ (part_said (for_line first test advance) advance ++ block_said body))
  stmt_said (tree.switch test body) = asked (test_line (codes "switch") test) test ∷ block_said body
  -- a label has a line, and is no action
  stmt_said (tree.labelled label) = []
  stmt_said (tree.nested inside) = block_said inside

  pub stmts_said : tree.Stmts → List Said
  stmts_said tree.none = []
  stmts_said (tree.also first others) = stmt_said first ++ stmts_said others

  pub local_said : tree.Local → List Said
  local_said (tree.declared d) = shape_said d d.shape
  local_said (tree.inlet_at at name parameters body) = block_said body ++ brace ∷ []

  pub locals_said : tree.Locals → List Said
  locals_said tree.no_locals = []
  locals_said (tree.and_local first others) = local_said first ++ locals_said others

  pub block_said : tree.Block → List Said
  block_said (tree.block locals stmts) = locals_said locals ++ stmts_said stmts

-- nothing else of the top level is an action
abbrev pub item_said : tree.Item → List Said
item_said (tree.global g) = []
item_said (tree.lock name) = []
item_said (tree.prototype q) = []
item_said (tree.procedure p) = block_said p.body ++ brace ∷ []

abbrev pub items_said : List tree.Item → List Said
items_said [] = []
items_said (first ∷ others) = item_said first ++ items_said others

abbrev pub program_said : tree.Program → List Said
program_said p = items_said p.items
