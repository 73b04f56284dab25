-- The statements of a body are labelled: a number at each action, in the order of the canonical text.
use Rattle.std.specs.Prelude.{ℕ, ◌+◌, pos, List, [], ◌∷◌, ◌++◌, map, length, option_map, Option, Some, None}
use Rattle.cilk_check_scopes.specs.syntax.Tree as tree
use Rattle.cilk_check_scopes.specs.syntax.Adjustments.{operator_of}
use Rattle.cilk_model.specs.labelled.Term as term
use Rattle.cilk_model.specs.labelled.Labelled.{Variable, Taker, nothing, into, through, Action, assign, call, spawn, print, locking, null, break_off}
use Rattle.cilk_model.specs.labelled.Labelled.{go_round, tests, sync, abort, return_with, return_nothing}
use Rattle.cilk_model.specs.labelled.Labelled.{Numbered, Stmt, action, choose, while, repeat, loop, select, at_label, nested, Stmts, none, also}
use Rattle.cilk_model.specs.labelled.Names.{Names, with_local, local_count, entered, meaning_of, number_of, label_expr, label_place, label_target}
use Rattle.cilk_model.specs.labelled.Count.{count_option, count_stmt, count_local, count_locals, count_block}

-- the variables that a block and its inner blocks declare: they keep their values between entries of the block
abbrev pub shape_length : tree.Shape → ℕ
shape_length (tree.variable value) = 0
shape_length (tree.array length) = length

abbrev pub local_variables : tree.Local → List Variable
local_variables (tree.declared d) = record { name = d.name.text; length = shape_length d.shape; initial = pos 0 } ∷ []
local_variables (tree.inlet_at at name parameters body) = []

abbrev pub locals_variables : tree.Locals → List Variable
locals_variables tree.no_locals = []
locals_variables (tree.and_local first others) = local_variables first ++ locals_variables others

abbrev mutual
  pub stmt_variables : tree.Stmt → List Variable
  stmt_variables (tree.when test body) = block_variables body
  stmt_variables (tree.either test body other) = block_variables body ++ block_variables other
  stmt_variables (tree.while test body) = block_variables body
  stmt_variables (tree.repeat body test) = block_variables body
  stmt_variables (tree.loop first test advance body) = block_variables body
  stmt_variables (tree.switch test body) = block_variables body
  stmt_variables (tree.nested inside) = block_variables inside
  stmt_variables other = []

  pub stmts_variables : tree.Stmts → List Variable
  stmts_variables tree.none = []
  stmts_variables (tree.also first others) = stmt_variables first ++ stmts_variables others

  pub block_variables : tree.Block → List Variable
  block_variables (tree.block locals stmts) = locals_variables locals ++ stmts_variables stmts

-- the actions of single statements

abbrev pub label_move : Names → tree.Move → Action
label_move names (tree.assign target value) = assign (label_target names target) (label_expr names value)
label_move names (tree.adjust place by) = assign (record { op = Some (operator_of by); target = label_place names place }) (term.number 1)
label_move names (tree.call target callee arguments) =
    call (option_map (label_target names) target) (number_of (meaning_of names callee)) (map (label_expr names) arguments)

abbrev pub label_taker : Names → tree.Taker → Taker
label_taker names tree.nothing = nothing
label_taker names (tree.into target) = into (label_target names target)
label_taker names (tree.through inlet others) = through (number_of (meaning_of names inlet)) (map (label_expr names) others)

abbrev pub label_return : Names → Option tree.Expr → Action
label_return names None = return_nothing
label_return names (Some value) = return_with (label_expr names value)

abbrev pub numbered : ℕ → Action → Numbered
numbered at act = record { number = at; act = act }

abbrev pub single : ℕ → Action → Stmt
single at act = action (numbered at act)

abbrev pub label_part : Names → ℕ → Option tree.Move → Option Numbered
label_part names at part = option_map (λ what. numbered at (label_move names what)) part

abbrev pub label_test : Names → ℕ → tree.Expr → Numbered
label_test names at value = numbered at (tests (label_expr names value))

-- an initialiser of a variable, before what follows (C 1990, 6.5.7)
abbrev pub label_initialiser : Names → ℕ → tree.Place → tree.Shape → Stmts → Stmts
label_initialiser names at place (tree.variable None) others = others
label_initialiser names at place (tree.variable (Some value)) others =
    also (single at (label_move names (tree.assign (record { place = place; op = None }) value))) others
label_initialiser names at place (tree.array length) others = others

-- a declared name is visible in its own initialiser; the body of an inlet is no part of what its procedure does
abbrev pub label_local : Names → ℕ → tree.Local → Stmts → Stmts
label_local names at (tree.declared d) others = label_initialiser names at (record { name = d.name; index = None }) d.shape others
label_local names at (tree.inlet_at place name parameters body) others = others

abbrev pub names_behind : Names → ℕ → tree.Locals → Names
names_behind names n tree.no_locals = names
names_behind names n (tree.and_local first others) = names_behind (with_local names n first) (n + local_count first) others

-- where `at` is the number of the next action, and n variables of the activation come before
abbrev pub label_locals : Names → ℕ → ℕ → tree.Locals → Stmts → Stmts
label_locals names at n tree.no_locals others = others
label_locals names at n (tree.and_local first rest) others =
    label_local (with_local names n first) at first
    (label_locals (with_local names n first) (at + count_local first) (n + local_count first) rest others)

abbrev mutual
  pub label_stmt : Names → ℕ → ℕ → tree.Stmt → Stmt
  label_stmt names at n (tree.move what) = single at (label_move names what)
  label_stmt names at n (tree.spawn_at place taker callee arguments) =
      single at (spawn (label_taker names taker) (number_of (meaning_of names callee)) (map (label_expr names) arguments))
  label_stmt names at n (tree.print format arguments) = single at (print format.bytes (map (label_expr names) arguments))
  label_stmt names at n (tree.locking what name) = single at (locking what (number_of (meaning_of names name)))
  label_stmt names at n tree.null = single at null
  label_stmt names at n (tree.sync_at place) = single at sync
  label_stmt names at n (tree.abort_at place) = single at abort
  label_stmt names at n (tree.break_at place) = single at break_off
  label_stmt names at n (tree.continue_at place) = single at go_round
  label_stmt names at n (tree.return_at place value) = single at (label_return names value)
  label_stmt names at n (tree.when value body) = choose (label_test names at value) (label_block (entered names) (at + 1) n body) none
  label_stmt names at n (tree.either value body other) =
      choose (label_test names at value) (label_block (entered names) (at + 1) n body)
      (label_block (entered names) (at + (1 + count_block body)) (n + length (block_variables body)) other)
  label_stmt names at n (tree.while value body) = while (label_test names at value) (label_block (entered names) (at + 1) n body)
  label_stmt names at n (tree.repeat body value) =
      repeat (label_block (entered names) at n body) (label_test names (at + count_block body) value)
  label_stmt names at n (tree.loop first value advance body) =
      loop (label_part names at first) (label_test names (at + count_option first) value)
      (label_part names (at + (count_option first + 1)) advance)
      (label_block (entered names) (at + (count_option first + (1 + count_option advance))) n body)
  label_stmt names at n (tree.switch value body) = select (label_test names at value) (label_block (entered names) (at + 1) n body)
  label_stmt names at n (tree.labelled label) = at_label label.value
  label_stmt names at n (tree.nested inside) = nested (label_block (entered names) at n inside)

  pub label_stmts : Names → ℕ → ℕ → tree.Stmts → Stmts
  label_stmts names at n tree.none = none
  label_stmts names at n (tree.also first others) =
      also (label_stmt names at n first) (label_stmts names (at + count_stmt first) (n + length (stmt_variables first)) others)

  -- a block, whose scope is entered already: its statements see its declarations (C 1990, 6.6.2)
  pub label_block : Names → ℕ → ℕ → tree.Block → Stmts
  label_block names at n (tree.block locals stmts) =
      label_locals names at n locals
      (label_stmts (names_behind names n locals) (at + count_locals locals) (n + length (locals_variables locals)) stmts)
