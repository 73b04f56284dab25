-- The nodes part by part, as one pass over the tree writes them: `at` is the number of the next action, b the body's number, and n that of its next variable.
use Rattle.std.specs.Prelude.{ℕ, ℤ, zero, suc, ◌+◌, List, [], ◌∷◌, ◌++◌, Option, Some, None, length, Bool, false, is_none, if◌then◌else◌}
use Rattle.cilk_tree_syntax.specs.Tree as tree
use Rattle.cilk_tree_syntax.specs.Tree.{Word}
use Rattle.cilk_load_nodes.specs.declared.slot.Slot.{Slot}
use Rattle.cilk_load_nodes.specs.labelled.Count.{count_option, count_shape, count_stmt, count_stmts, count_locals, count_block}
use Rattle.cilk_load_nodes.specs.labelled.Label.{stmt_variables, locals_variables, block_variables}
use Rattle.cilk_load_nodes.specs.declared.action.Action.{Action}
use Rattle.cilk_load_nodes.specs.declared.action.Action.TheVariants.{Print, Locking, Null, Break, Continue, Test, Sync, Abort}
use Rattle.cilk_load_nodes.specs.declared.case.Case.{Case}
use Rattle.cilk_load_nodes.specs.declared.node.Node.{Node}
use Rattle.cilk_load_nodes.specs.declared.var.Var.{Var}
use Rattle.cilk_load_nodes.specs.Slots.{nowhere}
use Rattle.cilk_load.specs.declared.exits.Exits.{Exits}
use Rattle.cilk_load.specs.Scope.{Named, Scope, declared}
use Rattle.cilk_load.specs.Firsts.{first_if, block_first, locals_first}
use Rattle.cilk_load.specs.Acts.{code_in, codes_in, number_in, move_in, spawn_in, return_in, initialiser_in}

-- the slot of variable n of these
abbrev pub var_slot : List Var → ℕ → Slot
var_slot [] n = nowhere
var_slot (v ∷ vars) zero = v.slot
var_slot (v ∷ vars) (suc n) = var_slot vars n

abbrev pub bound_var : List Var → ℕ → Word → Named
bound_var vars n word = record { name = word.text; binding = record { slot = var_slot vars n; number = n } }

-- a lock or a body
abbrev pub bound_number : ℕ → Word → Named
bound_number n word = record { name = word.text; binding = record { slot = nowhere; number = n } }

abbrev pub node : ℕ → Action → Option ℕ → Option ℕ → Node
node b act next other = record { action = act; next = next; other = other; cases = []; body = b }

-- of a `switch`, which goes on there where no case has the value (C 1990, 6.6.4.2)
abbrev pub switch_node : ℕ → Action → List Case → Option ℕ → Node
switch_node b act cases next = record { action = act; next = next; other = next; cases = cases; body = b }

-- of an action behind which one list comes
abbrev pub onward : ℕ → Action → Option ℕ → Node
onward b act next = node b act next next

abbrev pub exits_to : Option ℕ → Exits → Exits
exits_to next ex = record { next = next; past = ex.past; again = ex.again }

-- in the body of a `switch`: a `break` leads to what comes behind it (C 1990, 6.6.6.3)
abbrev pub in_switch : Exits → Exits
in_switch ex = record { next = ex.next; past = ex.next; again = ex.again }

-- in the body of a loop with this mark
abbrev pub in_loop : ℕ → Option ℕ → Exits
in_loop mark next = record { next = Some mark; past = next; again = Some mark }

-- the case that a statement is, if it is a label with a value, behind which this action comes
abbrev pub value_case : Option ℤ → Option ℕ → List Case
value_case None to = []
value_case (Some z) to = record { value = z; to = to } ∷ []

-- the value of a `case`, if a statement is one
abbrev pub value_in : tree.Stmt → Option ℤ
value_in (tree.labelled label) = label.value
value_in other = None

abbrev pub is_default : tree.Stmt → Bool
is_default (tree.labelled label) = is_none label.value
is_default other = false

-- the cases among the statements of a `switch`, the next action being `at`
abbrev pub cases_in : ℕ → tree.Stmts → Option ℕ → List Case
cases_in at tree.none next = []
cases_in at (tree.also first others) next =
    value_case (value_in first) (first_if (count_stmts others) (at + count_stmt first) next) ++ cases_in (at + count_stmt first) others next

-- where the `default` among these statements leads, or else what comes behind the `switch`
abbrev pub default_in : ℕ → tree.Stmts → Option ℕ → Option ℕ
default_in at tree.none next = next
default_in at (tree.also first others) next =
    if is_default first
    then first_if (count_stmts others) (at + count_stmt first) next
    else default_in (at + count_stmt first) others next

-- the node of the test of a `switch` with this body, whose first action is `at`
abbrev pub switch_test : ℕ → Scope → tree.Expr → ℕ → tree.Block → Option ℕ → Node
switch_test b s value at (tree.block locals stmts) next =
    switch_node b (Test (code_in s value)) (cases_in (at + count_locals locals) stmts next) (default_in (at + count_locals locals) stmts next)

-- the first part or the advance of a `for`, behind which its test comes
abbrev pub part_nodes : ℕ → Scope → Option tree.Move → ℕ → List Node
part_nodes b s None mark = []
part_nodes b s (Some what) mark = onward b (move_in s what) (Some mark) ∷ []

-- of a `for` whose first action is `at`: the number of the advance, if there is one, else that of the test
abbrev pub again_at : ℕ → Option tree.Move → Option tree.Move → ℕ
again_at at first None = at + count_option first
again_at at first (Some advance) = at + (count_option first + 1)

-- where its body begins
abbrev pub inside_at : ℕ → Option tree.Move → Option tree.Move → ℕ
inside_at at first advance = at + (count_option first + (1 + count_option advance))

-- an initialiser sees its own variable
abbrev pub shape_nodes : ℕ → Scope → Word → tree.Shape → Option ℕ → List Node
shape_nodes b s name (tree.variable None) next = []
shape_nodes b s name (tree.variable (Some value)) next = onward b (initialiser_in s name value) next ∷ []
shape_nodes b s name (tree.array n) next = []

-- behind declarations without inlets
abbrev pub locals_scope : List Var → ℕ → tree.Locals → Scope → Scope
locals_scope vars n tree.no_locals s = s
locals_scope vars n (tree.and_local (tree.declared d) others) s = locals_scope vars (n + 1) others (declared s (bound_var vars n d.name))
locals_scope vars n (tree.and_local (tree.inlet_at place name parameters body) others) s = locals_scope vars n others s

abbrev pub locals_nodes : ℕ → List Var → Scope → ℕ → ℕ → tree.Locals → Option ℕ → List Node
locals_nodes b vars s at n tree.no_locals next = []
locals_nodes b vars s at n (tree.and_local (tree.declared d) others) next =
    shape_nodes b (declared s (bound_var vars n d.name)) d.name d.shape (locals_first (at + count_shape d.shape) others next)
    ++ locals_nodes b vars (declared s (bound_var vars n d.name)) (at + count_shape d.shape) (n + 1) others next
locals_nodes b vars s at n (tree.and_local (tree.inlet_at place name parameters body) others) next = locals_nodes b vars s at n others next

-- where a statement that is one action leads
abbrev pub behind : tree.Stmt → Exits → Option ℕ
behind (tree.break_at place) ex = ex.past
behind (tree.continue_at place) ex = ex.again
behind (tree.return_at place value) ex = None
behind other ex = ex.next

abbrev pub single_nodes : ℕ → Option Action → Option ℕ → List Node
single_nodes b None next = []
single_nodes b (Some act) next = onward b act next ∷ []

abbrev mutual
  pub stmt_nodes : ℕ → List Var → Scope → ℕ → ℕ → tree.Stmt → Exits → List Node
  stmt_nodes b vars s at n (tree.move what) ex = onward b (move_in s what) ex.next ∷ []
  stmt_nodes b vars s at n (tree.spawn_at place taker callee arguments) ex = onward b (spawn_in s taker callee arguments) ex.next ∷ []
  stmt_nodes b vars s at n (tree.print format arguments) ex = onward b (Print format.bytes (codes_in s arguments)) ex.next ∷ []
  stmt_nodes b vars s at n (tree.locking what name) ex = onward b (Locking what (number_in s name)) ex.next ∷ []
  stmt_nodes b vars s at n tree.null ex = onward b Null ex.next ∷ []
  stmt_nodes b vars s at n (tree.sync_at place) ex = onward b Sync ex.next ∷ []
  stmt_nodes b vars s at n (tree.abort_at place) ex = onward b Abort ex.next ∷ []
  stmt_nodes b vars s at n (tree.break_at place) ex = onward b Break ex.past ∷ []
  stmt_nodes b vars s at n (tree.continue_at place) ex = onward b Continue ex.again ∷ []
  stmt_nodes b vars s at n (tree.return_at place value) ex = onward b (return_in s value) None ∷ []
  stmt_nodes b vars s at n (tree.when value body) ex =
      node b (Test (code_in s value)) (block_first (at + 1) body ex.next) ex.next ∷ block_nodes b vars s (at + 1) n body ex
  stmt_nodes b vars s at n (tree.either value body other) ex =
      node b (Test (code_in s value)) (block_first (at + 1) body ex.next) (block_first (at + (1 + count_block body)) other ex.next)
      ∷ (block_nodes b vars s (at + 1) n body ex
      ++ block_nodes b vars s (at + (1 + count_block body)) (n + length (block_variables body)) other ex)
  stmt_nodes b vars s at n (tree.while value body) ex =
      node b (Test (code_in s value)) (block_first (at + 1) body (Some at)) ex.next
      ∷ block_nodes b vars s (at + 1) n body (in_loop at ex.next)
  stmt_nodes b vars s at n (tree.repeat body value) ex =
      block_nodes b vars s at n body (in_loop (at + count_block body) ex.next)
      ++ node b (Test (code_in s value)) (block_first at body (Some (at + count_block body))) ex.next ∷ []
  stmt_nodes b vars s at n (tree.loop first value advance body) ex =
      part_nodes b s first (at + count_option first)
      ++ node b (Test (code_in s value)) (block_first (inside_at at first advance) body (Some (again_at at first advance))) ex.next
      ∷ (part_nodes b s advance (at + count_option first)
      ++ block_nodes b vars s (inside_at at first advance) n body (in_loop (again_at at first advance) ex.next))
  stmt_nodes b vars s at n (tree.switch value body) ex =
      switch_test b s value (at + 1) body ex.next ∷ block_nodes b vars s (at + 1) n body (in_switch ex)
  stmt_nodes b vars s at n (tree.labelled label) ex = []
  stmt_nodes b vars s at n (tree.nested inside) ex = block_nodes b vars s at n inside ex

  pub stmts_nodes : ℕ → List Var → Scope → ℕ → ℕ → tree.Stmts → Exits → List Node
  stmts_nodes b vars s at n tree.none ex = []
  stmts_nodes b vars s at n (tree.also first others) ex =
      stmt_nodes b vars s at n first (exits_to (first_if (count_stmts others) (at + count_stmt first) ex.next) ex)
      ++ stmts_nodes b vars s (at + count_stmt first) (n + length (stmt_variables first)) others ex

  pub block_nodes : ℕ → List Var → Scope → ℕ → ℕ → tree.Block → Exits → List Node
  block_nodes b vars s at n (tree.block locals stmts) ex =
      locals_nodes b vars s at n locals (first_if (count_stmts stmts) (at + count_locals locals) ex.next)
      ++ stmts_nodes b vars (locals_scope vars n locals s) (at + count_locals locals) (n + length (locals_variables locals)) stmts ex
