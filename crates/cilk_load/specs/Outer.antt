-- The nodes and the tables of whole bodies and of the program, as the pass writes them.
use Rattle.std.specs.Prelude.{ℕ, suc, ◌+◌, List, [], ◌∷◌, ◌++◌, Option, Some, None, length, slice_get}
use Rattle.cilk_tree_syntax.specs.Tree as tree
use Rattle.cilk_tree_syntax.specs.Tree.{Word}
use Rattle.cilk_load_nodes.specs.labelled.Count.{count_shape, count_stmts, count_locals, count_block, count_item}
use Rattle.cilk_load_nodes.specs.labelled.Label.{locals_variables}
use Rattle.cilk_load_nodes.specs.labelled.Bodies.{parameter_variables, body_count, item_globals, item_locks}
use Rattle.cilk_load_nodes.specs.declared.action.Action.TheVariants.{Close}
use Rattle.cilk_load_nodes.specs.declared.node.Node.{Node}
use Rattle.cilk_load_nodes.specs.declared.var.Var.{Var}
use Rattle.cilk_load_nodes.specs.declared.body.Body.{Body}
use Rattle.cilk_load.specs.declared.exits.Exits.{Exits}
use Rattle.cilk_load.specs.Scope.{Named, Scope, declared, entered, unknown_name}
use Rattle.cilk_load.specs.Firsts.{first_if, locals_first}
use Rattle.cilk_load.specs.Pass.{bound_var, bound_number, onward, shape_nodes, stmts_nodes, block_nodes}

-- the variables of body b in the table of the bodies
abbrev pub vars_in : Option Body → List Var
vars_in None = []
vars_in (Some body) = body.vars

abbrev pub vars_at : List Body → ℕ → List Var
vars_at bodies b = vars_in (slice_get bodies b)

-- where a body's last statement leads
abbrev pub body_exits : ℕ → Exits
body_exits closing = record { next = Some closing; past = None; again = None }

abbrev pub words_scope : List Var → ℕ → List Word → Scope → Scope
words_scope vars n [] s = s
words_scope vars n (word ∷ words) s = words_scope vars (n + 1) words (declared s (bound_var vars n word))

abbrev pub parameters_scope : List Var → tree.Parameters → Scope → Scope
parameters_scope vars (tree.ints words) s = words_scope vars 0 words s
parameters_scope vars (tree.command_line count strings) s =
    declared (declared s (bound_var vars 0 count)) (record { name = strings.text; binding = unknown_name })

-- of an inlet, whose body is body k, where its name is visible
abbrev pub inlet_nodes : List Body → ℕ → Scope → ℕ → List Word → tree.Block → List Node
inlet_nodes bodies k s at parameters body =
    block_nodes k (vars_at bodies k) (words_scope (vars_at bodies k) 0 parameters (entered s)) at (length parameters) body (body_exits (at + count_block body))
    ++ onward k Close None ∷ []

-- the declarations of the outermost block of body b, whose next inlet has body k
abbrev pub outer_nodes : List Body → ℕ → ℕ → Scope → ℕ → ℕ → tree.Locals → Option ℕ → List Node
outer_nodes bodies b k s at n tree.no_locals next = []
outer_nodes bodies b k s at n (tree.and_local (tree.declared d) others) next =
    shape_nodes b (declared s (bound_var (vars_at bodies b) n d.name)) d.name d.shape (locals_first (at + count_shape d.shape) others next)
    ++ outer_nodes bodies b k (declared s (bound_var (vars_at bodies b) n d.name)) (at + count_shape d.shape) (n + 1) others next
outer_nodes bodies b k s at n (tree.and_local (tree.inlet_at place name parameters body) others) next =
    inlet_nodes bodies k (declared s (bound_number k name)) at parameters body
    ++ outer_nodes bodies b (suc k) (declared s (bound_number k name)) (at + (count_block body + 1)) n others next

abbrev pub outer_scope : List Var → ℕ → ℕ → tree.Locals → Scope → Scope
outer_scope vars k n tree.no_locals s = s
outer_scope vars k n (tree.and_local (tree.declared d) others) s = outer_scope vars k (n + 1) others (declared s (bound_var vars n d.name))
outer_scope vars k n (tree.and_local (tree.inlet_at place name parameters body) others) s =
    outer_scope vars (suc k) n others (declared s (bound_number k name))

-- a body of which n variables are parameters
abbrev pub body_nodes : List Body → ℕ → Scope → ℕ → ℕ → tree.Block → List Node
body_nodes bodies b s at n (tree.block locals stmts) =
    outer_nodes bodies b (suc b) s at n locals (first_if (count_stmts stmts) (at + count_locals locals) (Some (at + (count_locals locals + count_stmts stmts))))
    ++ (stmts_nodes b (vars_at bodies b) (outer_scope (vars_at bodies b) (suc b) n locals s) (at + count_locals locals)
    (n + length (locals_variables locals)) stmts (body_exits (at + (count_locals locals + count_stmts stmts)))
    ++ onward b Close None ∷ [])

abbrev pub item_nodes : List Body → ℕ → Scope → ℕ → tree.Item → List Node
item_nodes bodies b file at (tree.global g) = []
item_nodes bodies b file at (tree.lock name) = []
item_nodes bodies b file at (tree.prototype q) = []
item_nodes bodies b file at (tree.procedure p) =
    body_nodes bodies b (parameters_scope (vars_at bodies b) p.parameters (entered file)) at (length (parameter_variables p.parameters)) p.body

abbrev pub items_nodes : List Body → ℕ → Scope → ℕ → List tree.Item → List Node
items_nodes bodies b file at [] = []
items_nodes bodies b file at (first ∷ others) =
    item_nodes bodies b file at first ++ items_nodes bodies (b + body_count first) file (at + count_item first) others

-- how many variables, locks and bodies some items have
abbrev pub globals_count : List tree.Item → ℕ
globals_count [] = 0
globals_count (first ∷ others) = length (item_globals first) + globals_count others

abbrev pub locks_count : List tree.Item → ℕ
locks_count [] = 0
locks_count (first ∷ others) = length (item_locks first) + locks_count others

abbrev pub bodies_count : List tree.Item → ℕ
bodies_count [] = 0
bodies_count (first ∷ others) = body_count first + bodies_count others

-- what an item of the top level declares, behind g variables, l locks and b bodies
abbrev pub item_named : List Var → ℕ → ℕ → ℕ → tree.Item → List Named
item_named globals g l b (tree.global what) = bound_var globals g what.name ∷ []
item_named globals g l b (tree.lock name) = bound_number l name ∷ []
item_named globals g l b (tree.prototype q) = []
item_named globals g l b (tree.procedure p) = bound_number b p.name ∷ []

abbrev pub file_named : List Var → ℕ → ℕ → ℕ → List tree.Item → List Named
file_named globals g l b [] = []
file_named globals g l b (first ∷ others) =
    item_named globals g l b first
    ++ file_named globals (g + length (item_globals first)) (l + length (item_locks first)) (b + body_count first) others

abbrev pub file_scope : List Var → List tree.Item → Scope
file_scope globals items = record { innermost = file_named globals 0 0 0 items ++ []; outer = [] }
