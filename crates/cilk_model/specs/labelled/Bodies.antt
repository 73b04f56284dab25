-- The bodies of a program, and the whole program, labelled.
use Rattle.std.specs.Prelude.{ℕ, suc, ◌+◌, ℤ, pos, List, [], ◌∷◌, ◌++◌, map, flat_map, length, codes, unwrap_or, bytes_eq, position, Bool, true, false, ◌&&◌}
use Rattle.cilk_check_scopes.specs.syntax.Tree as tree
use Rattle.cilk_check_scopes.specs.syntax.Tree.{Word}
use Rattle.cilk_check_scopes.specs.declared.owner.Owner.{Owner}
use Rattle.cilk_check_scopes.specs.declared.owner.Owner.TheVariants.{Function, Procedure, Inlet}
use Rattle.cilk_check_scopes.specs.Scopes.{file_scopes}
use Rattle.cilk_check_scopes.specs.Parts.{owner_of}
use Rattle.cilk_model.specs.labelled.Labelled.{Declaration, global, of_lock, of_body, Variable, Body, Labelled}
use Rattle.cilk_model.specs.labelled.Names.{Names, with_words, with_parameters, with_local, local_count, entered, in_inlet}
use Rattle.cilk_model.specs.labelled.Label.{block_variables, label_block}
use Rattle.cilk_model.specs.labelled.Count.{count_local, count_block, count_item}
use Rattle.cilk_model.specs.labelled.Lines.{action_lines}

-- a variable of one cell, with what it holds at first
abbrev pub one_cell : ℤ → Word → Variable
one_cell z word = record { name = word.text; length = 0; initial = z }

-- the parameters; the first one of the form of `main` that is told of the command line is 1, and the second has no cell (C 1990, 5.1.2.2.1)
abbrev pub parameter_variables : tree.Parameters → List Variable
parameter_variables (tree.ints words) = map (one_cell (pos 0)) words
parameter_variables (tree.command_line count strings) = one_cell (pos 1) count ∷ []

-- a body, behind the names of its parameters, whose first action is `at`
abbrev pub label_body : Names → ℕ → Owner → Word → List Variable → tree.Block → Body
label_body names at owner name parameters body = record {
  name = name.text;
  owner = owner;
  parameters = length parameters;
  variables = parameters ++ block_variables body;
  stmts = label_block names at (length parameters) body;
  closing = at + count_block body;
}

-- an inlet sees itself and what its procedure declares before it (Cilk 5.4 manual, `inlet`)
abbrev pub inlet_body : Names → ℕ → tree.Local → List Body
inlet_body names at (tree.declared d) = []
inlet_body names at (tree.inlet_at place name parameters body) =
    label_body (with_words (in_inlet names) 0 parameters) at Inlet name (map (one_cell (pos 0)) parameters) body ∷ []

abbrev pub inlet_bodies : Names → ℕ → ℕ → tree.Locals → List Body
inlet_bodies names at n tree.no_locals = []
inlet_bodies names at n (tree.and_local first others) =
    inlet_body (with_local names n first) at first
    ++ inlet_bodies (with_local names n first) (at + count_local first) (n + local_count first) others

-- inlets stand in the outermost block of a procedure alone
abbrev pub block_locals : tree.Block → tree.Locals
block_locals (tree.block locals stmts) = locals

abbrev pub procedure_names : Names → tree.Proc → Names
procedure_names file p = with_parameters (entered file) p.parameters

-- the body of a procedure or function, and those of its inlets
abbrev pub procedure_bodies : Names → ℕ → tree.Proc → List Body
procedure_bodies names at p =
    label_body names at (owner_of p.is_cilk p.returns) p.name (parameter_variables p.parameters) p.body
    ∷ inlet_bodies names at (length (parameter_variables p.parameters)) (block_locals p.body)

abbrev pub inlet_count : tree.Locals → ℕ
inlet_count tree.no_locals = 0
inlet_count (tree.and_local (tree.declared d) others) = inlet_count others
inlet_count (tree.and_local (tree.inlet_at at name parameters body) others) = suc (inlet_count others)

abbrev pub body_count : tree.Item → ℕ
body_count (tree.global g) = 0
body_count (tree.lock name) = 0
body_count (tree.prototype q) = 0
body_count (tree.procedure p) = suc (inlet_count (block_locals p.body))

abbrev pub item_bodies : Names → ℕ → tree.Item → List Body
item_bodies names at (tree.global g) = []
item_bodies names at (tree.lock name) = []
item_bodies names at (tree.prototype q) = []
item_bodies names at (tree.procedure p) = procedure_bodies (procedure_names (record names { bodies = suc names.bodies }) p) at p

abbrev pub items_bodies : Names → ℕ → List tree.Item → List Body
items_bodies names at [] = []
items_bodies names at (first ∷ others) =
    item_bodies names at first ++ items_bodies (record names { bodies = names.bodies + body_count first }) (at + count_item first) others

-- what the names of the top level mean, behind g variables, l locks and b bodies
abbrev pub file_means : ℕ → ℕ → ℕ → List tree.Item → List Declaration
file_means g l b [] = []
file_means g l b (tree.global what ∷ others) = global g ∷ file_means (suc g) l b others
file_means g l b (tree.lock name ∷ others) = of_lock l ∷ file_means g (suc l) b others
file_means g l b (tree.prototype q ∷ others) = file_means g l b others
file_means g l b (tree.procedure p ∷ others) = of_body b ∷ file_means g l (b + body_count (tree.procedure p)) others

-- they are visible in the whole file
abbrev pub file_names : List tree.Item → Names
file_names items = record { scopes = file_scopes items; means = file_means 0 0 0 items; bodies = 0 }

-- a variable of the top level is 0 at first, unless it is initialised (C 1990, 6.5.7, 6.7.2)
abbrev pub shaped_variable : Word → tree.GlobalShape → Variable
shaped_variable name (tree.global_variable value) = one_cell (unwrap_or value (pos 0)) name
shaped_variable name (tree.global_array n) = record { name = name.text; length = n; initial = pos 0 }

abbrev pub item_globals : tree.Item → List Variable
item_globals (tree.global g) = shaped_variable g.name g.shape ∷ []
item_globals (tree.lock name) = []
item_globals (tree.prototype q) = []
item_globals (tree.procedure p) = []

abbrev pub item_locks : tree.Item → List (List ℕ)
item_locks (tree.global g) = []
item_locks (tree.lock name) = name.text ∷ []
item_locks (tree.prototype q) = []
item_locks (tree.procedure p) = []

abbrev pub is_procedure : Owner → Bool
is_procedure (Function returns) = false
is_procedure (Procedure returns) = true
is_procedure Inlet = false

-- the program starts at `main` (C 1990, 5.1.2.2.1)
abbrev pub is_start : Body → Bool
is_start b = is_procedure b.owner && bytes_eq b.name (codes "main")

abbrev pub bodies_of : tree.Program → List Body
bodies_of p = items_bodies (file_names p.items) 1 p.items

abbrev pub label : tree.Program → Labelled
label p = record {
  bodies = bodies_of p;
  globals = flat_map item_globals p.items;
  locks = flat_map item_locks p.items;
  main = position is_start (bodies_of p);
  lines = action_lines p;
}
