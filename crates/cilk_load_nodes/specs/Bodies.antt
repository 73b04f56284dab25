-- The tables of bodies and variables.
use Rattle.std.specs.Prelude.{ℕ, ◌+◌, pos, List, [], ◌∷◌, Option, map, slice_get, unwrap_or}
use Rattle.cilk_model.specs.syntax.Tree as tree
use Rattle.cilk_load_nodes.specs.declared.area.Area.{Area}
use Rattle.cilk_load_nodes.specs.declared.area.Area.TheVariants.{Own, Global}
use Rattle.cilk_model.specs.labelled.Labelled.{Variable}
use Rattle.cilk_model.specs.labelled.Labelled as labelled
use Rattle.cilk_model.specs.labelled.Items.{opened, start_items}
use Rattle.cilk_model.specs.labelled.Bodies.{label}
use Rattle.cilk_load_nodes.specs.declared.var.Var.{Var}
use Rattle.cilk_load_nodes.specs.declared.body.Body.{Body}
use Rattle.cilk_load_nodes.specs.Slots.{size_of, cells_of, slot_at}
use Rattle.cilk_load_nodes.specs.Table.{number_of}

-- a variable whose cells begin at a place
abbrev pub var_at : Area → ℕ → Variable → Var
var_at area at v = record { name = v.name; slot = slot_at area at v.length; length = v.length; initial = v.initial }

-- variables in their slots, where the cells of the first begin at `at`
abbrev pub vars_from : Area → ℕ → List Variable → List Var
vars_from area at [] = []
vars_from area at (v ∷ variables) = var_at area at v ∷ vars_from area (at + size_of v) variables

abbrev pub body_table : labelled.Body → Body
body_table body = record {
  name = body.name;
  owner = body.owner;
  entry = unwrap_or (number_of (opened (start_items body))) 0;
  params = body.parameters;
  cells = cells_of body.variables;
  vars = vars_from Own 0 body.variables;
}

-- body b, counted from 0
abbrev pub body_of : tree.Program → ℕ → Option Body
body_of p b = slice_get (map body_table (label p).bodies) b

-- the variables of the top level
abbrev pub globals_of : tree.Program → List Var
globals_of p = vars_from Global 0 (label p).globals

-- a lock is told by its name and its place among the locks
abbrev pub lock_variable : List ℕ → Variable
lock_variable name = record { name = name; length = 0; initial = pos 0 }

abbrev pub locks_of : tree.Program → List Var
locks_of p = vars_from Global 0 (map lock_variable (label p).locks)
