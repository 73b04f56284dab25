-- The tables of bodies, in the order of the text: `at` is the number of the next action.
use Rattle.std.specs.Prelude.{ℕ, ◌+◌, pos, Bool, ◌&&◌, bytes_eq, codes, List, [], ◌∷◌, ◌++◌, Option, Some, length, map, unwrap_or}
use Rattle.cilk_tree_syntax.specs.Tree as tree
use Rattle.cilk_tree_syntax.specs.Tree.{Word}
use Rattle.cilk_load_nodes.specs.scopes.declared.owner.Owner.{Owner}
use Rattle.cilk_load_nodes.specs.scopes.declared.owner.Owner.TheVariants.{Inlet}
use Rattle.cilk_load_nodes.specs.scopes.Parts.{owner_of}
use Rattle.cilk_load_nodes.specs.declared.area.Area.TheVariants.{Own}
use Rattle.cilk_load_nodes.specs.labelled.Labelled.{Variable}
use Rattle.cilk_load_nodes.specs.labelled.Count.{count_shape, count_stmts, count_locals, count_block, count_item}
use Rattle.cilk_load_nodes.specs.labelled.Label.{block_variables}
use Rattle.cilk_load_nodes.specs.labelled.Bodies.{one_cell, parameter_variables, block_locals, is_procedure}
use Rattle.cilk_load_nodes.specs.declared.body.Body.{Body}
use Rattle.cilk_load_nodes.specs.Slots.{cells_of}
use Rattle.cilk_load_nodes.specs.Bodies.{vars_from}
use Rattle.cilk_load.specs.Firsts.{first_if, locals_first}

-- the number of the first action of a body
abbrev pub body_first : ℕ → tree.Block → Option ℕ
body_first at (tree.block locals stmts) =
    locals_first at locals (first_if (count_stmts stmts) (at + count_locals locals) (Some (at + (count_locals locals + count_stmts stmts))))

abbrev pub table_of : ℕ → Owner → Word → List Variable → tree.Block → Body
table_of at owner name parameters body = record {
  name = name.text;
  owner = owner;
  entry = unwrap_or (body_first at body) 0;
  params = length parameters;
  cells = cells_of (parameters ++ block_variables body);
  vars = vars_from Own 0 (parameters ++ block_variables body);
}

abbrev pub inlet_tables : ℕ → tree.Locals → List Body
inlet_tables at tree.no_locals = []
inlet_tables at (tree.and_local (tree.declared d) others) = inlet_tables (at + count_shape d.shape) others
inlet_tables at (tree.and_local (tree.inlet_at place name parameters body) others) =
    table_of at Inlet name (map (one_cell (pos 0)) parameters) body ∷ inlet_tables (at + (count_block body + 1)) others

abbrev pub item_tables : ℕ → tree.Item → List Body
item_tables at (tree.global g) = []
item_tables at (tree.lock name) = []
item_tables at (tree.prototype q) = []
item_tables at (tree.procedure p) =
    table_of at (owner_of p.is_cilk p.returns) p.name (parameter_variables p.parameters) p.body ∷ inlet_tables at (block_locals p.body)

abbrev pub items_tables : ℕ → List tree.Item → List Body
items_tables at [] = []
items_tables at (first ∷ others) = item_tables at first ++ items_tables (at + count_item first) others

-- whether a body is one to start with
abbrev pub starts_here : Body → Bool
starts_here body = is_procedure body.owner && bytes_eq body.name (codes "main")
