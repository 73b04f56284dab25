-- The declarations of a program.
use Rattle.std.specs.Prelude.{List, [], ◌∷◌, ◌++◌, map, flat_map}
use Rattle.cilk_tree_syntax.specs.Tree as tree
use Rattle.cilk_check_scopes.specs.Scopes.{Declared, Scopes, parameter, parameters_declare, local_declares, file_declares}
use Rattle.cilk_check_scopes.specs.Parts.{Part, local, statement, parts_of}

-- a declaration, and those before it in its scope, the nearest first (C 1990, 6.1.2.1)
pub record Declaring : Type 0 where
  pub before : List Declared
  pub declared : Declared

-- each of these, behind those before
abbrev pub declaring : List Declared → List Declared → List Declaring
declaring before [] = []
declaring before (d ∷ ds) = record { before = before; declared = d } ∷ declaring (d ∷ before) ds

-- the parameters of an inlet begin the scope of its body
abbrev pub inlet_parameters : tree.Local → List Declaring
inlet_parameters (tree.declared d) = []
inlet_parameters (tree.inlet_at at name parameters body) = declaring [] (map parameter parameters)

abbrev pub part_declarings : Scopes → Part → List Declaring
part_declarings scopes (local what) = record { before = scopes.innermost; declared = local_declares what } ∷ inlet_parameters what
part_declarings scopes (statement what) = []

-- the parameters of a function or procedure begin the scope of its body
abbrev pub item_parameters : tree.Item → List Declaring
item_parameters (tree.procedure f) = declaring [] (parameters_declare f.parameters)
item_parameters (tree.global g) = []
item_parameters (tree.lock name) = []
item_parameters (tree.prototype q) = []

-- all declarations: those of the top level, the parameters, and those at the heads of blocks
abbrev pub declarings_of : tree.Program → List Declaring
declarings_of p =
    declaring [] (file_declares p.items) ++ (flat_map item_parameters p.items ++ flat_map (λ s. part_declarings s.around.scopes s.part) (parts_of p))

-- What an activation holds: the parameters of its body and all that the blocks of the body declare, in the order of the text. An inlet
-- in it has activations of its own.
abbrev mutual
  pub block_variables : tree.Block → List Declared
  block_variables (tree.block locals stmts) = locals_variables locals ++ stmts_variables stmts

  pub locals_variables : tree.Locals → List Declared
  locals_variables tree.no_locals = []
  locals_variables (tree.and_local first others) = local_declares first ∷ locals_variables others

  pub stmts_variables : tree.Stmts → List Declared
  stmts_variables tree.none = []
  stmts_variables (tree.also first others) = stmt_variables first ++ stmts_variables others

  pub stmt_variables : tree.Stmt → List Declared
  stmt_variables (tree.when test body) = block_variables body
  stmt_variables (tree.either test body other) = block_variables body ++ block_variables other
  stmt_variables (tree.while test body) = block_variables body
  stmt_variables (tree.repeat body test) = block_variables body
  stmt_variables (tree.loop first test advance body) = block_variables body
  stmt_variables (tree.switch test body) = block_variables body
  stmt_variables (tree.nested inside) = block_variables inside
  stmt_variables other = []

abbrev pub item_activations : tree.Item → List (List Declared)
item_activations (tree.procedure f) = (parameters_declare f.parameters ++ block_variables f.body) ∷ []
item_activations (tree.global g) = []
item_activations (tree.lock name) = []
item_activations (tree.prototype q) = []

abbrev pub inlet_activations : Part → List (List Declared)
inlet_activations (local (tree.inlet_at at name parameters body)) = (map parameter parameters ++ block_variables body) ∷ []
inlet_activations (local (tree.declared d)) = []
inlet_activations (statement what) = []

-- of each function, procedure and inlet
abbrev pub activations_of : tree.Program → List (List Declared)
activations_of p = flat_map item_activations p.items ++ flat_map (λ s. inlet_activations s.part) (parts_of p)
