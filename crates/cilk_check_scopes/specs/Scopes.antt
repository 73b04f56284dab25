-- What is declared, and what a name means where it stands (C 1990, 6.1.2.1).
use Rattle.std.specs.Prelude.{ℕ, Bool, true, false, List, [], ◌∷◌, ◌++◌, map, flat_map, length, find, bytes_eq, Option}
use Rattle.cilk_tree_syntax.specs.declared.return_type.ReturnType.{ReturnType}
use Rattle.cilk_tree_syntax.specs.Tree.{Word}
use Rattle.cilk_tree_syntax.specs.Tree as tree
use Rattle.cilk_check_scopes.specs.declared.declaration_kind.DeclarationKind.{DeclarationKind}
use Rattle.cilk_check_scopes.specs.declared.declaration_kind.DeclarationKind.TheVariants.{Variable, Array, Lock, Strings, Function, Procedure, Inlet}

-- a name, and what it is declared as
pub record Declared : Type 0 where
  pub name : Word
  pub kind : DeclarationKind

-- what is declared where something stands, in the innermost scope and in those around it: the nearest first, and of the top level the first in the text
pub record Scopes : Type 0 where
  pub innermost : List Declared
  pub outer : List Declared

-- the nearest declaration of a name
abbrev pub declared_in : List Declared → List ℕ → Option Declared
declared_in ds name = find (λ d. bytes_eq d.name.text name) ds

-- what a name means: a declaration of an inner scope hides those of the outer ones
abbrev pub meaning : Scopes → List ℕ → Option Declared
meaning scopes name = declared_in (scopes.innermost ++ scopes.outer) name

-- behind one more declaration
abbrev pub declare : Scopes → Declared → Scopes
declare scopes d = record { innermost = d ∷ scopes.innermost; outer = scopes.outer }

-- in one more scope
abbrev pub enter : Scopes → Scopes
enter scopes = record { innermost = []; outer = scopes.innermost ++ scopes.outer }

-- behind these declarations, in the order of the text
abbrev pub declare_all : Scopes → List Declared → Scopes
declare_all scopes [] = scopes
declare_all scopes (d ∷ ds) = declare_all (declare scopes d) ds

-- what a parameter declares
abbrev pub parameter : Word → Declared
parameter name = record { name = name; kind = Variable }

abbrev pub parameters_declare : tree.Parameters → List Declared
parameters_declare (tree.ints names) = map parameter names
parameters_declare (tree.command_line count strings) =
    parameter count ∷ record { name = strings; kind = Strings } ∷ []

-- how many arguments are taken: the second parameter of the form of `main` that is told of the command line is no variable (C 1990, 5.1.2.2.1)
abbrev pub parameter_count : tree.Parameters → ℕ
parameter_count (tree.ints names) = length names
parameter_count (tree.command_line count strings) = 1

abbrev pub kind_of_shape : tree.Shape → DeclarationKind
kind_of_shape (tree.variable value) = Variable
kind_of_shape (tree.array n) = Array n

-- what a declaration at the head of a block declares
abbrev pub local_declares : tree.Local → Declared
local_declares (tree.declared d) = record { name = d.name; kind = kind_of_shape d.shape }
local_declares (tree.inlet_at at name parameters body) = record { name = name; kind = Inlet (length parameters) }

abbrev pub kind_of_global : tree.GlobalShape → DeclarationKind
kind_of_global (tree.global_variable value) = Variable
kind_of_global (tree.global_array n) = Array n

abbrev pub kind_of_body : Bool → ReturnType → ℕ → DeclarationKind
kind_of_body true returns n = Procedure returns n
kind_of_body false returns n = Function returns n

-- what an item declares: a prototype nothing, since the definition does
abbrev pub item_declares : tree.Item → List Declared
item_declares (tree.global g) = record { name = g.name; kind = kind_of_global g.shape } ∷ []
item_declares (tree.lock name) = record { name = name; kind = Lock } ∷ []
item_declares (tree.prototype q) = []
item_declares (tree.procedure f) =
    record { name = f.name; kind = kind_of_body f.is_cilk f.returns (parameter_count f.parameters) } ∷ []

-- what the top level declares, which is visible in the whole file
abbrev pub file_declares : List tree.Item → List Declared
file_declares items = flat_map item_declares items

abbrev pub file_scopes : List tree.Item → Scopes
file_scopes items = record { innermost = file_declares items; outer = [] }
