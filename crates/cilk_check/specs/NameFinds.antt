-- The faults in the names of a program as a list.
use Rattle.std.specs.Prelude.{ℕ, List, [], ◌∷◌, ◌++◌, Bool, true, false, not, length, ◌&&◌, ◌==◌, if◌then◌else◌, codes, Option, Some, None, is_some}
use Rattle.std.specs.Prelude.{option_map, flat_map, map, bytes_eq}
use Rattle.std.specs.List.{list_any}
use Rattle.cilk_check_scopes.specs.syntax.declared.return_type.ReturnType.{ReturnType}
use Rattle.cilk_check_scopes.specs.syntax.declared.return_type.ReturnType.TheVariants.{Int, Void}
use Rattle.cilk_check_scopes.specs.syntax.Tree.{Word}
use Rattle.cilk_check_scopes.specs.syntax.Tree as tree
use Rattle.cilk_check_scopes.specs.declared.fault.CheckFault.{CheckFault}
use Rattle.cilk_check_scopes.specs.declared.fault.CheckFault.TheVariants.{Twice, Unknown, WrongKind, ArgumentCount, VoidValue, InletNeedsSpawn}
use Rattle.cilk_check_scopes.specs.declared.fault.CheckFault.TheVariants.{Prototype, Reserved}
use Rattle.cilk_check_scopes.specs.First.{fault_if}
use Rattle.cilk_check_scopes.specs.declared.declaration_kind.DeclarationKind.{DeclarationKind}
use Rattle.cilk_check_scopes.specs.declared.declaration_kind.DeclarationKind.TheVariants as kind
use Rattle.cilk_check_scopes.specs.Scopes.{Scopes, Declared, declared_in, meaning, declare, declare_all, enter, parameter, parameters_declare}
use Rattle.cilk_check_scopes.specs.Scopes.{local_declares, file_declares, file_scopes}
use Rattle.cilk_check_scopes.specs.Parts.{Part, local, statement, local_exprs, stmt_exprs}
use Rattle.cilk_check_scopes.specs.Declarations.{Declaring, declaring}
use Rattle.cilk_check_scopes.specs.Reserved.{c_keywords, library_names}
use Rattle.cilk_check_scopes.specs.declared.role.Role.{Role}
use Rattle.cilk_check_scopes.specs.declared.role.Role.TheVariants as role
use Rattle.cilk_check_scopes.specs.Uses.{Use, expr_uses, stmt_uses}
use Rattle.cilk_check_scopes.specs.NameFaults.{fits, arguments_of, parameters_of, returned_by, is_for_value}

-- whether a text is one of these names
abbrev pub is_one_of : List (List ℕ) → List ℕ → Bool
is_one_of names text = list_any (λ name. bytes_eq name text) names

abbrev pub is_reserved : List ℕ → Bool
is_reserved text = is_one_of (c_keywords ++ library_names) text

-- whether two numbers are there, and differ
abbrev pub differ : Option ℕ → Option ℕ → Bool
differ (Some given) (Some wanted) = not (given == wanted)
differ None other = false
differ (Some given) None = false

abbrev pub is_void : Option ReturnType → Bool
is_void (Some Void) = true
is_void (Some Int) = false
is_void None = false

abbrev pub is_spawned : Role → Bool
is_spawned (role.Spawned arguments for_value) = true
is_spawned other = false

abbrev pub is_called : Role → Bool
is_called (role.Called arguments for_value) = true
is_called other = false

abbrev pub is_inlet : DeclarationKind → Bool
is_inlet (kind.Inlet n) = true
is_inlet other = false

-- of a use that means a declaration
unfoldable pub meant_faults : Word → Role → DeclarationKind → List CheckFault
meant_faults name role kind =
    fault_if (not (fits role kind)) (WrongKind name.place)
    ++ (fault_if (is_spawned role && bytes_eq name.text (codes "main")) (WrongKind name.place)
    ++ (fault_if (differ (arguments_of role) (parameters_of kind)) (ArgumentCount name.place)
    ++ (fault_if (is_for_value role && is_void (returned_by kind)) (VoidValue name.place)
    ++ fault_if (is_called role && is_inlet kind) (InletNeedsSpawn name.place))))

-- of a use of a name that is not reserved, where it means this
abbrev pub visible_faults : Word → Role → Option DeclarationKind → List CheckFault
visible_faults name role None = Unknown name.place ∷ []
visible_faults name role (Some kind) = meant_faults name role kind

-- of a use
abbrev pub name_faults : Scopes → Word → Role → List CheckFault
name_faults scopes name role =
    if is_reserved name.text then Reserved name.place ∷ [] else visible_faults name role (option_map (λ d. d.kind) (meaning scopes name.text))

unfoldable pub use_faults : Use → List CheckFault
use_faults used = name_faults used.scopes used.name used.role

-- of a declaration
unfoldable pub declaring_faults : Declaring → List CheckFault
declaring_faults d =
    fault_if (is_some (declared_in d.before d.declared.name.text)) (Twice d.declared.name.place)
    ++ fault_if (is_reserved d.declared.name.text) (Reserved d.declared.name.place)

-- whether an item defines what a prototype declares
abbrev pub has_count : tree.Parameters → ℕ → Bool
has_count (tree.ints names) n = length names == n
has_count (tree.command_line count strings) n = false

abbrev pub same_bool : Bool → Bool → Bool
same_bool true b = b
same_bool false b = not b

abbrev pub same_return : ReturnType → ReturnType → Bool
same_return Int Int = true
same_return Int Void = false
same_return Void Int = false
same_return Void Void = true

abbrev pub defines : tree.Prototype → tree.Item → Bool
defines q (tree.procedure f) =
    bytes_eq f.name.text q.name.text && (same_bool f.is_cilk q.is_cilk && (same_return f.returns q.returns && has_count f.parameters q.count))
defines q (tree.global g) = false
defines q (tree.lock name) = false
defines q (tree.prototype other) = false

-- of an item among those of a program, if it is a prototype
abbrev pub prototype_faults : List tree.Item → tree.Item → List CheckFault
prototype_faults items (tree.prototype q) =
    fault_if (not (list_any (defines q) items)) (Prototype q.name.place) ++ fault_if (is_reserved q.name.text) (Reserved q.name.place)
prototype_faults items (tree.global g) = []
prototype_faults items (tree.lock name) = []
prototype_faults items (tree.procedure f) = []

-- of what an expression uses
abbrev pub expr_faults : Scopes → tree.Expr → List CheckFault
expr_faults scopes e = flat_map use_faults (expr_uses scopes e)

abbrev pub exprs_faults : Scopes → List tree.Expr → List CheckFault
exprs_faults scopes es = flat_map (expr_faults scopes) es

abbrev pub value_faults : Scopes → Option tree.Expr → List CheckFault
value_faults scopes None = []
value_faults scopes (Some e) = expr_faults scopes e

-- of a part itself, but for the parameters of an inlet
unfoldable pub part_faults : Scopes → Part → List CheckFault
part_faults scopes (local what) =
    declaring_faults (record { before = scopes.innermost; declared = local_declares what })
    ++ exprs_faults (declare scopes (local_declares what)) (local_exprs what)
part_faults scopes (statement what) = flat_map use_faults (stmt_uses scopes what) ++ exprs_faults scopes (stmt_exprs what)

-- of declarations that begin a scope
abbrev pub scope_faults : List Declared → List CheckFault
scope_faults ds = flat_map declaring_faults (declaring [] ds)

-- what is visible behind the declarations of a block
abbrev pub behind_locals : Scopes → tree.Locals → Scopes
behind_locals scopes tree.no_locals = scopes
behind_locals scopes (tree.and_local first others) = behind_locals (declare scopes (local_declares first)) others

abbrev pub behind_block : Scopes → tree.Block → Scopes
behind_block scopes (tree.block locals stmts) = behind_locals scopes locals

-- of a block, with what stands inside its parts
abbrev mutual
  pub block_faults : Scopes → tree.Block → List CheckFault
  block_faults scopes (tree.block locals stmts) = locals_faults scopes locals ++ stmts_faults (behind_locals scopes locals) stmts

  pub locals_faults : Scopes → tree.Locals → List CheckFault
  locals_faults scopes tree.no_locals = []
  locals_faults scopes (tree.and_local first others) =
      part_faults scopes (local first)
      ++ (inside_local (declare scopes (local_declares first)) first ++ locals_faults (declare scopes (local_declares first)) others)

  -- where the declaration is visible
  pub inside_local : Scopes → tree.Local → List CheckFault
  inside_local scopes (tree.declared d) = []
  inside_local scopes (tree.inlet_at at name parameters body) =
      scope_faults (map parameter parameters) ++ block_faults (declare_all (enter scopes) (map parameter parameters)) body

  pub stmts_faults : Scopes → tree.Stmts → List CheckFault
  stmts_faults scopes tree.none = []
  stmts_faults scopes (tree.also first others) =
      part_faults scopes (statement first) ++ (inside_stmt scopes first ++ stmts_faults scopes others)

  pub inside_stmt : Scopes → tree.Stmt → List CheckFault
  inside_stmt scopes (tree.when test body) = block_faults (enter scopes) body
  inside_stmt scopes (tree.either test body other) = block_faults (enter scopes) body ++ block_faults (enter scopes) other
  inside_stmt scopes (tree.while test body) = block_faults (enter scopes) body
  inside_stmt scopes (tree.repeat body test) = block_faults (enter scopes) body
  inside_stmt scopes (tree.loop first test advance body) = block_faults (enter scopes) body
  inside_stmt scopes (tree.switch test body) = block_faults (enter scopes) body
  inside_stmt scopes (tree.nested inside) = block_faults (enter scopes) inside
  inside_stmt scopes other = []

-- of a function or procedure: of its parameters and of its body
unfoldable pub procedure_faults : Scopes → tree.Proc → List CheckFault
procedure_faults file f =
    scope_faults (parameters_declare f.parameters)
    ++ block_faults (declare_all (enter file) (parameters_declare f.parameters)) f.body

abbrev pub item_faults : Scopes → tree.Item → List CheckFault
item_faults file (tree.procedure f) = procedure_faults file f
item_faults file (tree.global g) = []
item_faults file (tree.lock name) = []
item_faults file (tree.prototype q) = []

-- of what the top level declares, of its prototypes, and of its bodies
abbrev pub items_faults : List tree.Item → List CheckFault
items_faults items =
    scope_faults (file_declares items)
    ++ (flat_map (prototype_faults items) items ++ flat_map (item_faults (file_scopes items)) items)

-- of a program
abbrev pub names_faults : tree.Program → List CheckFault
names_faults p = items_faults p.items
