-- What the names of a program must not be.
use Rattle.std.specs.Prelude.{◌≡◌, ◌≢◌, ℕ, Bool, true, false, IsFalse, List, length, codes, Contains, Option, Some, None, IsSome, IsNone}
use Rattle.cilk_tree_syntax.specs.declared.return_type.ReturnType.{ReturnType}
use Rattle.cilk_tree_syntax.specs.declared.return_type.ReturnType.TheVariants.{Void}
use Rattle.cilk_tree_syntax.specs.Tree.{Word}
use Rattle.cilk_tree_syntax.specs.Tree as tree
use Rattle.cilk_check_scopes.specs.declared.fault.CheckFault.{CheckFault}
use Rattle.cilk_check_scopes.specs.declared.fault.CheckFault.TheVariants.{Twice, Unknown, WrongKind, ArgumentCount, VoidValue, InletNeedsSpawn}
use Rattle.cilk_check_scopes.specs.declared.fault.CheckFault.TheVariants.{Prototype, Reserved}
use Rattle.cilk_check_scopes.specs.declared.declaration_kind.DeclarationKind.{DeclarationKind}
use Rattle.cilk_check_scopes.specs.declared.declaration_kind.DeclarationKind.TheVariants as kind
use Rattle.cilk_check_scopes.specs.Scopes.{Declared, declared_in, meaning}
use Rattle.cilk_check_scopes.specs.Declarations.{Declaring, declarings_of}
use Rattle.cilk_check_scopes.specs.Reserved.{IsReserved}
use Rattle.cilk_check_scopes.specs.declared.role.Role.{Role}
use Rattle.cilk_check_scopes.specs.declared.role.Role.TheVariants as role
use Rattle.cilk_check_scopes.specs.Uses.{Use, uses_of}

-- whether a use needs a declaration of this kind; that an inlet is called, and given no spawn, has a rule of its own
abbrev pub fits : Role → DeclarationKind → Bool
fits role.Variable kind.Variable = true
fits role.Array (kind.Array n) = true
fits role.Lock kind.Lock = true
fits (role.Called arguments for_value) (kind.Function returns n) = true
fits (role.Called arguments for_value) (kind.Inlet n) = true
fits (role.Spawned arguments for_value) (kind.Procedure returns n) = true
fits (role.Fed arguments) (kind.Inlet n) = true
fits other declared = false

-- how many arguments a use gives, and how many parameters a declaration has
abbrev pub arguments_of : Role → Option ℕ
arguments_of (role.Called arguments for_value) = Some arguments
arguments_of (role.Spawned arguments for_value) = Some arguments
arguments_of (role.Fed arguments) = Some arguments
arguments_of other = None

abbrev pub parameters_of : DeclarationKind → Option ℕ
parameters_of (kind.Function returns n) = Some n
parameters_of (kind.Procedure returns n) = Some n
parameters_of (kind.Inlet n) = Some n
parameters_of other = None

-- what a function or procedure returns
abbrev pub returned_by : DeclarationKind → Option ReturnType
returned_by (kind.Function returns n) = Some returns
returned_by (kind.Procedure returns n) = Some returns
returned_by other = None

-- whether a use takes the value of what is called or spawned
abbrev pub is_for_value : Role → Bool
is_for_value (role.Called arguments for_value) = for_value
is_for_value (role.Spawned arguments for_value) = for_value
is_for_value other = false

-- a name that is not reserved is used, and means this declaration there
pub record Means (p : tree.Program) (used : Use) (d : Declared) : Type 0 where
  pub is_use : Contains (uses_of p) used
  pub unreserved : ¬ IsReserved used.name
  pub visible : meaning used.scopes used.name.text ≡ Some d

-- a definition is of what a prototype declares; none declares the form of `main` that is told of the command line (C 1990, 6.5.4.3)
pub record Defines (f : tree.Proc) (q : tree.Prototype) : Type 0 where
  pub name : f.name.text ≡ q.name.text
  pub is_cilk : f.is_cilk ≡ q.is_cilk
  pub returns : f.returns ≡ q.returns
  pub parameters : (names : List Word) × (f.parameters ≡ tree.ints names) × (length names ≡ q.count)

-- what is wrong with the names of a program, and at which place
pub data Faulty (p : tree.Program) : CheckFault → Type 0 where
  -- a name is declared again in its scope (C 1990, 6.5)
  twice : (d : Declaring) → Contains (declarings_of p) d → IsSome (declared_in d.before d.declared.name.text) → Faulty p (Twice d.declared.name.place)
  -- a name that is not reserved is used where it is not visible (C 1990, 6.3.1)
  unknown : (used : Use) → Contains (uses_of p) used → ¬ IsReserved used.name → IsNone (meaning used.scopes used.name.text) → Faulty p (Unknown used.name.place)
  -- it is visible, and means no `int` variable, array, lock, C function, Cilk procedure or inlet where one is needed
  wrong_kind : (used : Use) (d : Declared) → Means p used d → IsFalse (fits used.role d.kind) → Faulty p (WrongKind used.name.place)
  -- `main` is spawned, which this language leaves out
  main_spawned : (used : Use) (d : Declared) (arguments : ℕ) (for_value : Bool) → Means p used d
      → used.role ≡ role.Spawned arguments for_value → used.name.text ≡ codes "main" → Faulty p (WrongKind used.name.place)
  -- a function, procedure or inlet is given another number of arguments than it has parameters (C 1990, 6.3.2.2)
  argument_count : (used : Use) (d : Declared) (given wanted : ℕ) → Means p used d → arguments_of used.role ≡ Some given
      → parameters_of d.kind ≡ Some wanted → given ≢ wanted → Faulty p (ArgumentCount used.name.place)
  -- the value of a `void` function or procedure is used (C 1990, 6.2.2.2)
  void_value : (used : Use) (d : Declared) → Means p used d → is_for_value used.role ≡ true → returned_by d.kind ≡ Some Void
      → Faulty p (VoidValue used.name.place)
  -- an inlet is called without a spawn (Cilk 5.4 manual, `inlet`)
  inlet_called : (used : Use) (d : Declared) (arguments wanted : ℕ) (for_value : Bool) → Means p used d
      → used.role ≡ role.Called arguments for_value → d.kind ≡ kind.Inlet wanted → Faulty p (InletNeedsSpawn used.name.place)
  -- nothing defines what a prototype declares
  undefined : (q : tree.Prototype) → Contains p.items (tree.prototype q)
      → ((f : tree.Proc) → Contains p.items (tree.procedure f) → ¬ Defines f q) → Faulty p (Prototype q.name.place)
  -- a reserved name is declared, used, or has a prototype
  reserved_declared : (d : Declaring) → Contains (declarings_of p) d → IsReserved d.declared.name → Faulty p (Reserved d.declared.name.place)
  reserved_used : (used : Use) → Contains (uses_of p) used → IsReserved used.name → Faulty p (Reserved used.name.place)
  reserved_prototype : (q : tree.Prototype) → Contains p.items (tree.prototype q) → IsReserved q.name → Faulty p (Reserved q.name.place)
