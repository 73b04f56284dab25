-- What the forms of a program must not be, and what room it must not take.
use Rattle.std.specs.Prelude.{◌≡◌, ◌≢◌, ℕ, Bool, true, false, IsTrue, IsFalse, ◌≤◌, ◌<◌, List, [], ◌∷◌, ◌++◌, flat_map, length, codes, Contains}
use Rattle.std.specs.Prelude.{Option, Some, is_some, is_none, slice_get}
use Rattle.cilk_tree_syntax.specs.declared.return_type.ReturnType.{ReturnType}
use Rattle.cilk_tree_syntax.specs.declared.return_type.ReturnType.TheVariants.{Int, Void}
use Rattle.cilk_tree_syntax.specs.Tree.{Word}
use Rattle.cilk_tree_syntax.specs.Tree as tree
use Rattle.cilk_check_scopes.specs.declared.fault.CheckFault.{CheckFault}
use Rattle.cilk_check_scopes.specs.declared.fault.CheckFault.TheVariants.{NotInProcedure, InInlet, AbortOutside, NoLoop, NoMain, ReturnForm, Format, Limit}
use Rattle.cilk_check_scopes.specs.declared.fault.CheckFault.TheVariants.{Label}
use Rattle.cilk_check_scopes.specs.declared.owner.Owner.{Owner}
use Rattle.cilk_check_scopes.specs.declared.owner.Owner.TheVariants as owner
use Rattle.cilk_check_scopes.specs.declared.declaration_kind.DeclarationKind.TheVariants.{Array}
use Rattle.cilk_check_scopes.specs.Scopes.{Declared, file_declares}
use Rattle.cilk_check_scopes.specs.Parts.{Around, Part, local, statement, parts_of, part_exprs}
use Rattle.cilk_check_scopes.specs.Declarations.{Declaring, declarings_of, activations_of}
use Rattle.cilk_check_scopes.specs.Cells.{cells, max_cells, max_global_cells, is_length}
use Rattle.cilk_check_scopes.specs.Format.{numbers_in}

-- the places of the words `SYNCHED` in an expression (Cilk 5.4 manual, `SYNCHED`)
abbrev pub synched_in : tree.Expr → List ℕ
synched_in (tree.number n) = []
synched_in (tree.named name) = []
synched_in (tree.element name index) = synched_in index
synched_in (tree.synched at) = at ∷ []
synched_in (tree.binary op left right) = synched_in left ++ synched_in right
synched_in (tree.unary op operand) = synched_in operand
synched_in (tree.choose test first second) = synched_in test ++ (synched_in first ++ synched_in second)

-- the place of the word `spawn` or `sync`, if a part is one of these statements
abbrev pub own_word : Part → List ℕ
own_word (statement (tree.spawn_at at taker callee arguments)) = at ∷ []
own_word (statement (tree.sync_at at)) = at ∷ []
own_word other = []

-- the places of the words `spawn`, `sync` and `SYNCHED` in a part itself
abbrev pub words_of_children : Part → List ℕ
words_of_children part = own_word part ++ flat_map synched_in (part_exprs part)

-- what a body returns: an inlet nothing
abbrev pub returned_by : Owner → ReturnType
returned_by (owner.Function returns) = returns
returned_by (owner.Procedure returns) = returns
returned_by owner.Inlet = Void

-- a `return` has a value where an `int` is returned, and else none (C 1990, 6.6.6.4)
abbrev pub has_form : ReturnType → Option tree.Expr → Bool
has_form Int value = is_some value
has_form Void value = is_none value

-- a body in which an inlet may be defined
abbrev pub is_procedure : Owner → Bool
is_procedure (owner.Function returns) = false
is_procedure (owner.Procedure returns) = true
is_procedure owner.Inlet = false

-- the label, if a statement is one
abbrev pub own_label : tree.Stmt → List tree.Label
own_label (tree.labelled label) = label ∷ []
own_label other = []

abbrev pub stmts_labels : tree.Stmts → List tree.Label
stmts_labels tree.none = []
stmts_labels (tree.also first others) = own_label first ++ stmts_labels others

-- the labels that stand directly in the block of a `switch`, in the order of the text (C 1990, 6.6.4.2)
abbrev pub labels_of : tree.Block → List tree.Label
labels_of (tree.block _ stmts) = stmts_labels stmts

-- no parameters, or those of the form that is told of the command line (C 1990, 5.1.2.2.1)
abbrev pub are_of_main : tree.Parameters → Bool
are_of_main (tree.ints []) = true
are_of_main (tree.ints (name ∷ names)) = false
are_of_main (tree.command_line count strings) = true

-- a `cilk int main` to start with (Cilk 5.4 manual, `main`)
pub record IsMain (f : tree.Proc) : Type 0 where
  pub is_cilk : f.is_cilk ≡ true
  pub returns : f.returns ≡ Int
  pub named : f.name.text ≡ codes "main"
  pub parameters : IsTrue (are_of_main f.parameters)

-- the last of some declarations is the one that passes a limit of cells
pub record Passes (limit : ℕ) (before : List Declared) (d : Declared) : Type 0 where
  pub within : cells before ≤ limit
  pub past : limit < cells (before ++ d ∷ [])

-- what is wrong with the forms of a program, and at which place
pub data Faulty (p : tree.Program) : CheckFault → Type 0 where
  -- `spawn`, `sync` or `SYNCHED` in a C function (Cilk 5.4 manual, `cilk`)
  in_function : (a : Around) (part : Part) (returns : ReturnType) (at : ℕ) → Contains (parts_of p) (record { around = a; part = part })
      → a.within.owner ≡ owner.Function returns → Contains (words_of_children part) at → Faulty p (NotInProcedure at)
  -- an inlet in a C function or in an inlet, or in an inner block (Cilk 5.4 manual, `inlet`)
  inlet_in_no_procedure : (a : Around) (at : ℕ) (name : Word) (parameters : List Word) (body : tree.Block)
      → Contains (parts_of p) (record { around = a; part = local (tree.inlet_at at name parameters body) })
      → IsFalse (is_procedure a.within.owner) → Faulty p (NotInProcedure at)
  inlet_in_inner_block : (a : Around) (at : ℕ) (name : Word) (parameters : List Word) (body : tree.Block)
      → Contains (parts_of p) (record { around = a; part = local (tree.inlet_at at name parameters body) }) → IsFalse a.within.outermost
      → Faulty p (NotInProcedure at)
  -- `spawn`, `sync` or `SYNCHED` in an inlet (Cilk 5.4 manual, `inlet`)
  in_inlet : (a : Around) (part : Part) (at : ℕ) → Contains (parts_of p) (record { around = a; part = part }) → a.within.owner ≡ owner.Inlet
      → Contains (words_of_children part) at → Faulty p (InInlet at)
  -- `abort` in no inlet (Cilk 5.4 manual, `abort`)
  abort_outside : (a : Around) (at : ℕ) → Contains (parts_of p) (record { around = a; part = statement (tree.abort_at at) })
      → a.within.owner ≢ owner.Inlet → Faulty p (AbortOutside at)
  -- `break` in no loop or `switch` of its body (C 1990, 6.6.6.3)
  break_outside : (a : Around) (at : ℕ) → Contains (parts_of p) (record { around = a; part = statement (tree.break_at at) })
      → IsFalse a.within.in_loop_or_switch → Faulty p (NoLoop at)
  -- `continue` in no loop of its body (C 1990, 6.6.6.2)
  continue_outside : (a : Around) (at : ℕ) → Contains (parts_of p) (record { around = a; part = statement (tree.continue_at at) })
      → IsFalse a.within.in_loop → Faulty p (NoLoop at)
  -- no procedure of the program is one to start with
  no_main : ((f : tree.Proc) → Contains p.items (tree.procedure f) → ¬ IsMain f) → Faulty p (NoMain p.length)
  -- a `return` with a value in a `void` body, or without one in an `int` body (C 1990, 6.6.6.4)
  return_form : (a : Around) (at : ℕ) (value : Option tree.Expr)
      → Contains (parts_of p) (record { around = a; part = statement (tree.return_at at value) })
      → IsFalse (has_form (returned_by a.within.owner) value) → Faulty p (ReturnForm at)
  -- a format with another conversion, or not as many numbers as arguments (C 1990, 7.9.6.1)
  format : (a : Around) (text : tree.Literal) (arguments : List tree.Expr)
      → Contains (parts_of p) (record { around = a; part = statement (tree.print text arguments) })
      → numbers_in text.bytes ≢ Some (length arguments) → Faulty p (Format text.place)
  -- an array of a length that none may have
  array_length : (d : Declaring) (n : ℕ) → Contains (declarings_of p) d → d.declared.kind ≡ Array n → IsFalse (is_length n)
      → Faulty p (Limit d.declared.name.place)
  -- the declaration that passes the cells of its activation
  limit : (before after : List Declared) (d : Declared) → Contains (activations_of p) (before ++ d ∷ after) → Passes max_cells before d
      → Faulty p (Limit d.name.place)
  -- the one that passes the cells of the top level
  global_limit : (before after : List Declared) (d : Declared) → file_declares p.items ≡ before ++ d ∷ after
      → Passes max_global_cells before d → Faulty p (Limit d.name.place)
  -- a label that says what one before it says in the same `switch`: the same value, or both of them `default` (C 1990, 6.6.4.2)
  same_label : (a : Around) (test : tree.Expr) (body : tree.Block) (i k : ℕ) (first second : tree.Label)
      → Contains (parts_of p) (record { around = a; part = statement (tree.switch test body) })
      → slice_get (labels_of body) i ≡ Some first → slice_get (labels_of body) k ≡ Some second → i < k
      → first.value ≡ second.value → Faulty p (Label second.at)
