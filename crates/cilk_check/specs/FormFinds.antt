-- The faults in the forms of a program as a list, part by part.
use Rattle.std.specs.Prelude.{ℕ, ℤ, List, [], ◌∷◌, ◌++◌, Bool, true, false, not, length, ◌-◌, ◌==◌, nat_le, if◌then◌else◌, Option, Some}
use Rattle.std.specs.Prelude.{None, flat_map, map}
use Rattle.std.specs.List.{list_any}
use Rattle.std.specs.Option.{option_cmp}
use Rattle.std.specs.Ordering.{is_eq, int_cmp}
use Rattle.cilk_check_scopes.specs.syntax.Tree as tree
use Rattle.cilk_check_scopes.specs.declared.fault.CheckFault.{CheckFault}
use Rattle.cilk_check_scopes.specs.declared.fault.CheckFault.TheVariants.{NotInProcedure, AbortOutside, NoLoop, NoMain, ReturnForm, Format, Limit}
use Rattle.cilk_check_scopes.specs.declared.fault.CheckFault.TheVariants.{Label}
use Rattle.cilk_check_scopes.specs.declared.declaration_kind.DeclarationKind.{DeclarationKind}
use Rattle.cilk_check_scopes.specs.declared.declaration_kind.DeclarationKind.TheVariants.{Array}
use Rattle.cilk_check_scopes.specs.declared.owner.Owner.{Owner}
use Rattle.cilk_check_scopes.specs.declared.owner.Owner.TheVariants as owner
use Rattle.cilk_check_scopes.specs.declared.within.Within.{Within}
use Rattle.cilk_check_scopes.specs.First.{fault_if}
use Rattle.cilk_check_scopes.specs.Scopes.{Declared, parameter, kind_of_shape, file_declares, parameters_declare}
use Rattle.cilk_check_scopes.specs.Within.{whole_body, inner_block, loop_block, switch_block}
use Rattle.cilk_check_scopes.specs.Parts.{Part, local, statement, PartInContext, owner_of, stmt_exprs, local_exprs}
use Rattle.cilk_check_scopes.specs.Declarations.{block_variables}
use Rattle.cilk_check_scopes.specs.Cells.{cells_of, max_cells, max_global_cells, is_length}
use Rattle.cilk_check_scopes.specs.Format.{numbers_in}
use Rattle.cilk_check_scopes.specs.Mains.{starts}
pub use Rattle.cilk_check_scopes.specs.WordFaults.{word_faults}
use Rattle.cilk_check_scopes.specs.Forms.{synched_in, own_word, returned_by, has_form, is_procedure, labels_of}

abbrev pub words_faults : Owner → List ℕ → List CheckFault
words_faults o places = flat_map (word_faults o) places

abbrev pub expr_faults : Owner → tree.Expr → List CheckFault
expr_faults o e = words_faults o (synched_in e)

abbrev pub exprs_faults : Owner → List tree.Expr → List CheckFault
exprs_faults o es = flat_map (expr_faults o) es

abbrev pub value_faults : Owner → Option tree.Expr → List CheckFault
value_faults o None = []
value_faults o (Some e) = expr_faults o e

abbrev pub is_inlet : Owner → Bool
is_inlet owner.Inlet = true
is_inlet (owner.Function returns) = false
is_inlet (owner.Procedure returns) = false

-- whether there are so many
abbrev pub is_count : ℕ → Option ℕ → Bool
is_count n None = false
is_count n (Some k) = k == n

-- of the length of an array
abbrev pub kind_faults : ℕ → DeclarationKind → List CheckFault
kind_faults at (Array n) = fault_if (not (is_length n)) (Limit at)
kind_faults at other = []

abbrev pub length_faults : Declared → List CheckFault
length_faults d = kind_faults d.name.place d.kind

-- of the declaration that passes what is left of a limit, if one does
abbrev pub passing : ℕ → List Declared → List CheckFault
passing left [] = []
passing left (d ∷ ds) =
    if nat_le (cells_of d.kind) left then passing (left - cells_of d.kind) ds else Limit d.name.place ∷ []

-- whether two labels say the same: one value, or both of them `default`
abbrev pub same_value : Option ℤ → Option ℤ → Bool
same_value v w = is_eq (option_cmp int_cmp v w)

-- of labels that stand one after another, where a test tells what those before them say
abbrev pub labels_faults : (Option ℤ → Bool) → List tree.Label → List CheckFault
labels_faults said [] = []
labels_faults said (l ∷ ls) = fault_if (said l.value) (Label l.at) ++ labels_faults (λ v. if same_value l.value v then true else said v) ls

-- what no label says
abbrev pub nothing_said : Option ℤ → Bool
nothing_said v = false

-- of a statement itself, but for the words in it
abbrev pub stmt_faults : Within → tree.Stmt → List CheckFault
stmt_faults w (tree.abort_at at) = fault_if (not (is_inlet w.owner)) (AbortOutside at)
stmt_faults w (tree.break_at at) = fault_if (not w.in_loop_or_switch) (NoLoop at)
stmt_faults w (tree.continue_at at) = fault_if (not w.in_loop) (NoLoop at)
stmt_faults w (tree.return_at at value) = fault_if (not (has_form (returned_by w.owner) value)) (ReturnForm at)
stmt_faults w (tree.print text arguments) =
    fault_if (not (is_count (length arguments) (numbers_in text.bytes))) (Format text.place)
stmt_faults w (tree.switch test body) = labels_faults nothing_said (labels_of body)
stmt_faults w other = []

-- of a part itself
unfoldable pub part_faults : Within → Part → List CheckFault
part_faults w (statement s) = stmt_faults w s ++ (words_faults w.owner (own_word (statement s)) ++ exprs_faults w.owner (stmt_exprs s))
part_faults w (local (tree.declared d)) =
    kind_faults d.name.place (kind_of_shape d.shape) ++ exprs_faults w.owner (local_exprs (tree.declared d))
part_faults w (local (tree.inlet_at at name parameters body)) =
    fault_if (not (is_procedure w.owner)) (NotInProcedure at)
    ++ (fault_if (not w.outermost) (NotInProcedure at) ++ passing max_cells (map parameter parameters ++ block_variables body))

abbrev pub standing_faults : PartInContext → List CheckFault
standing_faults s = part_faults s.around.within s.part

-- of a block, with what stands inside its parts
abbrev mutual
  pub block_faults : Within → tree.Block → List CheckFault
  block_faults w (tree.block locals stmts) = locals_faults w locals ++ stmts_faults w stmts

  pub locals_faults : Within → tree.Locals → List CheckFault
  locals_faults w tree.no_locals = []
  locals_faults w (tree.and_local first others) = part_faults w (local first) ++ (inside_local first ++ locals_faults w others)

  pub inside_local : tree.Local → List CheckFault
  inside_local (tree.declared d) = []
  inside_local (tree.inlet_at at name parameters body) = block_faults (whole_body owner.Inlet) body

  pub stmts_faults : Within → tree.Stmts → List CheckFault
  stmts_faults w tree.none = []
  stmts_faults w (tree.also first others) = part_faults w (statement first) ++ (inside_stmt w first ++ stmts_faults w others)

  pub inside_stmt : Within → tree.Stmt → List CheckFault
  inside_stmt w (tree.when test body) = block_faults (inner_block w) body
  inside_stmt w (tree.either test body other) = block_faults (inner_block w) body ++ block_faults (inner_block w) other
  inside_stmt w (tree.while test body) = block_faults (loop_block w) body
  inside_stmt w (tree.repeat body test) = block_faults (loop_block w) body
  inside_stmt w (tree.loop first test advance body) = block_faults (loop_block w) body
  inside_stmt w (tree.switch test body) = block_faults (switch_block w) body
  inside_stmt w (tree.nested inside) = block_faults (inner_block w) inside
  inside_stmt w other = []

-- of a function or procedure: of what an activation holds, and of its body
unfoldable pub procedure_faults : tree.Proc → List CheckFault
procedure_faults f =
    passing max_cells (parameters_declare f.parameters ++ block_variables f.body)
    ++ block_faults (whole_body (owner_of f.is_cilk f.returns)) f.body

abbrev pub item_faults : tree.Item → List CheckFault
item_faults (tree.procedure f) = procedure_faults f
item_faults (tree.global g) = []
item_faults (tree.lock name) = []
item_faults (tree.prototype q) = []

-- of a program: of what its top level declares, of its bodies, and of what it starts with
abbrev pub forms_faults : tree.Program → List CheckFault
forms_faults p =
    flat_map length_faults (file_declares p.items)
    ++ (passing max_global_cells (file_declares p.items)
    ++ (flat_map item_faults p.items ++ fault_if (not (list_any starts p.items)) (NoMain p.length)))
