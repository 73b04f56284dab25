-- The table of a body, from its parts.
use Rattle.std.proofs.Common.{◌≡◌, ℕ, suc, ◌+◌, List, [], ◌∷◌, ◌++◌, length, refl, ap, ◌∙◌, arith, unwrap_or}
use Rattle.cilk_tree_syntax.specs.Tree as tree
use Rattle.cilk_load_nodes.specs.scopes.declared.owner.Owner.{Owner}
use Rattle.cilk_load_nodes.specs.declared.area.Area.{Area}
use Rattle.cilk_load_nodes.specs.declared.area.Area.TheVariants.{Own}
use Rattle.cilk_load_nodes.specs.labelled.Labelled.{Variable}
use Rattle.cilk_load_nodes.specs.labelled.Label.{block_variables}
use Rattle.cilk_load_nodes.specs.declared.body.Body as table
use Rattle.cilk_load_nodes.specs.declared.var.Var.{Var}
use Rattle.cilk_load_nodes.specs.Slots.{size_of, cells_of}
use Rattle.cilk_load_nodes.specs.Bodies.{vars_from}
use Rattle.cilk_load_nodes.specs.labelled.Count.{count_local}
use Rattle.cilk_load.specs.BodyTables.{body_first, table_of, inlet_tables}
use Rattle.cilk_load.proofs.Cells.{cells_of-append, joined}

-- a variable of the table for each variable
pub length-vars : (area : Area) (at : ℕ) (vs : List Variable) → length (vars_from area at vs) ≡ length vs
length-vars area at [] = refl
length-vars area at (v ∷ vs) = ap suc (length-vars area (at + size_of v) vs)

pub table-made : (at : ℕ) (owner own : Owner) (name : tree.Word) (parameters : List Variable) (body : tree.Block) (text : List ℕ)
    (entry params cells middle : ℕ) (before some vars : List Var) → text ≡ name.text → own ≡ owner → entry ≡ unwrap_or (body_first at body) 0
    → before ≡ [] → some ≡ before ++ vars_from Own 0 parameters → middle ≡ 0 + cells_of parameters → params ≡ length some
    → vars ≡ some ++ vars_from Own middle (block_variables body) → cells ≡ middle + cells_of (block_variables body)
    → ◌≡◌ {A = table.Body} (record { name = text; owner = own; entry = entry; params = params; cells = cells; vars = vars })
    (table_of at owner name parameters body)
table-made at owner own name parameters body text entry params cells middle before some vars et eo ee eb es em ep ev ec =
    let count : params ≡ length parameters = ep ∙ ap length (es ∙ ap (λ (vs : List Var). vs ++ vars_from Own 0 parameters) eb) ∙ length-vars Own 0 parameters in
    let size : cells ≡ cells_of (parameters ++ block_variables body) = omega (arith, ec, em, cells_of-append parameters (block_variables body)) in
    let all : vars ≡ vars_from Own 0 (parameters ++ block_variables body) =
    joined Own 0 middle before some vars parameters (block_variables body) es em ev
    ∙ ap (λ (vs : List Var). vs ++ vars_from Own 0 (parameters ++ block_variables body)) eb
    in
    λ i. record { name = et i; owner = eo i; entry = ee i; params = count i; cells = size i; vars = all i }

-- the tables of the first of some declarations come first
pub tables-first : (at : ℕ) (first : tree.Local) (others : tree.Locals)
    → inlet_tables at (tree.and_local first others) ≡ inlet_tables at (tree.and_local first tree.no_locals) ++ inlet_tables (at + count_local first) others
tables-first at (tree.declared d) others = refl
tables-first at (tree.inlet_at place name parameters body) others = refl
