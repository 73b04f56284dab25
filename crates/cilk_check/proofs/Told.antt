-- The faults of a part are those of what it declares and of what it uses.
use Rattle.std.proofs.Common.{List, [], map, inl, inr, refl, sym, subst}
use Rattle.std.specs.List.{flat_map}
use Rattle.cilk_check_scopes.specs.syntax.Tree as tree
use Rattle.cilk_check_scopes.specs.declared.fault.CheckFault.{CheckFault}
use Rattle.cilk_check_scopes.specs.Scopes.{Scopes, declare, parameter, local_declares}
use Rattle.cilk_check_scopes.specs.Declarations.{Declaring, declaring, part_declarings}
use Rattle.cilk_check_scopes.specs.Parts.{Part, local, statement, stmt_exprs, local_exprs}
use Rattle.cilk_check_scopes.proofs.Elements.{Has, Has-append_left, Has-append_right, Has-append_cases, Has-flat_map, Has-flat_map_cases}
use Rattle.cilk_check_scopes.specs.Uses.{Use, expr_uses, stmt_uses, part_uses}
use Rattle.cilk_check.specs.NameFinds.{declaring_faults, use_faults, expr_faults, exprs_faults, part_faults}
use Rattle.cilk_check.proofs.NameBlocks.{whole_faults}

-- a fault of a declaration, or of a use
pub data ToldBy (ds : List Declaring) (us : List Use) (f : CheckFault) : Type 0 where
  declares : (d : Declaring) → Has ds d → Has (declaring_faults d) f → ToldBy ds us f
  uses : (u : Use) → Has us u → Has (use_faults u) f → ToldBy ds us f

-- one in expressions
pub used_in : (scopes : Scopes) (es : List tree.Expr) (f : CheckFault) → Has (exprs_faults scopes es) f → (u : Use)
    × Has (flat_map (expr_uses scopes) es) u × Has (use_faults u) f
used_in scopes es f h =
    let o = Has-flat_map_cases (expr_faults scopes) es f h in
    let u = Has-flat_map_cases use_faults (expr_uses scopes o.owner) f o.has in
    (u.owner, Has-flat_map (expr_uses scopes) es o.owner u.owner o.is_element u.is_element, u.has)

pub has_used : (scopes : Scopes) (es : List tree.Expr) (u : Use) (f : CheckFault) → Has (flat_map (expr_uses scopes) es) u
    → Has (use_faults u) f → Has (exprs_faults scopes es) f
has_used scopes es u f h k =
    let o = Has-flat_map_cases (expr_uses scopes) es u h in
    Has-flat_map (expr_faults scopes) es o.owner f o.is_element (Has-flat_map use_faults (expr_uses scopes o.owner) u f o.has k)

local_told : (scopes : Scopes) (l : tree.Local) (f : CheckFault) → Has (part_faults scopes (local l)) f
    → ToldBy (part_declarings scopes (local l)) (part_uses scopes (local l)) f
unfolding part_faults
local_told scopes l f h =
    elim (Has-append_cases (declaring_faults (record { before = scopes.innermost; declared = local_declares l })) _ f h) [
      | inl k ↦ declares _ (inl refl) k
      | inr k ↦ let u = used_in (declare scopes (local_declares l)) (local_exprs l) f k in uses u.0 u.1 u.2
    ]

pub part_told : (scopes : Scopes) (part : Part) (f : CheckFault) → Has (whole_faults scopes part) f
    → ToldBy (part_declarings scopes part) (part_uses scopes part) f
unfolding part_faults
part_told scopes (local (tree.declared d)) f h = local_told scopes (tree.declared d) f h
part_told scopes (local (tree.inlet_at at name parameters body)) f h =
    elim (Has-append_cases (part_faults scopes (local (tree.inlet_at at name parameters body))) _ f h) [
      | inl k ↦ local_told scopes (tree.inlet_at at name parameters body) f k
      | inr k ↦
          let o = Has-flat_map_cases declaring_faults (declaring [] (map parameter parameters)) f k in
          declares o.owner (inr o.is_element) o.has
    ]
part_told scopes (statement s) f h =
    elim (Has-append_cases (flat_map use_faults (stmt_uses scopes s)) _ f h) [
      | inl k ↦
          let o = Has-flat_map_cases use_faults (stmt_uses scopes s) f k in
          uses o.owner (Has-append_left (stmt_uses scopes s) _ o.owner o.is_element) o.has
      | inr k ↦
          let u = used_in scopes (stmt_exprs s) f k in uses u.0 (Has-append_right (stmt_uses scopes s) _ u.0 u.1) u.2
    ]

pub declares_has : (scopes : Scopes) (part : Part) (d : Declaring) (f : CheckFault) → Has (part_declarings scopes part) d
    → Has (declaring_faults d) f → Has (whole_faults scopes part) f
unfolding part_faults
declares_has scopes (statement s) d f h k = absurd h
declares_has scopes (local (tree.declared x)) d f (inl e) k =
    Has-append_left (declaring_faults (record { before = scopes.innermost; declared = local_declares (tree.declared x) })) _ f
    (subst (λ y. Has (declaring_faults y) f) (sym e) k)
declares_has scopes (local (tree.declared x)) d f (inr h) k = absurd h
declares_has scopes (local (tree.inlet_at at name parameters body)) d f (inl e) k =
    Has-append_left (part_faults scopes (local (tree.inlet_at at name parameters body))) _ f
    (Has-append_left
    (declaring_faults (record { before = scopes.innermost; declared = local_declares (tree.inlet_at at name parameters body) })) _ f
    (subst (λ y. Has (declaring_faults y) f) (sym e) k))
declares_has scopes (local (tree.inlet_at at name parameters body)) d f (inr h) k =
    Has-append_right (part_faults scopes (local (tree.inlet_at at name parameters body))) _ f
    (Has-flat_map declaring_faults (declaring [] (map parameter parameters)) d f h k)

pub uses_has : (scopes : Scopes) (part : Part) (u : Use) (f : CheckFault) → Has (part_uses scopes part) u → Has (use_faults u) f
    → Has (whole_faults scopes part) f
unfolding part_faults
uses_has scopes (statement s) u f h k =
    elim (Has-append_cases (stmt_uses scopes s) _ u h) as (λ _. Has (part_faults scopes (statement s)) f) [
      | inl m ↦ Has-append_left (flat_map use_faults (stmt_uses scopes s)) _ f (Has-flat_map use_faults (stmt_uses scopes s) u f m k)
      | inr m ↦ Has-append_right (flat_map use_faults (stmt_uses scopes s)) _ f (has_used scopes (stmt_exprs s) u f m k)
    ]
uses_has scopes (local (tree.declared x)) u f h k =
    Has-append_right (declaring_faults (record { before = scopes.innermost; declared = local_declares (tree.declared x) })) _ f
    (has_used (declare scopes (local_declares (tree.declared x))) (local_exprs (tree.declared x)) u f h k)
uses_has scopes (local (tree.inlet_at at name parameters body)) u f h k = absurd h
