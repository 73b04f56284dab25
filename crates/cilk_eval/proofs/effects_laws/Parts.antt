-- The uses and expressions of one part of a body.
use Rattle.std.proofs.Common.{◌≡◌, ℕ, Bool, IsTrue, ap, ◌∙◌}
use Rattle.cilk_eval.specs.syntax.Tree as tree
use Rattle.cilk_eval.specs.scopes.declared.owner.Owner.{Owner}
use Rattle.cilk_eval.specs.scopes.Parts.{Around, Part, local, statement, PartInContext, parts_of, stmt_exprs, local_exprs}
use Rattle.cilk_eval.proofs.scopes_laws.Elements.{Has, Has-append_left, Has-append_right, Has-flat_map}
use Rattle.cilk_eval.specs.scopes.WellFormed.{WellFormed}
use Rattle.cilk_eval.specs.scopes.Uses.{Use, expr_uses, stmt_uses}
use Rattle.cilk_eval.specs.scopes.Forms.{own_word}
use Rattle.cilk_eval.specs.labelled.Labelled.{Labelled}
use Rattle.cilk_eval.specs.labelled.Names.{Names, with_local}
use Rattle.cilk_eval.specs.labelled.Bodies.{is_procedure}
use Rattle.cilk_eval.specs.effects.Heads.{Inside}
use Rattle.cilk_eval.specs.effects.Known.{owner_of}
use Rattle.cilk_eval.proofs.effects_laws.Facts.{Sound, part_sound, children_in_procedure}
use Rattle.cilk_eval.proofs.effects_laws.Meant.{FitNames}
use Rattle.cilk_eval.proofs.effects_laws.Exprs.{KnownExprs, expr_known}

-- what surrounds a part of the body of this owner
abbrev pub around : Owner → Names → Inside → Bool → Around
around o names inside outermost = record {
  scopes = names.scopes;
  within = record { owner = o; in_loop = inside.loop; in_loop_or_switch = inside.loop_or_switch; outermost = outermost };
}

abbrev pub part_at : Owner → Names → Inside → Bool → Part → PartInContext
part_at o names inside outermost part = record { around = around o names inside outermost; part = part }

module _ (p : tree.Program) (well : WellFormed p) (program : Labelled) (b h : ℕ) (o : Owner) (owner_is : owner_of program b ≡ o) where
  -- a word of a part that only a procedure may have
  pub may_have_children : (names : Names) (l : Inside) (m : Bool) (part : Part) → Has (parts_of p) (part_at o names l m part) → (at : ℕ)
      → Has (own_word part) at
      → IsTrue (is_procedure (owner_of program b))
  may_have_children names l m part there at has =
      ap is_procedure owner_is ∙ children_in_procedure p well (around o names l m) part there at (Has-append_left (own_word part) _ at has)

  module _ (names : Names) (l : Inside) (m : Bool) (s : tree.Stmt) (there : Has (parts_of p) (part_at o names l m (statement s))) where
    pub stmt_sound : (u : Use) → Has (stmt_uses names.scopes s) u → Sound u
    stmt_sound u has =
        part_sound p well (part_at o names l m (statement s)) there u (Has-append_left (stmt_uses names.scopes s) _ u has)

    pub stmt_exprs_known : (fit : FitNames program b h names) → KnownExprs program b h names fit (stmt_exprs s)
    stmt_exprs_known fit e is_expr =
        expr_known program b h names fit e
        (λ u has. part_sound p well (part_at o names l m (statement s)) there u
        (Has-append_right (stmt_uses names.scopes s) _ u (Has-flat_map (expr_uses names.scopes) (stmt_exprs s) e u is_expr has)))

  -- a declared name is visible in its own initialiser
  pub decl_exprs_known : (names : Names) (n : ℕ) (l : Inside) (m : Bool) (d : tree.Decl) → Has (parts_of p) (part_at o names l m (local (tree.declared d)))
      → (fit : FitNames program b h (with_local names n (tree.declared d)))
      → KnownExprs program b h (with_local names n (tree.declared d)) fit (local_exprs (tree.declared d))
  decl_exprs_known names n l m d there fit e is_expr =
      let inner : Names = with_local names n (tree.declared d) in
      expr_known program b h inner fit e
      (λ u has. part_sound p well (part_at o names l m (local (tree.declared d))) there u
      (Has-flat_map (expr_uses inner.scopes) (local_exprs (tree.declared d)) e u is_expr has))
