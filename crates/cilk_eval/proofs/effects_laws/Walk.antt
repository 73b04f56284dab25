-- The statements of a body of a well-formed program.
use Rattle.std.proofs.Common.{◌≡◌, ℕ, ◌+◌, Bool, false, IsTrue, ◌∷◌, ◌++◌, length, Option, Some, None, option_to_list, inl, inr, refl, sym, ap}
use Rattle.std.proofs.Common.{subst, ◌∙◌}
use Rattle.std.proofs.lemmas.List.{length-map}
use Rattle.cilk_eval.specs.syntax.declared.return_type.ReturnType.{ReturnType}
use Rattle.cilk_eval.specs.syntax.declared.return_type.ReturnType.TheVariants as returns
use Rattle.cilk_eval.specs.syntax.Tree as tree
use Rattle.cilk_eval.specs.scopes.declared.owner.Owner.{Owner}
use Rattle.cilk_eval.specs.scopes.Parts.{Around, statement, parts_of, moves_exprs, inner, after_locals, block_parts, locals_parts, within_stmt, stmts_parts}
use Rattle.cilk_eval.proofs.scopes_laws.Elements.{Has, Has-append_left, Has-append_right}
use Rattle.cilk_eval.specs.scopes.WellFormed.{WellFormed}
use Rattle.cilk_eval.specs.scopes.Uses.{moves_uses}
use Rattle.cilk_eval.specs.scopes.declared.role.Role.TheVariants as role
use Rattle.cilk_eval.specs.scopes.Format.{numbers_in}
use Rattle.cilk_eval.specs.scopes.Forms.{returned_by, has_form}
use Rattle.cilk_eval.specs.labelled.Labelled.{Labelled}
use Rattle.cilk_eval.specs.labelled.Names.{Names, entered, label_expr}
use Rattle.cilk_eval.specs.labelled.Count.{count_option, count_stmt, count_locals, count_block}
use Rattle.cilk_eval.specs.labelled.Label.{locals_variables, stmt_variables, stmts_variables, block_variables, label_move, label_return, label_part}
use Rattle.cilk_eval.specs.labelled.Label.{label_stmt, label_stmts, label_block, names_behind}
use Rattle.cilk_eval.specs.labelled.Bodies.{is_procedure, block_locals}
use Rattle.cilk_eval.specs.model.Instance.{body_at}
use Rattle.cilk_eval.specs.effects.Heads.{Inside, in_a_loop, in_a_switch, MayStand, IfThere, EachOfStmt, EachOf}
use Rattle.cilk_eval.specs.frame.Reads.{IsKnown}
use Rattle.cilk_eval.specs.effects.Known.{owner_of}
use Rattle.cilk_eval.proofs.effects_laws.Lists.{StandAt, stand_left, stand_right}
use Rattle.cilk_eval.proofs.effects_laws.Facts.{abort_in_inlet, break_in_one, continue_in_a_loop, returns_so, format_counts}
use Rattle.cilk_eval.proofs.effects_laws.Meant.{FitNames, use_serves}
use Rattle.cilk_eval.proofs.effects_laws.Exprs.{SoundUses, KnownExprs, exprs_known, move_known, spawn_known}
use Rattle.cilk_eval.proofs.effects_laws.Parts.{around, part_at, may_have_children, stmt_sound, stmt_exprs_known}
use Rattle.cilk_eval.proofs.effects_laws.Locals.{May, AllIn, in_left, in_right, InletsStand, Heads, behind_fits, behind_is, locals_known}

move_may : (names : Names) (l : Inside) (what : tree.Move) → MayStand l (label_move names what)
move_may names l (tree.assign target value) = tt
move_may names l (tree.adjust place by) = tt
move_may names l (tree.call target callee arguments) = tt

module _ (p : tree.Program) (well : WellFormed p) (program : Labelled) (b h : ℕ) (o : Owner) (owner_is : owner_of program b ≡ o)
    (home : IsTrue (is_procedure o) → h ≡ b) where
  return_known : (names : Names) (l : Inside) (value : Option tree.Expr) (r : ReturnType) → returned_by o ≡ r → IsTrue (has_form r value)
      → ((e : tree.Expr) → Has (option_to_list value) e → IsKnown program b (label_expr names e))
      → May program b l (label_return names value)
  return_known names l None returns.Int is form known = cc
  return_known names l None returns.Void is form known = (ap returned_by owner_is ∙ is, tt)
  return_known names l (Some value) returns.Int is form known = ((ap returned_by owner_is ∙ is, known value (inl refl)), tt)
  return_known names l (Some value) returns.Void is form known = cc

  part_known : (names : Names) (l : Inside) (at : ℕ) (fit : FitNames program b h names) (part : Option tree.Move)
      → SoundUses program b h names fit (moves_uses names.scopes part) → KnownExprs program b h names fit (moves_exprs part)
      → IfThere (May program b) l (label_part names at part)
  part_known names l at fit None s k = tt
  part_known names l at fit (Some what) s k = (move_known program b h names fit what s k, move_may names l what)

  mutual
    stmt_known : (l : Inside) (m : Bool) (names : Names) (at n : ℕ) (s : tree.Stmt) → FitNames program b h names
        → StandAt (body_at program b).variables n (stmt_variables s)
        → Has (parts_of p) (part_at o names l m (statement s)) → AllIn p (within_stmt (around o names l m) s)
        → EachOfStmt (May program b) l (label_stmt names at n s)
    stmt_known l m names at n (tree.move what) fit stand there inside = (
      move_known program b h names fit what (stmt_sound p well program b h o owner_is names l m (tree.move what) there)
          (stmt_exprs_known p well program b h o owner_is names l m (tree.move what) there fit),
      move_may names l what,
    )
    stmt_known l m names at n (tree.spawn_at place taker callee arguments) fit stand there inside =
        let s : tree.Stmt = tree.spawn_at place taker callee arguments in
        let may = may_have_children p well program b h o owner_is names l m (statement s) there place (inl refl) in (
          spawn_known program b h names fit (home (ap is_procedure (sym owner_is) ∙ may)) taker callee arguments may
              (stmt_sound p well program b h o owner_is names l m s there) (stmt_exprs_known p well program b h o owner_is names l m s there fit),
          tt,
        )
    stmt_known l m names at n (tree.print format arguments) fit stand there inside =
        let s : tree.Stmt = tree.print format arguments in (
          (
            subst (λ (k : ℕ). numbers_in format.bytes ≡ Some k) (sym (length-map arguments (label_expr names)))
                (format_counts p well (around o names l m) format arguments there),
            exprs_known program b h names fit arguments (stmt_exprs_known p well program b h o owner_is names l m s there fit),
          ),
          tt,
        )
    stmt_known l m names at n (tree.locking action name) fit stand there inside =
        (use_serves program b h names fit name role.Lock (stmt_sound p well program b h o owner_is names l m (tree.locking action name) there _ (inl refl)), tt)
    stmt_known l m names at n tree.null fit stand there inside = (tt, tt)
    stmt_known l m names at n (tree.sync_at place) fit stand there inside =
        (may_have_children p well program b h o owner_is names l m (statement (tree.sync_at place)) there place (inl refl), tt)
    stmt_known l m names at n (tree.abort_at place) fit stand there inside =
        (owner_is ∙ abort_in_inlet p well (around o names l m) place there, tt)
    stmt_known l m names at n (tree.break_at place) fit stand there inside =
        (tt, break_in_one p well (around o names l m) place there)
    stmt_known l m names at n (tree.continue_at place) fit stand there inside =
        (tt, continue_in_a_loop p well (around o names l m) place there)
    stmt_known l m names at n (tree.return_at place value) fit stand there inside =
        return_known names l value (returned_by o) refl (returns_so p well (around o names l m) place value there)
        (stmt_exprs_known p well program b h o owner_is names l m (tree.return_at place value) there fit)
    stmt_known l m names at n (tree.when value body) fit stand there inside =
        let known = stmt_exprs_known p well program b h o owner_is names l m (tree.when value body) there fit in
        ((known value (inl refl), tt), block_known l false (entered names) (at + 1) n body fit stand inside (λ e none. cc), tt)
    stmt_known l m names at n (tree.either value body other) fit stand there inside =
        let known = stmt_exprs_known p well program b h o owner_is names l m (tree.either value body other) there fit in
        let here : Around = inner (around o names l m) in (
          (known value (inl refl), tt),
          block_known l false (entered names) (at + 1) n body fit
              (stand_left (body_at program b).variables n (block_variables body) (block_variables other) stand)
              (in_left p (block_parts here body) (block_parts here other) inside) (λ e none. cc),
          block_known l false (entered names) (at + (1 + count_block body)) (n + length (block_variables body)) other fit
              (stand_right (body_at program b).variables n (block_variables body) (block_variables other) stand)
              (in_right p (block_parts here body) (block_parts here other) inside) (λ e none. cc),
        )
    stmt_known l m names at n (tree.while value body) fit stand there inside =
        let known = stmt_exprs_known p well program b h o owner_is names l m (tree.while value body) there fit in
        ((known value (inl refl), tt), block_known in_a_loop false (entered names) (at + 1) n body fit stand inside (λ e none. cc))
    stmt_known l m names at n (tree.repeat body value) fit stand there inside =
        let known = stmt_exprs_known p well program b h o owner_is names l m (tree.repeat body value) there fit in
        ((known value (inl refl), tt), block_known in_a_loop false (entered names) at n body fit stand inside (λ e none. cc))
    stmt_known l m names at n (tree.loop first value advance body) fit stand there inside =
        let s : tree.Stmt = tree.loop first value advance body in
        let known = stmt_exprs_known p well program b h o owner_is names l m s there fit in
        let sound = stmt_sound p well program b h o owner_is names l m s there in (
          part_known names l at fit first (λ u has. sound u (Has-append_left (moves_uses names.scopes first) (moves_uses names.scopes advance) u has))
              (λ e has. known e (Has-append_left (moves_exprs first) (value ∷ moves_exprs advance) e has)),
          (known value (Has-append_right (moves_exprs first) (value ∷ moves_exprs advance) value (inl refl)), tt),
          part_known names l (at + (count_option first + 1)) fit advance
              (λ u has. sound u (Has-append_right (moves_uses names.scopes first) (moves_uses names.scopes advance) u has))
              (λ e has. known e (Has-append_right (moves_exprs first) (value ∷ moves_exprs advance) e (inr has))),
          block_known in_a_loop false (entered names) (at + (count_option first + (1 + count_option advance))) n body fit stand inside (λ e none. cc),
        )
    stmt_known l m names at n (tree.switch value body) fit stand there inside =
        let known = stmt_exprs_known p well program b h o owner_is names l m (tree.switch value body) there fit in
        ((known value (inl refl), tt), block_known (in_a_switch l) false (entered names) (at + 1) n body fit stand inside (λ e none. cc))
    stmt_known l m names at n (tree.labelled label) fit stand there inside = tt
    stmt_known l m names at n (tree.nested body) fit stand there inside =
        block_known l false (entered names) at n body fit stand inside (λ e none. cc)

    stmts_known : (l : Inside) (m : Bool) (names : Names) (at n : ℕ) (ss : tree.Stmts) → FitNames program b h names
        → StandAt (body_at program b).variables n (stmts_variables ss)
        → AllIn p (stmts_parts (around o names l m) ss) → EachOf (May program b) l (label_stmts names at n ss)
    stmts_known l m names at n tree.none fit stand all = tt
    stmts_known l m names at n (tree.also first others) fit stand all =
        let a : Around = around o names l m in
        let behind : AllIn p (within_stmt a first ++ stmts_parts a others) = λ s has. all s (inr has) in (
          stmt_known l m names at n first fit (stand_left (body_at program b).variables n (stmt_variables first) (stmts_variables others) stand)
              (all _ (inl refl)) (in_left p (within_stmt a first) (stmts_parts a others) behind),
          stmts_known l m names (at + count_stmt first) (n + length (stmt_variables first)) others fit
              (stand_right (body_at program b).variables n (stmt_variables first) (stmts_variables others) stand)
              (in_right p (within_stmt a first) (stmts_parts a others) behind),
        )

    pub block_known : (l : Inside) (m : Bool) (names : Names) (at n : ℕ) (body : tree.Block) → FitNames program b h names
        → StandAt (body_at program b).variables n (block_variables body)
        → AllIn p (block_parts (around o names l m) body)
        → (IsTrue (is_procedure o) → IsTrue m → InletsStand p well program b h o owner_is home names at n (block_locals body))
        → EachOf (May program b) l (label_block names at n body)
    block_known l m names at n (tree.block locals stmts) fit stand all inlets =
        let a : Around = around o names l m in
        let heads : Heads p well program b h o owner_is home l m names at n locals =
        record {
          fit = fit;
          variables = stand_left (body_at program b).variables n (locals_variables locals) (stmts_variables stmts) stand;
          parts = in_left p (locals_parts a locals) (stmts_parts (after_locals a locals) stmts) all;
          inlets = inlets;
        }
        in
        let behind =
        subst (λ x. AllIn p (stmts_parts x stmts)) (behind_is p well program b h o owner_is home l m names n locals)
        (in_right p (locals_parts a locals) (stmts_parts (after_locals a locals) stmts) all) in
        locals_known p well program b h o owner_is home l m names at n locals
        (label_stmts (names_behind names n locals) (at + count_locals locals) (n + length (locals_variables locals)) stmts) heads
        (stmts_known l m (names_behind names n locals) (at + count_locals locals) (n + length (locals_variables locals)) stmts
        (behind_fits p well program b h o owner_is home l m names at n locals heads)
        (stand_right (body_at program b).variables n (locals_variables locals) (stmts_variables stmts) stand) behind)
