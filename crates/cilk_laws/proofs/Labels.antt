-- The statements of a body whose parts are right suit it after they are labelled.
use Rattle.std.proofs.Common.{◌≡◌, ℕ, ◌+◌, Bool, true, false, ◌&&◌, ◌++◌, length, Option, Some, None, refl, sym, ap, ◌∙◌}
use Rattle.std.proofs.lemmas.Bool.{and_from}
use Rattle.cilk_check.specs.syntax.Tree as tree
use Rattle.cilk_check.specs.scopes.declared.within.Within.{Within}
use Rattle.cilk_check.specs.scopes.Parts.{Around, local, statement, PartInContext, inner, looped, switched, after_local, after_locals, block_parts}
use Rattle.cilk_check.specs.scopes.Parts.{locals_parts, within_local, stmts_parts, within_stmt}
use Rattle.cilk_laws_model.specs.labelled.Labelled.{Labelled, Stmts}
use Rattle.cilk_laws_model.specs.labelled.Names.{Names, with_local, local_count, entered}
use Rattle.cilk_laws_model.specs.labelled.Label.{locals_variables, names_behind, label_move, label_taker, label_part, label_initialiser}
use Rattle.cilk_laws_model.specs.labelled.Label.{label_local, label_locals, label_stmt, label_stmts, label_block}
use Rattle.cilk_laws_model.specs.labelled.Count.{count_local, count_locals}
use Rattle.cilk_laws_model.specs.labelled.Bodies.{is_procedure}
use Rattle.cilk_laws.specs.Calls.{taker_suits, action_suits, part_suits, stmt_suits, stmts_suit}
use Rattle.cilk_laws.proofs.Right.{MoveRight, MovesRight, TakerRight, StmtRight, Right, front, back, first, others}
use Rattle.cilk_laws.proofs.Named.{Agree, called_fits, fed_fits, agree_entered, agree_declared}
use Rattle.cilk_check.proofs.FormBlocks.{still_within}

module _ (program : Labelled) where
  initialiser_suits : (own : Bool) (names : Names) (at : ℕ) (place : tree.Place) (shape : tree.Shape) (stmts : Stmts) → stmts_suit program own stmts ≡ true
      → stmts_suit program own (label_initialiser names at place shape stmts) ≡ true
  initialiser_suits own names at place (tree.variable None) stmts h = h
  initialiser_suits own names at place (tree.variable (Some value)) stmts h = h
  initialiser_suits own names at place (tree.array n) stmts h = h

  local_suits : (own : Bool) (names : Names) (at : ℕ) (l : tree.Local) (stmts : Stmts) → stmts_suit program own stmts ≡ true
      → stmts_suit program own (label_local names at l stmts) ≡ true
  local_suits own names at (tree.declared d) stmts h = initialiser_suits own names at (record { name = d.name; index = None }) d.shape stmts h
  local_suits own names at (tree.inlet_at place name parameters body) stmts h = h

  locals_suit : (own : Bool) (names : Names) (at n : ℕ) (locals : tree.Locals) (stmts : Stmts) → stmts_suit program own stmts ≡ true
      → stmts_suit program own (label_locals names at n locals stmts) ≡ true
  locals_suit own names at n tree.no_locals stmts h = h
  locals_suit own names at n (tree.and_local l ls) stmts h =
      local_suits own (with_local names n l) at l _ (locals_suit own (with_local names n l) (at + count_local l) (n + local_count l) ls stmts h)

  move_suits : (own : Bool) (a : Around) (names : Names) (what : tree.Move) → Agree program names a.scopes → MoveRight a.scopes what
      → action_suits program own (label_move names what) ≡ true
  move_suits own a names (tree.assign target value) agree h = refl
  move_suits own a names (tree.adjust place by) agree h = refl
  move_suits own a names (tree.call target callee arguments) agree h = called_fits program names a.scopes callee agree h

  moves_suit : (own : Bool) (a : Around) (names : Names) (at : ℕ) (what : Option tree.Move) → Agree program names a.scopes
      → MovesRight a.scopes what → part_suits program own (label_part names at what) ≡ true
  moves_suit own a names at None agree h = refl
  moves_suit own a names at (Some what) agree h = move_suits own a names what agree h

  taker_suited : (a : Around) (names : Names) (taker : tree.Taker) → Agree program names a.scopes → TakerRight a.scopes taker
      → taker_suits program (label_taker names taker) ≡ true
  taker_suited a names tree.nothing agree h = refl
  taker_suited a names (tree.into target) agree h = refl
  taker_suited a names (tree.through name more) agree h = fed_fits program names a.scopes name agree h

  -- no inlet is defined in such a block
  no_inlets : (a : Around) (names : Names) (n : ℕ) (locals : tree.Locals) → (a.within.outermost && is_procedure a.within.owner) ≡ false
      → Agree program names a.scopes → Right (locals_parts a locals)
      → Agree program (names_behind names n locals) (after_locals a locals).scopes
  no_inlets a names n tree.no_locals closed agree h = agree
  no_inlets a names n (tree.and_local (tree.declared d) ls) closed agree h =
      let l : tree.Local = tree.declared d in
      no_inlets (after_local a l) (with_local names n l) (n + local_count l) ls closed (agree_declared program names a.scopes n d agree)
      (others (record { around = a; part = local l }) (locals_parts (after_local a l) ls) h)
  no_inlets a names n (tree.and_local (tree.inlet_at place name parameters body) ls) closed agree h =
      let l : tree.Local = tree.inlet_at place name parameters body in
      let open_block : (a.within.outermost && is_procedure a.within.owner) ≡ true =
      first (record { around = a; part = local l }) (within_local a l ++ locals_parts (after_local a l) ls) h in
      let both : true ≡ false = sym open_block ∙ closed in
      cc

  behind_locals : (a : Around) (names : Names) (at n : ℕ) (locals : tree.Locals) (stmts : tree.Stmts)
      → stmts_suit program (is_procedure (after_locals a locals).within.owner)
      (label_stmts (names_behind names n locals) (at + count_locals locals) (n + length (locals_variables locals)) stmts) ≡ true
      → stmts_suit program (is_procedure a.within.owner) (label_block names at n (tree.block locals stmts)) ≡ true
  behind_locals a names at n locals stmts h =
      let rest : Stmts = label_stmts (names_behind names n locals) (at + count_locals locals) (n + length (locals_variables locals)) stmts in
      locals_suit (is_procedure a.within.owner) names at n locals rest
      (ap (λ (w : Within). stmts_suit program (is_procedure w.owner) rest) (sym (still_within a locals)) ∙ h)

  mutual
    label_stmt_suits : (a : Around) (names : Names) (at n : ℕ) (s : tree.Stmt) → Agree program names a.scopes → StmtRight a s → Right (within_stmt a s)
        → stmt_suits program (is_procedure a.within.owner) (label_stmt names at n s) ≡ true
    label_stmt_suits a names at n (tree.move what) agree here h = move_suits (is_procedure a.within.owner) a names what agree here
    label_stmt_suits a names at n (tree.spawn_at place taker callee arguments) agree here h =
        and_from (is_procedure a.within.owner) (taker_suits program (label_taker names taker)) here.0 (taker_suited a names taker agree here.1)
    label_stmt_suits a names at n (tree.print format arguments) agree here h = refl
    label_stmt_suits a names at n (tree.locking what name) agree here h = refl
    label_stmt_suits a names at n tree.null agree here h = refl
    label_stmt_suits a names at n (tree.sync_at place) agree here h = here
    label_stmt_suits a names at n (tree.abort_at place) agree here h = refl
    label_stmt_suits a names at n (tree.break_at place) agree here h = refl
    label_stmt_suits a names at n (tree.continue_at place) agree here h = refl
    label_stmt_suits a names at n (tree.return_at place None) agree here h = refl
    label_stmt_suits a names at n (tree.return_at place (Some value)) agree here h = refl
    label_stmt_suits a names at n (tree.when value body) agree here h =
        and_from (stmts_suit program (is_procedure a.within.owner) (label_block (entered names) (at + 1) n body)) true
        (inner_block_suits (inner a) (entered names) (at + 1) n body refl (agree_entered program names a.scopes agree) h) refl
    label_stmt_suits a names at n (tree.either value body other) agree here h =
        and_from (stmts_suit program (is_procedure a.within.owner) (label_block (entered names) (at + 1) n body)) _
        (inner_block_suits (inner a) (entered names) (at + 1) n body refl (agree_entered program names a.scopes agree)
        (front (block_parts (inner a) body) (block_parts (inner a) other) h))
        (inner_block_suits (inner a) (entered names) _ _ other refl (agree_entered program names a.scopes agree)
        (back (block_parts (inner a) body) (block_parts (inner a) other) h))
    label_stmt_suits a names at n (tree.while value body) agree here h =
        inner_block_suits (looped a) (entered names) (at + 1) n body refl (agree_entered program names a.scopes agree) h
    label_stmt_suits a names at n (tree.repeat body value) agree here h =
        inner_block_suits (looped a) (entered names) at n body refl (agree_entered program names a.scopes agree) h
    label_stmt_suits a names at n (tree.loop begin value advance body) agree here h =
        and_from (part_suits program (is_procedure a.within.owner) (label_part names at begin)) _
        (moves_suit (is_procedure a.within.owner) a names at begin agree here.0)
        (and_from (part_suits program (is_procedure a.within.owner) (label_part names _ advance)) _
        (moves_suit (is_procedure a.within.owner) a names _ advance agree here.1)
        (inner_block_suits (looped a) (entered names) _ n body refl (agree_entered program names a.scopes agree) h))
    label_stmt_suits a names at n (tree.switch value body) agree here h =
        inner_block_suits (switched a) (entered names) (at + 1) n body refl (agree_entered program names a.scopes agree) h
    label_stmt_suits a names at n (tree.labelled label) agree here h = refl
    label_stmt_suits a names at n (tree.nested inside) agree here h =
        inner_block_suits (inner a) (entered names) at n inside refl (agree_entered program names a.scopes agree) h

    label_stmts_suit : (a : Around) (names : Names) (at n : ℕ) (ss : tree.Stmts) → Agree program names a.scopes → Right (stmts_parts a ss)
        → stmts_suit program (is_procedure a.within.owner) (label_stmts names at n ss) ≡ true
    label_stmts_suit a names at n tree.none agree h = refl
    label_stmts_suit a names at n (tree.also s ss) agree h =
        let here : PartInContext = record { around = a; part = statement s } in
        let rest = others here (within_stmt a s ++ stmts_parts a ss) h in
        and_from (stmt_suits program (is_procedure a.within.owner) (label_stmt names at n s)) _
        (label_stmt_suits a names at n s agree (first here (within_stmt a s ++ stmts_parts a ss) h) (front (within_stmt a s) (stmts_parts a ss) rest))
        (label_stmts_suit a names _ _ ss agree (back (within_stmt a s) (stmts_parts a ss) rest))

    pub inner_block_suits : (a : Around) (names : Names) (at n : ℕ) (b : tree.Block)
        → (a.within.outermost && is_procedure a.within.owner) ≡ false → Agree program names a.scopes → Right (block_parts a b)
        → stmts_suit program (is_procedure a.within.owner) (label_block names at n b) ≡ true
    inner_block_suits a names at n (tree.block locals stmts) closed agree h =
        let next : ℕ = at + count_locals locals in
        let many : ℕ = n + length (locals_variables locals) in
        behind_locals a names at n locals stmts
        (label_stmts_suit (after_locals a locals) (names_behind names n locals) next many stmts
        (no_inlets a names n locals closed agree (front (locals_parts a locals) (stmts_parts (after_locals a locals) stmts) h))
        (back (locals_parts a locals) (stmts_parts (after_locals a locals) stmts) h))

  -- where what the names behind the declarations mean is known
  pub block_suits : (a : Around) (names : Names) (at n : ℕ) (locals : tree.Locals) (stmts : tree.Stmts)
      → Agree program (names_behind names n locals) (after_locals a locals).scopes
      → Right (stmts_parts (after_locals a locals) stmts)
      → stmts_suit program (is_procedure a.within.owner) (label_block names at n (tree.block locals stmts)) ≡ true
  block_suits a names at n locals stmts agree h =
      let next : ℕ = at + count_locals locals in
      let many : ℕ = n + length (locals_variables locals) in
      behind_locals a names at n locals stmts (label_stmts_suit (after_locals a locals) (names_behind names n locals) next many stmts agree h)
