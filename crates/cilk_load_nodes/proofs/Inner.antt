-- In a well-formed program inlets stand at the heads of procedures alone.
use Rattle.std.proofs.Common.{◌≡◌, ℕ, false, List, [], ◌∷◌, ◌++◌, inl, inr, refl, ap}
use Rattle.cilk_model.specs.syntax.Tree as tree
use Rattle.cilk_model.specs.scopes.declared.owner.Owner.TheVariants.{Inlet}
use Rattle.cilk_model.specs.scopes.Parts.{Around, PartInContext, local, inner, looped, switched, after_local, after_locals, in_inlet}
use Rattle.cilk_model.specs.scopes.Parts.{block_parts, locals_parts, within_local, stmts_parts, within_stmt, item_parts, parts_of}
use Rattle.cilk_model.specs.scopes.Scopes.{file_scopes}
use Rattle.cilk_model.proofs.scopes_laws.Elements.{Has, Contains-from_Has, Has-append_left, Has-append_right, Has-flat_map}
use Rattle.cilk_model.specs.scopes.Forms as forms
use Rattle.cilk_model.specs.scopes.WellFormed.{WellFormed}
use Rattle.cilk_model.specs.scopes.declared.fault.CheckFault.TheVariants.{NotInProcedure}
use Rattle.cilk_load_nodes.specs.Plain.{PlainLocals, PlainStmt, PlainStmts, PlainBlock, OuterLocals, OuterBlock, PlainItem, PlainItems}

module _ (p : tree.Program) (ok : WellFormed p) where
  -- each of these parts is one of the program
  abbrev Stand : List PartInContext → Type 0
  Stand parts = (s : PartInContext) → Has parts s → Has (parts_of p) s

  front : (xs ys : List PartInContext) → Stand (xs ++ ys) → Stand xs
  front xs ys h s k = h s (Has-append_left xs ys s k)

  back : (xs ys : List PartInContext) → Stand (xs ++ ys) → Stand ys
  back xs ys h s k = h s (Has-append_right xs ys s k)

  no-inner : (a : Around) (at : ℕ) (name : tree.Word) (parameters : List tree.Word) (body : tree.Block) → a.within.outermost ≡ false
      → Has (parts_of p) (record { around = a; part = local (tree.inlet_at at name parameters body) }) → ⊥
  no-inner a at name parameters body e h =
      ok (NotInProcedure at) (inr (forms.inlet_in_inner_block a at name parameters body (Contains-from_Has _ _ h) e))

  no-nested : (a : Around) (at : ℕ) (name : tree.Word) (parameters : List tree.Word) (body : tree.Block) → a.within.owner ≡ Inlet
      → Has (parts_of p) (record { around = a; part = local (tree.inlet_at at name parameters body) }) → ⊥
  no-nested a at name parameters body e h =
      ok (NotInProcedure at) (inr (forms.inlet_in_no_procedure a at name parameters body (Contains-from_Has _ _ h) (ap forms.is_procedure e)))

  inner-locals : (a : Around) (ls : tree.Locals) → a.within.outermost ≡ false → Stand (locals_parts a ls) → PlainLocals ls
  inner-locals a tree.no_locals e h = tt
  inner-locals a (tree.and_local (tree.declared d) others) e h =
      inner-locals (after_local a (tree.declared d)) others e (λ s k. h s (inr k))
  inner-locals a (tree.and_local (tree.inlet_at at name parameters body) others) e h = no-inner a at name parameters body e (h _ (inl refl))

  -- the declarations of the outermost block of an inlet
  inlet-locals : (a : Around) (ls : tree.Locals) → a.within.owner ≡ Inlet → Stand (locals_parts a ls) → PlainLocals ls
  inlet-locals a tree.no_locals e h = tt
  inlet-locals a (tree.and_local (tree.declared d) others) e h =
      inlet-locals (after_local a (tree.declared d)) others e (λ s k. h s (inr k))
  inlet-locals a (tree.and_local (tree.inlet_at at name parameters body) others) e h = no-nested a at name parameters body e (h _ (inl refl))

  mutual
    plain-block : (a : Around) (b : tree.Block) → a.within.outermost ≡ false → Stand (block_parts a b) → PlainBlock b
    plain-block a (tree.block ls ss) e h =
        let first = front (locals_parts a ls) (stmts_parts (after_locals a ls) ss) h in
        let later = back (locals_parts a ls) (stmts_parts (after_locals a ls) ss) h in
        (inner-locals a ls e first, plain-stmts (after_locals a ls) ss later)

    plain-stmts : (a : Around) (ss : tree.Stmts) → Stand (stmts_parts a ss) → PlainStmts ss
    plain-stmts a tree.none h = tt
    plain-stmts a (tree.also s ss) h =
        let others : Stand (within_stmt a s ++ stmts_parts a ss) = λ x k. h x (inr k) in
        (plain-stmt a s (front (within_stmt a s) (stmts_parts a ss) others), plain-stmts a ss (back (within_stmt a s) (stmts_parts a ss) others))

    plain-stmt : (a : Around) (s : tree.Stmt) → Stand (within_stmt a s) → PlainStmt s
    plain-stmt a (tree.move what) h = tt
    plain-stmt a (tree.spawn_at at taker callee arguments) h = tt
    plain-stmt a (tree.print format arguments) h = tt
    plain-stmt a (tree.locking action name) h = tt
    plain-stmt a tree.null h = tt
    plain-stmt a (tree.sync_at at) h = tt
    plain-stmt a (tree.abort_at at) h = tt
    plain-stmt a (tree.break_at at) h = tt
    plain-stmt a (tree.continue_at at) h = tt
    plain-stmt a (tree.return_at at value) h = tt
    plain-stmt a (tree.when test body) h = plain-block (inner a) body refl h
    plain-stmt a (tree.either test body other) h = (
      plain-block (inner a) body refl (front (block_parts (inner a) body) (block_parts (inner a) other) h),
      plain-block (inner a) other
          refl (back (block_parts (inner a) body) (block_parts (inner a) other) h),
    )
    plain-stmt a (tree.while test body) h = plain-block (looped a) body refl h
    plain-stmt a (tree.repeat body test) h = plain-block (looped a) body refl h
    plain-stmt a (tree.loop first test advance body) h = plain-block (looped a) body refl h
    plain-stmt a (tree.switch test body) h = plain-block (switched a) body refl h
    plain-stmt a (tree.labelled label) h = tt
    plain-stmt a (tree.nested inside) h = plain-block (inner a) inside refl h

  plain-inlet : (a : Around) (b : tree.Block) → a.within.owner ≡ Inlet → Stand (block_parts a b) → PlainBlock b
  plain-inlet a (tree.block ls ss) e h = (
    inlet-locals a ls e (front (locals_parts a ls) (stmts_parts (after_locals a ls) ss) h),
    plain-stmts (after_locals a ls) ss
        (back (locals_parts a ls) (stmts_parts (after_locals a ls) ss) h),
  )

  outer-locals : (a : Around) (ls : tree.Locals) → Stand (locals_parts a ls) → OuterLocals ls
  outer-locals a tree.no_locals h = tt
  outer-locals a (tree.and_local (tree.declared d) others) h = outer-locals (after_local a (tree.declared d)) others (λ s k. h s (inr k))
  outer-locals a (tree.and_local (tree.inlet_at at name parameters body) others) h =
      let l = tree.inlet_at at name parameters body in
      let rest : Stand (within_local a l ++ locals_parts (after_local a l) others) = λ s k. h s (inr k) in (
        plain-inlet (in_inlet a l parameters) body refl (front (within_local a l) (locals_parts (after_local a l) others) rest),
        outer-locals
            (after_local a l) others (back (within_local a l) (locals_parts (after_local a l) others) rest),
      )

  outer-block : (a : Around) (b : tree.Block) → Stand (block_parts a b) → OuterBlock b
  outer-block a (tree.block ls ss) h = (
    outer-locals a ls (front (locals_parts a ls) (stmts_parts (after_locals a ls) ss) h),
    plain-stmts (after_locals a ls) ss
        (back (locals_parts a ls) (stmts_parts (after_locals a ls) ss) h),
  )

  plain-item : (x : tree.Item) → Has p.items x → PlainItem x
  plain-item (tree.procedure f) h = outer-block _ f.body (λ s k. Has-flat_map (item_parts (file_scopes p.items)) p.items (tree.procedure f) s h k)
  plain-item (tree.global g) h = tt
  plain-item (tree.lock name) h = tt
  plain-item (tree.prototype q) h = tt

  plain-items : (xs : List tree.Item) → ((x : tree.Item) → Has xs x → Has p.items x) → PlainItems xs
  plain-items [] h = tt
  plain-items (x ∷ xs) h = (plain-item x (h x (inl refl)), plain-items xs (λ y k. h y (inr k)))

  pub well_formed-plain : PlainItems p.items
  well_formed-plain = plain-items p.items (λ x h. h)
