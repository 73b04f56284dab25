-- The faults of a block are those of the parts that stand in it.
use Rattle.std.proofs.Common.{◌≡◌, ◌++◌, refl, ap, ◌∙◌}
use Rattle.std.specs.List.{flat_map}
use Rattle.std.proofs.lemmas.List.Concat.{flat_map-append}
use Rattle.cilk_check_scopes.specs.syntax.Tree as tree
use Rattle.cilk_check_scopes.specs.Parts.{Around, local, statement, inner, looped, switched, after_local, after_locals, in_inlet, block_parts, locals_parts}
use Rattle.cilk_check_scopes.specs.Parts.{within_local, stmts_parts, within_stmt}
use Rattle.cilk_check.specs.FormFinds.{standing_faults, part_faults, block_faults, locals_faults, inside_local, stmts_faults, inside_stmt}

-- declarations change nothing that surrounds
pub still_within : (a : Around) (locals : tree.Locals) → (after_locals a locals).within ≡ a.within
still_within a tree.no_locals = refl
still_within a (tree.and_local first others) = still_within (after_local a first) others

mutual
  pub block_is : (a : Around) (b : tree.Block) → flat_map standing_faults (block_parts a b) ≡ block_faults a.within b
  block_is a (tree.block locals stmts) =
      flat_map-append standing_faults (locals_parts a locals) (stmts_parts (after_locals a locals) stmts)
      ∙ ap (λ fs. fs ++ flat_map standing_faults (stmts_parts (after_locals a locals) stmts)) (locals_is a locals)
      ∙ ap (λ fs. locals_faults a.within locals ++ fs) (stmts_is (after_locals a locals) stmts ∙ ap (λ w. stmts_faults w stmts) (still_within a locals))

  locals_is : (a : Around) (locals : tree.Locals) → flat_map standing_faults (locals_parts a locals) ≡ locals_faults a.within locals
  locals_is a tree.no_locals = refl
  locals_is a (tree.and_local first others) =
      ap (λ fs. part_faults a.within (local first) ++ fs)
      (flat_map-append standing_faults (within_local a first) (locals_parts (after_local a first) others)
      ∙ (λ i. local_is a first i ++ locals_is (after_local a first) others i))

  local_is : (a : Around) (l : tree.Local) → flat_map standing_faults (within_local a l) ≡ inside_local l
  local_is a (tree.declared d) = refl
  local_is a (tree.inlet_at at name parameters body) =
      block_is (in_inlet a (tree.inlet_at at name parameters body) parameters) body

  stmts_is : (a : Around) (stmts : tree.Stmts) → flat_map standing_faults (stmts_parts a stmts) ≡ stmts_faults a.within stmts
  stmts_is a tree.none = refl
  stmts_is a (tree.also first others) =
      ap (λ fs. part_faults a.within (statement first) ++ fs)
      (flat_map-append standing_faults (within_stmt a first) (stmts_parts a others) ∙ (λ i. stmt_is a first i ++ stmts_is a others i))

  stmt_is : (a : Around) (s : tree.Stmt) → flat_map standing_faults (within_stmt a s) ≡ inside_stmt a.within s
  stmt_is a (tree.when test body) = block_is (inner a) body
  stmt_is a (tree.either test body other) =
      flat_map-append standing_faults (block_parts (inner a) body) (block_parts (inner a) other)
      ∙ (λ i. block_is (inner a) body i ++ block_is (inner a) other i)
  stmt_is a (tree.while test body) = block_is (looped a) body
  stmt_is a (tree.repeat body test) = block_is (looped a) body
  stmt_is a (tree.loop first test advance body) = block_is (looped a) body
  stmt_is a (tree.switch test body) = block_is (switched a) body
  stmt_is a (tree.nested inside) = block_is (inner a) inside
  stmt_is a other = refl
