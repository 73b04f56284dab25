-- The faults of a block are those of the parts that stand in it.
use Rattle.std.proofs.Common.{◌≡◌, List, ◌++◌, map, refl, sym, ap, ◌∙◌, append_assoc}
use Rattle.std.specs.List.{flat_map}
use Rattle.std.proofs.lemmas.List.Concat.{flat_map-append}
use Rattle.cilk_check_scopes.specs.syntax.Tree as tree
use Rattle.cilk_check_scopes.specs.declared.fault.CheckFault.{CheckFault}
use Rattle.cilk_check_scopes.specs.Scopes.{Scopes, declare, parameter, local_declares}
use Rattle.cilk_check_scopes.specs.Parts.{Around, Part, PartInContext, local, statement, inner, looped, switched, after_local, after_locals, in_inlet}
use Rattle.cilk_check_scopes.specs.Parts.{block_parts}
use Rattle.cilk_check_scopes.specs.Parts.{locals_parts, within_local, stmts_parts, within_stmt}
use Rattle.cilk_check.specs.NameFinds.{part_faults, scope_faults, behind_locals, block_faults, locals_faults, inside_local, stmts_faults, inside_stmt}

-- of a part, with the parameters of an inlet
abbrev pub whole_faults : Scopes → Part → List CheckFault
whole_faults scopes (local (tree.declared d)) = part_faults scopes (local (tree.declared d))
whole_faults scopes (local (tree.inlet_at at name parameters body)) =
    part_faults scopes (local (tree.inlet_at at name parameters body)) ++ scope_faults (map parameter parameters)
whole_faults scopes (statement s) = part_faults scopes (statement s)

abbrev pub standing_faults : PartInContext → List CheckFault
standing_faults s = whole_faults s.around.scopes s.part

behind_is : (a : Around) (locals : tree.Locals) → (after_locals a locals).scopes ≡ behind_locals a.scopes locals
behind_is a tree.no_locals = refl
behind_is a (tree.and_local first others) = behind_is (after_local a first) others

mutual
  pub block_is : (a : Around) (b : tree.Block) → flat_map standing_faults (block_parts a b) ≡ block_faults a.scopes b
  block_is a (tree.block locals stmts) =
      flat_map-append standing_faults (locals_parts a locals) (stmts_parts (after_locals a locals) stmts)
      ∙ ap (λ fs. fs ++ flat_map standing_faults (stmts_parts (after_locals a locals) stmts)) (locals_is a locals)
      ∙ ap (λ fs. locals_faults a.scopes locals ++ fs) (stmts_is (after_locals a locals) stmts ∙ ap (λ s. stmts_faults s stmts) (behind_is a locals))

  locals_is : (a : Around) (locals : tree.Locals) → flat_map standing_faults (locals_parts a locals) ≡ locals_faults a.scopes locals
  locals_is a tree.no_locals = refl
  locals_is a (tree.and_local first others) =
      ap (λ fs. whole_faults a.scopes (local first) ++ fs)
      (flat_map-append standing_faults (within_local a first) (locals_parts (after_local a first) others)
      ∙ ap (λ fs. flat_map standing_faults (within_local a first) ++ fs) (locals_is (after_local a first) others))
      ∙ sym
      (append_assoc (whole_faults a.scopes (local first)) (flat_map standing_faults (within_local a first))
      (locals_faults (declare a.scopes (local_declares first)) others))
      ∙ ap (λ fs. fs ++ locals_faults (declare a.scopes (local_declares first)) others) (local_is a first)
      ∙ append_assoc (part_faults a.scopes (local first)) (inside_local (declare a.scopes (local_declares first)) first)
      (locals_faults (declare a.scopes (local_declares first)) others)

  local_is : (a : Around) (l : tree.Local)
      → whole_faults a.scopes (local l) ++ flat_map standing_faults (within_local a l) ≡ part_faults a.scopes (local l)
      ++ inside_local (declare a.scopes (local_declares l)) l
  local_is a (tree.declared d) = refl
  local_is a (tree.inlet_at at name parameters body) =
      append_assoc (part_faults a.scopes (local (tree.inlet_at at name parameters body))) (scope_faults (map parameter parameters)) _
      ∙ ap (λ fs. part_faults a.scopes (local (tree.inlet_at at name parameters body)) ++ (scope_faults (map parameter parameters) ++ fs))
      (block_is (in_inlet a (tree.inlet_at at name parameters body) parameters) body)

  stmts_is : (a : Around) (stmts : tree.Stmts) → flat_map standing_faults (stmts_parts a stmts) ≡ stmts_faults a.scopes stmts
  stmts_is a tree.none = refl
  stmts_is a (tree.also first others) =
      ap (λ fs. part_faults a.scopes (statement first) ++ fs)
      (flat_map-append standing_faults (within_stmt a first) (stmts_parts a others) ∙ (λ i. stmt_is a first i ++ stmts_is a others i))

  stmt_is : (a : Around) (s : tree.Stmt) → flat_map standing_faults (within_stmt a s) ≡ inside_stmt a.scopes s
  stmt_is a (tree.when test body) = block_is (inner a) body
  stmt_is a (tree.either test body other) =
      flat_map-append standing_faults (block_parts (inner a) body) (block_parts (inner a) other)
      ∙ (λ i. block_is (inner a) body i ++ block_is (inner a) other i)
  stmt_is a (tree.while test body) = block_is (looped a) body
  stmt_is a (tree.repeat body test) = block_is (looped a) body
  stmt_is a (tree.loop first test advance body) = block_is (looped a) body
  stmt_is a (tree.switch test body) = block_is (switched a) body
  stmt_is a (tree.nested inside) = block_is (inner a) inside
  stmt_is a other = refl
