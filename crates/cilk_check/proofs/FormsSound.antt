-- Each listed fault is a fault of the program.
use Rattle.std.proofs.Common.{◌≡◌, ◌≢◌, ℕ, false, not, Option, Some, None, List, [], ◌++◌, length, map, inl, inr, refl, sym, subst, ◌∙◌}
use Rattle.std.specs.List.{Contains, flat_map, list_any}
use Rattle.std.proofs.lemmas.Bool.{false≢true, not-true}
use Rattle.std.proofs.lemmas.Bool.Decides.{Decides-eqb}
use Rattle.cilk_check_scopes.specs.syntax.Tree.{Word}
use Rattle.cilk_check_scopes.specs.syntax.Tree as tree
use Rattle.cilk_check_scopes.specs.declared.fault.CheckFault.{CheckFault}
use Rattle.cilk_check_scopes.specs.declared.fault.CheckFault.TheVariants.{NotInProcedure}
use Rattle.cilk_check_scopes.specs.declared.declaration_kind.DeclarationKind.{DeclarationKind}
use Rattle.cilk_check_scopes.specs.declared.declaration_kind.DeclarationKind.TheVariants.{Array}
use Rattle.cilk_check_scopes.specs.declared.owner.Owner.{Owner}
use Rattle.cilk_check_scopes.specs.declared.owner.Owner.TheVariants as owner
use Rattle.cilk_check_scopes.specs.First.{fault_if}
use Rattle.cilk_check_scopes.specs.Scopes.{Declared, parameter, kind_of_shape, local_declares, parameters_declare, file_declares, file_scopes}
use Rattle.cilk_check_scopes.specs.Parts.{Around, Part, local, statement, in_body, owner_of, block_parts, item_parts, parts_of, part_exprs}
use Rattle.cilk_check_scopes.specs.Declarations.{Declaring, declaring, part_declarings, item_parameters, declarings_of, block_variables}
use Rattle.cilk_check_scopes.specs.Declarations.{item_activations, inlet_activations, activations_of}
use Rattle.cilk_check_scopes.proofs.Elements.{Has, Has-from_Contains, Contains-from_Has, Has-append_left, Has-append_right, Has-append_cases}
use Rattle.cilk_check_scopes.proofs.Elements.{Has-flat_map, Has-flat_map_cases}
use Rattle.cilk_check_scopes.proofs.Held.{Has-fault_if_cases}
use Rattle.cilk_check_scopes.proofs.Splits.{declared_behind}
use Rattle.cilk_check_scopes.specs.Cells.{max_cells, max_global_cells, is_length}
use Rattle.cilk_check_scopes.specs.Format.{numbers_in}
use Rattle.cilk_check_scopes.specs.Forms.{synched_in, own_word, words_of_children, returned_by, has_form, is_procedure, labels_of, Faulty, in_function}
use Rattle.cilk_check_scopes.specs.Forms.{inlet_in_no_procedure, inlet_in_inner_block, in_inlet, abort_outside, break_outside, continue_outside, no_main}
use Rattle.cilk_check_scopes.specs.Forms.{return_form}
use Rattle.cilk_check_scopes.specs.Forms.{format, array_length, limit, global_limit, same_label}
use Rattle.cilk_check.specs.FormFinds.{word_faults, words_faults, expr_faults, exprs_faults, is_inlet, is_count, kind_faults, length_faults}
use Rattle.cilk_check_scopes.specs.Mains.{starts}
use Rattle.cilk_check.specs.FormFinds.{passing, stmt_faults, part_faults, standing_faults, procedure_faults, item_faults, forms_faults}
use Rattle.cilk_check.proofs.FormBlocks.{block_is}
use Rattle.cilk_check.proofs.Repeated.{repeated}
use Rattle.cilk_check_scopes.proofs.Mains.{starts_where}
use Rattle.cilk_check.proofs.Passing.{passing_found}

no_inlet : (o : Owner) → is_inlet o ≡ false → o ≢ owner.Inlet
no_inlet owner.Inlet e is = cc
no_inlet (owner.Function returns) e is = cc
no_inlet (owner.Procedure returns) e is = cc

other_count : (n : ℕ) (o : Option ℕ) → is_count n o ≡ false → o ≢ Some n
other_count n None e is = cc
other_count n (Some k) e is =
    let same : k ≡ n = cc in
    false≢true (sym e ∙ (Decides-eqb k n).1 same)

-- the faults of a part that stands in the program
module _ (p : tree.Program) (a : Around) (part : Part) (stands : Contains (parts_of p) (record { around = a; part = part })) where
  word_sound : (f : CheckFault) (at : ℕ) (o : Owner) → a.within.owner ≡ o → Has (words_of_children part) at → Has (word_faults o at) f → Faulty p f
  word_sound f at (owner.Function r) e w (inl is) =
      subst (Faulty p) is (in_function a part r at stands e (Contains-from_Has _ at w))
  word_sound f at (owner.Function r) e w (inr h) = absurd h
  word_sound f at (owner.Procedure r) e w h = absurd h
  word_sound f at owner.Inlet e w (inl is) =
      subst (Faulty p) is (in_inlet a part at stands e (Contains-from_Has _ at w))
  word_sound f at owner.Inlet e w (inr h) = absurd h

  own_sound : (f : CheckFault) → Has (words_faults a.within.owner (own_word part)) f → Faulty p f
  own_sound f h =
      let o = Has-flat_map_cases (word_faults a.within.owner) (own_word part) f h in
      word_sound f o.owner a.within.owner refl (Has-append_left (own_word part) _ o.owner o.is_element) o.has

  exprs_sound : (f : CheckFault) → Has (exprs_faults a.within.owner (part_exprs part)) f → Faulty p f
  exprs_sound f h =
      let o = Has-flat_map_cases (expr_faults a.within.owner) (part_exprs part) f h in
      let w = Has-flat_map_cases (word_faults a.within.owner) (synched_in o.owner) f o.has in
      word_sound f w.owner a.within.owner refl
      (Has-append_right (own_word part) _ w.owner (Has-flat_map synched_in (part_exprs part) o.owner w.owner o.is_element w.is_element))
      w.has

stmt_sound : (p : tree.Program) (a : Around) (s : tree.Stmt) (f : CheckFault)
    → Contains (parts_of p) (record { around = a; part = statement s }) → Has (stmt_faults a.within s) f → Faulty p f
stmt_sound p a (tree.abort_at at) f stands h =
    let c = Has-fault_if_cases (not (is_inlet a.within.owner)) _ f h in
    subst (Faulty p) c.1 (abort_outside a at stands (no_inlet a.within.owner (not-true _ c.0)))
stmt_sound p a (tree.break_at at) f stands h =
    let c = Has-fault_if_cases (not a.within.in_loop_or_switch) _ f h in
    subst (Faulty p) c.1 (break_outside a at stands (not-true _ c.0))
stmt_sound p a (tree.continue_at at) f stands h =
    let c = Has-fault_if_cases (not a.within.in_loop) _ f h in
    subst (Faulty p) c.1 (continue_outside a at stands (not-true _ c.0))
stmt_sound p a (tree.return_at at value) f stands h =
    let c = Has-fault_if_cases (not (has_form (returned_by a.within.owner) value)) _ f h in
    subst (Faulty p) c.1 (return_form a at value stands (not-true _ c.0))
stmt_sound p a (tree.print text arguments) f stands h =
    let c = Has-fault_if_cases (not (is_count (length arguments) (numbers_in text.bytes))) _ f h in
    subst (Faulty p) c.1 (format a text arguments stands (other_count _ _ (not-true _ c.0)))
stmt_sound p a (tree.switch test body) f stands h =
    let r = repeated (labels_of body) f h in
    subst (Faulty p) r.is (same_label a test body r.i r.k r.first r.second stands r.first_at r.second_at r.before r.same)
stmt_sound p a other f stands h = absurd h

-- a declaration of a part is one of the program
local_declared : (p : tree.Program) (a : Around) (part : Part) (d : Declaring) → Contains (parts_of p) (record { around = a; part = part })
    → Has (part_declarings a.scopes part) d → Contains (declarings_of p) d
local_declared p a part d stands h =
    let there = Has-flat_map (λ s. part_declarings s.around.scopes s.part) (parts_of p) (record { around = a; part = part }) d
    (Has-from_Contains _ _ stands) h in
    Contains-from_Has _ d (Has-append_right (declaring [] (file_declares p.items)) _ d (Has-append_right (flat_map item_parameters p.items) _ d there))

length_sound : (p : tree.Program) (d : Declaring) (kind : DeclarationKind) (f : CheckFault) → Contains (declarings_of p) d → d.declared.kind ≡ kind
    → Has (kind_faults d.declared.name.place kind) f → Faulty p f
length_sound p d (Array n) f there e h =
    let c = Has-fault_if_cases (not (is_length n)) _ f h in
    subst (Faulty p) c.1 (array_length d n there e (not-true _ c.0))
length_sound p d other f there e h = absurd h

passed_sound : (p : tree.Program) (ds : List Declared) (f : CheckFault) → Contains (activations_of p) ds → Has (passing max_cells ds) f → Faulty p f
passed_sound p ds f there h =
    let x = passing_found max_cells ds f h in
    subst (Faulty p) x.is (limit x.before x.after x.at (subst (Contains (activations_of p)) x.order there) x.passes)

inlet_activation : (p : tree.Program) (a : Around) (at : ℕ) (name : Word) (parameters : List Word) (body : tree.Block)
    → Contains (parts_of p) (record { around = a; part = local (tree.inlet_at at name parameters body) })
    → Contains (activations_of p) (map parameter parameters ++ block_variables body)
inlet_activation p a at name parameters body stands =
    Contains-from_Has _ _
    (Has-append_right (flat_map item_activations p.items) _ _
    (Has-flat_map (λ s. inlet_activations s.part) (parts_of p) (record { around = a; part = local (tree.inlet_at at name parameters body) })
    _ (Has-from_Contains _ _ stands) (inl refl)))

part_sound : (p : tree.Program) (a : Around) (part : Part) (f : CheckFault) → Contains (parts_of p) (record { around = a; part = part })
    → Has (part_faults a.within part) f → Faulty p f
unfolding part_faults
part_sound p a (statement s) f stands h =
    elim (Has-append_cases (stmt_faults a.within s) _ f h) [
      | inl k ↦ stmt_sound p a s f stands k
      | inr k ↦
          elim (Has-append_cases (words_faults a.within.owner (own_word (statement s))) _ f k) [
            | inl m ↦ own_sound p a (statement s) stands f m
            | inr m ↦ exprs_sound p a (statement s) stands f m
          ]
    ]
part_sound p a (local (tree.declared d)) f stands h =
    elim (Has-append_cases (kind_faults d.name.place (kind_of_shape d.shape)) _ f h) [
      | inl k ↦
          length_sound p (record { before = a.scopes.innermost; declared = local_declares (tree.declared d) }) (kind_of_shape d.shape) f
          (local_declared p a (local (tree.declared d)) _ stands (inl refl)) refl k
      | inr k ↦ exprs_sound p a (local (tree.declared d)) stands f k
    ]
part_sound p a (local (tree.inlet_at at name parameters body)) f stands h =
    elim (Has-append_cases (fault_if (not (is_procedure a.within.owner)) (NotInProcedure at)) _ f h) [
      | inl k ↦
          let c = Has-fault_if_cases (not (is_procedure a.within.owner)) _ f k in
          subst (Faulty p) c.1 (inlet_in_no_procedure a at name parameters body stands (not-true _ c.0))
      | inr k ↦
          elim (Has-append_cases (fault_if (not a.within.outermost) (NotInProcedure at)) _ f k) [
            | inl m ↦
                let c = Has-fault_if_cases (not a.within.outermost) _ f m in
                subst (Faulty p) c.1 (inlet_in_inner_block a at name parameters body stands (not-true _ c.0))
            | inr m ↦ passed_sound p _ f (inlet_activation p a at name parameters body stands) m
          ]
    ]

procedure_sound : (p : tree.Program) (g : tree.Proc) (f : CheckFault) → Has p.items (tree.procedure g) → Has (procedure_faults g) f → Faulty p f
unfolding procedure_faults
procedure_sound p g f there h =
    let a = in_body (file_scopes p.items) (owner_of g.is_cilk g.returns) (parameters_declare g.parameters) in
    elim (Has-append_cases (passing max_cells (parameters_declare g.parameters ++ block_variables g.body)) _ f h) [
      | inl k ↦
          passed_sound p _ f
          (Contains-from_Has _ _ (Has-append_left (flat_map item_activations p.items) _ _
          (Has-flat_map item_activations p.items (tree.procedure g) _ there (inl refl)))) k
      | inr k ↦
          let o = Has-flat_map_cases standing_faults (block_parts a g.body) f (subst (λ fs. Has fs f) (sym (block_is a g.body)) k) in
          part_sound p o.owner.around o.owner.part f
          (Contains-from_Has _ _ (Has-flat_map (item_parts (file_scopes p.items)) p.items (tree.procedure g) o.owner there o.is_element))
          o.has
    ]

item_sound : (p : tree.Program) (x : tree.Item) (f : CheckFault) → Has p.items x → Has (item_faults x) f → Faulty p f
item_sound p (tree.procedure g) f there h = procedure_sound p g f there h
item_sound p (tree.global g) f there h = absurd h
item_sound p (tree.lock name) f there h = absurd h
item_sound p (tree.prototype q) f there h = absurd h

pub forms_sound : (p : tree.Program) (f : CheckFault) → Has (forms_faults p) f → Faulty p f
forms_sound p f h =
    let ds = file_declares p.items in
    elim (Has-append_cases (flat_map length_faults ds) _ f h) [
      | inl k ↦
          let o = Has-flat_map_cases length_faults ds f k in
          let d = declared_behind [] ds o.owner o.is_element in
          length_sound p (record { before = d.0; declared = o.owner }) o.owner.kind f
          (Contains-from_Has _ _ (Has-append_left (declaring [] ds) _ _ d.1)) refl o.has
      | inr k ↦
          elim (Has-append_cases (passing max_global_cells ds) _ f k) [
            | inl m ↦
                let x = passing_found max_global_cells ds f m in
                subst (Faulty p) x.is (global_limit x.before x.after x.at x.order x.passes)
            | inr m ↦
                elim (Has-append_cases (flat_map item_faults p.items) _ f m) [
                  | inl n ↦
                      let o = Has-flat_map_cases item_faults p.items f n in item_sound p o.owner f o.is_element o.has
                  | inr n ↦
                      let c = Has-fault_if_cases (not (list_any starts p.items)) _ f n in
                      subst (Faulty p) c.1
                      (no_main (λ g there is_main. false≢true
                      (sym (not-true _ c.0) ∙ starts_where p.items g (Has-from_Contains _ _ there) is_main)))
                ]
          ]
    ]
