-- Each fault of the program is listed.
use Rattle.std.proofs.Common.{◌≡◌, ◌≢◌, ℕ, Bool, true, false, not, nat_eq, Option, Some, None, List, [], ◌∷◌, ◌++◌, length, map, ◌⊎◌, inl, inr, refl}
use Rattle.std.proofs.Common.{sym, ap, subst, ◌∙◌}
use Rattle.std.proofs.lemmas.Bool.{not_from_false}
use Rattle.std.specs.List.{Contains, flat_map, list_any}
use Rattle.std.proofs.lemmas.Bool.Decides.{Decides-eqb}
use Rattle.cilk_check_scopes.specs.syntax.Tree.{Word}
use Rattle.cilk_check_scopes.specs.syntax.Tree as tree
use Rattle.cilk_check_scopes.specs.declared.fault.CheckFault.{CheckFault}
use Rattle.cilk_check_scopes.specs.declared.fault.CheckFault.TheVariants.{NotInProcedure, InInlet, AbortOutside, NoLoop, NoMain, ReturnForm, Format, Limit}
use Rattle.cilk_check_scopes.specs.declared.declaration_kind.DeclarationKind.{DeclarationKind}
use Rattle.cilk_check_scopes.specs.declared.declaration_kind.DeclarationKind.TheVariants.{Array}
use Rattle.cilk_check_scopes.specs.declared.owner.Owner.{Owner}
use Rattle.cilk_check_scopes.specs.declared.owner.Owner.TheVariants as owner
use Rattle.cilk_check_scopes.specs.First.{fault_if}
use Rattle.cilk_check_scopes.specs.Scopes.{Declared, parameter, local_declares, parameters_declare, file_declares, file_scopes}
use Rattle.cilk_check_scopes.specs.Parts.{Around, Part, local, statement, PartInContext, in_body, owner_of, block_parts, item_parts, parts_of, part_exprs}
use Rattle.cilk_check_scopes.specs.Parts.{stmt_exprs}
use Rattle.cilk_check_scopes.specs.Declarations.{Declaring, declaring, part_declarings, item_parameters, declarings_of, block_variables}
use Rattle.cilk_check_scopes.specs.Declarations.{item_activations, inlet_activations, activations_of}
use Rattle.cilk_check_scopes.proofs.Elements.{Has, Has-from_Contains, Contains-from_Has, Has-append_left, Has-append_right, Has-append_cases}
use Rattle.cilk_check_scopes.proofs.Elements.{Has-flat_map, Has-flat_map_cases}
use Rattle.cilk_check_scopes.proofs.Held.{Has-fault_if}
use Rattle.cilk_check_scopes.proofs.Splits.{is_declared}
use Rattle.cilk_check_scopes.specs.Cells.{max_cells, max_global_cells, is_length}
use Rattle.cilk_check_scopes.specs.Format.{numbers_in}
use Rattle.cilk_check_scopes.specs.Forms.{synched_in, own_word, words_of_children, returned_by, has_form, is_procedure, labels_of, IsMain, Faulty}
use Rattle.cilk_check_scopes.specs.Forms.{in_function, inlet_in_no_procedure, inlet_in_inner_block, in_inlet, abort_outside, break_outside, continue_outside}
use Rattle.cilk_check_scopes.specs.Forms.{no_main}
use Rattle.cilk_check_scopes.specs.Forms.{return_form, format, array_length, limit, global_limit, same_label}
use Rattle.cilk_check.specs.FormFinds.{word_faults, words_faults, expr_faults, exprs_faults, is_inlet, is_count, kind_faults, length_faults}
use Rattle.cilk_check_scopes.specs.Mains.{starts}
use Rattle.cilk_check.specs.FormFinds.{passing, stmt_faults, part_faults, standing_faults, block_faults, procedure_faults, item_faults}
use Rattle.cilk_check.specs.FormFinds.{forms_faults}
use Rattle.cilk_check.proofs.FormBlocks.{block_is}
use Rattle.cilk_check.proofs.Passing.{passing_has}
use Rattle.cilk_check.proofs.Repeated.{repeated_has}
use Rattle.cilk_check_scopes.proofs.Mains.{started}

is_no_inlet : (o : Owner) → o ≢ owner.Inlet → is_inlet o ≡ false
is_no_inlet owner.Inlet n = absurd (n refl)
is_no_inlet (owner.Function returns) n = refl
is_no_inlet (owner.Procedure returns) n = refl

no_count : (n : ℕ) (o : Option ℕ) → o ≢ Some n → is_count n o ≡ false
no_count n None h = refl
no_count n (Some k) h = differs (nat_eq k n) refl
  where
    differs : (b : Bool) → nat_eq k n ≡ b → nat_eq k n ≡ false
    differs true e = absurd (h (ap Some ((Decides-eqb k n).0 e)))
    differs false e = e

-- a fault of an item is one of the program
item_has : (p : tree.Program) (x : tree.Item) (f : CheckFault) → Has p.items x → Has (item_faults x) f → Has (forms_faults p) f
item_has p x f there h =
    Has-append_right (flat_map length_faults (file_declares p.items)) _ f
    (Has-append_right (passing max_global_cells (file_declares p.items)) _ f
    (Has-append_left (flat_map item_faults p.items) _ f (Has-flat_map item_faults p.items x f there h)))

-- a fault of a part that stands in the program is one of the program
standing_cases : (p : tree.Program) (x : tree.Item) (s : PartInContext) (f : CheckFault) → Has p.items x
    → Has (item_parts (file_scopes p.items) x) s → Has (standing_faults s) f → Has (forms_faults p) f
unfolding procedure_faults
standing_cases p (tree.procedure g) s f there stands h =
    let a = in_body (file_scopes p.items) (owner_of g.is_cilk g.returns) (parameters_declare g.parameters) in
    let inside : Has (block_faults a.within g.body) f =
    subst (λ fs. Has fs f) (block_is a g.body) (Has-flat_map standing_faults (block_parts a g.body) s f stands h)
    in
    item_has p (tree.procedure g) f there (Has-append_right (passing max_cells (parameters_declare g.parameters ++ block_variables g.body)) _ f inside)
standing_cases p (tree.global g) s f there stands h = absurd stands
standing_cases p (tree.lock name) s f there stands h = absurd stands
standing_cases p (tree.prototype q) s f there stands h = absurd stands

standing_has : (p : tree.Program) (s : PartInContext) (f : CheckFault) → Has (parts_of p) s → Has (standing_faults s) f → Has (forms_faults p) f
standing_has p s f stands h =
    let o = Has-flat_map_cases (item_parts (file_scopes p.items)) p.items s stands in
    standing_cases p o.owner s f o.is_element o.has h

part_has : (p : tree.Program) (a : Around) (part : Part) (f : CheckFault) → Contains (parts_of p) (record { around = a; part = part })
    → Has (part_faults a.within part) f → Has (forms_faults p) f
part_has p a part f stands h =
    standing_has p (record { around = a; part = part }) f (Has-from_Contains _ _ stands) h

-- the fault of a word is listed at its part
word_has : (a : Around) (part : Part) (at : ℕ) (f : CheckFault) → Has (words_of_children part) at → Has (word_faults a.within.owner at) f
    → Has (part_faults a.within part) f
unfolding part_faults
word_has a (statement s) at f w h =
    Has-append_right (stmt_faults a.within s) _ f
    (elim (Has-append_cases (own_word (statement s)) _ at w) as
    (λ _. Has (words_faults a.within.owner (own_word (statement s)) ++ exprs_faults a.within.owner (stmt_exprs s)) f) [
      | inl k ↦ Has-append_left (words_faults a.within.owner (own_word (statement s))) _ f
          (Has-flat_map (word_faults a.within.owner) (own_word (statement s)) at f k h)
      | inr k ↦
          let o = Has-flat_map_cases synched_in (stmt_exprs s) at k in
          Has-append_right (words_faults a.within.owner (own_word (statement s))) _ f
          (Has-flat_map (expr_faults a.within.owner) (stmt_exprs s) o.owner f o.is_element
          (Has-flat_map (word_faults a.within.owner) (synched_in o.owner) at f o.has h))
    ])
word_has a (local (tree.declared d)) at f w h =
    let o = Has-flat_map_cases synched_in (part_exprs (local (tree.declared d))) at w in
    Has-append_right (length_faults (local_declares (tree.declared d))) _ f
    (Has-flat_map (expr_faults a.within.owner) (part_exprs (local (tree.declared d))) o.owner f o.is_element
    (Has-flat_map (word_faults a.within.owner) (synched_in o.owner) at f o.has h))
word_has a (local (tree.inlet_at n name parameters body)) at f w h = absurd w

stmt_has : (p : tree.Program) (a : Around) (s : tree.Stmt) (f : CheckFault)
    → Contains (parts_of p) (record { around = a; part = statement s }) → Has (stmt_faults a.within s) f → Has (forms_faults p) f
unfolding part_faults
stmt_has p a s f stands h = part_has p a (statement s) f stands (Has-append_left (stmt_faults a.within s) _ f h)

-- an array's length is listed where it is declared
length_has : (at n : ℕ) (kind : DeclarationKind) → kind ≡ Array n → is_length n ≡ false → Has (kind_faults at kind) (Limit at)
length_has at n kind e l =
    subst (λ k. Has (kind_faults at k) (Limit at)) (sym e) (Has-fault_if (not (is_length n)) (Limit at) (not_from_false _ l))

no_array : (names : List Word) (d : Declared) (n : ℕ) → Has (map parameter names) d → d.kind ≢ Array n
no_array [] d n h e = h
no_array (name ∷ names) d n (inl is) e = let same : (parameter name).kind ≡ Array n = ap (λ x. x.kind) is ∙ e in cc
no_array (name ∷ names) d n (inr h) e = no_array names d n h e

no_array_parameter : (parameters : tree.Parameters) (d : Declared) (n : ℕ) → Has (parameters_declare parameters) d → d.kind ≢ Array n
no_array_parameter (tree.ints names) d n h e = no_array names d n h e
no_array_parameter (tree.command_line count strings) d n (inl is) e =
    let same : (parameter count).kind ≡ Array n = ap (λ x. x.kind) is ∙ e in cc
no_array_parameter (tree.command_line count strings) d n (inr (inl is)) e =
    let same = ap (λ x. x.kind) is ∙ e in cc
no_array_parameter (tree.command_line count strings) d n (inr (inr h)) e = h

no_array_item : (x : tree.Item) (d : Declaring) (n : ℕ) → Has (item_parameters x) d → d.declared.kind ≢ Array n
no_array_item (tree.procedure g) d n h e =
    no_array_parameter g.parameters d.declared n (is_declared [] (parameters_declare g.parameters) d h) e
no_array_item (tree.global g) d n h e = h
no_array_item (tree.lock name) d n h e = h
no_array_item (tree.prototype q) d n h e = h

declared_length : (a : Around) (part : Part) (d : Declaring) (n : ℕ) → Has (part_declarings a.scopes part) d → d.declared.kind ≡ Array n
    → is_length n ≡ false → Has (part_faults a.within part) (Limit d.declared.name.place)
unfolding part_faults
declared_length a (statement s) d n h e l = absurd h
declared_length a (local (tree.declared x)) d n (inl is) e l =
    let same : local_declares (tree.declared x) ≡ d.declared = ap (λ y. y.declared) is in
    let kind : (local_declares (tree.declared x)).kind ≡ Array n = ap (λ y. y.kind) same ∙ e in
    subst (λ y. Has (part_faults a.within (local (tree.declared x))) (Limit y.name.place)) same
    (Has-append_left (length_faults (local_declares (tree.declared x))) _ _
    (length_has x.name.place n (local_declares (tree.declared x)).kind kind l))
declared_length a (local (tree.declared x)) d n (inr h) e l = absurd h
declared_length a (local (tree.inlet_at at name parameters body)) d n (inl is) e l =
    let same : (local_declares (tree.inlet_at at name parameters body)).kind ≡ Array n = ap (λ y. y.declared.kind) is ∙ e in cc
declared_length a (local (tree.inlet_at at name parameters body)) d n (inr h) e l =
    absurd (no_array parameters d.declared n (is_declared [] (map parameter parameters) d h) e)

array_has : (p : tree.Program) (d : Declaring) (n : ℕ) → Has (declarings_of p) d → d.declared.kind ≡ Array n → is_length n ≡ false
    → Has (forms_faults p) (Limit d.declared.name.place)
array_has p d n h e l =
    elim (Has-append_cases (declaring [] (file_declares p.items)) _ d h) [
      | inl k ↦
          Has-append_left (flat_map length_faults (file_declares p.items)) _ _
          (Has-flat_map length_faults (file_declares p.items) d.declared _ (is_declared [] (file_declares p.items) d k)
          (length_has d.declared.name.place n d.declared.kind e l))
      | inr k ↦
          elim (Has-append_cases (flat_map item_parameters p.items) _ d k) [
            | inl m ↦
                let o = Has-flat_map_cases item_parameters p.items d m in absurd (no_array_item o.owner d n o.has e)
            | inr m ↦
                let o = Has-flat_map_cases (λ s. part_declarings s.around.scopes s.part) (parts_of p) d m in
                standing_has p o.owner _ o.is_element (declared_length o.owner.around o.owner.part d n o.has e l)
          ]
    ]

inlet_passed : (a : Around) (part : Part) (ds : List Declared) (f : CheckFault) → Has (inlet_activations part) ds
    → Has (passing max_cells ds) f → Has (part_faults a.within part) f
unfolding part_faults
inlet_passed a (statement s) ds f h k = absurd h
inlet_passed a (local (tree.declared d)) ds f h k = absurd h
inlet_passed a (local (tree.inlet_at at name parameters body)) ds f (inl is) k =
    Has-append_right (fault_if (not (is_procedure a.within.owner)) (NotInProcedure at)) _ f
    (Has-append_right (fault_if (not a.within.outermost) (NotInProcedure at)) _ f (subst (λ xs. Has (passing max_cells xs) f) (sym is) k))
inlet_passed a (local (tree.inlet_at at name parameters body)) ds f (inr h) k = absurd h

item_passed : (p : tree.Program) (x : tree.Item) (ds : List Declared) (f : CheckFault) → Has p.items x → Has (item_activations x) ds
    → Has (passing max_cells ds) f → Has (forms_faults p) f
unfolding procedure_faults
item_passed p (tree.procedure g) ds f there (inl is) k =
    item_has p (tree.procedure g) f there
    (Has-append_left (passing max_cells (parameters_declare g.parameters ++ block_variables g.body)) _ f
    (subst (λ xs. Has (passing max_cells xs) f) (sym is) k))
item_passed p (tree.procedure g) ds f there (inr h) k = absurd h
item_passed p (tree.global g) ds f there h k = absurd h
item_passed p (tree.lock name) ds f there h k = absurd h
item_passed p (tree.prototype q) ds f there h k = absurd h

passed_has : (p : tree.Program) (ds : List Declared) (f : CheckFault) → Has (activations_of p) ds → Has (passing max_cells ds) f → Has (forms_faults p) f
passed_has p ds f h k =
    elim (Has-append_cases (flat_map item_activations p.items) _ ds h) [
      | inl m ↦
          let o = Has-flat_map_cases item_activations p.items ds m in item_passed p o.owner ds f o.is_element o.has k
      | inr m ↦
          let o = Has-flat_map_cases (λ s. inlet_activations s.part) (parts_of p) ds m in
          standing_has p o.owner f o.is_element (inlet_passed o.owner.around o.owner.part ds f o.has k)
    ]

inlet_has : (p : tree.Program) (a : Around) (at : ℕ) (name : Word) (parameters : List Word) (body : tree.Block)
    → Contains (parts_of p) (record { around = a; part = local (tree.inlet_at at name parameters body) })
    → (is_procedure a.within.owner ≡ false) ⊎ (a.within.outermost ≡ false)
    → Has (forms_faults p) (NotInProcedure at)
unfolding part_faults
inlet_has p a at name parameters body stands (inl e) =
    part_has p a _ _ stands
    (Has-append_left (fault_if (not (is_procedure a.within.owner)) (NotInProcedure at)) _ _
    (Has-fault_if (not (is_procedure a.within.owner)) (NotInProcedure at) (not_from_false _ e)))
inlet_has p a at name parameters body stands (inr e) =
    part_has p a _ _ stands
    (Has-append_right (fault_if (not (is_procedure a.within.owner)) (NotInProcedure at)) _ _
    (Has-append_left (fault_if (not a.within.outermost) (NotInProcedure at)) _ _
    (Has-fault_if (not a.within.outermost) (NotInProcedure at) (not_from_false _ e))))

main_has : (p : tree.Program) → ((f : tree.Proc) → Contains p.items (tree.procedure f) → ¬ IsMain f) → Has (forms_faults p) (NoMain p.length)
main_has p none =
    Has-append_right (flat_map length_faults (file_declares p.items)) _ _
    (Has-append_right (passing max_global_cells (file_declares p.items)) _ _ (Has-append_right
    (flat_map item_faults p.items) _ _
    (Has-fault_if (not (list_any starts p.items)) (NoMain p.length) (not_from_false _ (no_start (list_any starts p.items) refl)))))
  where
    no_start : (b : Bool) → list_any starts p.items ≡ b → list_any starts p.items ≡ false
    no_start true e = let s = started p.items e in absurd (none s.definition (Contains-from_Has _ _ s.there) s.is_main)
    no_start false e = e

pub forms_complete : (p : tree.Program) (f : CheckFault) → Faulty p f → Has (forms_faults p) f
forms_complete p f (in_function a part r at stands e w) =
    part_has p a part (NotInProcedure at) stands
    (word_has a part at _ (Has-from_Contains _ _ w) (subst (λ o. Has (word_faults o at) (NotInProcedure at)) (sym e) (inl refl)))
forms_complete p f (inlet_in_no_procedure a at name parameters body stands e) =
    inlet_has p a at name parameters body stands (inl e)
forms_complete p f (inlet_in_inner_block a at name parameters body stands e) =
    inlet_has p a at name parameters body stands (inr e)
forms_complete p f (in_inlet a part at stands e w) =
    part_has p a part (InInlet at) stands (word_has a part at _ (Has-from_Contains _ _ w) (subst (λ o. Has (word_faults o at) (InInlet at)) (sym e) (inl refl)))
forms_complete p f (abort_outside a at stands n) =
    stmt_has p a _ _ stands (Has-fault_if (not (is_inlet a.within.owner)) (AbortOutside at) (not_from_false _ (is_no_inlet a.within.owner n)))
forms_complete p f (break_outside a at stands e) =
    stmt_has p a _ _ stands (Has-fault_if (not a.within.in_loop_or_switch) (NoLoop at) (not_from_false _ e))
forms_complete p f (continue_outside a at stands e) =
    stmt_has p a _ _ stands (Has-fault_if (not a.within.in_loop) (NoLoop at) (not_from_false _ e))
forms_complete p f (no_main none) = main_has p none
forms_complete p f (return_form a at value stands e) =
    stmt_has p a _ _ stands (Has-fault_if (not (has_form (returned_by a.within.owner) value)) (ReturnForm at) (not_from_false _ e))
forms_complete p f (format a text arguments stands n) =
    stmt_has p a _ _ stands (Has-fault_if (not (is_count (length arguments) (numbers_in text.bytes))) (Format text.place) (not_from_false _ (no_count _ _ n)))
forms_complete p f (array_length d n there e l) = array_has p d n (Has-from_Contains _ _ there) e l
forms_complete p f (limit before after d there passes) =
    passed_has p _ _ (Has-from_Contains _ _ there) (passing_has max_cells before d after passes)
forms_complete p f (global_limit before after d order passes) =
    Has-append_right (flat_map length_faults (file_declares p.items)) _ _
    (Has-append_left (passing max_global_cells (file_declares p.items)) _ _
    (subst (λ ds. Has (passing max_global_cells ds) (Limit d.name.place)) (sym order) (passing_has max_global_cells before d after passes)))
forms_complete p f (same_label a test body i k first second stands at_i at_k before same) =
    stmt_has p a _ _ stands (repeated_has (labels_of body) i k first second at_i at_k before same)
