-- Each listed fault is a fault of the program.
use Rattle.std.proofs.Common.{◌≡◌, Bool, true, false, not, cond, ◌&&◌, is_some, [], ◌∷◌, Option, Some, None, codes, inl, inr, refl, sym, ap, subst, ◌∙◌}
use Rattle.std.specs.List.{Contains, flat_map, list_any}
use Rattle.std.specs.Option.{option_map}
use Rattle.std.specs.Str.{bytes_eq}
use Rattle.std.proofs.lemmas.Bool.{false≢true, and_parts, not-true}
use Rattle.std.proofs.lemmas.Slice.Eq.{bytes_eq-Decides}
use Rattle.cilk_check_scopes.specs.syntax.Tree as tree
use Rattle.cilk_check_scopes.specs.declared.fault.CheckFault.{CheckFault}
use Rattle.cilk_check_scopes.specs.declared.fault.CheckFault.TheVariants.{Twice, WrongKind, ArgumentCount, VoidValue, Prototype, Reserved}
use Rattle.cilk_check_scopes.specs.First.{fault_if}
use Rattle.cilk_check_scopes.specs.Scopes.{Declared, declared_in, meaning, parameters_declare, file_declares, file_scopes}
use Rattle.cilk_check_scopes.specs.Parts.{PartInContext, in_body, owner_of, block_parts, item_parts, parts_of}
use Rattle.cilk_check_scopes.specs.Declarations.{Declaring, declaring, part_declarings, item_parameters, declarings_of}
use Rattle.cilk_check_scopes.proofs.Elements.{Has, Has-from_Contains, Contains-from_Has, Has-append_left, Has-append_right, Has-append_cases}
use Rattle.cilk_check_scopes.proofs.Elements.{Has-flat_map, Has-flat_map_cases}
use Rattle.cilk_check_scopes.proofs.Held.{Has-fault_if_cases}
use Rattle.cilk_check_scopes.specs.Uses.{Use, part_uses, uses_of}
use Rattle.cilk_check_scopes.specs.NameFaults.{fits, arguments_of, parameters_of, returned_by, is_for_value, Means, Faulty, twice, unknown, wrong_kind}
use Rattle.cilk_check_scopes.specs.NameFaults.{main_spawned, argument_count, void_value, inlet_called, undefined, reserved_declared, reserved_used}
use Rattle.cilk_check_scopes.specs.NameFaults.{reserved_prototype}
use Rattle.cilk_check.specs.NameFinds.{is_reserved, differ, is_void, is_spawned, is_called, is_inlet, meant_faults, visible_faults, use_faults}
use Rattle.cilk_check.specs.NameFinds.{declaring_faults, defines, prototype_faults, scope_faults, procedure_faults, item_faults, names_faults}
use Rattle.cilk_check.proofs.NameBlocks.{block_is, standing_faults}
use Rattle.cilk_check.proofs.Told.{ToldBy, declares, uses, part_told}
use Rattle.cilk_check.proofs.Decided.{reserved-Decides, not_from, differ_from, void_from, spawned_from, called_from}
use Rattle.cilk_check.proofs.Decided.{inlet_from, defined_where}

declaring_sound : (p : tree.Program) (d : Declaring) (f : CheckFault) → Has (declarings_of p) d → Has (declaring_faults d) f → Faulty p f
unfolding declaring_faults
declaring_sound p d f there h =
    elim (Has-append_cases (fault_if (is_some (declared_in d.before d.declared.name.text)) (Twice d.declared.name.place)) _ f h) [
      | inl k ↦
          let c = Has-fault_if_cases (is_some (declared_in d.before d.declared.name.text)) _ f k in
          subst (Faulty p) c.1 (twice d (Contains-from_Has _ d there) c.0)
      | inr k ↦
          let c = Has-fault_if_cases (is_reserved d.declared.name.text) _ f k in
          subst (Faulty p) c.1 (reserved_declared d (Contains-from_Has _ d there) ((reserved-Decides d.declared.name).0 c.0))
    ]

meant_sound : (p : tree.Program) (u : Use) (d : Declared) (f : CheckFault) → Means p u d → Has (meant_faults u.name u.role d.kind) f → Faulty p f
unfolding meant_faults
meant_sound p u d f m h =
    elim (Has-append_cases (fault_if (not (fits u.role d.kind)) (WrongKind u.name.place)) _ f h) [
      | inl k ↦
          let c = Has-fault_if_cases (not (fits u.role d.kind)) _ f k in
          subst (Faulty p) c.1 (wrong_kind u d m (not-true _ c.0))
      | inr k ↦
          elim (Has-append_cases (fault_if (is_spawned u.role && bytes_eq u.name.text (codes "main")) (WrongKind u.name.place)) _ f k) [
            | inl n ↦
                let c = Has-fault_if_cases (is_spawned u.role && bytes_eq u.name.text (codes "main")) _ f n in
                let a = and_parts (is_spawned u.role) _ c.0 in
                let s = spawned_from u.role a.0 in
                subst (Faulty p) c.1 (main_spawned u d s.0 s.1 m s.2 ((bytes_eq-Decides u.name.text (codes "main")).0 a.1))
            | inr n ↦
                elim (Has-append_cases (fault_if (differ (arguments_of u.role) (parameters_of d.kind)) (ArgumentCount u.name.place)) _ f n) [
                  | inl x ↦
                      let c = Has-fault_if_cases (differ (arguments_of u.role) (parameters_of d.kind)) _ f x in
                      let y = differ_from (arguments_of u.role) (parameters_of d.kind) c.0 in
                      subst (Faulty p) c.1 (argument_count u d y.given y.wanted m y.is_given y.is_wanted y.differ)
                  | inr x ↦
                      elim (Has-append_cases (fault_if (is_for_value u.role && is_void (returned_by d.kind)) (VoidValue u.name.place)) _ f x) [
                        | inl y ↦
                            let c = Has-fault_if_cases (is_for_value u.role && is_void (returned_by d.kind)) _ f y in
                            let a = and_parts (is_for_value u.role) _ c.0 in
                            subst (Faulty p) c.1 (void_value u d m a.0 (void_from (returned_by d.kind) a.1))
                        | inr y ↦
                            let c = Has-fault_if_cases (is_called u.role && is_inlet d.kind) _ f y in
                            let a = and_parts (is_called u.role) _ c.0 in
                            let r = called_from u.role a.0 in
                            let i = inlet_from d.kind a.1 in
                            subst (Faulty p) c.1 (inlet_called u d r.0 i.0 r.1 m r.2 i.1)
                      ]
                ]
          ]
    ]

use_cases : (p : tree.Program) (u : Use) (f : CheckFault) (r : Bool) (m : Option Declared) → Contains (uses_of p) u
    → is_reserved u.name.text ≡ r → meaning u.scopes u.name.text ≡ m
    → Has (cond r (Reserved u.name.place ∷ []) (visible_faults u.name u.role (option_map (λ d. d.kind) m))) f → Faulty p f
use_cases p u f true m there er em (inl e) = subst (Faulty p) e (reserved_used u there ((reserved-Decides u.name).0 er))
use_cases p u f true m there er em (inr h) = absurd h
use_cases p u f false None there er em (inl e) =
    subst (Faulty p) e (unknown u there (not_from _ (reserved-Decides u.name) er) (ap is_some em))
use_cases p u f false None there er em (inr h) = absurd h
use_cases p u f false (Some d) there er em h =
    meant_sound p u d f (record { is_use = there; unreserved = not_from _ (reserved-Decides u.name) er; visible = em }) h

use_sound : (p : tree.Program) (u : Use) (f : CheckFault) → Contains (uses_of p) u → Has (use_faults u) f → Faulty p f
unfolding use_faults
use_sound p u f there h =
    use_cases p u f (is_reserved u.name.text) (meaning u.scopes u.name.text) there refl refl h

told_sound : (p : tree.Program) (s : PartInContext) (f : CheckFault) → Has (parts_of p) s
    → ToldBy (part_declarings s.around.scopes s.part) (part_uses s.around.scopes s.part) f → Faulty p f
told_sound p s f stands (declares d h k) =
    declaring_sound p d f
    (Has-append_right (declaring [] (file_declares p.items)) _ d
    (Has-append_right (flat_map item_parameters p.items) _ d
    (Has-flat_map (λ x. part_declarings x.around.scopes x.part) (parts_of p) s d stands h))) k
told_sound p s f stands (uses u h k) =
    use_sound p u f (Contains-from_Has _ u (Has-flat_map (λ x. part_uses x.around.scopes x.part) (parts_of p) s u stands h)) k

procedure_sound : (p : tree.Program) (g : tree.Proc) (f : CheckFault) → Has p.items (tree.procedure g)
    → Has (procedure_faults (file_scopes p.items) g) f → Faulty p f
unfolding procedure_faults
procedure_sound p g f there h =
    let a = in_body (file_scopes p.items) (owner_of g.is_cilk g.returns) (parameters_declare g.parameters) in
    elim (Has-append_cases (scope_faults (parameters_declare g.parameters)) _ f h) [
      | inl k ↦
          let o = Has-flat_map_cases declaring_faults (declaring [] (parameters_declare g.parameters)) f k in
          declaring_sound p o.owner f
          (Has-append_right (declaring [] (file_declares p.items)) _ o.owner
          (Has-append_left (flat_map item_parameters p.items) _ o.owner
          (Has-flat_map item_parameters p.items (tree.procedure g) o.owner there o.is_element))) o.has
      | inr k ↦
          let o = Has-flat_map_cases standing_faults (block_parts a g.body) f (subst (λ fs. Has fs f) (sym (block_is a g.body)) k) in
          told_sound p o.owner f (Has-flat_map (item_parts (file_scopes p.items)) p.items (tree.procedure g) o.owner there o.is_element)
          (part_told o.owner.around.scopes o.owner.part f o.has)
    ]

item_sound : (p : tree.Program) (x : tree.Item) (f : CheckFault) → Has p.items x → Has (item_faults (file_scopes p.items) x) f → Faulty p f
item_sound p (tree.procedure g) f there h = procedure_sound p g f there h
item_sound p (tree.global g) f there h = absurd h
item_sound p (tree.lock name) f there h = absurd h
item_sound p (tree.prototype q) f there h = absurd h

prototype_sound : (p : tree.Program) (x : tree.Item) (f : CheckFault) → Has p.items x → Has (prototype_faults p.items x) f → Faulty p f
prototype_sound p (tree.prototype q) f there h =
    elim (Has-append_cases (fault_if (not (list_any (defines q) p.items)) (Prototype q.name.place)) _ f h) [
      | inl k ↦
          let c = Has-fault_if_cases (not (list_any (defines q) p.items)) _ f k in
          subst (Faulty p) c.1
          (undefined q (Contains-from_Has _ _ there) (λ g has d. false≢true
          (sym (not-true _ c.0) ∙ defined_where q p.items g (Has-from_Contains _ _ has) d)))
      | inr k ↦
          let c = Has-fault_if_cases (is_reserved q.name.text) _ f k in
          subst (Faulty p) c.1 (reserved_prototype q (Contains-from_Has _ _ there) ((reserved-Decides q.name).0 c.0))
    ]
prototype_sound p (tree.procedure g) f there h = absurd h
prototype_sound p (tree.global g) f there h = absurd h
prototype_sound p (tree.lock name) f there h = absurd h

pub names_sound : (p : tree.Program) (f : CheckFault) → Has (names_faults p) f → Faulty p f
names_sound p f h =
    elim (Has-append_cases (scope_faults (file_declares p.items)) _ f h) [
      | inl k ↦
          let o = Has-flat_map_cases declaring_faults (declaring [] (file_declares p.items)) f k in
          declaring_sound p o.owner f (Has-append_left (declaring [] (file_declares p.items)) _ o.owner o.is_element) o.has
      | inr k ↦
          elim (Has-append_cases (flat_map (prototype_faults p.items) p.items) _ f k) [
            | inl m ↦
                let o = Has-flat_map_cases (prototype_faults p.items) p.items f m in
                prototype_sound p o.owner f o.is_element o.has
            | inr m ↦
                let o = Has-flat_map_cases (item_faults (file_scopes p.items)) p.items f m in
                item_sound p o.owner f o.is_element o.has
          ]
    ]
