-- Each fault of the program is listed.
use Rattle.std.proofs.Common.{◌≡◌, Bool, true, false, not, ◌&&◌, is_some, [], Option, Some, None, codes, inl, inr, refl, sym, ap, subst}
use Rattle.std.proofs.lemmas.Bool.{and_from, not_from_false}
use Rattle.std.specs.List.{Contains, flat_map, list_any}
use Rattle.std.specs.Option.{option_map}
use Rattle.std.specs.Str.{bytes_eq}
use Rattle.std.proofs.lemmas.Slice.Eq.{bytes_eq-Decides}
use Rattle.cilk_check_scopes.specs.syntax.Tree as tree
use Rattle.cilk_check_scopes.specs.declared.fault.CheckFault.{CheckFault}
use Rattle.cilk_check_scopes.specs.declared.fault.CheckFault.TheVariants.{Twice, Unknown, WrongKind, ArgumentCount, VoidValue, InletNeedsSpawn}
use Rattle.cilk_check_scopes.specs.declared.fault.CheckFault.TheVariants.{Prototype, Reserved}
use Rattle.cilk_check_scopes.specs.First.{fault_if}
use Rattle.cilk_check_scopes.specs.Scopes.{Declared, declared_in, meaning, parameters_declare, file_declares, file_scopes}
use Rattle.cilk_check_scopes.specs.Parts.{PartInContext, in_body, owner_of, block_parts, item_parts, parts_of}
use Rattle.cilk_check_scopes.specs.Declarations.{Declaring, declaring, part_declarings, item_parameters, declarings_of}
use Rattle.cilk_check_scopes.proofs.Elements.{Has, Has-from_Contains, Contains-from_Has, Has-append_left, Has-append_right, Has-append_cases}
use Rattle.cilk_check_scopes.proofs.Elements.{Has-flat_map, Has-flat_map_cases}
use Rattle.cilk_check_scopes.proofs.Held.{Has-fault_if}
use Rattle.cilk_check_scopes.specs.Reserved.{IsReserved}
use Rattle.cilk_check_scopes.specs.Uses.{Use, part_uses, uses_of}
use Rattle.cilk_check_scopes.specs.NameFaults.{fits, arguments_of, parameters_of, returned_by, is_for_value, Means, Defines, Faulty, twice, unknown}
use Rattle.cilk_check_scopes.specs.NameFaults.{wrong_kind, main_spawned, argument_count, void_value, inlet_called, undefined, reserved_declared}
use Rattle.cilk_check_scopes.specs.NameFaults.{reserved_used, reserved_prototype}
use Rattle.cilk_check.specs.NameFinds.{is_reserved, differ, is_void, is_spawned, is_called, is_inlet, meant_faults, visible_faults, use_faults}
use Rattle.cilk_check.specs.NameFinds.{declaring_faults, defines, prototype_faults, scope_faults, block_faults, procedure_faults, item_faults}
use Rattle.cilk_check.specs.NameFinds.{names_faults}
use Rattle.cilk_check.proofs.NameBlocks.{block_is, whole_faults, standing_faults}
use Rattle.cilk_check.proofs.Told.{declares_has, uses_has}
use Rattle.cilk_check.proofs.Decided.{reserved-Decides, false_from, differ_to, defined_there}

-- ---- where the faults of a program stand

item_has : (p : tree.Program) (x : tree.Item) (f : CheckFault) → Has p.items x → Has (item_faults (file_scopes p.items) x) f → Has (names_faults p) f
item_has p x f there h =
    Has-append_right (scope_faults (file_declares p.items)) _ f
    (Has-append_right (flat_map (prototype_faults p.items) p.items) _ f
    (Has-flat_map (item_faults (file_scopes p.items)) p.items x f there h))

standing_cases : (p : tree.Program) (x : tree.Item) (s : PartInContext) (f : CheckFault) → Has p.items x
    → Has (item_parts (file_scopes p.items) x) s → Has (standing_faults s) f → Has (names_faults p) f
unfolding procedure_faults
standing_cases p (tree.procedure g) s f there stands h =
    let a = in_body (file_scopes p.items) (owner_of g.is_cilk g.returns) (parameters_declare g.parameters) in
    let inside : Has (block_faults a.scopes g.body) f =
    subst (λ fs. Has fs f) (block_is a g.body) (Has-flat_map standing_faults (block_parts a g.body) s f stands h)
    in
    item_has p (tree.procedure g) f there (Has-append_right (scope_faults (parameters_declare g.parameters)) _ f inside)
standing_cases p (tree.global g) s f there stands h = absurd stands
standing_cases p (tree.lock name) s f there stands h = absurd stands
standing_cases p (tree.prototype q) s f there stands h = absurd stands

standing_has : (p : tree.Program) (s : PartInContext) (f : CheckFault) → Has (parts_of p) s → Has (whole_faults s.around.scopes s.part) f
    → Has (names_faults p) f
standing_has p s f stands h =
    let o = Has-flat_map_cases (item_parts (file_scopes p.items)) p.items s stands in
    standing_cases p o.owner s f o.is_element o.has h

parameter_has : (p : tree.Program) (x : tree.Item) (d : Declaring) (f : CheckFault) → Has p.items x → Has (item_parameters x) d
    → Has (declaring_faults d) f → Has (names_faults p) f
unfolding procedure_faults
parameter_has p (tree.procedure g) d f there h k =
    item_has p (tree.procedure g) f there
    (Has-append_left (scope_faults (parameters_declare g.parameters)) _ f
    (Has-flat_map declaring_faults (declaring [] (parameters_declare g.parameters)) d f h k))
parameter_has p (tree.global g) d f there h k = absurd h
parameter_has p (tree.lock name) d f there h k = absurd h
parameter_has p (tree.prototype q) d f there h k = absurd h

declaring_has : (p : tree.Program) (d : Declaring) (f : CheckFault) → Has (declarings_of p) d → Has (declaring_faults d) f → Has (names_faults p) f
declaring_has p d f h k =
    elim (Has-append_cases (declaring [] (file_declares p.items)) _ d h) as (λ _. Has (names_faults p) f) [
      | inl m ↦
          Has-append_left (scope_faults (file_declares p.items)) _ f (Has-flat_map declaring_faults (declaring [] (file_declares p.items)) d f m k)
      | inr m ↦
          elim (Has-append_cases (flat_map item_parameters p.items) _ d m) as (λ _. Has (names_faults p) f) [
            | inl n ↦
                let o = Has-flat_map_cases item_parameters p.items d n in parameter_has p o.owner d f o.is_element o.has k
            | inr n ↦
                let o = Has-flat_map_cases (λ s. part_declarings s.around.scopes s.part) (parts_of p) d n in
                standing_has p o.owner f o.is_element (declares_has o.owner.around.scopes o.owner.part d f o.has k)
          ]
    ]

use_has : (p : tree.Program) (u : Use) (f : CheckFault) → Contains (uses_of p) u → Has (use_faults u) f → Has (names_faults p) f
use_has p u f there k =
    let o = Has-flat_map_cases (λ s. part_uses s.around.scopes s.part) (parts_of p) u (Has-from_Contains _ _ there) in
    standing_has p o.owner f o.is_element (uses_has o.owner.around.scopes o.owner.part u f o.has k)

-- ---- the faults of a use

free_has : (u : Use) (f : CheckFault) → ¬ IsReserved u.name
    → Has (visible_faults u.name u.role (option_map (λ d. d.kind) (meaning u.scopes u.name.text))) f → Has (use_faults u) f
unfolding use_faults
free_has u f free h = rw (false_from (is_reserved u.name.text) (reserved-Decides u.name) free) h

means_has : (p : tree.Program) (u : Use) (d : Declared) (f : CheckFault) → Means p u d → Has (meant_faults u.name u.role d.kind) f → Has (names_faults p) f
means_has p u d f m h =
    use_has p u f m.is_use (free_has u f m.unreserved (subst (λ o. Has (visible_faults u.name u.role (option_map (λ x. x.kind) o)) f) (sym m.visible) h))

none_is : (o : Option Declared) → is_some o ≡ false → o ≡ None
none_is None e = refl
none_is (Some d) e = cc

unknown_has : (u : Use) → ¬ IsReserved u.name → is_some (meaning u.scopes u.name.text) ≡ false → Has (use_faults u) (Unknown u.name.place)
unknown_has u free none =
    free_has u _ free (subst (λ o. Has (visible_faults u.name u.role (option_map (λ x. x.kind) o)) (Unknown u.name.place)) (sym (none_is _ none)) (inl refl))

reserved_has : (u : Use) → IsReserved u.name → Has (use_faults u) (Reserved u.name.place)
unfolding use_faults
reserved_has u r = rw ((reserved-Decides u.name).1 r) (inl refl)

module _ (u : Use) (d : Declared) where
  kind_has : fits u.role d.kind ≡ false → Has (meant_faults u.name u.role d.kind) (WrongKind u.name.place)
  unfolding meant_faults
  kind_has e =
      Has-append_left (fault_if (not (fits u.role d.kind)) (WrongKind u.name.place)) _ _ (Has-fault_if (not (fits u.role d.kind)) _ (not_from_false _ e))

  main_has : (is_spawned u.role && bytes_eq u.name.text (codes "main")) ≡ true → Has (meant_faults u.name u.role d.kind) (WrongKind u.name.place)
  unfolding meant_faults
  main_has e =
      Has-append_right (fault_if (not (fits u.role d.kind)) (WrongKind u.name.place)) _ _
      (Has-append_left (fault_if (is_spawned u.role && bytes_eq u.name.text (codes "main")) (WrongKind u.name.place)) _ _
      (Has-fault_if (is_spawned u.role && bytes_eq u.name.text (codes "main")) _ e))

  count_has : differ (arguments_of u.role) (parameters_of d.kind) ≡ true → Has (meant_faults u.name u.role d.kind) (ArgumentCount u.name.place)
  unfolding meant_faults
  count_has e =
      Has-append_right (fault_if (not (fits u.role d.kind)) (WrongKind u.name.place)) _ _
      (Has-append_right (fault_if (is_spawned u.role && bytes_eq u.name.text (codes "main"))
      (WrongKind u.name.place)) _ _
      (Has-append_left (fault_if (differ (arguments_of u.role) (parameters_of d.kind)) (ArgumentCount u.name.place)) _ _
      (Has-fault_if (differ
      (arguments_of u.role) (parameters_of d.kind)) _ e)))

  value_has : (is_for_value u.role && is_void (returned_by d.kind)) ≡ true → Has (meant_faults u.name u.role d.kind) (VoidValue u.name.place)
  unfolding meant_faults
  value_has e =
      Has-append_right (fault_if (not (fits u.role d.kind)) (WrongKind u.name.place)) _ _
      (Has-append_right (fault_if (is_spawned u.role && bytes_eq u.name.text (codes "main"))
      (WrongKind u.name.place)) _ _
      (Has-append_right (fault_if (differ (arguments_of u.role) (parameters_of d.kind)) (ArgumentCount u.name.place)) _ _
      (Has-append_left (fault_if
      (is_for_value u.role && is_void (returned_by d.kind)) (VoidValue u.name.place)) _ _
      (Has-fault_if (is_for_value u.role && is_void (returned_by d.kind)) _ e))))

  inlet_has : (is_called u.role && is_inlet d.kind) ≡ true → Has (meant_faults u.name u.role d.kind) (InletNeedsSpawn u.name.place)
  unfolding meant_faults
  inlet_has e =
      Has-append_right (fault_if (not (fits u.role d.kind)) (WrongKind u.name.place)) _ _
      (Has-append_right (fault_if (is_spawned u.role && bytes_eq u.name.text (codes "main"))
      (WrongKind u.name.place)) _ _
      (Has-append_right (fault_if (differ (arguments_of u.role) (parameters_of d.kind)) (ArgumentCount u.name.place)) _ _
      (Has-append_right (fault_if
      (is_for_value u.role && is_void (returned_by d.kind)) (VoidValue u.name.place)) _ _ (Has-fault_if (is_called u.role && is_inlet d.kind) _ e))))

twice_has : (d : Declaring) → is_some (declared_in d.before d.declared.name.text) ≡ true → Has (declaring_faults d) (Twice d.declared.name.place)
unfolding declaring_faults
twice_has d e =
    Has-append_left (fault_if (is_some (declared_in d.before d.declared.name.text)) (Twice d.declared.name.place)) _ _
    (Has-fault_if (is_some (declared_in d.before d.declared.name.text)) _ e)

declared_reserved_has : (d : Declaring) → IsReserved d.declared.name → Has (declaring_faults d) (Reserved d.declared.name.place)
unfolding declaring_faults
declared_reserved_has d r =
    Has-append_right (fault_if (is_some (declared_in d.before d.declared.name.text)) (Twice d.declared.name.place)) _ _
    (Has-fault_if (is_reserved d.declared.name.text) _ ((reserved-Decides d.declared.name).1 r))

prototype_has : (p : tree.Program) (q : tree.Prototype) (f : CheckFault) → Contains p.items (tree.prototype q)
    → Has (prototype_faults p.items (tree.prototype q)) f → Has (names_faults p) f
prototype_has p q f there h =
    Has-append_right (scope_faults (file_declares p.items)) _ f
    (Has-append_left (flat_map (prototype_faults p.items) p.items) _ f
    (Has-flat_map (prototype_faults p.items) p.items (tree.prototype q) f (Has-from_Contains _ _ there) h))

undefined_is : (p : tree.Program) (q : tree.Prototype) → ((f : tree.Proc) → Contains p.items (tree.procedure f) → ¬ Defines f q)
    → (b : Bool) → list_any (defines q) p.items ≡ b → list_any (defines q) p.items ≡ false
undefined_is p q none true e =
    let d = defined_there q p.items e in absurd (none d.definition (Contains-from_Has _ _ d.there) d.defines)
undefined_is p q none false e = e

pub names_complete : (p : tree.Program) (f : CheckFault) → Faulty p f → Has (names_faults p) f
names_complete p f (twice d there e) = declaring_has p d _ (Has-from_Contains _ _ there) (twice_has d e)
names_complete p f (unknown u there free none) = use_has p u _ there (unknown_has u free none)
names_complete p f (wrong_kind u d m e) = means_has p u d _ m (kind_has u d e)
names_complete p f (main_spawned u d n b m r is_main) =
    means_has p u d _ m (main_has u d (and_from (is_spawned u.role) _ (ap is_spawned r) ((bytes_eq-Decides u.name.text (codes "main")).1 is_main)))
names_complete p f (argument_count u d x y m e g n) =
    means_has p u d _ m (count_has u d (differ_to (arguments_of u.role) (parameters_of d.kind) x y e g n))
names_complete p f (void_value u d m e g) =
    means_has p u d _ m (value_has u d (and_from (is_for_value u.role) _ e (ap is_void g)))
names_complete p f (inlet_called u d n w b m r k) =
    means_has p u d _ m (inlet_has u d (and_from (is_called u.role) _ (ap is_called r) (ap is_inlet k)))
names_complete p f (undefined q there none) =
    prototype_has p q _ there
    (Has-append_left (fault_if (not (list_any (defines q) p.items)) (Prototype q.name.place)) _ _
    (Has-fault_if (not (list_any (defines q) p.items)) _ (not_from_false _ (undefined_is p q none (list_any (defines q) p.items) refl))))
names_complete p f (reserved_declared d there r) =
    declaring_has p d _ (Has-from_Contains _ _ there) (declared_reserved_has d r)
names_complete p f (reserved_used u there r) = use_has p u _ there (reserved_has u r)
names_complete p f (reserved_prototype q there r) =
    prototype_has p q _ there
    (Has-append_right (fault_if (not (list_any (defines q) p.items)) (Prototype q.name.place)) _ _
    (Has-fault_if (is_reserved q.name.text) _ ((reserved-Decides q.name).1 r)))
