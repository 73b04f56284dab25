-- What the rules say of the parts of a well-formed program.
use Rattle.std.proofs.Common.{◌≡◌, ◌≢◌, ℕ, ◌<◌, ◌≤◌, Bool, true, false, IsTrue, ◌&&◌, nat_eq, nat_le, List, [], flat_map, length, Option, Some, None}
use Rattle.std.proofs.Common.{is_some, codes, inl, inr, refl, sym, ap, ◌∙◌, arith, Decides}
use Rattle.std.proofs.lemmas.Bool.{true_from_ne_false, false≢true}
use Rattle.std.specs.List.{Contains}
use Rattle.std.proofs.lemmas.Bool.Decides.{Decides-eqb, nat_tests}
use Rattle.cilk_eval.specs.syntax.declared.return_type.ReturnType.TheVariants as returns
use Rattle.cilk_eval.specs.syntax.Tree.{Word}
use Rattle.cilk_eval.specs.syntax.Tree as tree
use Rattle.cilk_eval.specs.scopes.declared.owner.Owner.{Owner}
use Rattle.cilk_eval.specs.scopes.declared.owner.Owner.TheVariants as owner
use Rattle.cilk_eval.specs.scopes.declared.declaration_kind.DeclarationKind.TheVariants as kind
use Rattle.cilk_eval.specs.scopes.Scopes.{Declared, meaning, kind_of_global, item_declares, file_declares}
use Rattle.cilk_eval.specs.scopes.Parts.{Around, Part, local, statement, PartInContext, parts_of}
use Rattle.cilk_eval.specs.scopes.Declarations.{Declaring, declaring, item_parameters, part_declarings, declarings_of}
use Rattle.cilk_eval.proofs.scopes_laws.Elements.{Has, Contains-from_Has, Has-append_left, Has-append_right, Has-flat_map}
use Rattle.cilk_eval.proofs.scopes_laws.Splits.{declared_behind}
use Rattle.cilk_eval.specs.scopes.declared.role.Role.TheVariants as role
use Rattle.cilk_eval.specs.scopes.Uses.{Use, part_uses, uses_of}
use Rattle.cilk_eval.specs.scopes.NameFaults as names
use Rattle.cilk_eval.specs.scopes.NameFaults.{fits, arguments_of, parameters_of, is_for_value, Means}
use Rattle.cilk_eval.specs.scopes.Reserved.{IsReserved}
use Rattle.cilk_eval.specs.scopes.Format.{numbers_in}
use Rattle.cilk_eval.specs.scopes.Cells.{is_length}
use Rattle.cilk_eval.specs.scopes.Forms as forms
use Rattle.cilk_eval.specs.scopes.Forms.{words_of_children, returned_by, has_form}
use Rattle.cilk_eval.specs.labelled.Bodies.{is_procedure}
use Rattle.cilk_eval.specs.scopes.WellFormed.{WellFormed}

-- what a use means, and that it is one of these
pub record Sound (used : Use) : Type 0 where
  pub means : Declared
  pub visible : meaning used.scopes used.name.text ≡ Some means
  pub fitting : fits used.role means.kind ≡ true
  pub counts : (given wanted : ℕ) → arguments_of used.role ≡ Some given → parameters_of means.kind ≡ Some wanted → given ≡ wanted
  pub gives : is_for_value used.role ≡ true → names.returned_by means.kind ≢ Some returns.Void
  pub not_main : (n : ℕ) (b : Bool) → used.role ≡ role.Spawned n b → used.name.text ≢ codes "main"
  pub no_inlet : (n k : ℕ) (b : Bool) → used.role ≡ role.Called n b → means.kind ≢ kind.Inlet k

not_from : {P : Type 0} (b : Bool) → Decides b P → b ≡ false → ¬ P
not_from b d e p = false≢true (sym e ∙ d.1 p)

same_number : (m n : ℕ) → ¬ (m ≢ n) → m ≡ n
same_number m n h = (Decides-eqb m n).0 (true_from_ne_false (nat_eq m n) (λ e. h (not_from (nat_eq m n) (Decides-eqb m n) e)))

same_count : (o : Option ℕ) (n : ℕ) → ¬ (o ≢ Some n) → o ≡ Some n
same_count None n h = absurd (h (λ e. cc))
same_count (Some m) n h = ap (λ (k : ℕ). Some k) (same_number m n (λ differ. h (λ e. differ (let same : m ≡ n = cc in same))))

-- an array may have this length
pub record InRange (n : ℕ) : Type 0 where
  pub low : 0 < n
  pub high : n ≤ 65536

in_range : (n : ℕ) → IsTrue (is_length n) → InRange n
in_range n e = both (nat_le 1 n) (nat_le n 65536) refl refl e
  where
    both : (x y : Bool) → nat_le 1 n ≡ x → nat_le n 65536 ≡ y → (x && y) ≡ true → InRange n
    both true true low high e = record { low = grind (arith, nat_tests, low); high = grind (arith, nat_tests, high) }
    both true false low high e = cc
    both false y low high e = cc

-- the rules and what is labelled have a word each for the bodies of procedures
pub forms_same : (o : Owner) → forms.is_procedure o ≡ is_procedure o
forms_same (owner.Function r) = refl
forms_same (owner.Procedure r) = refl
forms_same owner.Inlet = refl

module _ (p : tree.Program) (well : WellFormed p) where
  use_of : (used : Use) (d : Declared) → Means p used d → Sound used
  use_of used d m = record {
    means = d;
    visible = m.visible;
    fitting = true_from_ne_false (fits used.role d.kind) (λ e. well _ (inl (names.wrong_kind used d m e)));
    counts = λ given wanted g w. same_number given wanted (λ differ. well _ (inl (names.argument_count used d given wanted m g w differ)));
    gives = λ taken void. well _ (inl (names.void_value used d m taken void));
    not_main = λ n b r main. well _ (inl (names.main_spawned used d n b m r main));
    no_inlet = λ n k b r i. well _ (inl (names.inlet_called used d n k b m r i));
  }

  meant_or_not : (used : Use) → Contains (uses_of p) used → ¬ IsReserved used.name → (o : Option Declared)
      → meaning used.scopes used.name.text ≡ o → Sound used
  meant_or_not used there free None e =
      absurd (well _ (inl (names.unknown used there free (ap is_some e))))
  meant_or_not used there free (Some d) e =
      use_of used d (record { is_use = there; unreserved = free; visible = e })

  pub use_sound : (used : Use) → Has (uses_of p) used → Sound used
  use_sound used there =
      let is_use = Contains-from_Has (uses_of p) used there in
      meant_or_not used is_use (λ r. well _ (inl (names.reserved_used used is_use r)))
      (meaning used.scopes used.name.text) refl

  -- of what a part uses
  pub part_sound : (s : PartInContext) → Has (parts_of p) s → (used : Use) → Has (part_uses s.around.scopes s.part) used → Sound used
  part_sound s there used h =
      use_sound used (Has-flat_map (λ (x : PartInContext). part_uses x.around.scopes x.part) (parts_of p) s used there h)

  -- where `spawn`, `sync` and `SYNCHED` stand
  pub children_in_procedure : (a : Around) (part : Part) → Has (parts_of p) (record { around = a; part = part }) → (at : ℕ) → Has (words_of_children part) at
      → IsTrue (is_procedure a.within.owner)
  children_in_procedure a part there at h = by_owner a.within.owner refl
    where
      by_owner : (o : Owner) → a.within.owner ≡ o → IsTrue (is_procedure a.within.owner)
      by_owner (owner.Function r) e =
          absurd (well _ (inr (forms.in_function a part r at (Contains-from_Has _ _ there) e (Contains-from_Has _ _ h))))
      by_owner (owner.Procedure r) e = ap is_procedure e
      by_owner owner.Inlet e =
          absurd (well _ (inr (forms.in_inlet a part at (Contains-from_Has _ _ there) e (Contains-from_Has _ _ h))))

  -- where inlets stand
  pub inlet_in_procedure : (a : Around) (at : ℕ) (name : Word) (parameters : List Word) (body : tree.Block)
      → Has (parts_of p) (record { around = a; part = local (tree.inlet_at at name parameters body) })
      → IsTrue (is_procedure a.within.owner) × IsTrue a.within.outermost
  inlet_in_procedure a at name parameters body there =
      let stands = Contains-from_Has (parts_of p) _ there in (
        sym (forms_same a.within.owner) ∙ true_from_ne_false (forms.is_procedure a.within.owner)
            (λ e. well _ (inr (forms.inlet_in_no_procedure a at name parameters body stands e))),
        true_from_ne_false a.within.outermost (λ e. well _ (inr (forms.inlet_in_inner_block a at name parameters body stands e))),
      )

  -- where `abort` stands
  pub abort_in_inlet : (a : Around) (at : ℕ) → Has (parts_of p) (record { around = a; part = statement (tree.abort_at at) }) → a.within.owner ≡ owner.Inlet
  abort_in_inlet a at there = by_owner a.within.owner (λ n. well _ (inr (forms.abort_outside a at (Contains-from_Has _ _ there) n)))
    where
      by_owner : (o : Owner) → ¬ (o ≢ owner.Inlet) → o ≡ owner.Inlet
      by_owner (owner.Function r) h = absurd (h (λ e. cc))
      by_owner (owner.Procedure r) h = absurd (h (λ e. cc))
      by_owner owner.Inlet h = refl

  -- where `break` and `continue` stand
  pub break_in_one : (a : Around) (at : ℕ) → Has (parts_of p) (record { around = a; part = statement (tree.break_at at) }) → IsTrue a.within.in_loop_or_switch
  break_in_one a at there =
      true_from_ne_false a.within.in_loop_or_switch (λ e. well _ (inr (forms.break_outside a at (Contains-from_Has _ _ there) e)))

  pub continue_in_a_loop : (a : Around) (at : ℕ) → Has (parts_of p) (record { around = a; part = statement (tree.continue_at at) })
      → IsTrue a.within.in_loop
  continue_in_a_loop a at there = true_from_ne_false a.within.in_loop (λ e. well _ (inr (forms.continue_outside a at (Contains-from_Has _ _ there) e)))

  pub returns_so : (a : Around) (at : ℕ) (value : Option tree.Expr) → Has (parts_of p) (record { around = a; part = statement (tree.return_at at value) })
      → IsTrue (has_form (returned_by a.within.owner) value)
  returns_so a at value there =
      true_from_ne_false (has_form (returned_by a.within.owner) value) (λ e. well _ (inr (forms.return_form a at value (Contains-from_Has _ _ there) e)))

  pub format_counts : (a : Around) (text : tree.Literal) (arguments : List tree.Expr)
      → Has (parts_of p) (record { around = a; part = statement (tree.print text arguments) })
      → numbers_in text.bytes ≡ Some (length arguments)
  format_counts a text arguments there =
      same_count (numbers_in text.bytes) (length arguments) (λ differ. well _ (inr (forms.format a text arguments (Contains-from_Has _ _ there) differ)))

  array_has_length : (d : Declaring) (n : ℕ) → Has (declarings_of p) d → d.declared.kind ≡ kind.Array n → InRange n
  array_has_length d n there e =
      in_range n (true_from_ne_false (is_length n) (λ no. well _ (inr (forms.array_length d n (Contains-from_Has _ _ there) e no))))

  -- the lengths of arrays
  pub local_in_range : (a : Around) (name : Word) (n : ℕ)
      → Has (parts_of p) (record { around = a; part = local (tree.declared (record { name = name; shape = tree.array n })) }) → InRange n
  local_in_range a name n there =
      let d : Declaring = record { before = a.scopes.innermost; declared = record { name = name; kind = kind.Array n } } in
      let s : PartInContext = record { around = a; part = local (tree.declared (record { name = name; shape = tree.array n })) } in
      let declared = Has-flat_map (λ (x : PartInContext). part_declarings x.around.scopes x.part) (parts_of p) s d there (inl refl) in
      array_has_length d n (Has-append_right (declaring [] (file_declares p.items)) _ d (Has-append_right (flat_map item_parameters p.items) _ d declared)) refl

  pub global_in_range : (x : tree.Global) (n : ℕ) → Has p.items (tree.global x) → x.shape ≡ tree.global_array n → InRange n
  global_in_range x n there e =
      let d : Declared = record { name = x.name; kind = kind_of_global x.shape } in
      let behind = declared_behind [] (file_declares p.items) d (Has-flat_map item_declares p.items (tree.global x) d there (inl refl)) in
      array_has_length (record { before = behind.0; declared = d }) n (Has-append_left (declaring [] (file_declares p.items)) _ _ behind.1)
      (ap kind_of_global e)
