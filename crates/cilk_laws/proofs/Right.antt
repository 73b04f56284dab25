-- What the rules of the checks leave of each part of a program: what is called is a C function, what is fed an inlet, and only procedures spawn and wait.
use Rattle.std.proofs.Common.{◌≡◌, ℕ, ◌+◌, Bool, true, false, ◌&&◌, List, ◌∷◌, ◌++◌, length, Option, Some, None, is_some, inl, inr, refl, ap, ◌∙◌}
use Rattle.std.specs.List.{Contains, flat_map}
use Rattle.cilk_check.specs.syntax.Tree.{Word}
use Rattle.cilk_check.specs.syntax.Tree as tree
use Rattle.cilk_check.specs.scopes.declared.fault.CheckFault.TheVariants.{Unknown, WrongKind, InletNeedsSpawn, Reserved, NotInProcedure, InInlet}
use Rattle.cilk_check.specs.scopes.declared.declaration_kind.DeclarationKind.{DeclarationKind}
use Rattle.cilk_check.specs.scopes.declared.declaration_kind.DeclarationKind.TheVariants as kind
use Rattle.cilk_check.specs.scopes.declared.owner.Owner.{Owner}
use Rattle.cilk_check.specs.scopes.declared.owner.Owner.TheVariants.{Function, Procedure, Inlet}
use Rattle.cilk_check.specs.scopes.Scopes.{Declared, Scopes, meaning}
use Rattle.cilk_check.specs.scopes.Parts.{Around, Part, local, statement, PartInContext, parts_of, part_exprs, visible_in}
use Rattle.cilk_check.proofs.scopes_laws.Elements.{Has, Contains-from_Has, Has-append_left, Has-append_right, Has-flat_map}
use Rattle.cilk_check.specs.scopes.declared.role.Role.TheVariants as role
use Rattle.cilk_check.specs.scopes.Uses.{Use, use_as, expr_uses, target_uses, move_uses, moves_uses, taker_uses, own_uses, part_uses, uses_of}
use Rattle.cilk_check.specs.scopes.NameFaults as names
use Rattle.cilk_check.specs.scopes.NameFaults.{fits, Means}
use Rattle.cilk_check.specs.scopes.Reserved.{IsReserved}
use Rattle.cilk_check.specs.scopes.Forms as forms
use Rattle.cilk_check.specs.scopes.Forms.{synched_in, own_word, words_of_children}
use Rattle.cilk_laws_model.specs.labelled.Bodies.{is_procedure}
use Rattle.cilk_check.specs.scopes.WellFormed.{WellFormed}
use Rattle.cilk_machine.proofs.effects_laws.Facts.{forms_same}

abbrev pub is_function_kind : DeclarationKind → Bool
is_function_kind (kind.Function returns n) = true
is_function_kind other = false

abbrev pub is_inlet_kind : DeclarationKind → Bool
is_inlet_kind (kind.Inlet n) = true
is_inlet_kind other = false

-- a name means a declaration of such a kind
pub record Finds (scopes : Scopes) (name : Word) (test : DeclarationKind → Bool) : Type 0 where
  pub what : Declared
  pub is : meaning scopes name.text ≡ Some what
  pub fits : test what.kind ≡ true

abbrev pub MoveRight : Scopes → tree.Move → Type 0
MoveRight scopes (tree.call target callee arguments) = Finds scopes callee is_function_kind
MoveRight scopes other = Unit {0}

abbrev pub MovesRight : Scopes → Option tree.Move → Type 0
MovesRight scopes None = Unit {0}
MovesRight scopes (Some move) = MoveRight scopes move

abbrev pub TakerRight : Scopes → tree.Taker → Type 0
TakerRight scopes (tree.through name others) = Finds scopes name is_inlet_kind
TakerRight scopes other = Unit {0}

abbrev pub StmtRight : Around → tree.Stmt → Type 0
StmtRight a (tree.move what) = MoveRight a.scopes what
StmtRight a (tree.spawn_at place taker callee arguments) = (is_procedure a.within.owner ≡ true) × TakerRight a.scopes taker
StmtRight a (tree.sync_at place) = is_procedure a.within.owner ≡ true
StmtRight a (tree.loop begin value advance body) = MovesRight a.scopes begin × MovesRight a.scopes advance
StmtRight a other = Unit {0}

-- an inlet is defined in the outermost block of a procedure
abbrev pub PartRight : Around → Part → Type 0
PartRight a (local (tree.declared d)) = Unit {0}
PartRight a (local (tree.inlet_at place name parameters body)) = (a.within.outermost && is_procedure a.within.owner) ≡ true
PartRight a (statement what) = StmtRight a what

-- each of these parts
abbrev pub Right : List PartInContext → Type 0
Right parts = (s : PartInContext) → Has parts s → PartRight s.around s.part

pub front : (xs ys : List PartInContext) → Right (xs ++ ys) → Right xs
front xs ys h s c = h s (Has-append_left xs ys s c)

pub back : (xs ys : List PartInContext) → Right (xs ++ ys) → Right ys
back xs ys h s c = h s (Has-append_right xs ys s c)

pub first : (x : PartInContext) (xs : List PartInContext) → Right (x ∷ xs) → PartRight x.around x.part
first x xs h = h x (inl refl)

pub others : (x : PartInContext) (xs : List PartInContext) → Right (x ∷ xs) → Right xs
others x xs h s c = h s (inr c)

function_by : (k : DeclarationKind) (n : ℕ) (value : Bool) → fits (role.Called n value) k ≡ true → ((m : ℕ) → k ≡ kind.Inlet m → ⊥) → is_function_kind k ≡ true
function_by (kind.Function returns m) n value h other = refl
function_by (kind.Inlet m) n value h other = absurd (other m refl)
function_by kind.Variable n value h other = cc
function_by (kind.Array m) n value h other = cc
function_by kind.Lock n value h other = cc
function_by kind.Strings n value h other = cc
function_by (kind.Procedure returns m) n value h other = cc

inlet_by : (k : DeclarationKind) (n : ℕ) → fits (role.Fed n) k ≡ true → is_inlet_kind k ≡ true
inlet_by (kind.Inlet m) n h = refl
inlet_by (kind.Function returns m) n h = cc
inlet_by kind.Variable n h = cc
inlet_by (kind.Array m) n h = cc
inlet_by kind.Lock n h = cc
inlet_by kind.Strings n h = cc
inlet_by (kind.Procedure returns m) n h = cc

procedure_by : (o : Owner) → ((returns : _) → o ≡ Function returns → ⊥) → (o ≡ Inlet → ⊥) → is_procedure o ≡ true
procedure_by (Function returns) h k = absurd (h returns refl)
procedure_by (Procedure returns) h k = refl
procedure_by Inlet h k = absurd (k refl)

module _ (p : tree.Program) (right : WellFormed p) where
  unreserved : (u : Use) → Contains (uses_of p) u → ¬ IsReserved u.name
  unreserved u c r = right (Reserved u.name.place) (inl (names.reserved_used u c r))

  meant_by : (u : Use) (c : Contains (uses_of p) u) (o : Option Declared) → meaning u.scopes u.name.text ≡ o → (d : Declared) × Means p u d
  meant_by u c None e =
      absurd (right (Unknown u.name.place) (inl (names.unknown u c (unreserved u c) (ap is_some e))))
  meant_by u c (Some d) e = (d, record { is_use = c; unreserved = unreserved u c; visible = e })

  meant : (u : Use) → Contains (uses_of p) u → (d : Declared) × Means p u d
  meant u c = meant_by u c (meaning u.scopes u.name.text) refl

  fits_by : (u : Use) (d : Declared) → Means p u d → (b : Bool) → fits u.role d.kind ≡ b → fits u.role d.kind ≡ true
  fits_by u d m true e = e
  fits_by u d m false e = absurd (right (WrongKind u.name.place) (inl (names.wrong_kind u d m e)))

  called : (scopes : Scopes) (name : Word) (n : ℕ) (value : Bool) → Contains (uses_of p) (use_as scopes name (role.Called n value))
      → Finds scopes name is_function_kind
  called scopes name n value c =
      let u = use_as scopes name (role.Called n value) in
      let m = meant u c in
      record {
        what = m.0;
        is = m.1.visible;
        fits = function_by m.0.kind n value (fits_by u m.0 m.1 (fits u.role m.0.kind) refl)
            (λ k e. right (InletNeedsSpawn name.place) (inl (names.inlet_called u m.0 n k value m.1 refl e)));
      }

  fed : (scopes : Scopes) (name : Word) (n : ℕ) → Contains (uses_of p) (use_as scopes name (role.Fed n)) → Finds scopes name is_inlet_kind
  fed scopes name n c =
      let u = use_as scopes name (role.Fed n) in
      let m = meant u c in
      record { what = m.0; is = m.1.visible; fits = inlet_by m.0.kind n (fits_by u m.0 m.1 (fits u.role m.0.kind) refl) }

  module _ (a : Around) (part : Part) (there : Has (parts_of p) (record { around = a; part = part })) where
    used : (u : Use) → Has (own_uses (visible_in a.scopes part) part) u → Contains (uses_of p) u
    used u h =
        Contains-from_Has (uses_of p) u
        (Has-flat_map (λ s. part_uses s.around.scopes s.part) (parts_of p) (record { around = a; part = part }) u there
        (Has-append_left (own_uses (visible_in a.scopes part) part) (flat_map (expr_uses (visible_in a.scopes part)) (part_exprs part)) u h))

    own_procedure : (at : ℕ) → Has (own_word part) at → is_procedure a.within.owner ≡ true
    own_procedure at h =
        let word : Contains (words_of_children part) at = Contains-from_Has (words_of_children part) at
        (Has-append_left (own_word part) (flat_map synched_in (part_exprs part)) at h) in
        let place : Contains (parts_of p) (record { around = a; part = part }) = Contains-from_Has (parts_of p) _ there in
        procedure_by a.within.owner
        (λ returns e. right (NotInProcedure at) (inr (forms.in_function a part returns at place e word)))
        (λ e. right (InInlet at) (inr (forms.in_inlet a part at place e word)))

  move_right : (scopes : Scopes) (what : tree.Move) → ((u : Use) → Has (move_uses scopes what) u → Contains (uses_of p) u) → MoveRight scopes what
  move_right scopes (tree.assign target value) h = tt
  move_right scopes (tree.adjust place by) h = tt
  move_right scopes (tree.call target callee arguments) h =
      called scopes callee (length arguments) (is_some target) (h _ (Has-append_right (target_uses scopes target) _ _ (inl refl)))

  moves_right : (scopes : Scopes) (what : Option tree.Move) → ((u : Use) → Has (moves_uses scopes what) u → Contains (uses_of p) u) → MovesRight scopes what
  moves_right scopes None h = tt
  moves_right scopes (Some what) h = move_right scopes what h

  taker_right : (scopes : Scopes) (taker : tree.Taker) → ((u : Use) → Has (taker_uses scopes taker) u → Contains (uses_of p) u) → TakerRight scopes taker
  taker_right scopes tree.nothing h = tt
  taker_right scopes (tree.into target) h = tt
  taker_right scopes (tree.through name more) h = fed scopes name (length more + 1) (h _ (inl refl))

  stmt_right : (a : Around) (s : tree.Stmt) → Has (parts_of p) (record { around = a; part = statement s }) → StmtRight a s
  stmt_right a (tree.move what) c = move_right a.scopes what (λ u h. used a (statement (tree.move what)) c u h)
  stmt_right a (tree.spawn_at place taker callee arguments) c =
      let s : tree.Stmt = tree.spawn_at place taker callee arguments in (
        own_procedure a (statement s) c place (inl refl),
        taker_right a.scopes taker (λ u h. used a (statement s) c u (Has-append_left (taker_uses a.scopes taker) _ u h)),
      )
  stmt_right a (tree.sync_at place) c = own_procedure a (statement (tree.sync_at place)) c place (inl refl)
  stmt_right a (tree.loop begin value advance body) c =
      let s : tree.Stmt = tree.loop begin value advance body in (
        moves_right a.scopes begin (λ u h. used a (statement s) c u (Has-append_left (moves_uses a.scopes begin) _ u h)),
        moves_right a.scopes advance (λ u h. used a (statement s) c u (Has-append_right (moves_uses a.scopes begin) _ u h)),
      )
  stmt_right a (tree.print format arguments) c = tt
  stmt_right a (tree.locking what name) c = tt
  stmt_right a tree.null c = tt
  stmt_right a (tree.abort_at place) c = tt
  stmt_right a (tree.break_at place) c = tt
  stmt_right a (tree.continue_at place) c = tt
  stmt_right a (tree.return_at place value) c = tt
  stmt_right a (tree.when value body) c = tt
  stmt_right a (tree.either value body other) c = tt
  stmt_right a (tree.while value body) c = tt
  stmt_right a (tree.repeat body value) c = tt
  stmt_right a (tree.switch value body) c = tt
  stmt_right a (tree.labelled label) c = tt
  stmt_right a (tree.nested inside) c = tt

  inlet_right : (a : Around) (place : ℕ) (name : Word) (parameters : List Word) (body : tree.Block)
      → Has (parts_of p) (record { around = a; part = local (tree.inlet_at place name parameters body) })
      → (b c : Bool) → a.within.outermost ≡ b → is_procedure a.within.owner ≡ c → (b && c) ≡ true
  inlet_right a place name parameters body there true true e f = refl
  inlet_right a place name parameters body there true false e f =
      absurd
      (right (NotInProcedure place)
      (inr (forms.inlet_in_no_procedure a place name parameters body (Contains-from_Has (parts_of p) _ there)
      (forms_same a.within.owner ∙ f))))
  inlet_right a place name parameters body there false c e f =
      absurd (right (NotInProcedure place) (inr (forms.inlet_in_inner_block a place name parameters body (Contains-from_Has (parts_of p) _ there) e)))

  part_right : (a : Around) (part : Part) → Has (parts_of p) (record { around = a; part = part }) → PartRight a part
  part_right a (local (tree.declared d)) c = tt
  part_right a (local (tree.inlet_at place name parameters body)) c =
      inlet_right a place name parameters body c a.within.outermost (is_procedure a.within.owner) refl refl
  part_right a (statement s) c = stmt_right a s c

  pub all_right : Right (parts_of p)
  all_right s c = part_right s.around s.part c
