-- The slots of the tables are those that stand for declarations.
use Rattle.std.proofs.Common.{◌≡◌, ℕ, zero, suc, ◌+◌, ◌<◌, Bool, true, false, cond, List, [], ◌∷◌, map, refl, sym, ap, ◌∙◌, arith}
use Rattle.std.specs.Prelude.{slice_index_or, bytes_eq}
use Rattle.cilk_tree_syntax.specs.Tree as tree
use Rattle.cilk_load_nodes.specs.scopes.declared.owner.Owner.{Owner}
use Rattle.cilk_load_nodes.specs.scopes.declared.owner.Owner.TheVariants.{Inlet}
use Rattle.cilk_load_nodes.specs.scopes.declared.declaration_kind.DeclarationKind.TheVariants.{Lock}
use Rattle.cilk_load_nodes.specs.scopes.Scopes.{Declared, kind_of_global, kind_of_body, parameter_count, file_declares}
use Rattle.cilk_load.specs.nodes.declared.area.Area.{Area}
use Rattle.cilk_load.specs.nodes.declared.area.Area.TheVariants.{Own, Outer, Global}
use Rattle.cilk_load.specs.nodes.declared.slot.Slot.{Slot}
use Rattle.cilk_load.specs.labelled.Labelled.{Declaration, local, outer, global, of_lock, of_body, unknown, Variable, Labelled}
use Rattle.cilk_load.specs.labelled.Labelled as labelled
use Rattle.cilk_load.specs.labelled.Names as label
use Rattle.cilk_load.specs.labelled.Names.{Names, meaning_at}
use Rattle.cilk_load.specs.labelled.Count.{count_shape, count_block}
use Rattle.cilk_load.specs.labelled.Bodies.{file_means, body_count, inlet_bodies}
use Rattle.std.specs.Prelude.{position}
use Rattle.cilk_load.specs.model.Instance.{body_at, no_body}
use Rattle.cilk_load.specs.nodes.declared.var.Var.{Var}
use Rattle.cilk_load.specs.nodes.Slots.{size_of, slot_from, slot_of, is_inlet, procedure_around}
use Rattle.cilk_load.specs.nodes.Bodies.{vars_from, body_table}
use Rattle.cilk_load.specs.declared.binding.Binding.{Binding}
use Rattle.cilk_load.specs.Scope.{Named, found, outward_area, outward, outward_named}
use Rattle.cilk_load.specs.Pass.{var_slot, bound_var, bound_number}
use Rattle.cilk_load.specs.Outer.{vars_at, file_named}
use Rattle.cilk_load.proofs.Found.{binding_of, same_name, meaning-first}

-- the slots of a table of variables
pub var-slot-is : (area : Area) (at : ℕ) (vs : List Variable) (n : ℕ) → var_slot (vars_from area at vs) n ≡ slot_from area at vs n
var-slot-is area at [] n = refl
var-slot-is area at (v ∷ vs) zero = refl
var-slot-is area at (v ∷ vs) (suc n) = var-slot-is area (at + size_of v) vs n

-- those of body b in the table of bodies
body-slots : (bodies : List labelled.Body) (b n : ℕ)
    → var_slot (vars_at (map body_table bodies) b) n ≡ slot_from Own 0 (slice_index_or bodies b no_body).variables n
body-slots [] b n = refl
body-slots (x ∷ bodies) zero n = var-slot-is Own 0 x.variables n
body-slots (x ∷ bodies) (suc b) n = body-slots bodies b n

pub slots-lie : (program : Labelled) (b n : ℕ) → var_slot (vars_at (map body_table program.bodies) b) n ≡ slot_of program b (local n)
slots-lie program b n = body-slots program.bodies b n

abbrev pub outward_slot : Slot → Slot
outward_slot slot = record { area = outward_area slot.area; offset = slot.offset; length = slot.length }

pub moved : (area : Area) (at : ℕ) (vs : List Variable) (n : ℕ) → outward_slot (slot_from area at vs n) ≡ slot_from (outward_area area) at vs n
moved area at [] n = refl
moved area at (v ∷ vs) zero = refl
moved area at (v ∷ vs) (suc n) = moved area (at + size_of v) vs n

numbered : (n : ℕ) (s t : Slot) → outward_slot s ≡ t → outward (record { slot = s; number = n }) ≡ record { slot = t; number = n }
numbered n s t e = λ i. record { slot = e i; number = n }

-- in an inlet whose body is k, what stands in the activation of body b stands in the outer one
pub outer-binding : (program : Labelled) (b k : ℕ) → procedure_around program b ≡ b → procedure_around program k ≡ b → (d : Declaration)
    → outward (binding_of (slot_of program b) d) ≡ binding_of (slot_of program k) (label.outward d)
outer-binding program b k own around (local n) =
    numbered n _ _ (moved Own 0 (body_at program b).variables n ∙ ap (λ c. slot_from Outer 0 (body_at program c).variables n) (sym around))
outer-binding program b k own around (outer n) =
    numbered n _ _ (moved Outer 0 (body_at program (procedure_around program b)).variables n
    ∙ ap (λ c. slot_from Outer 0 (body_at program c).variables n) (own ∙ sym around))
outer-binding program b k own around (global n) = numbered n _ _ (moved Global 0 program.globals n)
outer-binding program b k own around (of_lock n) = refl
outer-binding program b k own around (of_body n) = refl
outer-binding program b k own around unknown = refl

-- a body that is none of an inlet has no other around it
pub own-around : (program : Labelled) (b : ℕ) → is_inlet (body_at program b).owner ≡ false → procedure_around program b ≡ b
own-around program zero e = refl
own-around program (suc b) e = ap (λ (t : Bool). cond t (procedure_around program b) (suc b)) e

-- the inlets stand behind it
pub inlets-around : (program : Labelled) (b : ℕ) → procedure_around program b ≡ b → (m : ℕ)
    → ((j : ℕ) → j < m → (body_at program (suc (b + j))).owner ≡ Inlet) → (j : ℕ) → j < m → procedure_around program (suc (b + j)) ≡ b
inlets-around program b own m inlets zero below =
    let here : b + 0 ≡ b = omega arith in
    ap (λ (o : Owner). cond (is_inlet o) (procedure_around program (b + 0)) (suc (b + 0))) (inlets 0 below) ∙ ap (procedure_around program) here ∙ own
inlets-around program b own m inlets (suc j) below =
    let here : b + suc j ≡ suc (b + j) = omega arith in
    ap (λ (o : Owner). cond (is_inlet o) (procedure_around program (b + suc j)) (suc (b + suc j))) (inlets (suc j) below)
    ∙ ap (procedure_around program) here
    ∙ inlets-around program b own m inlets j (omega arith)

pub inlet-owners : (names : Names) (at n : ℕ) (ls : tree.Locals) (j : ℕ) → (slice_index_or (inlet_bodies names at n ls) j no_body).owner ≡ Inlet
inlet-owners names at n tree.no_locals j = refl
inlet-owners names at n (tree.and_local (tree.declared d) rest) j =
    inlet-owners (label.with_local names n (tree.declared d)) (at + count_shape d.shape) (n + 1) rest j
inlet-owners names at n (tree.and_local (tree.inlet_at place name parameters body) rest) zero = refl
inlet-owners names at n (tree.and_local (tree.inlet_at place name parameters body) rest) (suc j) =
    inlet-owners (label.with_local names n (tree.inlet_at place name parameters body)) (at + (count_block body + 1)) (n + 0) rest j

-- what the names of the top level stand for in a body
module _ (program : Labelled) (b : ℕ) where
  abbrev globals : List Var
  globals = vars_from Global 0 program.globals

  abbrev stood : List Named → List ℕ → Binding
  stood es name = found (map outward_named es) name

  choice : (t : Bool) (d m : Declaration) → cond t (binding_of (slot_of program b) d) (binding_of (slot_of program b) m)
      ≡ binding_of (slot_of program b) (cond t d m)
  choice true d m = refl
  choice false d m = refl

  file-more : (name : List ℕ) (e : Named) (what : Declared) (d : Declaration) (es : List Named) (ds : List Declared) (means : List Declaration)
      → e.name ≡ what.name.text → outward e.binding ≡ binding_of (slot_of program b) d
      → stood es name ≡ binding_of (slot_of program b) (meaning_at means (position (same_name name) ds))
      → stood (e ∷ es) name ≡ binding_of (slot_of program b) (meaning_at (d ∷ means) (position (same_name name) (what ∷ ds)))
  file-more name e what d es ds means same stands others =
      (λ i. cond (bytes_eq (same i) name) (stands i) (others i))
      ∙ choice (same_name name what) d (meaning_at means (position (same_name name) ds))
      ∙ ap (binding_of (slot_of program b)) (sym (meaning-first (same_name name) what ds d means))

  pub file-binding : (g l k g' l' k' : ℕ) (items : List tree.Item) (name : List ℕ) → g ≡ g' → l ≡ l' → k ≡ k'
      → stood (file_named globals g' l' k' items) name ≡ binding_of (slot_of program b)
      (meaning_at (file_means g l k items) (position (same_name name) (file_declares items)))
  file-binding g l k g' l' k' [] name eg el ek = refl
  file-binding g l k g' l' k' (tree.global what ∷ items) name eg el ek =
      let slot : outward_slot (var_slot globals g') ≡ slot_from Global 0 program.globals g =
      ap outward_slot (var-slot-is Global 0 program.globals g') ∙ moved Global 0 program.globals g' ∙ ap (slot_from Global 0 program.globals) (sym eg)
      in
      file-more name (bound_var globals g' what.name) (record { name = what.name; kind = kind_of_global what.shape }) (global g) _ _ _ refl
      (λ i. record { slot = slot i; number = sym eg i })
      (file-binding (suc g) l k (g' + 1) (l' + 0) (k' + 0) items name (omega arith) (omega arith) (omega arith))
  file-binding g l k g' l' k' (tree.lock word ∷ items) name eg el ek =
      file-more name (bound_number l' word) (record { name = word; kind = Lock }) (of_lock l) _ _ _ refl
      (λ i. record { slot = slot_of program b (of_lock l); number = sym el i })
      (file-binding g (suc l) k (g' + 0) (l' + 1) (k' + 0) items name (omega arith) (omega arith) (omega arith))
  file-binding g l k g' l' k' (tree.prototype q ∷ items) name eg el ek =
      file-binding g l k (g' + 0) (l' + 0) (k' + 0) items name (omega arith) (omega arith) (omega arith)
  file-binding g l k g' l' k' (tree.procedure p ∷ items) name eg el ek =
      file-more name (bound_number k' p.name) (record { name = p.name; kind = kind_of_body p.is_cilk p.returns (parameter_count p.parameters) })
      (of_body k) _ _ _ refl (λ i. record { slot = slot_of program b (of_body k); number = sym ek i })
      (file-binding g l (k + body_count (tree.procedure p)) (g' + 0) (l' + 0) (k' + body_count (tree.procedure p)) items name (omega arith) (omega arith)
      (omega (arith, ek)))
