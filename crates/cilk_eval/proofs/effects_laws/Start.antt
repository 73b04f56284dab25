-- The procedure that a well-formed program starts with.
use Rattle.std.proofs.Common.{◌≡◌, ℕ, ◌+◌, pos, Bool, true, false, cond, IsTrue, IsSome, ◌⊎◌, List, [], ◌∷◌, ◌++◌, length, find, Option, Some}
use Rattle.std.proofs.Common.{is_some, codes, slice_get, bytes_eq, inl, inr, refl, sym, ap, subst, ◌∙◌}
use Rattle.std.specs.List.{list_any}
use Rattle.std.proofs.lemmas.Bool.{false≢true, and_parts}
use Rattle.std.proofs.lemmas.Slice.Eq.{bytes_eq-Decides}
use Rattle.cilk_eval.specs.syntax.declared.return_type.ReturnType.TheVariants.{Int}
use Rattle.cilk_eval.specs.syntax.Tree as tree
use Rattle.cilk_eval.specs.scopes.declared.owner.Owner.TheVariants.{Procedure}
use Rattle.cilk_eval.specs.scopes.declared.declaration_kind.DeclarationKind.TheVariants.{Lock}
use Rattle.cilk_eval.specs.scopes.Scopes.{Declared, declared_in, parameter_count, kind_of_body, kind_of_global, item_declares, file_declares}
use Rattle.cilk_eval.specs.scopes.Parts.{owner_of}
use Rattle.cilk_eval.specs.scopes.Declarations.{Declaring, declaring, declarings_of}
use Rattle.cilk_eval.proofs.scopes_laws.Elements.{Has, Has-append_left, Has-append_right, Has-flat_map, Has-from_Contains, Contains-from_Has}
use Rattle.cilk_eval.specs.scopes.NameFaults as names
use Rattle.cilk_eval.specs.scopes.Forms as forms
use Rattle.cilk_eval.specs.scopes.Forms.{IsMain, are_of_main}
use Rattle.cilk_eval.specs.scopes.Mains.{starts}
use Rattle.cilk_eval.proofs.scopes_laws.Mains.{Started, started, starts_where}
use Rattle.cilk_eval.specs.scopes.WellFormed.{WellFormed}
use Rattle.cilk_eval.specs.labelled.Labelled.{Body, Variable}
use Rattle.cilk_eval.specs.labelled.Names.{Names}
use Rattle.cilk_eval.specs.labelled.Count.{count_item}
use Rattle.cilk_eval.specs.labelled.Label.{block_variables}
use Rattle.cilk_eval.specs.labelled.Bodies.{one_cell, parameter_variables, body_count, item_bodies, items_bodies, bodies_of, file_names}
use Rattle.cilk_eval.specs.labelled.Bodies.{is_procedure, is_start, label}
use Rattle.cilk_eval.specs.model.Instance.{body_at, no_body}
use Rattle.cilk_eval.specs.effects.Room.{IsTold, StartsWith}
use Rattle.cilk_eval.proofs.effects_laws.Lists.{get_within, get_is, found_at, found_passes}
use Rattle.cilk_eval.proofs.effects_laws.Origins.{Source, inlet, definition, Origin, origin}
use Rattle.cilk_eval.proofs.effects_laws.Room.{get_has}

-- an element that passes a test is there, so one is found
-- whether the first passes, or one of the others is found
found_by : {X : Type 0} (test : X → Bool) (z : X) (xs : List X) (b : Bool) → test z ≡ b → (b ≡ false → (y : X) × (find test xs ≡ Some y))
    → (y : X) × (find test (z ∷ xs) ≡ Some y)
found_by test z xs true is others = (z, ap (λ b. cond b (Some z) (find test xs)) is)
found_by test z xs false is others =
    let on = others refl in (on.0, ap (λ b. cond b (Some z) (find test xs)) is ∙ on.1)

found : {X : Type 0} (test : X → Bool) (xs : List X) (x : X) → Has xs x → test x ≡ true → (y : X) × (find test xs ≡ Some y)
found test [] x there e = absurd there
found test (z ∷ xs) x (inl same) e = found_by test z xs true (ap test same ∙ e) (λ no. cc)
found test (z ∷ xs) x (inr more) e = let on = found test xs x more e in found_by test z xs (test z) refl (λ no. on)

-- what is declared behind another
record Later (before ds : List Declared) (d x : Declared) : Type 0 where
  at : Declaring
  there : Has (declaring before ds) at
  same : at.declared ≡ d
  behind : Has at.before x

later : (before ds : List Declared) (d x : Declared) → Has before x → Has ds d → Later before ds d x
later before [] d x earlier there = absurd there
later before (z ∷ ds) d x earlier (inl e) = record { at = _; there = inl refl; same = e; behind = earlier }
later before (z ∷ ds) d x earlier (inr more) =
    let on = later (z ∷ before) ds d x (inr earlier) more in
    record { at = on.at; there = inr on.there; same = on.same; behind = on.behind }

abbrev NoneTwice : List Declared → List tree.Item → Type 0
NoneTwice before items = (x : Declaring) → Has (declaring before (file_declares items)) x → ¬ IsSome (declared_in x.before x.declared.name.text)

abbrev declared_by : tree.Proc → Declared
declared_by f = record { name = f.name; kind = kind_of_body f.is_cilk f.returns (parameter_count f.parameters) }

is_there : {X : Type 0} (o : Option X) (x : X) → o ≡ Some x → IsSome o
is_there o x e = ap is_some e

-- a second definition of a name would be declared behind the first
apart : (before : List Declared) (f g : tree.Proc) (items : List tree.Item) → NoneTwice before (tree.procedure f ∷ items) → Has items (tree.procedure g)
    → f.name.text ≡ g.name.text → ⊥
apart before f g items once there same =
    let declared = Has-flat_map item_declares items (tree.procedure g) (declared_by g) there (inl refl) in
    let late = later (declared_by f ∷ before) (file_declares items) (declared_by g) (declared_by f) (inl refl) declared in
    let named : f.name.text ≡ late.at.declared.name.text = same ∙ ap (λ (d : Declared). d.name.text) (sym late.same) in
    let hit =
    found (λ (d : Declared). bytes_eq d.name.text late.at.declared.name.text) late.at.before (declared_by f) late.behind
    ((bytes_eq-Decides f.name.text late.at.declared.name.text).1 named) in
    once late.at (inr late.there) (is_there _ hit.0 hit.1)

same_definition : (before : List Declared) (items : List tree.Item) (f g : tree.Proc) → NoneTwice before items → Has items (tree.procedure f)
    → Has items (tree.procedure g) → f.name.text ≡ g.name.text → f ≡ g
same_definition before [] f g once fs gs same = absurd fs
same_definition before (tree.procedure h ∷ items) f g once (inl e) (inl k) same =
    let fs : h ≡ f = cc in let gs : h ≡ g = cc in sym fs ∙ gs
same_definition before (tree.procedure h ∷ items) f g once (inl e) (inr k) same =
    let fs : h ≡ f = cc in
    absurd (apart before h g items once k (ap (λ (x : tree.Proc). x.name.text) fs ∙ same))
same_definition before (tree.procedure h ∷ items) f g once (inr e) (inl k) same =
    let gs : h ≡ g = cc in
    absurd (apart before h f items once e (ap (λ (x : tree.Proc). x.name.text) gs ∙ sym same))
same_definition before (tree.procedure h ∷ items) f g once (inr e) (inr k) same =
    same_definition (declared_by h ∷ before) items f g (λ x has. once x (inr has)) e k same
same_definition before (tree.global x ∷ items) f g once (inr e) (inr k) same =
    same_definition (record { name = x.name; kind = kind_of_global x.shape } ∷ before) items f g (λ y has. once y (inr has)) e k same
same_definition before (tree.global x ∷ items) f g once (inl e) k same = cc
same_definition before (tree.global x ∷ items) f g once (inr e) (inl k) same = cc
same_definition before (tree.lock name ∷ items) f g once (inr e) (inr k) same =
    same_definition (record { name = name; kind = Lock } ∷ before) items f g (λ y has. once y (inr has)) e k same
same_definition before (tree.lock name ∷ items) f g once (inl e) k same = cc
same_definition before (tree.lock name ∷ items) f g once (inr e) (inl k) same = cc
same_definition before (tree.prototype q ∷ items) f g once (inr e) (inr k) same = same_definition before items f g once e k same
same_definition before (tree.prototype q ∷ items) f g once (inl e) k same = cc
same_definition before (tree.prototype q ∷ items) f g once (inr e) (inl k) same = cc

-- the body of a definition is among the bodies
record BodyOf (f : tree.Proc) (bodies : List Body) : Type 0 where
  body : Body
  there : Has bodies body
  owner : body.owner ≡ owner_of f.is_cilk f.returns
  name : body.name ≡ f.name.text

body_of : (f : tree.Proc) (names : Names) (at : ℕ) (items : List tree.Item) → Has items (tree.procedure f) → BodyOf f (items_bodies names at items)
body_of f names at [] there = absurd there
body_of f names at (x ∷ items) (inl e) =
    subst (λ y. BodyOf f (items_bodies names at (y ∷ items))) (sym e) (record { body = _; there = inl refl; owner = refl; name = refl })
body_of f names at (x ∷ items) (inr more) =
    let on = body_of f (record names { bodies = names.bodies + body_count x }) (at + count_item x) items more in
    record { body = on.body; there = Has-append_right (item_bodies names at x) _ on.body on.there; owner = on.owner; name = on.name }

module _ (p : tree.Program) (well : WellFormed p) where
  main_there : Started p.items
  main_there = by_test (list_any starts p.items) refl
    where
      by_test : (b : Bool) → list_any starts p.items ≡ b → Started p.items
      by_test true e = started p.items e
      by_test false e =
          absurd (well _ (inr (forms.no_main (λ f there is_main. false≢true (sym e ∙ starts_where p.items f (Has-from_Contains _ _ there) is_main)))))

  none_twice : NoneTwice [] p.items
  none_twice x has again =
      well _ (inl (names.twice x (Contains-from_Has (declarings_of p) x (Has-append_left (declaring [] (file_declares p.items)) _ x has)) again))

  passes_start : (x : Body) → x.owner ≡ Procedure Int → x.name ≡ codes "main" → is_start x ≡ true
  passes_start x o n = rw (ap is_procedure o, (bytes_eq-Decides x.name (codes "main")).1 n) refl

  owned_by : (f : tree.Proc) → IsMain f → owner_of f.is_cilk f.returns ≡ Procedure Int
  owned_by f m = λ i. owner_of (m.is_cilk i) (m.returns i)

  -- what the body is that passes
  record MainBody (x : Body) : Type 0 where
    owner : x.owner ≡ Procedure Int
    named : x.name ≡ codes "main"
    parameters : (x.parameters ≡ 0) ⊎ IsTold x

  told : (x : Body) (ps : tree.Parameters) (more : List Variable) → IsTrue (are_of_main ps) → x.parameters ≡ length (parameter_variables ps)
      → x.variables ≡ parameter_variables ps ++ more → (x.parameters ≡ 0) ⊎ IsTold x
  told x (tree.ints []) more form count has = inl count
  told x (tree.ints (word ∷ words)) more form count has = cc
  told x (tree.command_line word strings) more form count has =
      inr (record { one = count; first = one_cell (pos 1) word; is_first = ap (λ vs. slice_get vs 0) has; holds_one = refl })

  by_source : (x : Body) (from : Origin p x) → Source p from.owner from.name.text from.variables → is_procedure x.owner ≡ true → x.name ≡ codes "main"
      → MainBody x
  by_source x from (inlet is) procedure named =
      let owner_is : from.owner ≡ x.owner = ap (λ (y : Body). y.owner) from.is in
      absurd (false≢true (ap is_procedure (sym is ∙ owner_is) ∙ procedure))
  by_source x from (definition g g_there owner name variables) procedure named =
      let main = main_there in
      let called : g.name.text ≡ codes "main" = sym name ∙ ap (λ (y : Body). y.name) from.is ∙ named in
      let same = same_definition [] p.items main.definition g none_twice main.there g_there (main.is_main.named ∙ sym called) in
      let is_main : IsMain g = subst IsMain same main.is_main in
      record {
        owner = ap (λ (y : Body). y.owner) (sym from.is) ∙ owner ∙ owned_by g is_main;
        named = named;
        parameters = told x g.parameters (block_variables from.block) is_main.parameters
            (ap (λ (y : Body). y.parameters) (sym from.is) ∙ ap (λ (vs : List Variable). length vs) variables)
            (ap (λ (y : Body). y.variables) (sym from.is) ∙ ap (λ vs. vs ++ block_variables from.block) variables);
      }

  main_body : (x : Body) → Has (bodies_of p) x → is_start x ≡ true → MainBody x
  main_body x there passes =
      let both = and_parts (is_procedure x.owner) (bytes_eq x.name (codes "main")) passes in
      let from = origin p x there in
      by_source x from from.source both.0 ((bytes_eq-Decides x.name (codes "main")).0 both.1)

  pub main_starts : (b : ℕ) × StartsWith (label p) b
  main_starts =
      let main = main_there in
      let body = body_of main.definition (file_names p.items) 1 p.items main.there in
      let owned : body.body.owner ≡ Procedure Int = body.owner ∙ owned_by main.definition main.is_main in
      let hit = found is_start (bodies_of p) body.body body.there (passes_start body.body owned (body.name ∙ main.is_main.named)) in
      let at = found_at is_start (bodies_of p) hit.0 hit.1 in
      let is : body_at (label p) at.0 ≡ hit.0 = get_is (bodies_of p) at.0 hit.0 no_body at.2 in
      let it = main_body hit.0 (get_has (bodies_of p) at.0 hit.0 at.2) (found_passes is_start (bodies_of p) hit.0 hit.1) in (
        at.0,
        record {
          is_main = at.1;
          is_there = get_within (bodies_of p) at.0 hit.0 at.2;
          owner = ap (λ (x : Body). x.owner) is ∙ it.owner;
          named = ap (λ (x : Body). x.name) is ∙ it.named;
          parameters = subst (λ (x : Body). (x.parameters ≡ 0) ⊎ IsTold x) (sym is) it.parameters;
        },
      )
