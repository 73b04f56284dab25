-- From which definition each body comes.
use Rattle.std.proofs.Common.{◌≡◌, ℕ, suc, ◌+◌, pos, List, [], ◌∷◌, ◌++◌, map, flat_map, length, inl, inr, refl}
use Rattle.cilk_eval.specs.syntax.Tree.{Word}
use Rattle.cilk_eval.specs.syntax.Tree as tree
use Rattle.cilk_eval.specs.scopes.declared.owner.Owner.{Owner}
use Rattle.cilk_eval.specs.scopes.declared.owner.Owner.TheVariants.{Inlet}
use Rattle.cilk_eval.specs.scopes.Scopes.{Declared, parameter, parameters_declare, file_scopes}
use Rattle.cilk_eval.specs.scopes.Parts.{Around, PartInContext, local, owner_of, after_local, in_body, block_parts, locals_parts, within_local}
use Rattle.cilk_eval.specs.scopes.Parts.{stmts_parts, after_locals, item_parts, parts_of}
use Rattle.cilk_eval.specs.scopes.Parts as standing
use Rattle.cilk_eval.specs.scopes.Declarations as declarations
use Rattle.cilk_eval.specs.scopes.Declarations.{item_activations, inlet_activations, activations_of}
use Rattle.cilk_eval.proofs.scopes_laws.Elements.{Has, Has-append_left, Has-append_right, Has-append_cases, Has-flat_map}
use Rattle.cilk_eval.specs.labelled.Labelled.{Body, Variable}
use Rattle.cilk_eval.specs.labelled.Names.{Names, with_words, with_local, local_count, in_inlet}
use Rattle.cilk_eval.specs.labelled.Count.{count_local, count_item}
use Rattle.cilk_eval.specs.labelled.Bodies.{one_cell, parameter_variables, label_body, inlet_bodies, block_locals, body_count, procedure_names}
use Rattle.cilk_eval.specs.labelled.Bodies.{item_bodies, items_bodies, bodies_of, file_names}
use Rattle.cilk_eval.proofs.effects_laws.Locals.{AllIn}

-- the parameters of a body
pub data AreParameters : List Variable → List Declared → Type 0 where
  of_inlet : (words : List Word) → AreParameters (map (one_cell (pos 0)) words) (map parameter words)
  of_definition : (ps : tree.Parameters) → AreParameters (parameter_variables ps) (parameters_declare ps)

-- the body of an inlet, or of this definition
pub data Source (p : tree.Program) (owner : Owner) (name : List ℕ) (variables : List Variable) : Type 0 where
  inlet : owner ≡ Inlet → Source p owner name variables
  definition : (f : tree.Proc) → Has p.items (tree.procedure f) → owner ≡ owner_of f.is_cilk f.returns → name ≡ f.name.text
      → variables ≡ parameter_variables f.parameters → Source p owner name variables

pub record Origin (p : tree.Program) (x : Body) : Type 0 where
  pub names : Names
  pub at : ℕ
  pub owner : Owner
  pub name : Word
  pub variables : List Variable
  pub declared : List Declared
  pub block : tree.Block
  pub around : Around
  pub is : label_body names at owner name variables block ≡ x
  pub parameters : AreParameters variables declared
  pub source : Source p owner name.text variables
  pub activation : Has (activations_of p) (declared ++ declarations.block_variables block)
  pub parts : AllIn p (block_parts around block)

module _ (p : tree.Program) where
  inlet_origin : (a : Around) (names : Names) (at n : ℕ) (locals : tree.Locals) (x : Body) → AllIn p (locals_parts a locals)
      → Has (inlet_bodies names at n locals) x → Origin p x
  inlet_origin a names at n tree.no_locals x all h = absurd h
  inlet_origin a names at n (tree.and_local (tree.declared d) others) x all h =
      inlet_origin (after_local a (tree.declared d)) (with_local names n (tree.declared d)) (at + count_local (tree.declared d))
      (n + local_count (tree.declared d)) others x (λ s k. all s (inr k)) h
  inlet_origin a names at n (tree.and_local (tree.inlet_at place name parameters body) others) x all (inl e) =
      let definition : tree.Local = tree.inlet_at place name parameters body in
      let stands : PartInContext = record { around = a; part = local definition } in
      record {
        names = with_words (in_inlet (with_local names n definition)) 0 parameters;
        at = at;
        owner = Inlet;
        name = name;
        variables = map (one_cell (pos 0)) parameters;
        declared = map parameter parameters;
        block = body;
        around = standing.in_inlet a definition parameters;
        is = e;
        parameters = of_inlet parameters;
        source = inlet refl;
        activation = Has-append_right (flat_map item_activations p.items) _ _
            (Has-flat_map (λ (s : PartInContext). inlet_activations s.part) (parts_of p) stands _ (all stands (inl refl)) (inl refl));
        parts = λ s k. all s (inr (Has-append_left (within_local a definition) _ s k));
      }
  inlet_origin a names at n (tree.and_local (tree.inlet_at place name parameters body) others) x all (inr h) =
      let definition : tree.Local = tree.inlet_at place name parameters body in
      inlet_origin (after_local a definition) (with_local names n definition) (at + count_local definition) (n + local_count definition) others x
      (λ s k. all s (inr (Has-append_right (within_local a definition) _ s k))) h

  locals_in : (a : Around) (body : tree.Block) → AllIn p (block_parts a body) → AllIn p (locals_parts a (block_locals body))
  locals_in a (tree.block locals stmts) all s h = all s (Has-append_left (locals_parts a locals) (stmts_parts (after_locals a locals) stmts) s h)

  item_origin : (names : Names) (at : ℕ) (item : tree.Item) (x : Body) → Has p.items item → Has (item_bodies names at item) x → Origin p x
  item_origin names at (tree.global g) x there h = absurd h
  item_origin names at (tree.lock name) x there h = absurd h
  item_origin names at (tree.prototype q) x there h = absurd h
  item_origin names at (tree.procedure f) x there (inl e) = record {
    names = procedure_names (record names { bodies = suc names.bodies }) f;
    at = at;
    owner = owner_of f.is_cilk f.returns;
    name = f.name;
    variables = parameter_variables f.parameters;
    declared = parameters_declare f.parameters;
    block = f.body;
    around = in_body (file_scopes p.items) (owner_of f.is_cilk f.returns) (parameters_declare f.parameters);
    is = e;
    parameters = of_definition f.parameters;
    source = definition f there refl refl refl;
    activation = Has-append_left (flat_map item_activations p.items) _ _ (Has-flat_map item_activations p.items (tree.procedure f) _ there (inl refl));
    parts = λ s h. Has-flat_map (item_parts (file_scopes p.items)) p.items (tree.procedure f) s there h;
  }
  item_origin names at (tree.procedure f) x there (inr h) =
      let a : Around = in_body (file_scopes p.items) (owner_of f.is_cilk f.returns) (parameters_declare f.parameters) in
      inlet_origin a (procedure_names (record names { bodies = suc names.bodies }) f) at (length (parameter_variables f.parameters)) (block_locals f.body) x
      (locals_in a f.body (λ s k. Has-flat_map (item_parts (file_scopes p.items)) p.items (tree.procedure f) s there k)) h

  items_origin : (names : Names) (at : ℕ) (items : List tree.Item) (x : Body) → ((y : tree.Item) → Has items y → Has p.items y)
      → Has (items_bodies names at items) x → Origin p x
  items_origin names at [] x sub h = absurd h
  items_origin names at (item ∷ others) x sub h =
      elim (Has-append_cases (item_bodies names at item) _ x h) [
        | inl k ↦ item_origin names at item x (sub item (inl refl)) k
        | inr k ↦ items_origin (record names { bodies = names.bodies + body_count item }) (at + count_item item) others x (λ y m. sub y (inr m)) k
      ]

  pub origin : (x : Body) → Has (bodies_of p) x → Origin p x
  origin x h = items_origin (file_names p.items) 1 p.items x (λ y k. k) h
