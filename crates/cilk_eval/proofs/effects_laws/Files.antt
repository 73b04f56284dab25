-- The bodies of the definitions of a file, and what the names of the top level mean.
use Rattle.std.proofs.Common.{◌≡◌, ℕ, suc, ◌+◌, ◌<◌, ◌≤◌, pos, IsTrue, true, List, [], ◌∷◌, ◌++◌, length, inl, inr, refl, sym, ap, subst}
use Rattle.std.proofs.Common.{arith, length-append}
use Rattle.std.proofs.lemmas.Bool.{cases_lt}
use Rattle.std.proofs.lemmas.List.{length-map}
use Rattle.cilk_eval.specs.syntax.Tree.{Word}
use Rattle.cilk_eval.specs.syntax.Tree as tree
use Rattle.cilk_eval.specs.scopes.declared.owner.Owner.{Owner}
use Rattle.cilk_eval.specs.scopes.Scopes.{declare_all, enter, parameters_declare, parameter_count, file_scopes}
use Rattle.cilk_eval.specs.scopes.Parts.{Around, owner_of, block_parts, locals_parts, stmts_parts, after_locals, item_parts}
use Rattle.cilk_eval.proofs.scopes_laws.Elements.{Has, Has-flat_map}
use Rattle.cilk_eval.specs.scopes.WellFormed.{WellFormed}
use Rattle.cilk_eval.specs.labelled.Labelled.{Labelled, Body, Variable}
use Rattle.cilk_eval.specs.labelled.Names.{Names, entered}
use Rattle.cilk_eval.specs.labelled.Count.{count_item}
use Rattle.cilk_eval.specs.labelled.Label.{locals_variables, stmts_variables, block_variables}
use Rattle.cilk_eval.specs.labelled.Bodies.{is_procedure, one_cell, parameter_variables, label_body, inlet_bodies, block_locals, procedure_names}
use Rattle.cilk_eval.specs.labelled.Bodies.{inlet_count, body_count, item_bodies, items_bodies, file_names, bodies_of}
use Rattle.cilk_eval.specs.model.Instance.{body_at, no_body}
use Rattle.cilk_eval.proofs.frame_laws.nodes_laws.BodyCounts.{length-item, parameters-bodies}
use Rattle.cilk_eval.specs.effects.Heads.{in_nothing, EachOf}
use Rattle.cilk_eval.specs.effects.Known as known
use Rattle.cilk_eval.proofs.effects_laws.Lists.{get_is, StandAt, stand_all, stand_left, stand_right, stand_behind, stand_first, stand_others}
use Rattle.cilk_eval.proofs.effects_laws.Meant.{FitNames, parameters_fit}
use Rattle.cilk_eval.proofs.effects_laws.Parts.{around}
use Rattle.cilk_eval.proofs.effects_laws.Locals.{May, AllIn, in_left, InletsStand, Heads}
use Rattle.cilk_eval.proofs.effects_laws.Walk.{block_known}
use Rattle.cilk_eval.proofs.effects_laws.Inlets.{KnownBody, parameters_scopes, around_body, body_stands, home, inlets_known}

pub count_is : (ps : tree.Parameters) → length (parameter_variables ps) ≡ parameter_count ps
count_is (tree.ints words) = length-map words (one_cell (pos 0))
count_is (tree.command_line count strings) = refl

module _ (p : tree.Program) (well : WellFormed p) (program : Labelled) where
  -- the body of a definition, and those of its inlets
  definition_known : (b : ℕ) (names : Names) (at : ℕ) (o : Owner) (name : Word) (variables : List Variable) (body : tree.Block)
      → StandAt program.bodies b (label_body names at o name variables body ∷ inlet_bodies names at (length variables) (block_locals body))
      → names.bodies ≡ suc b → (StandAt (body_at program b).variables 0 variables → FitNames program b b names)
      → AllIn p (block_parts (around o names in_nothing true) body)
      → (c : ℕ) → b ≤ c → c < suc (b + inlet_count (block_locals body)) → KnownBody program c
  definition_known b names at o name variables (tree.block locals stmts) stand next fits parts c low high =
      let is = get_is program.bodies b _ no_body (stand_first program.bodies b _ _ stand) in
      let owner_is : known.owner_of program b ≡ o = ap (λ (x : Body). x.owner) is in
      let body : tree.Block = tree.block locals stmts in
      let has = body_stands program b variables (block_variables body) (ap (λ (x : Body). x.variables) is) in
      let fit = fits (stand_left (body_at program b).variables 0 variables (block_variables body) has) in
      let own : StandAt (body_at program b).variables (length variables) (block_variables body) =
      subst (λ (k : ℕ). StandAt (body_at program b).variables k (block_variables body)) (no_more (length variables))
      (stand_right (body_at program b).variables 0 variables (block_variables body) has)
      in
      let inlets : InletsStand p well program b b o owner_is (home p well program b o owner_is) names at (length variables) locals =
      record {
        bodies = subst (λ (k : ℕ). StandAt program.bodies k (inlet_bodies names at (length variables) locals)) (sym next)
            (stand_others program.bodies b _ _ stand);
        behind = omega (arith, next);
        between = λ k more less. absurd (omega (arith, next, more, less));
      }
      in
      let a : Around = around o names in_nothing true in
      let heads : Heads p well program b b o owner_is (home p well program b o owner_is) in_nothing true names at (length variables) locals =
      record {
        fit = fit;
        variables = stand_left (body_at program b).variables (length variables) (locals_variables locals) (stmts_variables stmts) own;
        parts = in_left p (locals_parts a locals) (stmts_parts (after_locals a locals) stmts) parts;
        inlets = λ e outermost. inlets;
      }
      in
      elim (cases_lt b c) [
        | inl more ↦
            inlets_known p well program b o owner_is names at (length variables) locals heads c (omega (arith, next, more)) (omega (arith, next, high))
        | inr least ↦
            let same : b ≡ c = omega (arith, low, least) in
            let at_home : IsTrue (is_procedure o) → b ≡ b = home p well program b o owner_is in
            subst (KnownBody program) same (subst (λ (x : Body). EachOf (May program b) in_nothing x.stmts) (sym is)
            (block_known p well program b b o owner_is at_home in_nothing true names at (length variables) body fit own parts (λ e outermost. inlets)))
      ]
    where
      no_more : (k : ℕ) → 0 + k ≡ k
      no_more k = omega arith

  -- the names of the file, behind k bodies
  abbrev file_at : ℕ → Names
  file_at k = record (file_names p.items) { bodies = k }

  module _ (fits : (b h : ℕ) → FitNames program b h (file_names p.items)) where
    item_known : (b at : ℕ) (x : tree.Item) → Has p.items x → StandAt program.bodies b (item_bodies (file_at b) at x) → (c : ℕ) → b ≤ c → c < b + body_count x
        → KnownBody program c
    item_known b at (tree.global g) there stand c low high = absurd (omega (arith, low, high))
    item_known b at (tree.lock name) there stand c low high = absurd (omega (arith, low, high))
    item_known b at (tree.prototype q) there stand c low high = absurd (omega (arith, low, high))
    item_known b at (tree.procedure f) there stand c low high =
        let o : Owner = owner_of f.is_cilk f.returns in
        let names : Names = procedure_names (file_at (suc b)) f in
        let scopes_are = parameters_scopes (entered (file_at (suc b))) f.parameters in
        let parts =
        subst (λ a. AllIn p (block_parts a f.body))
        (around_body o names (declare_all (enter (file_scopes p.items)) (parameters_declare f.parameters)) scopes_are)
        (λ s h. Has-flat_map (item_parts (file_scopes p.items)) p.items (tree.procedure f) s there h) in
        definition_known b names at o f.name (parameter_variables f.parameters) f.body stand (parameters-bodies (entered (file_at (suc b))) f.parameters)
        (λ has. parameters_fit program b b (entered (file_at (suc b))) f.parameters (fits b b) has) parts c low (omega (arith, high))

    items_known : (b at : ℕ) (items : List tree.Item) → ((x : tree.Item) → Has items x → Has p.items x)
        → StandAt program.bodies b (items_bodies (file_at b) at items)
        → (c : ℕ) → b ≤ c → c < b + length (items_bodies (file_at b) at items) → KnownBody program c
    items_known b at [] sub stand c low high = absurd (omega (arith, low, high))
    items_known b at (x ∷ others) sub stand c low high =
        let own : List Body = item_bodies (file_at b) at x in
        let behind : List Body = items_bodies (file_at (b + body_count x)) (at + count_item x) others in
        let count = length-item (file_at b) at x in
        elim (cases_lt c (b + body_count x)) [
          | inl less ↦
              item_known b at x (sub x (inl refl)) (stand_left program.bodies b own behind stand) c low less
          | inr more ↦
              items_known (b + body_count x) (at + count_item x) others (λ y h. sub y (inr h))
              (stand_behind program.bodies b (b + body_count x) own behind (ap (λ (k : ℕ). b + k) count) stand) c more
              (let all : c < b + length (own ++ behind) = high in omega (arith, count, all, length-append own behind))
        ]

    pub bodies_known : program.bodies ≡ bodies_of p → (c : ℕ) → c < length program.bodies → KnownBody program c
    bodies_known are c high =
        let same : length program.bodies ≡ length (items_bodies (file_at 0) 1 p.items) = ap (λ (xs : List Body). length xs) are in
        items_known 0 1 p.items (λ x h. h) (subst (λ xs. StandAt program.bodies 0 xs) are (stand_all program.bodies)) c (omega arith)
        (omega (arith, same, high))
