-- The bodies of the inlets of a procedure.
use Rattle.std.proofs.Common.{◌≡◌, ℕ, suc, ◌+◌, ◌<◌, ◌≤◌, pos, true, IsTrue, List, [], ◌∷◌, ◌++◌, map, length, inl, inr, refl, sym, ap, subst}
use Rattle.std.proofs.Common.{◌∙◌, arith}
use Rattle.std.proofs.lemmas.Bool.{cases_lt}
use Rattle.cilk_eval.specs.syntax.Tree.{Word}
use Rattle.cilk_eval.specs.syntax.Tree as tree
use Rattle.cilk_eval.specs.scopes.declared.owner.Owner.{Owner}
use Rattle.cilk_eval.specs.scopes.declared.owner.Owner.TheVariants as owner
use Rattle.cilk_eval.specs.scopes.Scopes.{Scopes, parameter, declare_all, parameters_declare}
use Rattle.cilk_eval.specs.scopes.Within.{whole_body}
use Rattle.cilk_eval.specs.scopes.Parts.{block_parts, within_local}
use Rattle.cilk_eval.proofs.scopes_laws.Elements.{Has-append_left}
use Rattle.cilk_eval.specs.scopes.WellFormed.{WellFormed}
use Rattle.cilk_eval.specs.labelled.Labelled as labelled
use Rattle.cilk_eval.specs.labelled.Labelled.{Labelled, Body, Variable}
use Rattle.cilk_eval.specs.labelled.Names.{Names, with_words, with_name, with_parameters, with_local, local_count, in_inlet}
use Rattle.cilk_eval.specs.labelled.Count.{count_local}
use Rattle.cilk_eval.specs.labelled.Label.{block_variables}
use Rattle.cilk_eval.specs.labelled.Bodies.{is_procedure, one_cell, inlet_count}
use Rattle.cilk_eval.specs.model.Instance.{body_at}
use Rattle.cilk_eval.specs.effects.Heads.{in_nothing, EachOf}
use Rattle.cilk_eval.specs.effects.Known.{owner_of}
use Rattle.cilk_eval.proofs.effects_laws.Lists.{StandAt, stand_all, stand_left, stand_right}
use Rattle.cilk_eval.proofs.effects_laws.Meant.{words_fit, outward_fits, visible}
use Rattle.cilk_eval.proofs.effects_laws.Parts.{around}
use Rattle.cilk_eval.proofs.effects_laws.Locals.{May, AllIn, Heads, next_inlet, local_fits, step}
use Rattle.cilk_eval.proofs.effects_laws.Walk.{block_known}

-- each action in body b is known
abbrev pub KnownBody : Labelled → ℕ → Type 0
KnownBody program b = EachOf (May program b) in_nothing (body_at program b).stmts

pub words_scopes : (names : Names) (n : ℕ) (words : List Word) → (with_words names n words).scopes ≡ declare_all names.scopes (map parameter words)
words_scopes names n [] = refl
words_scopes names n (word ∷ words) = words_scopes (with_name names (labelled.local n) (parameter word)) (suc n) words

pub parameters_scopes : (names : Names) (ps : tree.Parameters) → (with_parameters names ps).scopes ≡ declare_all names.scopes (parameters_declare ps)
parameters_scopes names (tree.ints words) = words_scopes names 0 words
parameters_scopes names (tree.command_line count strings) = refl

-- what surrounds the parts of a whole body
pub around_body : (o : Owner) (names : Names) (scopes : Scopes) → names.scopes ≡ scopes
    → record { scopes = scopes; within = whole_body o } ≡ around o names in_nothing true
around_body o names scopes e = ap (λ s. record { scopes = s; within = whole_body o }) (sym e)

pub body_stands : (program : Labelled) (b : ℕ) (before behind : List Variable) → (body_at program b).variables ≡ before ++ behind
    → StandAt (body_at program b).variables 0 (before ++ behind)
body_stands program b before behind e =
    subst (StandAt (body_at program b).variables 0) e (stand_all (body_at program b).variables)

module _ (p : tree.Program) (well : WellFormed p) (program : Labelled) (b : ℕ) (o : Owner) (owner_is : owner_of program b ≡ o) where
  pub home : IsTrue (is_procedure o) → b ≡ b
  home e = refl

  inlet_known : (names : Names) (at n place : ℕ) (name : Word) (parameters : List Word) (body : tree.Block) (others : tree.Locals)
      → Heads p well program b b o owner_is home in_nothing true names at n (tree.and_local (tree.inlet_at place name parameters body) others)
      → KnownBody program names.bodies
  inlet_known names at n place name parameters body others heads =
      let definition : tree.Local = tree.inlet_at place name parameters body in
      let next = next_inlet p well program b b o owner_is home in_nothing true names at n place name parameters body others heads in
      let c : ℕ = names.bodies in
      let inside : Names = with_local names n definition in
      let names' : Names = with_words (in_inlet inside) 0 parameters in
      let variables : List Variable = map (one_cell (pos 0)) parameters in
      let owner_c : owner_of program c ≡ owner.Inlet = ap (λ (x : Body). x.owner) next.is in
      let has : (body_at program c).variables ≡ variables ++ block_variables body = ap (λ (x : Body). x.variables) next.is in
      let stand = body_stands program c variables (block_variables body) has in
      let outer =
      outward_fits program b c (ap is_procedure owner_is ∙ next.may) owner_c next.stands_in (visible inside.scopes) inside.means
      (local_fits p well program b b o owner_is home in_nothing true names at n definition others heads) in
      let fit =
      words_fit program c b (in_inlet inside) 0 parameters (pos 0) outer (stand_left (body_at program c).variables 0 variables (block_variables body) stand) in
      let stand_own =
      subst (λ (k : ℕ). StandAt (body_at program c).variables k (block_variables body)) (no_more (length variables))
      (stand_right (body_at program c).variables 0 variables (block_variables body) stand) in
      let parts =
      subst (λ a. AllIn p (block_parts a body))
      (around_body owner.Inlet names' (declare_all (in_inlet inside).scopes (map parameter parameters)) (words_scopes (in_inlet inside) 0 parameters))
      (λ s h. heads.parts s (inr (Has-append_left (within_local (around o names in_nothing true) definition) _ s h))) in
      subst (λ (x : Body). EachOf (May program c) in_nothing x.stmts) (sym next.is)
      (block_known p well program c b owner.Inlet owner_c (λ e. cc) in_nothing true names' at (length variables) body fit stand_own parts (λ e outermost. cc))
    where
      no_more : (k : ℕ) → 0 + k ≡ k
      no_more k = omega arith

  pub inlets_known : (names : Names) (at n : ℕ) (locals : tree.Locals) → Heads p well program b b o owner_is home in_nothing true names at n locals
      → (c : ℕ) → names.bodies ≤ c → c < names.bodies + inlet_count locals → KnownBody program c
  inlets_known names at n tree.no_locals heads c low high = absurd (omega (arith, low, high))
  inlets_known names at n (tree.and_local (tree.declared d) others) heads c low high =
      inlets_known (with_local names n (tree.declared d)) (at + count_local (tree.declared d)) (n + local_count (tree.declared d)) others
      (step p well program b b o owner_is home in_nothing true names at n (tree.declared d) others heads) c low high
  inlets_known names at n (tree.and_local (tree.inlet_at place name parameters body) others) heads c low high =
      let definition : tree.Local = tree.inlet_at place name parameters body in
      elim (cases_lt names.bodies c) [
        | inl more ↦
            inlets_known (with_local names n definition) (at + count_local definition) (n + local_count definition) others
            (step p well program b b o owner_is home in_nothing true names at n definition others heads) c (omega (arith, more)) (omega (arith, high))
        | inr least ↦
            let same : names.bodies ≡ c = omega (arith, low, least) in
            subst (KnownBody program) same (inlet_known names at n place name parameters body others heads)
      ]
