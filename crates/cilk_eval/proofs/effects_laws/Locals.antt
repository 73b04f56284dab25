-- What is declared at the head of a block, name by name.
use Rattle.std.proofs.Common.{◌≡◌, ℕ, ◌+◌, ◌<◌, ◌≤◌, pos, Bool, IsTrue, ◌⊎◌, List, [], ◌++◌, map, length, Some, None, inl, inr, refl, sym, ap, subst}
use Rattle.std.proofs.Common.{◌∙◌, arith}
use Rattle.std.proofs.lemmas.List.{length-map}
use Rattle.std.proofs.lemmas.Bool.{cases_lt}
use Rattle.cilk_eval.specs.syntax.Tree.{Word}
use Rattle.cilk_eval.specs.syntax.Tree as tree
use Rattle.cilk_eval.specs.scopes.declared.owner.Owner.{Owner}
use Rattle.cilk_eval.specs.scopes.declared.owner.Owner.TheVariants as owner
use Rattle.cilk_eval.specs.scopes.Scopes.{local_declares, kind_of_shape}
use Rattle.cilk_eval.specs.scopes.Parts.{local, PartInContext, parts_of, after_local, after_locals, locals_parts, within_local}
use Rattle.cilk_eval.proofs.scopes_laws.Elements.{Has, Has-append_left, Has-append_right}
use Rattle.cilk_eval.specs.scopes.WellFormed.{WellFormed}
use Rattle.cilk_eval.specs.labelled.Labelled.{Labelled, Body, Variable, Action, Stmts}
use Rattle.cilk_eval.specs.labelled.Labelled as labelled
use Rattle.cilk_eval.specs.labelled.Names.{Names, with_words, with_local, local_count, in_inlet}
use Rattle.cilk_eval.specs.labelled.Count.{count_local}
use Rattle.cilk_eval.specs.labelled.Label.{local_variables, locals_variables, label_initialiser, label_locals, names_behind}
use Rattle.cilk_eval.specs.labelled.Bodies.{is_procedure, one_cell, label_body, inlet_bodies}
use Rattle.cilk_eval.specs.model.Instance.{body_at, no_body}
use Rattle.cilk_eval.specs.effects.Heads.{Inside, MayStand, EachOf}
use Rattle.cilk_eval.specs.frame.Cells.{no_variable}
use Rattle.cilk_eval.specs.frame.Reads.{IsVariable}
use Rattle.cilk_eval.specs.effects.Known.{owner_of, StandsIn, KnownAct}
use Rattle.cilk_eval.proofs.effects_laws.Lists.{get_within, get_is, StandAt, stand_left, stand_behind, stand_first, stand_others}
use Rattle.cilk_eval.proofs.effects_laws.Facts.{local_in_range, inlet_in_procedure}
use Rattle.cilk_eval.proofs.effects_laws.Meant.{FitNames, MeansKind, newest_means}
use Rattle.cilk_eval.proofs.effects_laws.Parts.{around, part_at, decl_exprs_known}

-- an action is known in body b, and stands where it may
abbrev pub May : Labelled → ℕ → Inside → Action → Type 0
May program b i act = KnownAct program b act × MayStand i act

-- all of these are parts of the program
abbrev pub AllIn : tree.Program → List PartInContext → Type 0
AllIn p ss = (s : PartInContext) → Has ss s → Has (parts_of p) s

pub in_left : (p : tree.Program) (xs ys : List PartInContext) → AllIn p (xs ++ ys) → AllIn p xs
in_left p xs ys all s has = all s (Has-append_left xs ys s has)

pub in_right : (p : tree.Program) (xs ys : List PartInContext) → AllIn p (xs ++ ys) → AllIn p ys
in_right p xs ys all s has = all s (Has-append_right xs ys s has)

module _ (p : tree.Program) (well : WellFormed p) (program : Labelled) (b h : ℕ) (o : Owner) (owner_is : owner_of program b ≡ o)
    (home : IsTrue (is_procedure o) → h ≡ b) where
  -- the bodies of the inlets among these declarations stand among the bodies, behind those of other inlets of procedure h
  pub record InletsStand (names : Names) (at n : ℕ) (locals : tree.Locals) : Type 0 where
    pub bodies : StandAt program.bodies names.bodies (inlet_bodies names at n locals)
    pub behind : h < names.bodies
    pub between : (k : ℕ) → h < k → k < names.bodies → owner_of program k ≡ owner.Inlet

  -- these declarations stand at the head of a block, where n variables come before them
  pub record Heads (l : Inside) (m : Bool) (names : Names) (at n : ℕ) (locals : tree.Locals) : Type 0 where
    pub fit : FitNames program b h names
    pub variables : StandAt (body_at program b).variables n (locals_variables locals)
    pub parts : AllIn p (locals_parts (around o names l m) locals)
    pub inlets : IsTrue (is_procedure o) → IsTrue m → InletsStand names at n locals

  variable_means : (names : Names) (l : Inside) (m : Bool) (n : ℕ) (name : Word) (shape : tree.Shape)
      → Has (parts_of p) (part_at o names l m (local (tree.declared (record { name = name; shape = shape }))))
      → StandAt (body_at program b).variables n (local_variables (tree.declared (record { name = name; shape = shape })))
      → MeansKind program b h name.text (labelled.local n) (kind_of_shape shape)
  variable_means names l m n name (tree.variable value) there stand =
      get_within (body_at program b).variables n _ (stand_first (body_at program b).variables n _ [] stand)
  variable_means names l m n name (tree.array k) there stand =
      subst (λ (v : Variable). 0 < v.length)
      (sym (get_is (body_at program b).variables n _ no_variable (stand_first (body_at program b).variables n _ [] stand)))
      (local_in_range p well (around o names l m) name k there).low

  -- the next body is that of this inlet
  pub record IsNext (names : Names) (at n : ℕ) (place : ℕ) (name : Word) (parameters : List Word) (body : tree.Block) : Type 0 where
    pub may : IsTrue (is_procedure o)
    pub there : names.bodies < length program.bodies
    pub is : body_at program names.bodies
        ≡ label_body (with_words (in_inlet (with_local names n (tree.inlet_at place name parameters body))) 0 parameters) at owner.Inlet name
        (map (one_cell (pos 0)) parameters) body
    pub stands_in : StandsIn program names.bodies h

  pub next_inlet : (l : Inside) (m : Bool) (names : Names) (at n place : ℕ) (name : Word) (parameters : List Word) (body : tree.Block) (others : tree.Locals)
      → Heads l m names at n (tree.and_local (tree.inlet_at place name parameters body) others) → IsNext names at n place name parameters body
  next_inlet l m names at n place name parameters body others heads =
      let definition : tree.Local = tree.inlet_at place name parameters body in
      let stands =
      inlet_in_procedure p well (around o names l m) place name parameters body (heads.parts (part_at o names l m (local definition)) (inl refl)) in
      let inlets = heads.inlets stands.0 stands.1 in
      let there = stand_first program.bodies names.bodies _ _ inlets.bodies in
      let is = get_is program.bodies names.bodies _ no_body there in
      record {
        may = stands.0;
        there = get_within program.bodies names.bodies _ there;
        is = is;
        stands_in = record {
          not_before = omega (arith, inlets.behind);
          owner = ap (λ (k : ℕ). is_procedure (owner_of program k)) (home stands.0) ∙ ap is_procedure owner_is ∙ stands.0;
          inlets = λ k low high. by_place k inlets low (ap (λ (x : Body). x.owner) is) (at_most k names.bodies high);
        };
      }
    where
      at_most : (k i : ℕ) → k ≤ i → (k < i) ⊎ (k ≡ i)
      at_most k i high = elim (cases_lt k i) [ inl low ↦ inl low | inr least ↦ inr (omega (arith, high, least)) ]

      by_place : (k : ℕ) → InletsStand names at n (tree.and_local (tree.inlet_at place name parameters body) others) → h < k
          → owner_of program names.bodies ≡ owner.Inlet → (k < names.bodies) ⊎ (k ≡ names.bodies)
          → owner_of program k ≡ owner.Inlet
      by_place k inlets low is (inl below) = inlets.between k low below
      by_place k inlets low is (inr same) = ap (owner_of program) same ∙ is

  pub local_fits : (l : Inside) (m : Bool) (names : Names) (at n : ℕ) (first : tree.Local) (others : tree.Locals)
      → Heads l m names at n (tree.and_local first others)
      → FitNames program b h (with_local names n first)
  local_fits l m names at n (tree.declared d) others heads = (
    variable_means names l m n d.name d.shape (heads.parts _ (inl refl))
        (stand_left (body_at program b).variables n (local_variables (tree.declared d)) (locals_variables others) heads.variables),
    heads.fit,
  )
  local_fits l m names at n (tree.inlet_at place name parameters body) others heads =
      let next = next_inlet l m names at n place name parameters body others heads in (
        record {
          takes = record {
            is_there = next.there;
            parameters = ap (λ (x : Body). x.parameters) next.is ∙ length-map parameters (one_cell (pos 0));
          };
          owner = ap (λ (x : Body). x.owner) next.is;
          stands_in = next.stands_in;
        },
        heads.fit,
      )

  count_is : (first : tree.Local) (n : ℕ) → n + length (local_variables first) ≡ n + local_count first
  count_is (tree.declared d) n = refl
  count_is (tree.inlet_at place name parameters body) n = refl

  inlets_behind : (names : Names) (at n : ℕ) (first : tree.Local) (others : tree.Locals) → InletsStand names at n (tree.and_local first others)
      → ((k : ℕ) → names.bodies ≤ k → k < (with_local names n first).bodies → owner_of program k ≡ owner.Inlet)
      → InletsStand (with_local names n first) (at + count_local first) (n + local_count first) others
  inlets_behind names at n (tree.declared d) others inlets new = record {
    bodies = inlets.bodies;
    behind = inlets.behind;
    between = inlets.between;
  }
  inlets_behind names at n (tree.inlet_at place name parameters body) others inlets new = record {
    bodies = stand_others program.bodies names.bodies _ _ inlets.bodies;
    behind = omega (arith, inlets.behind);
    between = λ k low high. elim (cases_lt k names.bodies) [ inl below ↦ inlets.between k low below | inr least ↦ new k least high ];
  }

  new_inlets : (l : Inside) (m : Bool) (names : Names) (at n : ℕ) (first : tree.Local) (others : tree.Locals)
      → Heads l m names at n (tree.and_local first others)
      → (k : ℕ) → names.bodies ≤ k → k < (with_local names n first).bodies → owner_of program k ≡ owner.Inlet
  new_inlets l m names at n (tree.declared d) others heads k low high = absurd (omega (arith, low, high))
  new_inlets l m names at n (tree.inlet_at place name parameters body) others heads k low high =
      let same : k ≡ names.bodies = omega (arith, low, high) in
      ap (owner_of program) same ∙ ap (λ (x : Body). x.owner) (next_inlet l m names at n place name parameters body others heads).is

  -- behind the first of them
  around_is : (l : Inside) (m : Bool) (names : Names) (n : ℕ) (first : tree.Local)
      → after_local (around o names l m) first ≡ around o (with_local names n first) l m
  around_is l m names n (tree.declared d) = refl
  around_is l m names n (tree.inlet_at place name parameters body) = refl

  pub step : (l : Inside) (m : Bool) (names : Names) (at n : ℕ) (first : tree.Local) (others : tree.Locals) → Heads l m names at n (tree.and_local first others)
      → Heads l m (with_local names n first) (at + count_local first) (n + local_count first) others
  step l m names at n first others heads = record {
    fit = local_fits l m names at n first others heads;
    variables = stand_behind (body_at program b).variables n (n + local_count first) (local_variables first) (locals_variables others)
        (count_is first n) heads.variables;
    parts = subst (λ a. AllIn p (locals_parts a others)) (around_is l m names n first)
        (λ s has. heads.parts s (inr (Has-append_right (within_local (around o names l m) first) _ s has)));
    inlets = λ e outermost. inlets_behind names at n first others (heads.inlets e outermost) (new_inlets l m names at n first others heads);
  }

  -- behind all of them
  pub behind_fits : (l : Inside) (m : Bool) (names : Names) (at n : ℕ) (locals : tree.Locals) → Heads l m names at n locals
      → FitNames program b h (names_behind names n locals)
  behind_fits l m names at n tree.no_locals heads = heads.fit
  behind_fits l m names at n (tree.and_local first others) heads =
      behind_fits l m (with_local names n first) (at + count_local first) (n + local_count first) others (step l m names at n first others heads)

  pub behind_is : (l : Inside) (m : Bool) (names : Names) (n : ℕ) (locals : tree.Locals)
      → after_locals (around o names l m) locals ≡ around o (names_behind names n locals) l m
  behind_is l m names n tree.no_locals = refl
  behind_is l m names n (tree.and_local first others) =
      ap (λ a. after_locals a others) (around_is l m names n first) ∙ behind_is l m (with_local names n first) (n + local_count first) others

  -- an initialiser is known, and writes to the variable that is declared
  initialiser_known : (names : Names) (l : Inside) (m : Bool) (at n : ℕ) (name : Word) (shape : tree.Shape) (rest : Stmts)
      → Has (parts_of p) (part_at o names l m (local (tree.declared (record { name = name; shape = shape }))))
      → FitNames program b h (with_local names n (tree.declared (record { name = name; shape = shape })))
      → EachOf (May program b) l rest
      → EachOf (May program b) l
      (label_initialiser (with_local names n (tree.declared (record { name = name; shape = shape }))) at (record { name = name; index = None }) shape rest)
  initialiser_known names l m at n name (tree.variable None) rest there fit known = known
  initialiser_known names l m at n name (tree.variable (Some value)) rest there fit known =
      let d : tree.Decl = record { name = name; shape = tree.variable (Some value) } in
      let means = newest_means program b h names (labelled.local n) (local_declares (tree.declared d)) in
      (((subst (IsVariable program b) (sym means) fit.0, decl_exprs_known p well program b h o owner_is names n l m d there fit value (inl refl)), tt), known)
  initialiser_known names l m at n name (tree.array k) rest there fit known = known

  pub locals_known : (l : Inside) (m : Bool) (names : Names) (at n : ℕ) (locals : tree.Locals) (rest : Stmts) → Heads l m names at n locals
      → EachOf (May program b) l rest
      → EachOf (May program b) l (label_locals names at n locals rest)
  locals_known l m names at n tree.no_locals rest heads known = known
  locals_known l m names at n (tree.and_local (tree.declared d) others) rest heads known =
      let next = step l m names at n (tree.declared d) others heads in
      initialiser_known names l m at n d.name d.shape _ (heads.parts _ (inl refl)) next.fit
      (locals_known l m (with_local names n (tree.declared d)) (at + count_local (tree.declared d)) (n + local_count (tree.declared d)) others rest next known)
  locals_known l m names at n (tree.and_local (tree.inlet_at place name parameters body) others) rest heads known =
      let definition : tree.Local = tree.inlet_at place name parameters body in
      locals_known l m (with_local names n definition) (at + count_local definition) (n + local_count definition) others rest
      (step l m names at n definition others heads) known
