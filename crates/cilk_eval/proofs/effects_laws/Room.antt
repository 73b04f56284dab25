-- The cells of bodies and of the top level are those of what is declared.
use Rattle.std.proofs.Common.{◌≡◌, ℕ, zero, suc, ◌+◌, ◌<◌, ◌≤◌, max, ℤ, pos, Bool, true, false, List, [], ◌∷◌, ◌++◌, map, flat_map, length, Some}
use Rattle.std.proofs.Common.{slice_get, inl, inr, refl, sym, ap, subst, ◌∙◌, arith, append_assoc, append-nil, length-append}
use Rattle.std.proofs.lemmas.Bool.{cases_lt}
use Rattle.cilk_eval.specs.syntax.declared.return_type.ReturnType.{ReturnType}
use Rattle.cilk_eval.specs.syntax.Tree.{Word}
use Rattle.cilk_eval.specs.syntax.Tree as tree
use Rattle.cilk_eval.specs.scopes.Scopes.{Declared, parameter, local_declares, kind_of_body, kind_of_global, item_declares, file_declares}
use Rattle.cilk_eval.specs.scopes.Parts.{Around, local, inner, looped, switched, after_local, after_locals, block_parts, locals_parts, within_local}
use Rattle.cilk_eval.specs.scopes.Parts.{stmts_parts, within_stmt, parts_of}
use Rattle.cilk_eval.specs.scopes.Declarations as declarations
use Rattle.cilk_eval.specs.scopes.Declarations.{activations_of}
use Rattle.cilk_eval.proofs.scopes_laws.Elements.{Has, Has-append_right, Has-append_cases, Contains-from_Has}
use Rattle.cilk_eval.specs.scopes.WellFormed.{WellFormed}
use Rattle.cilk_eval.specs.scopes.Cells as rules
use Rattle.cilk_eval.specs.scopes.Cells.{cells_of, max_cells, max_global_cells}
use Rattle.cilk_eval.specs.scopes.Forms as forms
use Rattle.cilk_eval.specs.scopes.Forms.{Passes}
use Rattle.cilk_eval.specs.labelled.Labelled.{Variable, Body}
use Rattle.cilk_eval.specs.labelled.Label.{local_variables, locals_variables, stmt_variables, stmts_variables, block_variables}
use Rattle.cilk_eval.specs.labelled.Bodies.{one_cell, shaped_variable, item_globals, label, bodies_of}
use Rattle.cilk_eval.specs.model.Instance.{body_at, no_body}
use Rattle.cilk_eval.specs.nodes.Slots as slots
use Rattle.cilk_eval.specs.effects.Room.{HasRoom, ParametersFirst}
use Rattle.cilk_eval.proofs.effects_laws.Lists.{get_there}
use Rattle.cilk_eval.proofs.effects_laws.Facts.{InRange, local_in_range, global_in_range}
use Rattle.cilk_eval.proofs.effects_laws.Locals.{AllIn, in_left, in_right}
use Rattle.cilk_eval.proofs.effects_laws.Origins.{AreParameters, of_inlet, of_definition, Origin, origin}

pub get_has : {X : Type 0} (xs : List X) (n : ℕ) (x : X) → slice_get xs n ≡ Some x → Has xs x
get_has [] n x e = cc
get_has (y ∷ xs) zero x e = let same : y ≡ x = cc in inl same
get_has (y ∷ xs) (suc n) x e = inr (get_has xs n x e)

-- these variables have as many cells as these declarations, and none is too long
pub record SameRoom (vs : List Variable) (ds : List Declared) : Type 0 where
  pub same : slots.cells_of vs ≡ rules.cells ds
  pub short : (v : Variable) → Has vs v → v.length ≤ 65536

cells-append : (xs ys : List Variable) → slots.cells_of (xs ++ ys) ≡ slots.cells_of xs + slots.cells_of ys
cells-append [] ys = let e : 0 + slots.cells_of ys ≡ slots.cells_of ys = omega arith in sym e
cells-append (x ∷ xs) ys = let rest = cells-append xs ys in omega (arith, rest)

rules-append : (xs ys : List Declared) → rules.cells (xs ++ ys) ≡ rules.cells xs + rules.cells ys
rules-append [] ys = let e : 0 + rules.cells ys ≡ rules.cells ys = omega arith in sym e
rules-append (x ∷ xs) ys = let rest = rules-append xs ys in omega (arith, rest)

no_room : SameRoom [] []
no_room = record { same = refl; short = λ v h. absurd h }

room-append : (xs ys : List Variable) (ds es : List Declared) → SameRoom xs ds → SameRoom ys es → SameRoom (xs ++ ys) (ds ++ es)
room-append xs ys ds es a b = record {
  same = cells-append xs ys ∙ (λ i. a.same i + b.same i) ∙ sym (rules-append ds es);
  short = λ v h. elim (Has-append_cases xs ys v h) [ inl k ↦ a.short v k | inr k ↦ b.short v k ];
}

-- one more declaration that takes no room
room_none : (d : Declared) (vs : List Variable) (ds : List Declared) → cells_of d.kind ≡ 0 → SameRoom vs ds → SameRoom vs (d ∷ ds)
room_none d vs ds e r = record { same = let s = r.same in omega (arith, e, s); short = r.short }

room_one : (v : Variable) (d : Declared) → max v.length 1 ≡ cells_of d.kind → v.length ≤ 65536 → SameRoom (v ∷ []) (d ∷ [])
room_one v d e low = record {
  same = omega (arith, e);
  short = one_low;
}
  where
    one_low : (w : Variable) → Has (v ∷ []) w → w.length ≤ 65536
    one_low w (inl same) = subst (λ (x : Variable). x.length ≤ 65536) same low
    one_low w (inr none) = absurd none

words_room : (z : ℤ) (words : List Word) → SameRoom (map (one_cell z) words) (map parameter words)
words_room z [] = no_room
words_room z (word ∷ words) =
    room-append (one_cell z word ∷ []) (map (one_cell z) words) (parameter word ∷ []) (map parameter words)
    (room_one (one_cell z word) (parameter word) refl (omega arith)) (words_room z words)

parameters_room : (vs : List Variable) (ds : List Declared) → AreParameters vs ds → SameRoom vs ds
parameters_room _ _ (of_inlet words) = words_room (pos 0) words
parameters_room _ _ (of_definition (tree.ints words)) = words_room (pos 0) words
parameters_room _ _ (of_definition (tree.command_line count strings)) = record {
  same = refl;
  short = (room_one (one_cell (pos 1) count) (parameter count) refl (omega arith)).short;
}

get_front : {X : Type 0} (xs ys : List X) (n : ℕ) (x : X) → n < length xs → slice_get (xs ++ ys) n ≡ Some x → slice_get xs n ≡ Some x
get_front [] ys n x low e = absurd (omega (arith, low))
get_front (y ∷ xs) ys zero x low e = e
get_front (y ∷ xs) ys (suc n) x low e = get_front xs ys n x (omega (arith, low)) e

words_scalar : (z : ℤ) (words : List Word) (v : Variable) → Has (map (one_cell z) words) v → v.length ≡ 0
words_scalar z [] v h = absurd h
words_scalar z (word ∷ words) v (inl e) = ap (λ (x : Variable). x.length) (sym e)
words_scalar z (word ∷ words) v (inr h) = words_scalar z words v h

parameters_scalar : (vs : List Variable) (ds : List Declared) → AreParameters vs ds → (v : Variable) → Has vs v → v.length ≡ 0
parameters_scalar _ _ (of_inlet words) = words_scalar (pos 0) words
parameters_scalar _ _ (of_definition (tree.ints words)) = words_scalar (pos 0) words
parameters_scalar _ _ (of_definition (tree.command_line count strings)) = words_scalar (pos 1) (count ∷ [])

more_than : (n : ℕ) → 0 < n → max n 1 ≡ n
more_than n h = omega (arith, h)

-- the cells of declarations of which none passes a limit
within : (most : ℕ) (before after : List Declared) → rules.cells before ≤ most
    → ((xs ys : List Declared) (d : Declared) → before ++ after ≡ xs ++ d ∷ ys → ¬ Passes most xs d) → rules.cells (before ++ after) ≤ most
within most before [] low none = subst (λ ds. rules.cells ds ≤ most) (sym (append-nil before)) low
within most before (d ∷ after) low none =
    let same : (before ++ d ∷ []) ++ after ≡ before ++ d ∷ after = append_assoc before (d ∷ []) after in
    let more : rules.cells (before ++ d ∷ []) ≤ most =
    elim
    (cases_lt most (rules.cells (before ++ d ∷ []))) [ inl past ↦ absurd (none before after d refl (record { within = low; past = past })) | inr high ↦ high ]
    in
    subst (λ ds. rules.cells ds ≤ most) same (within most (before ++ d ∷ []) after more (λ xs ys e is. none xs ys e (sym same ∙ is)))

module _ (p : tree.Program) (well : WellFormed p) where
  decl_room : (a : Around) (name : Word) (shape : tree.Shape)
      → Has (parts_of p) (record { around = a; part = local (tree.declared (record { name = name; shape = shape })) })
      → SameRoom (local_variables (tree.declared (record { name = name; shape = shape })))
      (local_declares (tree.declared (record { name = name; shape = shape })) ∷ [])
  decl_room a name (tree.variable value) there = room_one _ _ refl (omega arith)
  decl_room a name (tree.array n) there =
      let range = local_in_range p well a name n there in room_one _ _ (more_than n range.low) range.high

  locals_room : (a : Around) (locals : tree.Locals) → AllIn p (locals_parts a locals)
      → SameRoom (locals_variables locals) (declarations.locals_variables locals)
  locals_room a tree.no_locals all = no_room
  locals_room a (tree.and_local (tree.declared d) others) all =
      room-append (local_variables (tree.declared d)) (locals_variables others) (local_declares (tree.declared d) ∷ []) (declarations.locals_variables others)
      (decl_room a d.name d.shape (all _ (inl refl))) (locals_room (after_local a (tree.declared d)) others (λ s h. all s (inr h)))
  locals_room a (tree.and_local (tree.inlet_at place name parameters body) others) all =
      let definition : tree.Local = tree.inlet_at place name parameters body in
      room_none (local_declares definition) (locals_variables others) (declarations.locals_variables others) refl
      (locals_room (after_local a definition) others (λ s h. all s (inr (Has-append_right (within_local a definition) _ s h))))

  mutual
    pub block_room : (a : Around) (body : tree.Block) → AllIn p (block_parts a body) → SameRoom (block_variables body) (declarations.block_variables body)
    block_room a (tree.block locals stmts) all =
        room-append (locals_variables locals) (stmts_variables stmts) (declarations.locals_variables locals) (declarations.stmts_variables stmts)
        (locals_room a locals (in_left p (locals_parts a locals) _ all)) (stmts_room (after_locals a locals) stmts (in_right p (locals_parts a locals) _ all))

    stmts_room : (a : Around) (stmts : tree.Stmts) → AllIn p (stmts_parts a stmts) → SameRoom (stmts_variables stmts) (declarations.stmts_variables stmts)
    stmts_room a tree.none all = no_room
    stmts_room a (tree.also first others) all =
        let behind : AllIn p (within_stmt a first ++ stmts_parts a others) = λ s h. all s (inr h) in
        room-append (stmt_variables first) (stmts_variables others) (declarations.stmt_variables first) (declarations.stmts_variables others)
        (stmt_room a first (in_left p (within_stmt a first) _ behind)) (stmts_room a others (in_right p (within_stmt a first) _ behind))

    stmt_room : (a : Around) (s : tree.Stmt) → AllIn p (within_stmt a s) → SameRoom (stmt_variables s) (declarations.stmt_variables s)
    stmt_room a (tree.when test body) all = block_room (inner a) body all
    stmt_room a (tree.either test body other) all =
        room-append (block_variables body) (block_variables other) (declarations.block_variables body) (declarations.block_variables other)
        (block_room (inner a) body (in_left p (block_parts (inner a) body) _ all)) (block_room (inner a) other (in_right p (block_parts (inner a) body) _ all))
    stmt_room a (tree.while test body) all = block_room (looped a) body all
    stmt_room a (tree.repeat body test) all = block_room (looped a) body all
    stmt_room a (tree.loop first test advance body) all = block_room (looped a) body all
    stmt_room a (tree.switch test body) all = block_room (switched a) body all
    stmt_room a (tree.nested inside) all = block_room (inner a) inside all
    stmt_room a other all = no_room

  body_is : (b : ℕ) → b < length (bodies_of p) → Has (bodies_of p) (body_at (label p) b)
  body_is b there = get_has (bodies_of p) b (body_at (label p) b) (get_there (bodies_of p) b no_body there)

  pub body_has_room : (x : Body) → Origin p x → HasRoom max_cells x.variables
  body_has_room x from =
      let room =
      room-append from.variables (block_variables from.block) from.declared (declarations.block_variables from.block)
      (parameters_room from.variables from.declared from.parameters) (block_room from.around from.block from.parts) in
      let ds : List Declared = from.declared ++ declarations.block_variables from.block in
      let low : rules.cells ds ≤ max_cells =
      within max_cells [] ds (omega arith)
      (λ xs ys d is passes.
      well _ (inr (forms.limit xs ys d (Contains-from_Has (activations_of p) _ (subst (Has (activations_of p)) is from.activation)) passes)))
      in
      let has : from.variables ++ block_variables from.block ≡ x.variables = ap (λ (y : Body). y.variables) from.is in
      record {
        few_cells = subst (λ vs. slots.cells_of vs ≤ max_cells) has (subst (λ (n : ℕ). n ≤ max_cells) (sym room.same) low);
        short = λ n v e. room.short v (subst (λ vs. Has vs v) (sym has) (get_has x.variables n v e));
      }

  pub variables : (b : ℕ) → b < length (bodies_of p) → HasRoom max_cells (body_at (label p) b).variables
  variables b there = body_has_room (body_at (label p) b) (origin p (body_at (label p) b) (body_is b there))

  global_room : (name : Word) (shape : tree.GlobalShape) → ((n : ℕ) → shape ≡ tree.global_array n → InRange n)
      → SameRoom (shaped_variable name shape ∷ []) (record { name = name; kind = kind_of_global shape } ∷ [])
  global_room name (tree.global_variable value) ranges = room_one _ _ refl (omega arith)
  global_room name (tree.global_array n) ranges = let range = ranges n refl in room_one _ _ (more_than n range.low) range.high

  items_room : (items : List tree.Item) → ((x : tree.Global) (n : ℕ) → Has items (tree.global x) → x.shape ≡ tree.global_array n → InRange n)
      → SameRoom (flat_map item_globals items) (file_declares items)
  items_room [] ranges = no_room
  items_room (tree.global x ∷ others) ranges =
      room-append (shaped_variable x.name x.shape ∷ []) (flat_map item_globals others) (item_declares (tree.global x)) (file_declares others)
      (global_room x.name x.shape (λ n e. ranges x n (inl refl) e)) (items_room others (λ y n h e. ranges y n (inr h) e))
  items_room (tree.lock name ∷ others) ranges =
      room_none _ (flat_map item_globals others) (file_declares others) refl (items_room others (λ y n h e. ranges y n (inr h) e))
  items_room (tree.prototype q ∷ others) ranges = items_room others (λ y n h e. ranges y n (inr h) e)
  items_room (tree.procedure f ∷ others) ranges =
      room_none _ (flat_map item_globals others) (file_declares others) (no_cells f.is_cilk f.returns _) (items_room others (λ y n h e. ranges y n (inr h) e))
    where
      no_cells : (c : Bool) (r : ReturnType) (n : ℕ) → cells_of (kind_of_body c r n) ≡ 0
      no_cells true r n = refl
      no_cells false r n = refl

  pub globals : HasRoom max_global_cells (label p).globals
  globals =
      let room = items_room p.items (global_in_range p well) in
      let low : rules.cells (file_declares p.items) ≤ max_global_cells =
      within max_global_cells [] (file_declares p.items) (omega arith) (λ xs ys d is passes. well _ (inr (forms.global_limit xs ys d is passes))) in
      record {
        few_cells = subst (λ (n : ℕ). n ≤ max_global_cells) (sym room.same) low;
        short = λ n v e. room.short v (get_has (label p).globals n v e);
      }

  pub parameters_first : (b : ℕ) → b < length (bodies_of p) → ParametersFirst (body_at (label p) b)
  parameters_first b there = of_origin (body_at (label p) b) (origin p (body_at (label p) b) (body_is b there))
    where
      of_origin : (x : Body) → Origin p x → ParametersFirst x
      of_origin x from =
          let count : length from.variables ≡ x.parameters = ap (λ (y : Body). y.parameters) from.is in
          let has : from.variables ++ block_variables from.block ≡ x.variables = ap (λ (y : Body). y.variables) from.is in
          let total = ap (λ (vs : List Variable). length vs) has in
          record {
            are_there = omega (arith, count, total, length-append from.variables (block_variables from.block));
            scalars = λ n v low e.
                let below : n < length from.variables = omega (arith, low, count) in
                let own = get_front from.variables (block_variables from.block) n v below (ap (λ vs. slice_get vs n) has ∙ e) in
                parameters_scalar from.variables from.declared from.parameters v (get_has from.variables n v own);
          }
