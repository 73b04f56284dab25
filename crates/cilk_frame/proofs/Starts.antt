-- A body at its start.
use Rattle.std.proofs.Common.{◌≡◌, ℕ, zero, suc, ◌+◌, ◌-◌, ◌<◌, ℤ, pos, List, [], ◌∷◌, ◌++◌, length, map, drop, Option, Some, None, refl, sym, ap}
use Rattle.std.proofs.Common.{◌∙◌, subst, arith}
use Rattle.std.specs.Prelude.{slice_get, slice_index_or, replicate, unwrap_or, ⊤, IsSome, option_map}
use Rattle.std.proofs.lemmas.List.{length-replicate, replicate-append-replicate}
use Rattle.cilk_load_nodes.specs.syntax.Tree as tree
use Rattle.cilk_load_nodes.specs.syntax.Tree.{Word}
use Rattle.cilk_load_nodes.specs.scopes.declared.owner.Owner.{Owner}
use Rattle.cilk_load_nodes.specs.scopes.declared.owner.Owner.TheVariants as owner
use Rattle.cilk_load_nodes.specs.labelled.Labelled.{Variable, Body}
use Rattle.cilk_load_nodes.specs.labelled.Labelled as labelled
use Rattle.cilk_load_nodes.specs.labelled.Items.{Items, pieces, open_stmt, open_stmts, opened, head_of, start_items, plain_round}
use Rattle.cilk_load_nodes.specs.labelled.Names.{Names, with_words, with_local, in_inlet}
use Rattle.cilk_load_nodes.specs.labelled.Label.{locals_variables, stmt_variables, stmts_variables, block_variables}
use Rattle.cilk_load_nodes.specs.labelled.Count.{count_local, count_item}
use Rattle.cilk_load_nodes.specs.labelled.Bodies.{one_cell, parameter_variables, label_body, inlet_bodies, procedure_names, block_locals, body_count}
use Rattle.cilk_load_nodes.specs.labelled.Bodies.{items_bodies, file_names, label}
use Rattle.cilk_load_nodes.specs.model.Values.{initial_values}
use Rattle.cilk_load_nodes.specs.model.Instance.{no_body, body_at, with_arguments, entered}
use Rattle.cilk_load_nodes.specs.Slots.{size_of, flat, cells_of}
use Rattle.cilk_load_nodes.specs.Table.{number_of}
use Rattle.cilk_load_nodes.specs.Bodies.{body_table, body_of}
use Rattle.cilk_frame.specs.declared.awaited.Await.{Await}
use Rattle.cilk_frame.specs.Starts.{first_cells}
use Rattle.cilk_frame.specs.Begins.{Takes, starts_with, first_activation}
use Rattle.cilk_frame.specs.Stands.{Activates}
use Rattle.cilk_load_nodes.specs.model.Values.{Reached}

-- variables that hold 0 before any action
abbrev AllZero : List Variable → Type 0
AllZero [] = ⊤
AllZero (v ∷ variables) = (v.initial ≡ pos 0) × AllZero variables

zero-append : (vs ws : List Variable) → AllZero vs → AllZero ws → AllZero (vs ++ ws)
zero-append [] ws h k = k
zero-append (v ∷ vs) ws (e, h) k = (e, zero-append vs ws h k)

locals-zero : (locals : tree.Locals) → AllZero (locals_variables locals)
locals-zero tree.no_locals = tt
locals-zero (tree.and_local (tree.declared d) others) = (refl, locals-zero others)
locals-zero (tree.and_local (tree.inlet_at at name parameters body) others) = locals-zero others

mutual
  stmt-zero : (s : tree.Stmt) → AllZero (stmt_variables s)
  stmt-zero (tree.move what) = tt
  stmt-zero (tree.spawn_at place taker callee arguments) = tt
  stmt-zero (tree.print format arguments) = tt
  stmt-zero (tree.locking what name) = tt
  stmt-zero tree.null = tt
  stmt-zero (tree.sync_at place) = tt
  stmt-zero (tree.abort_at place) = tt
  stmt-zero (tree.break_at place) = tt
  stmt-zero (tree.continue_at place) = tt
  stmt-zero (tree.return_at place value) = tt
  stmt-zero (tree.when value body) = block-zero body
  stmt-zero (tree.either value body other) = zero-append (block_variables body) (block_variables other) (block-zero body) (block-zero other)
  stmt-zero (tree.while value body) = block-zero body
  stmt-zero (tree.repeat body value) = block-zero body
  stmt-zero (tree.loop first value advance body) = block-zero body
  stmt-zero (tree.switch value body) = block-zero body
  stmt-zero (tree.labelled label) = tt
  stmt-zero (tree.nested inside) = block-zero inside

  stmts-zero : (ss : tree.Stmts) → AllZero (stmts_variables ss)
  stmts-zero tree.none = tt
  stmts-zero (tree.also first others) = zero-append (stmt_variables first) (stmts_variables others) (stmt-zero first) (stmts-zero others)

  block-zero : (b : tree.Block) → AllZero (block_variables b)
  block-zero (tree.block locals stmts) = zero-append (locals_variables locals) (stmts_variables stmts) (locals-zero locals) (stmts-zero stmts)

-- variables of one cell each
abbrev AllSingle : List Variable → Type 0
AllSingle [] = ⊤
AllSingle (v ∷ variables) = (size_of v ≡ 1) × AllSingle variables

-- the first n variables are there, and no arrays
abbrev Single : ℕ → List Variable → Type 0
Single zero variables = ⊤
Single (suc n) [] = ⊥
Single (suc n) (v ∷ variables) = (size_of v ≡ 1) × Single n variables

single-front : (vs others : List Variable) → AllSingle vs → Single (length vs) (vs ++ others)
single-front [] others h = tt
single-front (v ∷ vs) others (e, h) = (e, single-front vs others h)

zero-behind : (vs others : List Variable) → AllZero others → AllZero (drop (length vs) (vs ++ others))
zero-behind [] others h = h
zero-behind (v ∷ vs) others h = zero-behind vs others h

words-single : (z : ℤ) (words : List Word) → AllSingle (map (one_cell z) words)
words-single z [] = tt
words-single z (word ∷ words) = (refl, words-single z words)

parameters-single : (parameters : tree.Parameters) → AllSingle (parameter_variables parameters)
parameters-single (tree.ints words) = words-single (pos 0) words
parameters-single (tree.command_line count strings) = (refl, tt)

-- a body whose parameters are no arrays, and whose other variables hold 0 before any action
pub record Bare (body : Body) : Type 0 where
  pub single_parameters : Single body.parameters body.variables
  pub zero_others : AllZero (drop body.parameters body.variables)

body-bare : (names : Names) (at : ℕ) (owner : Owner) (name : Word) (parameters : List Variable) (body : tree.Block) → AllSingle parameters
    → Bare (label_body names at owner name parameters body)
body-bare names at owner name parameters body h = record {
  single_parameters = single-front parameters (block_variables body) h;
  zero_others = zero-behind parameters (block_variables body) (block-zero body);
}

abbrev AllBare : List Body → Type 0
AllBare [] = ⊤
AllBare (body ∷ bodies) = Bare body × AllBare bodies

bare-append : (xs ys : List Body) → AllBare xs → AllBare ys → AllBare (xs ++ ys)
bare-append [] ys h k = k
bare-append (x ∷ xs) ys (b, h) k = (b, bare-append xs ys h k)

inlets-bare : (names : Names) (at n : ℕ) (locals : tree.Locals) → AllBare (inlet_bodies names at n locals)
inlets-bare names at n tree.no_locals = tt
inlets-bare names at n (tree.and_local (tree.declared d) others) =
    inlets-bare (with_local names n (tree.declared d)) (at + count_local (tree.declared d)) (n + 1) others
inlets-bare names at n (tree.and_local (tree.inlet_at place name parameters body) others) =
    let first : tree.Local = tree.inlet_at place name parameters body in (
      body-bare (with_words (in_inlet (with_local names n first)) 0 parameters) at owner.Inlet name
          (map (one_cell (pos 0)) parameters) body (words-single (pos 0) parameters),
      inlets-bare (with_local names n first) (at + count_local first) (n + 0) others,
    )

items-bare : (names : Names) (at : ℕ) (items : List tree.Item) → AllBare (items_bodies names at items)
items-bare names at [] = tt
items-bare names at (tree.global g ∷ others) = items-bare (record names { bodies = names.bodies + 0 }) (at + 0) others
items-bare names at (tree.lock name ∷ others) = items-bare (record names { bodies = names.bodies + 0 }) (at + 0) others
items-bare names at (tree.prototype q ∷ others) = items-bare (record names { bodies = names.bodies + 0 }) (at + 0) others
items-bare names at (tree.procedure p ∷ others) =
    let inner : Names = procedure_names (record names { bodies = suc names.bodies }) p in (
      body-bare inner at _ p.name (parameter_variables p.parameters) p.body (parameters-single p.parameters),
      bare-append (inlet_bodies inner at (length (parameter_variables p.parameters)) (block_locals p.body)) _
          (inlets-bare inner at (length (parameter_variables p.parameters)) (block_locals p.body))
          (items-bare (record names { bodies = names.bodies + body_count (tree.procedure p) }) (at + count_item (tree.procedure p)) others),
    )

bare-at : (bodies : List Body) (b : ℕ) → AllBare bodies → Bare (slice_index_or bodies b no_body)
bare-at [] b h = record { single_parameters = tt; zero_others = tt }
bare-at (body ∷ bodies) zero (one, h) = one
bare-at (body ∷ bodies) (suc b) (one, h) = bare-at bodies b h

pub program-bare : (p : tree.Program) (b : ℕ) → Bare (body_at (label p) b)
program-bare p b = bare-at (label p).bodies b (items-bare (file_names p.items) 1 p.items)

-- the cells of variables that hold 0
zero-cells : (variables : List Variable) → AllZero variables → flat (initial_values variables) ≡ replicate (cells_of variables) (pos 0)
zero-cells [] h = refl
zero-cells (v ∷ variables) (e, h) =
    ap (λ z. replicate (size_of v) z ++ flat (initial_values variables)) e ∙ ap (λ zs. replicate (size_of v) (pos 0) ++ zs) (zero-cells variables h)
    ∙ replicate-append-replicate (size_of v) (cells_of variables) (pos 0)

pub initial-sizes : (variables : List Variable) → map length (initial_values variables) ≡ map size_of variables
initial-sizes [] = refl
initial-sizes (v ∷ variables) =
    λ i. length-replicate (size_of v) v.initial i ∷ initial-sizes variables i

-- the cells of variables of which the first are parameters
argument-cells : (n : ℕ) (variables : List Variable) (arguments : List ℤ) → length arguments ≡ n → Single n variables → AllZero (drop n variables)
    → flat (with_arguments arguments (initial_values variables)) ≡ first_cells (cells_of variables) arguments
argument-cells zero variables [] e h k =
    let all : cells_of variables - 0 ≡ cells_of variables = omega arith in
    zero-cells variables k ∙ ap (λ m. replicate m (pos 0)) (sym all)
argument-cells zero variables (z ∷ arguments) e h k = absurd (omega arith)
argument-cells (suc n) variables [] e h k = absurd (omega arith)
argument-cells (suc n) [] (z ∷ arguments) e h k = absurd h
argument-cells (suc n) (v ∷ variables) (z ∷ arguments) e (one, h) k =
    let e' : length arguments ≡ n = omega arith in
    let rest : cells_of variables - length arguments ≡ cells_of (v ∷ variables) - length (z ∷ arguments) = omega arith in
    ap (λ zs. z ∷ zs) (argument-cells n variables arguments e' h k) ∙ ap (λ m. z ∷ (arguments ++ replicate m (pos 0))) rest

argument-sizes : (n : ℕ) (variables : List Variable) (arguments : List ℤ) → length arguments ≡ n → Single n variables
    → map length (with_arguments arguments (initial_values variables)) ≡ map size_of variables
argument-sizes n variables [] e h = initial-sizes variables
argument-sizes zero variables (z ∷ arguments) e h = absurd (omega arith)
argument-sizes (suc n) [] (z ∷ arguments) e h = absurd h
argument-sizes (suc n) (v ∷ variables) (z ∷ arguments) e (one, h) =
    let e' : length arguments ≡ n = omega arith in
    λ i. sym one i ∷ argument-sizes n variables arguments e' h i

-- a list has a head
abbrev HasHead : Items → Type 0
HasHead items = IsSome (head_of items)

mutual
  open-head : (s : labelled.Stmt) (items without : Items) → HasHead without → HasHead (open_stmt s items without)
  open-head (labelled.action what) items without h = refl
  open-head (labelled.choose test body other) items without h = refl
  open-head (labelled.while test body) items without h = refl
  open-head (labelled.repeat body test) items without h = open-heads body (plain_round test body ∷ items) (plain_round test body ∷ items) refl
  open-head (labelled.loop None test advance body) items without h = refl
  open-head (labelled.loop (Some first) test advance body) items without h = refl
  open-head (labelled.select test body) items without h = refl
  open-head (labelled.at_label value) items without h = h
  open-head (labelled.nested inside) items without h = open-heads inside items without h

  open-heads : (ss : labelled.Stmts) (items without : Items) → HasHead without → HasHead (open_stmts ss items without)
  open-heads labelled.none items without h = h
  open-heads (labelled.also first others) items without h =
      open-head first (pieces others items) (open_stmts others items without) (open-heads others items without h)

pieces-head : (ss : labelled.Stmts) (items : Items) → HasHead (opened items) → HasHead (opened (pieces ss items))
pieces-head labelled.none items h = h
pieces-head (labelled.also first others) items h = open-head first (pieces others items) (opened (pieces others items)) (pieces-head others items h)

some-number : (items : Items) → HasHead items → number_of items ≡ Some (unwrap_or (number_of items) 0)
some-number items h = by_head (head_of items) h
  where
    by_head : (o : Option labelled.Numbered) → IsSome o
        → option_map (λ (x : labelled.Numbered). x.number) o
        ≡ Some (unwrap_or (option_map (λ (x : labelled.Numbered). x.number) o) 0)
    by_head None there = cc
    by_head (Some x) there = refl

start-number : (body : Body) → number_of (opened (start_items body)) ≡ Some (unwrap_or (number_of (opened (start_items body))) 0)
start-number body = some-number (opened (start_items body)) (pieces-head body.stmts _ refl)

-- a body that takes arguments is there
taken : (bodies : List Body) (b : ℕ) (arguments : List ℤ) → Takes (slice_get (map body_table bodies) b) arguments
    → slice_get (map body_table bodies) b ≡ Some (body_table (slice_index_or bodies b no_body))
taken [] b arguments h = absurd h
taken (body ∷ bodies) zero arguments h = refl
taken (body ∷ bodies) (suc b) arguments h = taken bodies b arguments h

inside : (bodies : List Body) (b : ℕ) (arguments : List ℤ) → Takes (slice_get (map body_table bodies) b) arguments → b < length bodies
inside [] b arguments h = absurd h
inside (body ∷ bodies) zero arguments h = omega arith
inside (body ∷ bodies) (suc b) arguments h = let others = inside bodies b arguments h in omega arith

pub start-activates : (p : tree.Program) (b : ℕ) (arguments : List ℤ) (w : Option Await) (r : Option Reached) → Takes (body_of p b) arguments
    → Activates (label p) (first_activation p b arguments w) (entered (label p) b arguments r)
start-activates p b arguments w r h =
    let body : Body = body_at (label p) b in
    let there : body_of p b ≡ Some (body_table body) = taken (label p).bodies b arguments h in
    let bare : Bare body = program-bare p b in
    let fits : length arguments ≡ body.parameters = subst (λ o. Takes o arguments) there h in
    let is : first_activation p b arguments w ≡ starts_with (Some (body_table body)) arguments w = ap (λ o. starts_with o arguments w) there in
    record {
      is_there = inside (label p).bodies b arguments h;
      answers = [];
      reached_by = refl;
      node_is = start-number body ∙ ap (λ a. Some a.node) (sym is);
      cells_are = ap (λ a. a.cells) is ∙ sym (argument-cells body.parameters body.variables arguments fits bare.single_parameters bare.zero_others);
      sizes_are = argument-sizes body.parameters body.variables arguments fits bare.single_parameters;
    }

-- what awaits the value of a body that was entered
pub start-awaits : (p : tree.Program) (b : ℕ) (arguments : List ℤ) (w : Option Await) → Takes (body_of p b) arguments
    → (first_activation p b arguments w).awaits ≡ w
start-awaits p b arguments w h =
    let there : body_of p b ≡ Some (body_table (body_at (label p) b)) = taken (label p).bodies b arguments h in
    ap (λ o. (starts_with o arguments w).awaits) there
