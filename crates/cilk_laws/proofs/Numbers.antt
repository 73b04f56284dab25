-- The number of each action is that of its place in the text.
use Rattle.std.proofs.Common.{◌≡◌, ℕ, suc, ◌+◌, List, [], ◌∷◌, ◌++◌, length, map, codes, Option, Some, None, refl, sym, ◌∙◌, subst, arith}
use Rattle.std.proofs.Common.{append_assoc, length-append}
use Rattle.std.specs.Prelude.{pos}
use Rattle.std.specs.List.{All}
use Rattle.std.proofs.lemmas.List.Elements.{All-nil, All-cons, All-append, All-weaker}
use Rattle.cilk_check.specs.syntax.Tree as tree
use Rattle.cilk_check.specs.scopes.declared.owner.Owner.{Owner}
use Rattle.cilk_check.specs.scopes.declared.owner.Owner.TheVariants.{Inlet}
use Rattle.cilk_check.specs.scopes.Parts.{owner_of}
use Rattle.cilk_tree.specs.syntax.StmtLines.{test_line, until_line, for_line}
use Rattle.cilk_laws_model.specs.labelled.Labelled.{Numbered, Stmts, Variable, Body}
use Rattle.cilk_laws_model.specs.labelled.Names.{Names, with_words, with_local, local_count, entered, in_inlet}
use Rattle.cilk_laws_model.specs.labelled.Count.{count_option, count_shape, count_stmt, count_stmts, count_local, count_locals, count_block, count_item}
use Rattle.cilk_laws_model.specs.labelled.Label.{stmt_variables, block_variables, locals_variables, numbered, label_part, label_initialiser}
use Rattle.cilk_laws_model.specs.labelled.Label.{label_local, names_behind}
use Rattle.cilk_laws_model.specs.labelled.Label.{label_move, label_locals, label_stmt, label_stmts, label_block}
use Rattle.cilk_laws_model.specs.labelled.Bodies.{one_cell, parameter_variables, label_body, inlet_body, inlet_bodies, block_locals, procedure_names}
use Rattle.cilk_laws_model.specs.labelled.Bodies.{body_count, item_bodies, items_bodies, file_names, bodies_of}
use Rattle.cilk_laws.specs.Said.{Said, asked, part_said, brace, shape_said, stmt_said, stmts_said, local_said, locals_said, block_said}
use Rattle.cilk_laws.specs.Said.{item_said, items_said, program_said}
use Rattle.cilk_laws.specs.Actions.{part_actions, stmt_actions, stmts_actions, body_actions, IsSaid}
use Rattle.cilk_laws.proofs.Says.{get-first, get-behind}

-- as many are said as are counted

part_count : (line : List ℕ) (what : Option tree.Move) → length (part_said line what) ≡ count_option what
part_count line None = refl
part_count line (Some what) = refl

shape_size : (d : tree.Decl) (shape : tree.Shape) → length (shape_said d shape) ≡ count_shape shape
shape_size d (tree.variable None) = refl
shape_size d (tree.variable (Some value)) = refl
shape_size d (tree.array n) = refl

mutual
  stmt_size : (s : tree.Stmt) → length (stmt_said s) ≡ count_stmt s
  stmt_size (tree.move what) = refl
  stmt_size (tree.spawn_at place taker callee arguments) = refl
  stmt_size (tree.print format arguments) = refl
  stmt_size (tree.locking what name) = refl
  stmt_size tree.null = refl
  stmt_size (tree.sync_at place) = refl
  stmt_size (tree.abort_at place) = refl
  stmt_size (tree.break_at place) = refl
  stmt_size (tree.continue_at place) = refl
  stmt_size (tree.return_at place value) = refl
  stmt_size (tree.when test body) = omega (arith, block_size body)
  stmt_size (tree.either test body other) =
      omega (arith, block_size body, block_size other, length-append (block_said body) (block_said other))
  stmt_size (tree.while test body) = omega (arith, block_size body)
  stmt_size (tree.repeat body test) = omega (arith, block_size body, length-append (block_said body) (asked (until_line test) test ∷ []))
  stmt_size (tree.loop first test advance body) =
      let line : List ℕ = for_line first test advance in
      let behind : List Said = part_said line advance ++ block_said body in
      omega (
        arith,
        block_size body,
        part_count line first,
        part_count line advance,
        length-append (part_said line advance) (block_said body),
        length-append (part_said line first) (asked line test ∷ behind),
      )
  stmt_size (tree.switch test body) = omega (arith, block_size body)
  stmt_size (tree.labelled label) = refl
  stmt_size (tree.nested inside) = block_size inside

  stmts_size : (ss : tree.Stmts) → length (stmts_said ss) ≡ count_stmts ss
  stmts_size tree.none = refl
  stmts_size (tree.also s ss) = omega (arith, stmt_size s, stmts_size ss, length-append (stmt_said s) (stmts_said ss))

  local_size : (l : tree.Local) → length (local_said l) ≡ count_local l
  local_size (tree.declared d) = shape_size d d.shape
  local_size (tree.inlet_at place name parameters body) = omega (arith, block_size body, length-append (block_said body) (brace ∷ []))

  locals_size : (ls : tree.Locals) → length (locals_said ls) ≡ count_locals ls
  locals_size tree.no_locals = refl
  locals_size (tree.and_local l ls) = omega (arith, local_size l, locals_size ls, length-append (local_said l) (locals_said ls))

  block_size : (b : tree.Block) → length (block_said b) ≡ count_block b
  block_size (tree.block ls ss) = omega (arith, locals_size ls, stmts_size ss, length-append (locals_said ls) (stmts_said ss))

-- what is said is said among more, and behind others

abbrev AllSaid : ℕ → List Said → List Numbered → Type 0
AllSaid first saids acts = All (IsSaid first saids) acts

among : (first : ℕ) (saids more : List Said) (acts : List Numbered) → AllSaid first saids acts → AllSaid first (saids ++ more) acts
among first saids more acts h =
    All-weaker (IsSaid first saids) (IsSaid first (saids ++ more))
    (λ what is. record {
      before = is.before;
      number = is.number;
      said = is.said;
      there = get-first saids more is.before is.said is.there;
      names = is.names;
      does = is.does;
    }) acts h

-- where the first of them has this number
behind : (first next : ℕ) (others saids : List Said) (acts : List Numbered) → next ≡ first + length others → AllSaid next saids acts
    → AllSaid first (others ++ saids) acts
behind first next others saids acts e h =
    All-weaker (IsSaid next saids) (IsSaid first (others ++ saids))
    (λ what is. record {
      before = length others + is.before;
      number = omega (arith, is.number, e);
      said = is.said;
      there = get-behind others saids is.before ∙ is.there;
      names = is.names;
      does = is.does;
    }) acts h

both : (first : ℕ) (saids : List Said) (acts more : List Numbered) → AllSaid first saids acts → AllSaid first saids more
    → AllSaid first saids (acts ++ more)
both first saids acts more h k = All-append (IsSaid first saids) acts more h k

none_said : (first : ℕ) (saids : List Said) → AllSaid first saids []
none_said first saids = All-nil (IsSaid first saids)

-- the first of them
first_said : (names : Names) (first at : ℕ) (said : Said) (saids : List Said) → at ≡ first → IsSaid first (said ∷ saids) (numbered at (said.act names))
first_said names first at said saids e = record {
  before = 0;
  number = omega (arith, e);
  said = said;
  there = refl;
  names = names;
  does = refl;
}

one_said : (names : Names) (at : ℕ) (said : Said) → AllSaid at (said ∷ []) (numbered at (said.act names) ∷ [])
one_said names at said = All-cons (IsSaid at (said ∷ [])) (numbered at (said.act names)) [] (first_said names at at said [] refl) (none_said at (said ∷ []))

part_said_all : (names : Names) (at : ℕ) (line : List ℕ) (what : Option tree.Move) → AllSaid at (part_said line what) (part_actions (label_part names at what))
part_said_all names at line None = none_said at []
part_said_all names at line (Some what) = one_said names at (record { line = line; act = λ ns. label_move ns what })

-- a test, and what stands behind it
test_first : (names : Names) (at : ℕ) (said : Said) (saids : List Said) (acts : List Numbered) → AllSaid (at + 1) saids acts
    → AllSaid at (said ∷ saids) (numbered at (said.act names) ∷ acts)
test_first names at said saids acts h =
    All-cons (IsSaid at (said ∷ saids)) (numbered at (said.act names)) acts (first_said names at at said saids refl)
    (behind at (at + 1) (said ∷ []) saids acts refl h)

-- a body, and an action behind it
last_behind : (names : Names) (at next : ℕ) (saids : List Said) (said : Said) (acts : List Numbered) → next ≡ at + length saids → AllSaid at saids acts
    → AllSaid at (saids ++ said ∷ []) (acts ++ numbered next (said.act names) ∷ [])
last_behind names at next saids said acts e h =
    both at (saids ++ said ∷ []) acts (numbered next (said.act names) ∷ []) (among at saids (said ∷ []) acts h)
    (behind at next saids (said ∷ []) (numbered next (said.act names) ∷ []) e (one_said names next said))

shape_all : (names : Names) (at : ℕ) (d : tree.Decl) (shape : tree.Shape) (others : Stmts) (saids : List Said)
    → AllSaid (at + count_shape shape) saids (stmts_actions others)
    → AllSaid at (shape_said d shape ++ saids) (stmts_actions (label_initialiser names at (record { name = d.name; index = None }) shape others))
shape_all names at d (tree.variable None) others saids h = behind at (at + 0) [] saids (stmts_actions others) refl h
shape_all names at d (tree.variable (Some value)) others saids h =
    test_first names at _ saids (stmts_actions others) h
shape_all names at d (tree.array n) others saids h = behind at (at + 0) [] saids (stmts_actions others) refl h

local_all : (names : Names) (at : ℕ) (l : tree.Local) (others : Stmts) (saids : List Said) → AllSaid (at + count_local l) saids (stmts_actions others)
    → AllSaid at (local_said l ++ saids) (stmts_actions (label_local names at l others))
local_all names at (tree.declared d) others saids h = shape_all names at d d.shape others saids h
local_all names at (tree.inlet_at place name parameters body) others saids h =
    let l : tree.Local = tree.inlet_at place name parameters body in
    behind at (at + count_local l) (local_said l) saids (stmts_actions others) (omega (arith, local_size l)) h

locals_all : (names : Names) (at n : ℕ) (ls : tree.Locals) (others : Stmts) (saids : List Said)
    → AllSaid (at + count_locals ls) saids (stmts_actions others)
    → AllSaid at (locals_said ls ++ saids) (stmts_actions (label_locals names at n ls others))
locals_all names at n tree.no_locals others saids h = behind at (at + 0) [] saids (stmts_actions others) refl h
locals_all names at n (tree.and_local l ls) others saids h =
    let inner : Names = with_local names n l in
    let k : ℕ = at + count_local l in
    let m : ℕ = n + local_count l in
    let rest : Stmts = label_locals inner k m ls others in
    let e : at + (count_local l + count_locals ls) ≡ k + count_locals ls = omega arith in
    let below : AllSaid k (locals_said ls ++ saids) (stmts_actions rest) =
    locals_all inner k m ls others saids (subst (λ j. AllSaid j saids (stmts_actions others)) e h) in
    subst (λ all. AllSaid at all (stmts_actions (label_local inner at l rest))) (sym (append_assoc (local_said l) (locals_said ls) saids))
    (local_all inner at l rest (locals_said ls ++ saids) below)

mutual
  stmt_all : (names : Names) (at n : ℕ) (s : tree.Stmt) → AllSaid at (stmt_said s) (stmt_actions (label_stmt names at n s))
  stmt_all names at n (tree.move what) = one_said names at _
  stmt_all names at n (tree.spawn_at place taker callee arguments) = one_said names at _
  stmt_all names at n (tree.print format arguments) = one_said names at _
  stmt_all names at n (tree.locking what name) = one_said names at _
  stmt_all names at n tree.null = one_said names at _
  stmt_all names at n (tree.sync_at place) = one_said names at _
  stmt_all names at n (tree.abort_at place) = one_said names at _
  stmt_all names at n (tree.break_at place) = one_said names at _
  stmt_all names at n (tree.continue_at place) = one_said names at _
  stmt_all names at n (tree.return_at place value) = one_said names at _
  stmt_all names at n (tree.when test body) =
      let acts : List Numbered = stmts_actions (label_block (entered names) (at + 1) n body) in
      let said : Said = asked (test_line (codes "if") test) test in
      test_first names at said (block_said body) (acts ++ [])
      (both (at + 1) (block_said body) acts [] (block_all (entered names) (at + 1) n body) (none_said (at + 1) (block_said body)))
  stmt_all names at n (tree.either test body other) =
      let k : ℕ = at + (1 + count_block body) in
      let m : ℕ = n + length (block_variables body) in
      let acts : List Numbered = stmts_actions (label_block (entered names) (at + 1) n body) in
      let more : List Numbered = stmts_actions (label_block (entered names) k m other) in
      let all : List Said = block_said body ++ block_said other in
      test_first names at (asked (test_line (codes "if") test) test) all (acts ++ more)
      (both (at + 1) all acts more (among (at + 1) (block_said body) (block_said other) acts (block_all (entered names) (at + 1) n body))
      (behind (at + 1) k (block_said body) (block_said other) more (omega (arith, block_size body)) (block_all (entered names) k m other)))
  stmt_all names at n (tree.while test body) =
      test_first names at (asked (test_line (codes "while") test) test) (block_said body) (stmts_actions (label_block (entered names) (at + 1) n body))
      (block_all (entered names) (at + 1) n body)
  stmt_all names at n (tree.repeat body test) =
      last_behind names at (at + count_block body) (block_said body) (asked (until_line test) test)
      (stmts_actions (label_block (entered names) at n body)) (omega (arith, block_size body)) (block_all (entered names) at n body)
  stmt_all names at n (tree.loop first test advance body) =
      let line : List ℕ = for_line first test advance in
      let said : Said = asked line test in
      let j : ℕ = at + count_option first in
      let k : ℕ = at + (count_option first + 1) in
      let m : ℕ = at + (count_option first + (1 + count_option advance)) in
      let firsts : List Numbered = part_actions (label_part names at first) in
      let advances : List Numbered = part_actions (label_part names k advance) in
      let acts : List Numbered = stmts_actions (label_block (entered names) m n body) in
      let saids : List Said = part_said line advance ++ block_said body in
      let here : List Numbered = numbered j (said.act names) ∷ (advances ++ acts) in
      let e : k ≡ j + 1 = omega arith in
      let inside : AllSaid k saids (advances ++ acts) =
      both k saids advances acts (among k (part_said line advance) (block_said body) advances (part_said_all names k line advance))
      (behind k m (part_said line advance) (block_said body) acts (omega (arith, part_count line advance)) (block_all (entered names) m n body)) in
      both at (part_said line first ++ said ∷ saids) firsts here
      (among at (part_said line first) (said ∷ saids) firsts (part_said_all names at line first))
      (behind at j (part_said line first) (said ∷ saids) here (omega (arith, part_count line first))
      (test_first names j said saids (advances ++ acts) (subst (λ i. AllSaid i saids (advances ++ acts)) e inside)))
  stmt_all names at n (tree.switch test body) =
      test_first names at (asked (test_line (codes "switch") test) test) (block_said body) (stmts_actions (label_block (entered names) (at + 1) n body))
      (block_all (entered names) (at + 1) n body)
  stmt_all names at n (tree.labelled label) = none_said at []
  stmt_all names at n (tree.nested inside) = block_all (entered names) at n inside

  stmts_all : (names : Names) (at n : ℕ) (ss : tree.Stmts) → AllSaid at (stmts_said ss) (stmts_actions (label_stmts names at n ss))
  stmts_all names at n tree.none = none_said at []
  stmts_all names at n (tree.also s ss) =
      let k : ℕ = at + count_stmt s in
      let m : ℕ = n + length (stmt_variables s) in
      let acts : List Numbered = stmt_actions (label_stmt names at n s) in
      let more : List Numbered = stmts_actions (label_stmts names k m ss) in
      both at (stmt_said s ++ stmts_said ss) acts more (among at (stmt_said s) (stmts_said ss) acts (stmt_all names at n s))
      (behind at k (stmt_said s) (stmts_said ss) more (omega (arith, stmt_size s)) (stmts_all names k m ss))

  block_all : (names : Names) (at n : ℕ) (b : tree.Block) → AllSaid at (block_said b) (stmts_actions (label_block names at n b))
  block_all names at n (tree.block ls ss) =
      let k : ℕ = at + count_locals ls in
      let m : ℕ = n + length (locals_variables ls) in
      locals_all names at n ls (label_stmts (names_behind names n ls) k m ss) (stmts_said ss) (stmts_all (names_behind names n ls) k m ss)

-- a body of a program, with its closing brace
body_all : (names : Names) (at : ℕ) (owner : Owner) (name : tree.Word) (parameters : List Variable) (body : tree.Block)
    → AllSaid at (block_said body ++ brace ∷ []) (body_actions (label_body names at owner name parameters body))
body_all names at owner name parameters body =
    last_behind names at (at + count_block body) (block_said body) brace (stmts_actions (label_block names at (length parameters) body))
    (omega (arith, block_size body)) (block_all names at (length parameters) body)

abbrev Bodies : ℕ → List Said → List Body → Type 0
Bodies first saids bodies = All (λ b. AllSaid first saids (body_actions b)) bodies

bodies_among : (first : ℕ) (saids more : List Said) (bodies : List Body) → Bodies first saids bodies → Bodies first (saids ++ more) bodies
bodies_among first saids more bodies h =
    All-weaker (λ b. AllSaid first saids (body_actions b)) (λ b. AllSaid first (saids ++ more) (body_actions b))
    (λ b all. among first saids more (body_actions b) all) bodies h

bodies_behind : (first next : ℕ) (others saids : List Said) (bodies : List Body) → next ≡ first + length others → Bodies next saids bodies
    → Bodies first (others ++ saids) bodies
bodies_behind first next others saids bodies e h =
    All-weaker (λ b. AllSaid next saids (body_actions b)) (λ b. AllSaid first (others ++ saids) (body_actions b))
    (λ b all. behind first next others saids (body_actions b) e all) bodies h

bodies_both : (first : ℕ) (saids : List Said) (bodies more : List Body) → Bodies first saids bodies → Bodies first saids more
    → Bodies first saids (bodies ++ more)
bodies_both first saids bodies more h k = All-append (λ b. AllSaid first saids (body_actions b)) bodies more h k

no_bodies : (first : ℕ) (saids : List Said) → Bodies first saids []
no_bodies first saids = All-nil (λ b. AllSaid first saids (body_actions b))

inlet_all : (names : Names) (at : ℕ) (l : tree.Local) → Bodies at (local_said l) (inlet_body names at l)
inlet_all names at (tree.declared d) = no_bodies at (shape_said d d.shape)
inlet_all names at (tree.inlet_at place name parameters body) =
    let inner : Names = with_words (in_inlet names) 0 parameters in
    All-cons (λ b. AllSaid at (block_said body ++ brace ∷ []) (body_actions b))
    (label_body inner at Inlet name (map (one_cell (pos 0)) parameters) body) []
    (body_all inner at Inlet name (map (one_cell (pos 0)) parameters) body) (no_bodies at (block_said body ++ brace ∷ []))

inlets_all : (names : Names) (at n : ℕ) (ls : tree.Locals) → Bodies at (locals_said ls) (inlet_bodies names at n ls)
inlets_all names at n tree.no_locals = no_bodies at []
inlets_all names at n (tree.and_local l ls) =
    let inner : Names = with_local names n l in
    let k : ℕ = at + count_local l in
    let m : ℕ = n + local_count l in
    bodies_both at (local_said l ++ locals_said ls) (inlet_body inner at l) (inlet_bodies inner k m ls)
    (bodies_among at (local_said l) (locals_said ls) (inlet_body inner at l) (inlet_all inner at l))
    (bodies_behind at k (local_said l) (locals_said ls) (inlet_bodies inner k m ls) (omega (arith, local_size l)) (inlets_all inner k m ls))

block_inlets : (names : Names) (at n : ℕ) (b : tree.Block) → Bodies at (block_said b) (inlet_bodies names at n (block_locals b))
block_inlets names at n (tree.block ls ss) = bodies_among at (locals_said ls) (stmts_said ss) (inlet_bodies names at n ls) (inlets_all names at n ls)

item_all : (names : Names) (at : ℕ) (i : tree.Item) → Bodies at (item_said i) (item_bodies names at i)
item_all names at (tree.global g) = no_bodies at []
item_all names at (tree.lock name) = no_bodies at []
item_all names at (tree.prototype q) = no_bodies at []
item_all names at (tree.procedure p) =
    let inner : Names = procedure_names (record names { bodies = suc names.bodies }) p in
    let saids : List Said = block_said p.body ++ brace ∷ [] in
    let inlets : List Body = inlet_bodies inner at (length (parameter_variables p.parameters)) (block_locals p.body) in
    All-cons (λ b. AllSaid at saids (body_actions b))
    (label_body inner at (owner_of p.is_cilk p.returns) p.name (parameter_variables p.parameters) p.body) inlets
    (body_all inner at (owner_of p.is_cilk p.returns) p.name (parameter_variables p.parameters) p.body)
    (bodies_among at (block_said p.body) (brace ∷ []) inlets (block_inlets inner at (length (parameter_variables p.parameters)) p.body))

item_size : (i : tree.Item) → length (item_said i) ≡ count_item i
item_size (tree.global g) = refl
item_size (tree.lock name) = refl
item_size (tree.prototype q) = refl
item_size (tree.procedure p) = omega (arith, block_size p.body, length-append (block_said p.body) (brace ∷ []))

items_all : (names : Names) (at : ℕ) (is : List tree.Item) → Bodies at (items_said is) (items_bodies names at is)
items_all names at [] = no_bodies at []
items_all names at (i ∷ is) =
    let inner : Names = record names { bodies = names.bodies + body_count i } in
    let k : ℕ = at + count_item i in
    bodies_both at (item_said i ++ items_said is) (item_bodies names at i) (items_bodies inner k is)
    (bodies_among at (item_said i) (items_said is) (item_bodies names at i) (item_all names at i))
    (bodies_behind at k (item_said i) (items_said is) (items_bodies inner k is) (omega (arith, item_size i)) (items_all inner k is))

pub program_all : (p : tree.Program) → All (λ b. All (IsSaid 1 (program_said p)) (body_actions b)) (bodies_of p)
program_all p = items_all (file_names p.items) 1 p.items
