-- The tables that the pass writes are those of the program.
use Rattle.std.proofs.Common.{◌≡◌, ℕ, zero, suc, ◌+◌, ◌<◌, Bool, true, false, List, [], ◌∷◌, ◌++◌, length, map, Option, Some, None, refl, sym, ap, ◌∙◌}
use Rattle.std.proofs.Common.{arith, append-nil, length-append, unwrap_or, pos}
use Rattle.std.specs.Prelude.{filter_map, slice_get, slice_index_or, option_map, position}
use Rattle.std.specs.List.{cons_option}
use Rattle.std.proofs.lemmas.List.Elements.{filter_map-append}
use Rattle.cilk_tree_syntax.specs.Tree as tree
use Rattle.cilk_tree_syntax.specs.Tree.{Word}
use Rattle.cilk_load_nodes.specs.scopes.Parts.{owner_of}
use Rattle.cilk_load_nodes.specs.scopes.Scopes.{file_declares}
use Rattle.cilk_load_nodes.specs.scopes.declared.owner.Owner.{Owner}
use Rattle.cilk_load_nodes.specs.scopes.declared.owner.Owner.TheVariants.{Inlet}
use Rattle.cilk_load_nodes.proofs.scopes_laws.Elements.{Has}
use Rattle.cilk_load_nodes.specs.scopes.WellFormed.{WellFormed}
use Rattle.cilk_load.specs.labelled.Labelled.{Variable, Body, Labelled, Numbered}
use Rattle.cilk_load.specs.labelled.Items.{opened, head_of, start_items}
use Rattle.cilk_load.specs.labelled.Names.{Names, meaning_at}
use Rattle.cilk_load.specs.labelled.Names as label
use Rattle.cilk_load.specs.labelled.Count.{count_shape, count_stmts, count_locals, count_block, count_item, count_program}
use Rattle.cilk_load.specs.labelled.Label.{label_stmts, names_behind, locals_variables}
use Rattle.cilk_load.specs.labelled.Bodies.{label, label_body, one_cell, parameter_variables, inlet_bodies, inlet_count, block_locals}
use Rattle.cilk_load.specs.labelled.Bodies.{procedure_names}
use Rattle.cilk_load.specs.labelled.Bodies.{body_count, item_bodies, items_bodies, file_means, file_names}
use Rattle.cilk_load.specs.model.Instance.{body_at, no_body}
use Rattle.cilk_load.specs.nodes.declared.node.Node.{Node}
use Rattle.cilk_load.specs.nodes.Slots.{slot_of, is_inlet, procedure_around}
use Rattle.cilk_load.specs.nodes.Actions.{slotted}
use Rattle.cilk_load.specs.nodes.Table.{number_of, number_else, cases_of, closing_items, Row, node_of}
use Rattle.cilk_load.specs.nodes.Bodies.{body_table, globals_of}
use Rattle.cilk_load.specs.nodes.Plain.{PlainLocals, PlainBlock, OuterLocals, OuterBlock, PlainItem, PlainItems}
use Rattle.cilk_load.proofs.nodes_laws.BodyCounts.{length-inlets, length-item, parameters-bodies}
use Rattle.cilk_load.proofs.nodes_laws.Inner.{well_formed-plain}
use Rattle.cilk_load.proofs.nodes_laws.Members.{has-from-at}
use Rattle.cilk_load.proofs.nodes_laws.Texts.{item_rows, items_rows, RowsSpan, items-from-text}
use Rattle.cilk_load.proofs.nodes_laws.Heads.{rows_of, text_of, text-spans, row-number, among-is, among-none, text-place, numbered, one-row}
use Rattle.cilk_load.specs.Scope as scope
use Rattle.cilk_load.specs.Scope.{Scope, outward_named}
use Rattle.cilk_load.specs.Firsts.{locals_first}
use Rattle.cilk_load.specs.BodyTables.{body_first, table_of, inlet_tables, item_tables, items_tables}
use Rattle.cilk_load.specs.Outer.{vars_at, parameters_scope, item_nodes, items_nodes}
use Rattle.cilk_load.specs.Outer.{file_named, file_scope}
use Rattle.cilk_load.proofs.Found.{binding_of, same_name, Agree}
use Rattle.cilk_load.proofs.Starts.{stmts-pieces, locals-pieces}
use Rattle.cilk_load.proofs.SlotLaws.{own-around, inlets-around, inlet-owners, file-binding}
use Rattle.cilk_load.proofs.Bodies.{tables, row_node, AroundBlock, body-rows, agree-parameters}

-- the bodies of a program from body b on are these
abbrev Located : Labelled → ℕ → List Body → Type 0
Located program b bodies = (j : ℕ) → j < length bodies → body_at program (b + j) ≡ slice_index_or bodies j no_body

front-at : (xs ys : List Body) (j : ℕ) → j < length xs → slice_index_or (xs ++ ys) j no_body ≡ slice_index_or xs j no_body
front-at [] ys j h = absurd (omega arith)
front-at (x ∷ xs) ys zero h = refl
front-at (x ∷ xs) ys (suc j) h = front-at xs ys j (omega arith)

back-at : (xs ys : List Body) (j : ℕ) → slice_index_or (xs ++ ys) (length xs + j) no_body ≡ slice_index_or ys j no_body
back-at [] ys j = let e : 0 + j ≡ j = omega arith in ap (λ k. slice_index_or ys k no_body) e
back-at (x ∷ xs) ys j =
    let e : suc (length xs) + j ≡ suc (length xs + j) = omega arith in
    ap (λ k. slice_index_or (x ∷ (xs ++ ys)) k no_body) e ∙ back-at xs ys j

located-front : (program : Labelled) (b : ℕ) (xs ys : List Body) → Located program b (xs ++ ys) → Located program b xs
located-front program b xs ys h j below = h j (omega (arith, length-append xs ys)) ∙ front-at xs ys j below

located-back : (program : Labelled) (b n : ℕ) (xs ys : List Body) → length xs ≡ n → Located program b (xs ++ ys) → Located program (b + n) ys
located-back program b n xs ys e h j below =
    let place : b + n + j ≡ b + (length xs + j) = omega arith in
    ap (body_at program) place ∙ h (length xs + j) (omega (arith, length-append xs ys)) ∙ back-at xs ys j

procedure-owner : (is_cilk : Bool) (returns : _) → is_inlet (owner_of is_cilk returns) ≡ false
procedure-owner true returns = refl
procedure-owner false returns = refl

placed : (program : Labelled) (b : ℕ) (x : tree.Block) → ((j : ℕ) → j < inlet_count (block_locals x) → procedure_around program (suc (b + j)) ≡ b)
    → AroundBlock program b x
placed program b (tree.block ls ss) h = λ j below. let e : suc b + j ≡ suc (b + j) = omega arith in ap (procedure_around program) e ∙ h j below

module _ (program : Labelled) where
  -- the names of the file, which agree in each body
  abbrev FileAgrees : Names → Scope → Type 0
  FileAgrees names file = (b : ℕ) → Agree (slot_of program b) (label.entered names) (scope.entered file)

  item-nodes : (names : Names) (b : ℕ) (file : Scope) → names.bodies ≡ b → FileAgrees names file → (at : ℕ) (x : tree.Item) → PlainItem x
      → Located program b (item_bodies names at x) → item_nodes (tables program) b file at x ≡ filter_map (row_node program) (item_rows names b at x)
  item-nodes names b file nb agree at (tree.global g) plain located = refl
  item-nodes names b file nb agree at (tree.lock name) plain located = refl
  item-nodes names b file nb agree at (tree.prototype q) plain located = refl
  item-nodes names b file nb agree at (tree.procedure p) plain located = body-rows program b inner within own bodies named at n p.body plain
      (placed program b p.body around)
    where
      inner : Names
      inner = procedure_names (record names { bodies = suc names.bodies }) p

      n : ℕ
      n = length (parameter_variables p.parameters)

      within : Scope
      within = parameters_scope (vars_at (tables program) b) p.parameters (scope.entered file)

      first : b + 0 ≡ b
      first = omega arith

      own : procedure_around program b ≡ b
      own = own-around program b (ap (λ (o : Owner). is_inlet o)
          (ap (λ (y : Body). y.owner) (ap (body_at program) (sym first) ∙ located 0 (omega arith))) ∙ procedure-owner p.is_cilk p.returns)

      around : (j : ℕ) → j < inlet_count (block_locals p.body) → procedure_around program (suc (b + j)) ≡ b
      around = inlets-around program b own (inlet_count (block_locals p.body))
          (λ j below. let e : suc (b + j) ≡ b + suc j = omega arith in ap (λ (y : Body). y.owner)
          (ap (body_at program) e ∙ located (suc j) (omega (arith, length-inlets inner at n (block_locals p.body), below)))
          ∙ inlet-owners inner at n (block_locals p.body) j)

      bodies : inner.bodies ≡ suc b
      bodies = parameters-bodies (label.entered (record names { bodies = suc names.bodies })) p.parameters ∙ ap suc nb

      named : Agree (slot_of program b) inner within
      named = agree-parameters program b (label.entered (record names { bodies = suc names.bodies })) (scope.entered file) p.parameters
          (record { bindings = (agree b).bindings })

  pub items-nodes : (names : Names) (b : ℕ) (file : Scope) → names.bodies ≡ b → FileAgrees names file → (at : ℕ) (xs : List tree.Item) → PlainItems xs
      → Located program b (items_bodies names at xs) → items_nodes (tables program) b file at xs ≡ filter_map (row_node program) (items_rows names b at xs)
  items-nodes names b file nb agree at [] plain located = refl
  items-nodes names b file nb agree at (x ∷ xs) plain located =
      let others : Names = record names { bodies = names.bodies + body_count x } in
      let rest : List Body = items_bodies others (at + count_item x) xs in
      (λ i. item-nodes names b file nb agree at x plain.0 (located-front program b (item_bodies names at x) rest located) i
      ++ items-nodes others (b + body_count x) file (ap (λ k. k + body_count x) nb) (λ c. record { bindings = (agree c).bindings }) (at + count_item x) xs
      plain.1 (located-back program b (body_count x) (item_bodies names at x) rest (length-item names at x) located) i)
      ∙ sym (filter_map-append (row_node program) (item_rows names b at x) (items_rows others (b + body_count x) (at + count_item x) xs))

-- the names of the file
file-agrees : (p : tree.Program) → FileAgrees (label p) (file_names p.items) (file_scope (globals_of p) p.items)
file-agrees p b = record {
  bindings = λ name.
      ap (λ es. scope.found (map outward_named es) name)
      (append-nil (file_named (globals_of p) 0 0 0 p.items ++ []) ∙ append-nil (file_named (globals_of p) 0 0 0 p.items))
      ∙ file-binding (label p) b 0 0 0 0 0 0 p.items name refl refl refl
      ∙ ap (λ ds. binding_of (slot_of (label p) b) (meaning_at (file_means 0 0 0 p.items) (position (same_name name) ds)))
      (sym (append-nil (file_declares p.items)));
}

pub program-nodes : (p : tree.Program) → WellFormed p
    → items_nodes (map body_table (label p).bodies) 0 (file_scope (globals_of p) p.items) 1 p.items ≡ filter_map (row_node (label p)) (text_of p)
program-nodes p ok =
    items-nodes (label p) (file_names p.items) 0 (file_scope (globals_of p) p.items) refl (file-agrees p) 1 p.items (well_formed-plain p ok)
    (λ j below. let e : 0 + j ≡ j = omega arith in ap (body_at (label p)) e)

-- each row has its node
head-node : (program : Labelled) (r : Row) (n : ℕ) → number_of r.items ≡ Some n → (node : Node) × (row_node program r ≡ Some node)
head-node program r n e = by_head (head_of r.items) e
  where
    made : Numbered → Node
    made h = record {
      action = slotted (slot_of program r.body) h.act;
      next = number_else (pos 1) r.items;
      other = number_else (pos 0) r.items;
      cases = cases_of r.items;
      body = r.body;
    }

    by_head : (o : Option Numbered) → option_map (λ (h : Numbered). h.number) o ≡ Some n → (node : Node) × (option_map made o ≡ Some node)
    by_head None e = cc
    by_head (Some h) e = (made h, refl)

node-get : (program : Labelled) (n m : ℕ) (rows : List Row) → RowsSpan n m rows → (k : ℕ) (r : Row) → slice_get rows k ≡ Some r
    → slice_get (filter_map (row_node program) rows) k ≡ row_node program r
node-get program n m [] h k r e = cc
node-get program n m (s ∷ rows) h zero r e =
    let made = head-node program s n h.0 in
    let same : s ≡ r = cc in
    ap (λ o. slice_get (cons_option o (filter_map (row_node program) rows)) 0) made.1 ∙ sym made.1 ∙ ap (row_node program) same
node-get program n m (s ∷ rows) h (suc k) r e =
    let made = head-node program s n h.0 in
    ap (λ o. slice_get (cons_option o (filter_map (row_node program) rows)) (suc k)) made.1 ∙ node-get program (n + 1) m rows h.1 k r e

node-none : (program : Labelled) (n m : ℕ) (rows : List Row) → RowsSpan n m rows → (k : ℕ) → slice_get rows k ≡ None
    → slice_get (filter_map (row_node program) rows) k ≡ None
node-none program n m [] h k e = refl
node-none program n m (s ∷ rows) h zero e = cc
node-none program n m (s ∷ rows) h (suc k) e =
    let made = head-node program s n h.0 in
    ap (λ o. slice_get (cons_option o (filter_map (row_node program) rows)) (suc k)) made.1 ∙ node-none program (n + 1) m rows h.1 k e

-- the node at each place is that of the next number
pub nodes-at : (p : tree.Program) → WellFormed p → (k : ℕ) → slice_get (filter_map (row_node (label p)) (text_of p)) k ≡ node_of p (suc k)
nodes-at p ok k = by_row (slice_get (text_of p) k) refl
  where
    more : 1 + k ≡ suc k
    more = omega arith

    missing : slice_get (text_of p) k ≡ None → (s : Row) → Has (rows_of p) s → number_of s.items ≡ Some (suc k) → ⊥
    missing e s h n =
        let some : Some (1 + (text-place p ok s h).place) ≡ Some (suc k) = sym (numbered p ok s h) ∙ n in
        let next : 1 + (text-place p ok s h).place ≡ suc k = cc in
        let same : (text-place p ok s h).place ≡ k = omega (arith, next) in
        let there : Some s ≡ None = sym (text-place p ok s h).found ∙ ap (slice_get (text_of p)) same ∙ e in
        cc

    by_row : (o : Option Row) → slice_get (text_of p) k ≡ o → slice_get (filter_map (row_node (label p)) (text_of p)) k ≡ node_of p (suc k)
    by_row None e =
        node-none (label p) 1 (1 + count_program p) (text_of p) (text-spans p ok) k e
        ∙ sym (among-none (label p) (suc k) (rows_of p) (missing e))
    by_row (Some r) e =
        let h : Has (rows_of p) r = items-from-text (file_names p.items) 0 1 p.items r (has-from-at (text_of p) r k e) in
        let n : number_of r.items ≡ Some (suc k) = row-number 1 (1 + count_program p) (text_of p) k r (text-spans p ok) e ∙ ap (λ i. Some i) more in
        node-get (label p) 1 (1 + count_program p) (text_of p) (text-spans p ok) k r e
        ∙ sym (among-is (label p) (suc k) r (rows_of p) (λ s m same. one-row p ok s r m h (same ∙ sym n)) h n)

-- no action has the number 0
pub none-at-0 : (p : tree.Program) → WellFormed p → node_of p 0 ≡ None
none-at-0 p ok = among-none (label p) 0 (rows_of p) missing
  where
    missing : (s : Row) → Has (rows_of p) s → number_of s.items ≡ Some 0 → ⊥
    missing s h n =
        let some : Some (1 + (text-place p ok s h).place) ≡ Some 0 = sym (numbered p ok s h) ∙ n in
        let none : 1 + (text-place p ok s h).place ≡ 0 = cc in
        absurd (omega (arith, none))

-- the first action of a body
body-starts : (names : Names) (at : ℕ) (owner : Owner) (name : Word) (parameters : List Variable) (body : tree.Block) → OuterBlock body
    → number_of (opened (start_items (label_body names at owner name parameters body))) ≡ body_first at body
body-starts names at owner name parameters (tree.block ls ss) plain =
    let n : ℕ = length parameters in
    let behind : ℕ = at + count_locals ls in
    let inner : Names = names_behind names n ls in
    let m : ℕ = n + length (locals_variables ls) in
    let closing = closing_items (at + (count_locals ls + count_stmts ss)) in
    locals-pieces names at n ls (label_stmts inner behind m ss) closing ∙ ap (locals_first at ls) (stmts-pieces inner behind m ss closing plain.1)

table-is : (names : Names) (at : ℕ) (owner : Owner) (name : Word) (parameters : List Variable) (body : tree.Block) → OuterBlock body
    → table_of at owner name parameters body ≡ body_table (label_body names at owner name parameters body)
table-is names at owner name parameters body plain = λ i. record {
  name = name.text;
  owner = owner;
  entry = unwrap_or (sym (body-starts names at owner name parameters body plain) i) 0;
  params = length parameters;
  cells = (body_table (label_body names at owner name parameters body)).cells;
  vars = (body_table (label_body names at owner name parameters body)).vars;
}

plain-locals : (ls : tree.Locals) → PlainLocals ls → OuterLocals ls
plain-locals tree.no_locals plain = tt
plain-locals (tree.and_local (tree.declared d) rest) plain = plain-locals rest plain
plain-locals (tree.and_local (tree.inlet_at place name parameters body) rest) plain = absurd plain

plain-outer : (body : tree.Block) → PlainBlock body → OuterBlock body
plain-outer (tree.block ls ss) plain = (plain-locals ls plain.0, plain.1)

inlet-tables-are : (names : Names) (at n : ℕ) (ls : tree.Locals) → OuterLocals ls → inlet_tables at ls ≡ map body_table (inlet_bodies names at n ls)
inlet-tables-are names at n tree.no_locals plain = refl
inlet-tables-are names at n (tree.and_local (tree.declared d) rest) plain =
    inlet-tables-are (label.with_local names n (tree.declared d)) (at + count_shape d.shape) (n + 1) rest plain
inlet-tables-are names at n (tree.and_local (tree.inlet_at place name parameters body) rest) plain =
    λ i. table-is (label.with_words (label.in_inlet (label.with_local names n (tree.inlet_at place name parameters body))) 0 parameters) at Inlet name
    (map (one_cell (pos 0)) parameters) body (plain-outer body plain.0) i ∷ inlet-tables-are
    (label.with_local names n (tree.inlet_at place name parameters body)) (at + (count_block body + 1)) (n + 0) rest plain.1 i

outer-inlets : (body : tree.Block) → OuterBlock body → OuterLocals (block_locals body)
outer-inlets (tree.block ls ss) plain = plain.0

item-tables-are : (names : Names) (at : ℕ) (x : tree.Item) → PlainItem x → item_tables at x ≡ map body_table (item_bodies names at x)
item-tables-are names at (tree.global g) plain = refl
item-tables-are names at (tree.lock name) plain = refl
item-tables-are names at (tree.prototype q) plain = refl
item-tables-are names at (tree.procedure p) plain =
    λ i. table-is (procedure_names (record names { bodies = suc names.bodies }) p) at (owner_of p.is_cilk p.returns) p.name
    (parameter_variables p.parameters) p.body plain i
    ∷ inlet-tables-are (procedure_names (record names { bodies = suc names.bodies }) p) at (length (parameter_variables p.parameters))
    (block_locals p.body) (outer-inlets p.body plain) i

map-append : (xs ys : List Body) → map body_table (xs ++ ys) ≡ map body_table xs ++ map body_table ys
map-append [] ys = refl
map-append (x ∷ xs) ys = ap (λ l. body_table x ∷ l) (map-append xs ys)

pub items-tables-are : (names : Names) (at : ℕ) (xs : List tree.Item) → PlainItems xs → items_tables at xs ≡ map body_table (items_bodies names at xs)
items-tables-are names at [] plain = refl
items-tables-are names at (x ∷ xs) plain =
    (λ i. item-tables-are names at x plain.0 i ++ items-tables-are (record names { bodies = names.bodies + body_count x }) (at + count_item x) xs plain.1 i)
    ∙ sym (map-append (item_bodies names at x) (items_bodies (record names { bodies = names.bodies + body_count x }) (at + count_item x) xs))
