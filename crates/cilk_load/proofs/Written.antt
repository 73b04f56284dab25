-- The nodes that the pass writes for statements without inlets are those of the labelled statements.
use Rattle.std.proofs.Common.{◌≡◌, ℕ, ◌+◌, List, [], ◌∷◌, ◌++◌, length, Option, Some, None, refl, sym, ap, ◌∙◌, append_assoc, append-nil}
use Rattle.std.specs.Prelude.{filter_map}
use Rattle.std.proofs.lemmas.List.Elements.{filter_map-append}
use Rattle.cilk_tree_syntax.specs.Tree as tree
use Rattle.cilk_tree_syntax.specs.Tree.{Word}
use Rattle.cilk_load.specs.nodes.declared.slot.Slot.{Slot}
use Rattle.cilk_load.specs.labelled.Labelled.{Declaration, local, Numbered, Stmts}
use Rattle.cilk_load.specs.labelled.Items.{Round, piece, at_test, at_advance, at_end, Items, pieces, opened, past_mark, from_mark, behind_label}
use Rattle.cilk_load.specs.labelled.Items.{selected}
use Rattle.cilk_load.specs.labelled.Names.{Names, with_local, entered}
use Rattle.cilk_load.specs.labelled.Count.{count_option, count_shape, count_stmt, count_stmts, count_locals, count_block}
use Rattle.cilk_load.specs.labelled.Label.{numbered, single, label_move, label_part, label_test, label_initialiser, label_locals}
use Rattle.cilk_load.specs.labelled.Label.{label_stmt, label_stmts}
use Rattle.cilk_load.specs.labelled.Label.{label_block, names_behind, stmt_variables, block_variables, locals_variables}
use Rattle.cilk_load.specs.nodes.declared.action.Action as action
use Rattle.cilk_load.specs.nodes.declared.action.Action.TheVariants.{Print, Locking, Test}
use Rattle.cilk_load.specs.nodes.declared.node.Node.{Node}
use Rattle.cilk_load.specs.nodes.declared.var.Var.{Var}
use Rattle.cilk_load.specs.nodes.Actions.{slotted}
use Rattle.cilk_load.specs.nodes.Table.{number_of, label_cases, node_over, first_lists, round_of, stmt_lists, stmts_lists}
use Rattle.cilk_load.specs.nodes.Plain.{PlainLocals, PlainStmt, PlainStmts, PlainBlock}
use Rattle.cilk_load.proofs.nodes_laws.Opens.{past-pieces, from-pieces}
use Rattle.cilk_load.specs.declared.exits.Exits.{Exits}
use Rattle.cilk_load.specs.Scope.{Scope, declared}
use Rattle.cilk_load.specs.Acts.{move_in, code_in}
use Rattle.cilk_load.specs.Firsts.{first_if, locals_first}
use Rattle.cilk_load.specs.Pass.{var_slot, bound_var, node, switch_test, onward, exits_to, part_nodes, shape_nodes, locals_scope}
use Rattle.cilk_load.specs.Pass.{locals_nodes, stmt_nodes, stmts_nodes, block_nodes}
use Rattle.cilk_load.proofs.Found.{Agree, agree-declared, agree-entered}
use Rattle.cilk_load.proofs.Actions.{number-is, code-is, codes-are, move-is, spawn-is, return-is, initialiser-is}
use Rattle.cilk_load.proofs.LabelLaws.{block-cases, block-default}
use Rattle.cilk_load.proofs.Starts.{block-pieces, stmts-pieces, locals-pieces}

-- where these items lead, by numbers
abbrev pub exits_of : Items → Exits
exits_of items = record { next = number_of (opened items); past = number_of (opened (past_mark items)); again = number_of (opened (from_mark items)) }

pub exits-pieces : (ss : Stmts) (items : Items) (next : Option ℕ) → next ≡ number_of (opened (pieces ss items))
    → exits_to next (exits_of items) ≡ exits_of (pieces ss items)
exits-pieces ss items next e = λ i. record
    { next = e i; past = number_of (opened (sym (past-pieces ss items) i)); again = number_of (opened (sym (from-pieces ss items) i)) }

module _ (slots : Declaration → Slot) (b : ℕ) (vars : List Var) (lie : (n : ℕ) → var_slot vars n ≡ slots (local n)) where
  abbrev pub over : List Items → List Node
  over xs = filter_map (node_over slots b) xs

  over-append : (xs ys : List Items) → over (xs ++ ys) ≡ over xs ++ over ys
  over-append xs ys = filter_map-append (node_over slots b) xs ys

  -- two stretches of a table
  both : (m n : List Node) (xs ys : List Items) → m ≡ over xs → n ≡ over ys → m ++ n ≡ over (xs ++ ys)
  both m n xs ys e f = (λ i. e i ++ f i) ∙ sym (over-append xs ys)

  one : (act same : action.Action) (next other : Option ℕ) (next' other' : Option ℕ) → act ≡ same → next ≡ next' → other ≡ other'
      → node b act next other ≡ record { action = same; next = next'; other = other'; cases = []; body = b }
  one act same next other next' other' e f g = λ i. record { action = e i; next = f i; other = g i; cases = []; body = b }

  agree-local : (names : Names) (s : Scope) (n : ℕ) (d : tree.Decl) → Agree slots names s
      → Agree slots (with_local names n (tree.declared d)) (declared s (bound_var vars n d.name))
  agree-local names s n d agree =
      agree-declared slots names s (local n) _ (bound_var vars n d.name) refl (λ i. record { slot = lie n i; number = n }) agree

  pub agree-locals : (names : Names) (s : Scope) (n : ℕ) (ls : tree.Locals) → PlainLocals ls → Agree slots names s
      → Agree slots (names_behind names n ls) (locals_scope vars n ls s)
  agree-locals names s n tree.no_locals plain agree = agree
  agree-locals names s n (tree.and_local (tree.declared d) rest) plain agree =
      agree-locals (with_local names n (tree.declared d)) (declared s (bound_var vars n d.name)) (n + 1) rest plain (agree-local names s n d agree)
  agree-locals names s n (tree.and_local (tree.inlet_at place name parameters body) rest) plain agree = absurd plain

  -- an initialiser, and what is behind it
  pub shape-nodes : (names : Names) (s : Scope) → Agree slots names s
      → (at : ℕ) (name : Word) (shape : tree.Shape) (others : Stmts) (items : Items) (next : Option ℕ) (rest : List Node)
      → next ≡ number_of (opened (pieces others items)) → rest ≡ over (stmts_lists others items)
      → shape_nodes b s name shape next ++ rest ≡ over (stmts_lists (label_initialiser names at (record { name = name; index = None }) shape others) items)
  shape-nodes names s agree at name (tree.variable None) others items next rest e f = f
  shape-nodes names s agree at name (tree.variable (Some value)) others items next rest e f =
      λ i. one _ _ next next _ _ (initialiser-is slots names s agree name value) e e i ∷ f i
  shape-nodes names s agree at name (tree.array n) others items next rest e f = f

  locals-nodes : (names : Names) (s : Scope) → Agree slots names s
      → (at n : ℕ) (ls : tree.Locals) (others : Stmts) (items : Items) (next : Option ℕ) (rest : List Node) → PlainLocals ls
      → next ≡ number_of (opened (pieces others items)) → rest ≡ over (stmts_lists others items)
      → locals_nodes b vars s at n ls next ++ rest ≡ over (stmts_lists (label_locals names at n ls others) items)
  locals-nodes names s agree at n tree.no_locals others items next rest plain e f = f
  locals-nodes names s agree at n (tree.and_local (tree.declared d) ls) others items next rest plain e f =
      let inner : Names = with_local names n (tree.declared d) in
      let scope : Scope = declared s (bound_var vars n d.name) in
      let behind : ℕ = at + count_shape d.shape in
      let first : List Node = shape_nodes b scope d.name d.shape (locals_first behind ls next) in
      let middle : List Node = locals_nodes b vars scope behind (n + 1) ls next in
      append_assoc first middle rest
      ∙ shape-nodes inner scope (agree-local names s n d agree) at d.name d.shape (label_locals inner behind (n + 1) ls others) items
      (locals_first behind ls next) (middle ++ rest)
      (ap (locals_first behind ls) e ∙ sym (locals-pieces inner behind (n + 1) ls others items))
      (locals-nodes inner scope (agree-local names s n d agree) behind (n + 1) ls others items next rest plain e f)
  locals-nodes names s agree at n (tree.and_local (tree.inlet_at place name parameters body) ls) others items next rest plain e f = absurd plain

  move-node : (names : Names) (s : Scope) → Agree slots names s → (what : tree.Move) (at : ℕ) (items : Items) (next : Option ℕ)
      → next ≡ number_of (opened items) → onward b (move_in s what) next ∷ [] ≡ over ((piece (single at (label_move names what)) ∷ items) ∷ [])
  move-node names s agree (tree.assign target value) at items next e = λ i. one _ _ next next _ _
      (move-is slots names s agree (tree.assign target value)) e e i ∷ []
  move-node names s agree (tree.adjust place by) at items next e = λ i. one _ _ next next _ _ (move-is slots names s agree (tree.adjust place by)) e e i ∷ []
  move-node names s agree (tree.call target callee arguments) at items next e = λ i. one _ _ next next _ _
      (move-is slots names s agree (tree.call target callee arguments)) e e i ∷ []

  first-nodes : (names : Names) (s : Scope) → Agree slots names s
      → (part : Option tree.Move) (at mark : ℕ) (value : tree.Expr) (advance : Option Numbered) (body : Stmts) (items : Items)
      → part_nodes b s part mark ≡ over (first_lists (label_part names at part) (round_of (label_test names mark value) advance body) items)
  first-nodes names s agree None at mark value advance body items = refl
  first-nodes names s agree (Some what) at mark value advance body items =
      move-node names s agree what at (at_test (round_of (label_test names mark value) advance body) ∷ items) (Some mark) refl

  test-act : (names : Names) (s : Scope) → Agree slots names s → (value : tree.Expr) (at : ℕ)
      → Test (code_in s value) ≡ slotted slots (label_test names at value).act
  test-act names s agree value at = ap (λ t. Test t) (code-is slots names s agree value)

  switch-node : (names : Names) (s : Scope) → Agree slots names s → (value : tree.Expr) (at n : ℕ) (body : tree.Block) (items : Items) → PlainBlock body
      → switch_test b s value (at + 1) body (number_of (opened items)) ≡ record {
        action = slotted slots (label_test names at value).act;
        next = number_of (opened (selected (behind_label None (label_block (entered names) (at + 1) n body)) items));
        other = number_of (opened (selected (behind_label None (label_block (entered names) (at + 1) n body)) items));
        cases = label_cases (label_block (entered names) (at + 1) n body) (at_end ∷ items);
        body = b;
      }
  switch-node names s agree value at n (tree.block ls ss) items plain =
      let leads = block-default (entered names) (at + 1) n ls ss items plain in
      λ i. record {
        action = test-act names s agree value at i;
        next = leads i;
        other = leads i;
        cases = block-cases (entered names) (at + 1) n ls ss items plain i;
        body = b;
      }

  mutual
    pub stmt-nodes : (names : Names) (s : Scope) → Agree slots names s → (at n : ℕ) (x : tree.Stmt) (items : Items) → PlainStmt x
        → stmt_nodes b vars s at n x (exits_of items) ≡ over (stmt_lists (label_stmt names at n x) items)
    stmt-nodes names s agree at n (tree.move what) items plain = move-node names s agree what at items (number_of (opened items)) refl
    stmt-nodes names s agree at n (tree.spawn_at place taker callee arguments) items plain =
        λ i. onward b (spawn-is slots names s agree taker callee arguments i) (number_of (opened items)) ∷ []
    stmt-nodes names s agree at n (tree.print format arguments) items plain =
        λ i. onward b (Print format.bytes (codes-are slots names s agree arguments i)) (number_of (opened items)) ∷ []
    stmt-nodes names s agree at n (tree.locking what name) items plain =
        λ i. onward b (Locking what (number-is slots names s agree name i)) (number_of (opened items)) ∷ []
    stmt-nodes names s agree at n tree.null items plain = refl
    stmt-nodes names s agree at n (tree.sync_at place) items plain = refl
    stmt-nodes names s agree at n (tree.abort_at place) items plain = refl
    stmt-nodes names s agree at n (tree.break_at place) items plain = refl
    stmt-nodes names s agree at n (tree.continue_at place) items plain = refl
    stmt-nodes names s agree at n (tree.return_at place None) items plain = refl
    stmt-nodes names s agree at n (tree.return_at place (Some value)) items plain =
        λ i. onward b (return-is slots names s agree (Some value) i) None ∷ []
    stmt-nodes names s agree at n (tree.when value body) items plain =
        let inside : Stmts = label_block (entered names) (at + 1) n body in
        λ i. node b (test-act names s agree value at i) (sym (block-pieces (entered names) (at + 1) n body items plain) i) (number_of (opened items))
        ∷ (block-nodes (entered names) s (agree-entered slots names s agree) (at + 1) n body items plain
        ∙ ap over (sym (append-nil (stmts_lists inside items)))) i
    stmt-nodes names s agree at n (tree.either value body other) items plain =
        let middle : ℕ = at + (1 + count_block body) in
        let m : ℕ = n + length (block_variables body) in
        let first : Stmts = label_block (entered names) (at + 1) n body in
        let second : Stmts = label_block (entered names) middle m other in
        let inner = agree-entered slots names s agree in
        λ i. one _ _ _ _ _ _ (test-act names s agree value at) (sym (block-pieces (entered names) (at + 1) n body items plain.0))
        (sym (block-pieces (entered names) middle m other items plain.1)) i
        ∷ both _ _ (stmts_lists first items) (stmts_lists second items) (block-nodes (entered names) s inner (at + 1) n body items plain.0)
        (block-nodes (entered names) s inner middle m other items plain.1) i
    stmt-nodes names s agree at n (tree.while value body) items plain =
        let inside : Stmts = label_block (entered names) (at + 1) n body in
        let mark : Items = at_test (round_of (label_test names at value) None inside) ∷ items in
        λ i. node b (test-act names s agree value at i) (sym (block-pieces (entered names) (at + 1) n body mark plain) i) (number_of (opened items))
        ∷ block-nodes (entered names) s (agree-entered slots names s agree) (at + 1) n body mark plain i
    stmt-nodes names s agree at n (tree.repeat body value) items plain =
        let last : ℕ = at + count_block body in
        let inside : Stmts = label_block (entered names) at n body in
        let mark : Items = at_test (round_of (label_test names last value) None inside) ∷ items in
        both _ _ (stmts_lists inside mark) (mark ∷ []) (block-nodes (entered names) s (agree-entered slots names s agree) at n body mark plain)
        (λ i. node b (test-act names s agree value last i) (sym (block-pieces (entered names) at n body mark plain) i) (number_of (opened items)) ∷ [])
    stmt-nodes names s agree at n (tree.loop first value None body) items plain =
        let test : ℕ = at + count_option first in
        let within : ℕ = at + (count_option first + (1 + 0)) in
        let inside : Stmts = label_block (entered names) within n body in
        let round : Round = round_of (label_test names test value) None inside in
        let mark : Items = at_test round ∷ items in
        both _ _ (first_lists (label_part names at first) round items) (mark ∷ stmts_lists inside mark)
        (first-nodes names s agree first at test value None inside items)
        (λ i. node b (test-act names s agree value test i) (sym (block-pieces (entered names) within n body mark plain) i) (number_of (opened items))
        ∷ block-nodes (entered names) s (agree-entered slots names s agree) within n body mark plain i)
    stmt-nodes names s agree at n (tree.loop first value (Some what) body) items plain =
        let test : ℕ = at + count_option first in
        let behind : ℕ = at + (count_option first + 1) in
        let within : ℕ = at + (count_option first + (1 + 1)) in
        let inside : Stmts = label_block (entered names) within n body in
        let advance : Numbered = numbered behind (label_move names what) in
        let round : Round = round_of (label_test names test value) (Some advance) inside in
        let mark : Items = at_advance advance round ∷ items in
        both _ _ (first_lists (label_part names at first) round items) ((at_test round ∷ items) ∷ (mark ∷ stmts_lists inside mark))
        (first-nodes names s agree first at test value (Some advance) inside items)
        (λ i. node b (test-act names s agree value test i) (sym (block-pieces (entered names) within n body mark plain) i) (number_of (opened items))
        ∷ (one _ _ (Some test) (Some test) _ _ (move-is slots names s agree what) refl refl i
        ∷ block-nodes (entered names) s (agree-entered slots names s agree) within n body mark plain i))
    stmt-nodes names s agree at n (tree.switch value body) items plain =
        λ i. switch-node names s agree value at n body items plain i
        ∷ block-nodes (entered names) s (agree-entered slots names s agree) (at + 1) n body (at_end ∷ items) plain i
    stmt-nodes names s agree at n (tree.labelled label) items plain = refl
    stmt-nodes names s agree at n (tree.nested inside) items plain =
        block-nodes (entered names) s (agree-entered slots names s agree) at n inside items plain

    pub block-nodes : (names : Names) (s : Scope) → Agree slots names s → (at n : ℕ) (x : tree.Block) (items : Items) → PlainBlock x
        → block_nodes b vars s at n x (exits_of items) ≡ over (stmts_lists (label_block names at n x) items)
    block-nodes names s agree at n (tree.block ls ss) items plain =
        let inner : Names = names_behind names n ls in
        let scope : Scope = locals_scope vars n ls s in
        let behind : ℕ = at + count_locals ls in
        let m : ℕ = n + length (locals_variables ls) in
        locals-nodes names s agree at n ls (label_stmts inner behind m ss) items (first_if (count_stmts ss) behind (number_of (opened items)))
        (stmts_nodes b vars scope behind m ss (exits_of items)) plain.0
        (sym (stmts-pieces inner behind m ss items plain.1))
        (stmts-nodes inner scope (agree-locals names s n ls plain.0 agree) behind m ss items plain.1)

    pub stmts-nodes : (names : Names) (s : Scope) → Agree slots names s → (at n : ℕ) (xs : tree.Stmts) (items : Items) → PlainStmts xs
        → stmts_nodes b vars s at n xs (exits_of items) ≡ over (stmts_lists (label_stmts names at n xs) items)
    stmts-nodes names s agree at n tree.none items plain = refl
    stmts-nodes names s agree at n (tree.also x xs) items plain =
        let behind : ℕ = at + count_stmt x in
        let m : ℕ = n + length (stmt_variables x) in
        let others : Stmts = label_stmts names behind m xs in
        both _ _ (stmt_lists (label_stmt names at n x) (pieces others items)) (stmts_lists others items)
        (ap (λ ex. stmt_nodes b vars s at n x ex) (exits-pieces others items _ (sym (stmts-pieces names behind m xs items plain.1)))
        ∙ stmt-nodes names s agree at n x (pieces others items) plain.0)
        (stmts-nodes names s agree behind m xs items plain.1)
