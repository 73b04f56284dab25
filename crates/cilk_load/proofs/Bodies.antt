-- The nodes that the pass writes for whole bodies are those of their lists, in the order of the text.
use Rattle.std.proofs.Common.{◌≡◌, ℕ, suc, ◌+◌, ◌<◌, List, [], ◌∷◌, ◌++◌, length, map, Option, Some, None, refl, sym, ap, subst, ◌∙◌, arith, append_assoc, pos}
use Rattle.std.specs.Prelude.{filter_map}
use Rattle.std.specs.List.{cons_option}
use Rattle.std.proofs.lemmas.List.Elements.{filter_map-append}
use Rattle.cilk_tree_syntax.specs.Tree as tree
use Rattle.cilk_tree_syntax.specs.Tree.{Word}
use Rattle.cilk_load_nodes.specs.scopes.Scopes.{local_declares, parameter}
use Rattle.cilk_load.specs.labelled.Labelled.{local, of_body, unknown, Stmts, Labelled}
use Rattle.cilk_load.specs.labelled.Items.{Items, pieces, opened}
use Rattle.cilk_load.specs.labelled.Names.{Names, with_name, with_words, with_parameters, with_local, in_inlet}
use Rattle.cilk_load.specs.labelled.Count.{count_shape, count_stmts, count_locals, count_block}
use Rattle.cilk_load.specs.labelled.Label.{label_locals, label_stmts, label_block, names_behind, locals_variables}
use Rattle.cilk_load.specs.labelled.Bodies.{one_cell, inlet_count}
use Rattle.cilk_load.specs.nodes.declared.node.Node.{Node}
use Rattle.cilk_load.specs.nodes.declared.body.Body as table
use Rattle.cilk_load.specs.nodes.declared.action.Action.TheVariants.{Close}
use Rattle.cilk_load.specs.nodes.declared.var.Var.{Var}
use Rattle.cilk_load.specs.nodes.Slots.{slot_of, procedure_around}
use Rattle.cilk_load.specs.nodes.Table.{number_of, node_over, node_at, stmts_lists, closing_items, body_lists, Row, row}
use Rattle.cilk_load.specs.nodes.Bodies.{body_table}
use Rattle.cilk_load.specs.nodes.Plain.{PlainBlock, OuterLocals, OuterBlock}
use Rattle.cilk_load.proofs.nodes_laws.Texts.{shape_rows, named_place, body_of_inlet, locals_rows, body_rows}
use Rattle.cilk_load.specs.Scope as scope
use Rattle.cilk_load.specs.Scope.{Scope, declared}
use Rattle.cilk_load.specs.Firsts.{first_if, locals_first}
use Rattle.cilk_load.specs.Pass.{bound_var, bound_number, onward, shape_nodes, stmts_nodes, block_nodes}
use Rattle.cilk_load.specs.Outer.{vars_at, body_exits, words_scope, parameters_scope, inlet_nodes, outer_nodes, outer_scope, body_nodes}
use Rattle.cilk_load.proofs.Found.{Agree, agree-declared, agree-inlet}
use Rattle.cilk_load.proofs.Actions.{initialiser-is}
use Rattle.cilk_load.proofs.Starts.{stmts-pieces, locals-pieces}
use Rattle.cilk_load.proofs.Written.{block-nodes, stmts-nodes}
use Rattle.cilk_load.proofs.SlotLaws.{slots-lie, outer-binding}

length-cells : (words : List Word) → length words ≡ length (map (one_cell (pos 0)) words)
length-cells [] = refl
length-cells (word ∷ words) = ap suc (length-cells words)

module _ (program : Labelled) where
  abbrev pub tables : List table.Body
  tables = map body_table program.bodies

  abbrev pub row_node : Row → Option Node
  row_node r = node_at program r.body r.items

  -- the lists of one body
  of-rows : (b : ℕ) (xs : List Items) → filter_map (node_over (slot_of program b) b) xs ≡ filter_map row_node (map (row b) xs)
  of-rows b [] = refl
  of-rows b (x ∷ xs) = ap (cons_option (node_at program b x)) (of-rows b xs)

  var-binding : (b n m : ℕ) (word : Word) → n ≡ m → (bound_var (vars_at tables b) m word).binding ≡ record { slot = slot_of program b (local n); number = n }
  var-binding b n m word e =
      λ i. record { slot = (slots-lie program b m ∙ ap (λ k. slot_of program b (local k)) (sym e)) i; number = sym e i }

  agree-words : (b : ℕ) (names : Names) (s : Scope) (n m : ℕ) (words : List Word) → n ≡ m → Agree (slot_of program b) names s
      → Agree (slot_of program b) (with_words names n words) (words_scope (vars_at tables b) m words s)
  agree-words b names s n m [] e agree = agree
  agree-words b names s n m (word ∷ words) e agree =
      agree-words b (with_name names (local n) (parameter word)) (declared s (bound_var (vars_at tables b) m word)) (suc n) (m + 1) words (omega arith)
      (agree-declared (slot_of program b) names s (local n) (parameter word) (bound_var (vars_at tables b) m word) refl (var-binding b n m word e) agree)

  agree-decl : (b : ℕ) (names : Names) (s : Scope) (n : ℕ) (d : tree.Decl) → Agree (slot_of program b) names s
      → Agree (slot_of program b) (with_local names n (tree.declared d)) (declared s (bound_var (vars_at tables b) n d.name))
  agree-decl b names s n d agree =
      agree-declared (slot_of program b) names s (local n) (local_declares (tree.declared d)) (bound_var (vars_at tables b) n d.name) refl
      (var-binding b n n d.name refl) agree

  agree-inlet-name : (b : ℕ) (names : Names) (s : Scope) (n k at : ℕ) (name : Word) (parameters : List Word) (body : tree.Block) → names.bodies ≡ k
      → Agree (slot_of program b) names s
      → Agree (slot_of program b) (with_local names n (tree.inlet_at at name parameters body)) (declared s (bound_number k name))
  agree-inlet-name b names s n k at name parameters body e agree =
      let more = agree-declared (slot_of program b) names s (of_body names.bodies) (local_declares (tree.inlet_at at name parameters body))
      (bound_number k name) refl (λ i. record { slot = slot_of program b (of_body names.bodies); number = sym e i }) agree in
      record { bindings = more.bindings }

  -- an inlet, where its name is visible
  inlet-nodes : (b k : ℕ) (names : Names) (s : Scope) → procedure_around program b ≡ b → procedure_around program k ≡ b
      → Agree (slot_of program b) names s → (at : ℕ) (name : Word) (parameters : List Word) (body : tree.Block) → PlainBlock body
      → inlet_nodes tables k s at parameters body ≡ filter_map (node_over (slot_of program k) k) (body_lists (body_of_inlet names at name parameters body))
  inlet-nodes b k names s own around agree at name parameters body plain =
      let vars : List Var = vars_at tables k in
      let closing : ℕ = at + count_block body in
      let inside : Names = with_words (in_inlet names) 0 parameters in
      let within : Scope = words_scope vars 0 parameters (scope.entered s) in
      let entered-agree = agree-inlet (slot_of program b) (slot_of program k) names s (outer-binding program b k own around) agree in
      let inner : Agree (slot_of program k) inside within = agree-words k (in_inlet names) (scope.entered s) 0 0 parameters refl entered-agree in
      (λ i. block_nodes k vars within at (length-cells parameters i) body (body_exits closing) ++ onward k Close None ∷ [])
      ∙ ap (λ l. l ++ onward k Close None ∷ [])
      (block-nodes (slot_of program k) k vars (slots-lie program k) inside within inner at (length (map (one_cell (pos 0)) parameters)) body
      (closing_items closing) plain)
      ∙ sym (filter_map-append (node_over (slot_of program k) k)
      (stmts_lists (label_block inside at (length (map (one_cell (pos 0)) parameters)) body) (closing_items closing)) (closing_items closing ∷ []))

  -- an initialiser, before what is behind it
  shape-rows : (b : ℕ) (names : Names) (s : Scope) → Agree (slot_of program b) names s
      → (at : ℕ) (name : Word) (shape : tree.Shape) (others : Stmts) (items : Items) (next : Option ℕ) (rest : List Node) (rows : List Row)
      → next ≡ number_of (opened (pieces others items)) → rest ≡ filter_map row_node rows
      → shape_nodes b s name shape next ++ rest ≡ filter_map row_node (shape_rows names b at (named_place name) shape others items ++ rows)
  shape-rows b names s agree at name (tree.variable None) others items next rest rows e f = f
  shape-rows b names s agree at name (tree.variable (Some value)) others items next rest rows e f =
      λ i. record { action = initialiser-is (slot_of program b) names s agree name value i; next = e i; other = e i; cases = []; body = b } ∷ f i
  shape-rows b names s agree at name (tree.array n) others items next rest rows e f = f

  -- the procedure around each of the next inlets is that of body b
  abbrev pub Around : ℕ → ℕ → tree.Locals → Type 0
  Around b k ls = (j : ℕ) → j < inlet_count ls → procedure_around program (k + j) ≡ b

  outer-rows : (b k : ℕ) (names : Names) (s : Scope) → procedure_around program b ≡ b → names.bodies ≡ k → Agree (slot_of program b) names s
      → (at n : ℕ) (ls : tree.Locals) (others : Stmts) (items : Items) (next : Option ℕ) (rest : List Node) → OuterLocals ls → Around b k ls
      → next ≡ number_of (opened (pieces others items)) → rest ≡ filter_map (node_over (slot_of program b) b) (stmts_lists others items)
      → outer_nodes tables b k s at n ls next ++ rest ≡ filter_map row_node (locals_rows names b k at n ls others items)
  outer-rows b k names s own nb agree at n tree.no_locals others items next rest plain around e f = f ∙ of-rows b (stmts_lists others items)
  outer-rows b k names s own nb agree at n (tree.and_local (tree.declared d) ls) others items next rest plain around e f =
      let inner : Names = with_local names n (tree.declared d) in
      let within : Scope = declared s (bound_var (vars_at tables b) n d.name) in
      let behind : ℕ = at + count_shape d.shape in
      let inside = agree-decl b names s n d agree in
      let middle : List Node = outer_nodes tables b k within behind (n + 1) ls next in
      append_assoc (shape_nodes b within d.name d.shape (locals_first behind ls next)) middle rest
      ∙ shape-rows b inner within inside at d.name d.shape (label_locals inner behind (n + 1) ls others) items (locals_first behind ls next)
      (middle ++ rest) (locals_rows inner b k behind (n + 1) ls others items)
      (ap (locals_first behind ls) e ∙ sym (locals-pieces inner behind (n + 1) ls others items))
      (outer-rows b k inner within own nb inside behind (n + 1) ls others items next rest plain around e f)
  outer-rows b k names s own nb agree at n (tree.and_local (tree.inlet_at place name parameters body) ls) others items next rest plain around e f =
      let inner : Names = with_local names n (tree.inlet_at place name parameters body) in
      let within : Scope = declared s (bound_number k name) in
      let behind : ℕ = at + (count_block body + 1) in
      let inside = agree-inlet-name b names s n k place name parameters body nb agree in
      let none : n ≡ n + 0 = omega arith in
      let first : k + 0 ≡ k = omega arith in
      let its : procedure_around program k ≡ b = ap (procedure_around program) (sym first) ∙ around 0 (omega arith) in
      let middle : List Node = outer_nodes tables b (suc k) within behind n ls next in
      let lists : List Items = body_lists (body_of_inlet inner at name parameters body) in
      append_assoc (inlet_nodes tables k within at parameters body) middle rest
      ∙ (λ i. (inlet-nodes b k inner within own its inside at name parameters body plain.0 ∙ of-rows k lists) i
      ++ (outer_nodes tables b (suc k) within behind (none i) ls next ++ rest))
      ∙ ap (λ l. filter_map row_node (map (row k) lists) ++ l)
      (outer-rows b (suc k) inner within own (ap suc nb) inside behind (n + 0) ls others items next rest plain.1 (later ls around) e f)
      ∙ sym (filter_map-append row_node (map (row k) lists) (locals_rows inner b (suc k) behind (n + 0) ls others items))
    where
      later : (xs : tree.Locals) → ((j : ℕ) → j < suc (inlet_count xs) → procedure_around program (k + j) ≡ b) → Around b (suc k) xs
      later xs h j below = let same : suc k + j ≡ k + suc j = omega arith in ap (procedure_around program) same ∙ h (suc j) (omega arith)

  agree-outer : (b k : ℕ) (names : Names) (s : Scope) (n : ℕ) (ls : tree.Locals) → names.bodies ≡ k → Agree (slot_of program b) names s
      → Agree (slot_of program b) (names_behind names n ls) (outer_scope (vars_at tables b) k n ls s)
  agree-outer b k names s n tree.no_locals nb agree = agree
  agree-outer b k names s n (tree.and_local (tree.declared d) ls) nb agree =
      agree-outer b k (with_local names n (tree.declared d)) (declared s (bound_var (vars_at tables b) n d.name)) (n + 1) ls nb (agree-decl b names s n d agree)
  agree-outer b k names s n (tree.and_local (tree.inlet_at place name parameters body) ls) nb agree =
      let none : n + 0 ≡ n = omega arith in
      subst (λ m. Agree (slot_of program b) (names_behind (with_local names n (tree.inlet_at place name parameters body)) (n + 0) ls)
      (outer_scope (vars_at tables b) (suc k) m ls (declared s (bound_number k name)))) none
      (agree-outer b (suc k) (with_local names n (tree.inlet_at place name parameters body)) (declared s (bound_number k name)) (n + 0) ls (ap suc nb)
      (agree-inlet-name b names s n k place name parameters body nb agree))

  abbrev pub AroundBlock : ℕ → tree.Block → Type 0
  AroundBlock b (tree.block ls ss) = Around b (suc b) ls

  pub body-rows : (b : ℕ) (names : Names) (s : Scope) → procedure_around program b ≡ b → names.bodies ≡ suc b → Agree (slot_of program b) names s
      → (at n : ℕ) (body : tree.Block) → OuterBlock body → AroundBlock b body
      → body_nodes tables b s at n body ≡ filter_map row_node (body_rows names b at n body)
  body-rows b names s own nb agree at n (tree.block ls ss) plain around =
      let vars : List Var = vars_at tables b in
      let behind : ℕ = at + count_locals ls in
      let closing : ℕ = at + (count_locals ls + count_stmts ss) in
      let m : ℕ = n + length (locals_variables ls) in
      let inner : Names = names_behind names n ls in
      let within : Scope = outer_scope vars (suc b) n ls s in
      let others : Stmts = label_stmts inner behind m ss in
      let first : List Node = outer_nodes tables b (suc b) s at n ls (first_if (count_stmts ss) behind (Some closing)) in
      let middle : List Node = stmts_nodes b vars within behind m ss (body_exits closing) in
      let last : List Node = onward b Close None ∷ [] in
      sym (append_assoc first middle last)
      ∙ ap (λ l. l ++ last) (outer-rows b (suc b) names s own nb agree at n ls others (closing_items closing)
      (first_if (count_stmts ss) behind (Some closing)) middle plain.0 around
      (sym (stmts-pieces inner behind m ss (closing_items closing) plain.1))
      (stmts-nodes (slot_of program b) b vars (slots-lie program b) inner within (agree-outer b (suc b) names s n ls nb agree) behind m ss
      (closing_items closing) plain.1))
      ∙ sym (filter_map-append row_node (locals_rows names b (suc b) at n ls others (closing_items closing)) (row b (closing_items closing) ∷ []))

  pub agree-parameters : (b : ℕ) (names : Names) (s : Scope) (parameters : tree.Parameters) → Agree (slot_of program b) names s
      → Agree (slot_of program b) (with_parameters names parameters) (parameters_scope (vars_at tables b) parameters s)
  agree-parameters b names s (tree.ints words) agree = agree-words b names s 0 0 words refl agree
  agree-parameters b names s (tree.command_line count strings) agree =
      agree-declared (slot_of program b) (with_words names 0 (count ∷ [])) (declared s (bound_var (vars_at tables b) 0 count)) unknown _
      (record { name = strings.text; binding = scope.unknown_name }) refl refl
      (agree-words b names s 0 0 (count ∷ []) refl agree)
