-- The line of each action of a program says it.
use Rattle.std.proofs.Common.{◌≡◌, ℕ, ◌+◌, Bool, true, false, List, [], ◌∷◌, ◌++◌, length, map, codes, Option, Some, None, subst, arith}
use Rattle.std.proofs.Common.{length-append}
use Rattle.std.specs.Prelude.{⊤}
use Rattle.std.proofs.lemmas.List.{length-map}
use Rattle.cilk_check.specs.syntax.Tree as tree
use Rattle.cilk_tree.specs.syntax.Lines.{one_deeper, deeper, closed, ended}
use Rattle.cilk_tree.specs.syntax.MoveText.{move_text, spawn_text, print_text, locking_text, return_text, decl_text}
use Rattle.cilk_tree.specs.syntax.StmtLines.{test_line, until_line, for_line, inlet_line, stmt_lines, stmts_lines, local_lines, locals_lines, block_lines}
use Rattle.cilk_tree.specs.syntax.StmtLines.{is_label, set_in, cases_lines, switch_lines}
use Rattle.cilk_tree.specs.syntax.ProgramText.{header_line, opening_line, item_lines, items_lines}
use Rattle.cilk_tree.proofs.syntax_laws.SwitchLines.{cases_lines-length}
use Rattle.cilk_laws_model.specs.labelled.Lines.{option_lines, shape_lines, stmt_action_lines, stmts_action_lines, local_action_lines, locals_action_lines}
use Rattle.cilk_laws_model.specs.labelled.Lines.{block_action_lines, item_action_lines, items_action_lines}
use Rattle.cilk_laws.specs.Said.{Said, asked, part_said, brace, shape_said, stmt_said, stmts_said, local_said, locals_said, block_said}
use Rattle.cilk_laws.specs.Said.{item_said, items_said}
use Rattle.cilk_laws.specs.Actions.{IsLine, Say, EachLineSaysItsAction}
use Rattle.cilk_laws.proofs.Says.{top_line, last_line, say_among, say_behind, say_deeper, say_both, say_inside}

alone_says : (at : ℕ) (text : List ℕ) → IsLine at (ended text) at (text ++ codes ";") × ⊤
alone_says at text = (top_line at (text ++ codes ";") [], tt)

part_says : (at : ℕ) (line : List ℕ) (more : List (List ℕ)) (what : Option tree.Move) → Say at (line ∷ more) (option_lines at what) (part_said line what)
part_says at line more None = tt
part_says at line more (Some what) = (top_line at line more, tt)

shape_says : (at : ℕ) (d : tree.Decl) (shape : tree.Shape) → Say at (ended (decl_text d)) (shape_lines at shape) (shape_said d shape)
shape_says at d (tree.variable None) = tt
shape_says at d (tree.variable (Some value)) = (top_line at (decl_text d ++ codes ";") [], tt)
shape_says at d (tree.array n) = tt

-- a body between the line that opens it and the one that closes it, which says one more action
closed_says : (at : ℕ) (opening : List ℕ) (lines : List (List ℕ)) (ns : List ℕ) (saids : List Said) (last : Said) → Say (at + 1) lines ns saids
    → Say at (opening ∷ (deeper lines ++ last.line ∷ [])) (ns ++ (at + (length lines + 1)) ∷ []) (saids ++ last ∷ [])
closed_says at opening lines ns saids last h =
    say_both at (opening ∷ (deeper lines ++ last.line ∷ [])) ns ((at + (length lines + 1)) ∷ []) saids (last ∷ [])
    (say_inside at opening lines (last.line ∷ []) ns saids h) (last_line at opening last.line lines, tt)

-- a body behind an `else`
else_says : (at : ℕ) (opening between : List ℕ) (lines others more : List (List ℕ)) (ns : List ℕ) (saids : List Said)
    → Say (at + (length lines + 2)) others ns saids
    → Say at (opening ∷ (deeper lines ++ between ∷ (deeper others ++ more))) ns saids
else_says at opening between lines others more ns saids h =
    let size : length (deeper lines) ≡ length lines = length-map lines one_deeper in
    let e : at + (length lines + 2) ≡ at + 1 + length (deeper lines) + 1 = omega (arith, size) in
    say_behind at (opening ∷ []) (deeper lines ++ between ∷ (deeper others ++ more)) ns saids
    (say_behind (at + 1) (deeper lines) (between ∷ (deeper others ++ more)) ns saids
    (say_inside (at + 1 + length (deeper lines)) between others more ns saids (subst (λ k. Say k others ns saids) e h)))

-- a statement in the block of a `switch`
set_in_says : (at : ℕ) (b : Bool) (lines : List (List ℕ)) (ns : List ℕ) (saids : List Said) → Say at lines ns saids → Say at (set_in b lines) ns saids
set_in_says at true lines ns saids h = h
set_in_says at false lines ns saids h = say_deeper at lines ns saids h

case_size : (s : tree.Stmt) → length (set_in (is_label s) (stmt_lines s)) ≡ length (stmt_lines s)
case_size s =
    let one : tree.Stmts = tree.also s tree.none in
    omega (arith, cases_lines-length one, length-append (set_in (is_label s) (stmt_lines s)) [], length-append (stmt_lines s) [])

mutual
  stmt_says : (at : ℕ) (s : tree.Stmt) → Say at (stmt_lines s) (stmt_action_lines at s) (stmt_said s)
  stmt_says at (tree.move what) = alone_says at (move_text what)
  stmt_says at (tree.spawn_at place taker callee arguments) = alone_says at (spawn_text taker callee arguments)
  stmt_says at (tree.print format arguments) = alone_says at (print_text format arguments)
  stmt_says at (tree.locking what name) = alone_says at (locking_text what name)
  stmt_says at tree.null = alone_says at []
  stmt_says at (tree.sync_at place) = alone_says at (codes "sync")
  stmt_says at (tree.abort_at place) = alone_says at (codes "abort")
  stmt_says at (tree.break_at place) = alone_says at (codes "break")
  stmt_says at (tree.continue_at place) = alone_says at (codes "continue")
  stmt_says at (tree.return_at place value) = alone_says at (return_text value)
  stmt_says at (tree.when test body) =
      let opening : List ℕ = test_line (codes "if") test in (
        top_line at opening (closed (block_lines body)),
        say_inside at opening (block_lines body) (codes "}" ∷ []) (block_action_lines (at + 1) body) (block_said body) (block_says (at + 1) body),
      )
  stmt_says at (tree.either test body other) =
      let opening : List ℕ = test_line (codes "if") test in
      let rest : List (List ℕ) = codes "} else {" ∷ closed (block_lines other) in
      let k : ℕ = at + (length (block_lines body) + 2) in (
        top_line at opening (deeper (block_lines body) ++ rest),
        say_both at (stmt_lines (tree.either test body other)) (block_action_lines (at + 1) body) (block_action_lines k other) (block_said body)
            (block_said other)
            (say_inside at opening (block_lines body) rest (block_action_lines (at + 1) body) (block_said body) (block_says (at + 1) body))
            (else_says at opening (codes "} else {") (block_lines body) (block_lines other) (codes "}" ∷ []) (block_action_lines k other) (block_said other)
            (block_says k other)),
      )
  stmt_says at (tree.while test body) =
      let opening : List ℕ = test_line (codes "while") test in (
        top_line at opening (closed (block_lines body)),
        say_inside at opening (block_lines body) (codes "}" ∷ []) (block_action_lines (at + 1) body) (block_said body) (block_says (at + 1) body),
      )
  stmt_says at (tree.repeat body test) =
      closed_says at (codes "do {") (block_lines body) (block_action_lines (at + 1) body) (block_said body) (asked (until_line test) test)
      (block_says (at + 1) body)
  stmt_says at (tree.loop first test advance body) =
      let opening : List ℕ = for_line first test advance in
      let rest : List (List ℕ) = closed (block_lines body) in
      say_both at (opening ∷ rest) (option_lines at first) (at ∷ (option_lines at advance ++ block_action_lines (at + 1) body))
      (part_said opening first) (asked opening test ∷ (part_said opening advance ++ block_said body))
      (part_says at opening rest first) (
        top_line at opening rest,
        say_both at (opening ∷ rest) (option_lines at advance) (block_action_lines (at + 1) body) (part_said opening advance) (block_said body)
            (part_says at opening rest advance)
            (say_inside at opening (block_lines body) (codes "}" ∷ []) (block_action_lines (at + 1) body) (block_said body) (block_says (at + 1) body)),
      )
  stmt_says at (tree.switch test body) =
      let opening : List ℕ = test_line (codes "switch") test in (
        top_line at opening (switch_lines body ++ codes "}" ∷ []),
        say_behind at (opening ∷ []) (switch_lines body ++ codes "}" ∷ []) (block_action_lines (at + 1) body) (block_said body)
            (say_among (at + 1) (switch_lines body) (codes "}" ∷ []) (block_action_lines (at + 1) body) (block_said body) (switch_says (at + 1) body)),
      )
  stmt_says at (tree.labelled label) = tt
  stmt_says at (tree.nested inside) =
      say_inside at (codes "{") (block_lines inside) (codes "}" ∷ []) (block_action_lines (at + 1) inside) (block_said inside) (block_says (at + 1) inside)

  stmts_says : (at : ℕ) (ss : tree.Stmts) → Say at (stmts_lines ss) (stmts_action_lines at ss) (stmts_said ss)
  stmts_says at tree.none = tt
  stmts_says at (tree.also s ss) =
      let lines : List (List ℕ) = stmt_lines s ++ stmts_lines ss in
      let k : ℕ = at + length (stmt_lines s) in
      say_both at lines (stmt_action_lines at s) (stmts_action_lines k ss) (stmt_said s) (stmts_said ss)
      (say_among at (stmt_lines s) (stmts_lines ss) (stmt_action_lines at s) (stmt_said s) (stmt_says at s))
      (say_behind at (stmt_lines s) (stmts_lines ss) (stmts_action_lines k ss) (stmts_said ss) (stmts_says k ss))

  local_says : (at : ℕ) (l : tree.Local) → Say at (local_lines l) (local_action_lines at l) (local_said l)
  local_says at (tree.declared d) = shape_says at d d.shape
  local_says at (tree.inlet_at place name parameters body) =
      closed_says at (inlet_line name parameters) (block_lines body) (block_action_lines (at + 1) body) (block_said body) brace (block_says (at + 1) body)

  locals_says : (at : ℕ) (ls : tree.Locals) → Say at (locals_lines ls) (locals_action_lines at ls) (locals_said ls)
  locals_says at tree.no_locals = tt
  locals_says at (tree.and_local l ls) =
      let lines : List (List ℕ) = local_lines l ++ locals_lines ls in
      let k : ℕ = at + length (local_lines l) in
      say_both at lines (local_action_lines at l) (locals_action_lines k ls) (local_said l) (locals_said ls)
      (say_among at (local_lines l) (locals_lines ls) (local_action_lines at l) (local_said l) (local_says at l))
      (say_behind at (local_lines l) (locals_lines ls) (locals_action_lines k ls) (locals_said ls) (locals_says k ls))

  block_says : (at : ℕ) (b : tree.Block) → Say at (block_lines b) (block_action_lines at b) (block_said b)
  block_says at (tree.block ls ss) =
      let lines : List (List ℕ) = locals_lines ls ++ stmts_lines ss in
      let k : ℕ = at + length (locals_lines ls) in
      say_both at lines (locals_action_lines at ls) (stmts_action_lines k ss) (locals_said ls) (stmts_said ss)
      (say_among at (locals_lines ls) (stmts_lines ss) (locals_action_lines at ls) (locals_said ls) (locals_says at ls))
      (say_behind at (locals_lines ls) (stmts_lines ss) (stmts_action_lines k ss) (stmts_said ss) (stmts_says k ss))

  -- the same statements and declarations in the block of a `switch`
  cases_says : (at : ℕ) (ss : tree.Stmts) → Say at (cases_lines ss) (stmts_action_lines at ss) (stmts_said ss)
  cases_says at tree.none = tt
  cases_says at (tree.also s ss) =
      let lines : List (List ℕ) = set_in (is_label s) (stmt_lines s) in
      let k : ℕ = at + length (stmt_lines s) in
      let e : k ≡ at + length lines = omega (arith, case_size s) in
      say_both at (lines ++ cases_lines ss) (stmt_action_lines at s) (stmts_action_lines k ss) (stmt_said s) (stmts_said ss)
      (say_among at lines (cases_lines ss) (stmt_action_lines at s) (stmt_said s)
      (set_in_says at (is_label s) (stmt_lines s) (stmt_action_lines at s) (stmt_said s) (stmt_says at s)))
      (say_behind at lines (cases_lines ss) (stmts_action_lines k ss) (stmts_said ss)
      (subst (λ j. Say j (cases_lines ss) (stmts_action_lines k ss) (stmts_said ss)) e (cases_says k ss)))

  switch_says : (at : ℕ) (b : tree.Block) → Say at (switch_lines b) (block_action_lines at b) (block_said b)
  switch_says at (tree.block ls ss) =
      let lines : List (List ℕ) = deeper (locals_lines ls) in
      let k : ℕ = at + length (locals_lines ls) in
      let size : length lines ≡ length (locals_lines ls) = length-map (locals_lines ls) one_deeper in
      let e : k ≡ at + length lines = omega (arith, size) in
      say_both at (lines ++ cases_lines ss) (locals_action_lines at ls) (stmts_action_lines k ss) (locals_said ls) (stmts_said ss)
      (say_among at lines (cases_lines ss) (locals_action_lines at ls) (locals_said ls)
      (say_deeper at (locals_lines ls) (locals_action_lines at ls) (locals_said ls) (locals_says at ls)))
      (say_behind at lines (cases_lines ss) (stmts_action_lines k ss) (stmts_said ss)
      (subst (λ j. Say j (cases_lines ss) (stmts_action_lines k ss) (stmts_said ss)) e (cases_says k ss)))

item_says : (at : ℕ) (i : tree.Item) → Say at (item_lines i) (item_action_lines at i) (item_said i)
item_says at (tree.global g) = tt
item_says at (tree.lock name) = tt
item_says at (tree.prototype q) = tt
item_says at (tree.procedure p) =
    closed_says at (opening_line p) (block_lines p.body) (block_action_lines (at + 1) p.body) (block_said p.body) brace (block_says (at + 1) p.body)

items_say : (at : ℕ) (is : List tree.Item) → Say at (items_lines is) (items_action_lines at is) (items_said is)
items_say at [] = tt
items_say at (i ∷ is) =
    let lines : List (List ℕ) = item_lines i ++ items_lines is in
    let k : ℕ = at + length (item_lines i) in
    say_both at lines (item_action_lines at i) (items_action_lines k is) (item_said i) (items_said is)
    (say_among at (item_lines i) (items_lines is) (item_action_lines at i) (item_said i) (item_says at i))
    (say_behind at (item_lines i) (items_lines is) (items_action_lines k is) (items_said is) (items_say k is))

pub program_says : EachLineSaysItsAction
program_says p =
    let size : length (map header_line p.headers) ≡ length p.headers = length-map p.headers header_line in
    let e : length p.headers + 1 ≡ 1 + length (map header_line p.headers) = omega (arith, size) in
    let ns : List ℕ = items_action_lines (length p.headers + 1) p.items in
    say_behind 1 (map header_line p.headers) (items_lines p.items) ns (items_said p.items)
    (subst (λ k. Say k (items_lines p.items) ns (items_said p.items)) e (items_say (length p.headers + 1) p.items))
