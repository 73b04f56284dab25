-- The lines of actions are told from the top down.
use Rattle.std.proofs.Common.{◌≡◌, ℕ, ◌+◌, ◌<◌, ◌≤◌, List, [], ◌∷◌, ◌++◌, length, map, codes, Option, Some, None, arith, length-append}
use Rattle.std.proofs.lemmas.List.{length-map}
use Rattle.cilk_check.specs.syntax.Tree as tree
use Rattle.cilk_tree.specs.syntax.Lines.{one_deeper, deeper, closed}
use Rattle.cilk_tree.specs.syntax.StmtLines.{until_line, stmt_lines, stmts_lines, local_lines, locals_lines, block_lines, switch_lines}
use Rattle.cilk_tree.specs.syntax.ProgramText.{header_line, item_lines, items_lines, program_lines}
use Rattle.cilk_tree.proofs.syntax_laws.SwitchLines.{switch_lines-length}
use Rattle.cilk_laws_model.specs.labelled.Lines.{option_lines, shape_lines, stmt_action_lines, stmts_action_lines, local_action_lines, locals_action_lines}
use Rattle.cilk_laws_model.specs.labelled.Lines.{block_action_lines, item_action_lines, items_action_lines}
use Rattle.cilk_laws.specs.Actions.{GoDown, LinesGoDown}

-- from one line on and before another, so also from a line above and before one below

down_from : (a b c : ℕ) (ns : List ℕ) → a ≤ b → GoDown b ns c → GoDown a ns c
down_from a b c [] above h = omega (arith, above, h)
down_from a b c (n ∷ ns) above h = (omega (arith, above, h.0), h.1, h.2)

down_ends : (a c : ℕ) (ns : List ℕ) → GoDown a ns c → a ≤ c
down_ends a c [] h = h
down_ends a c (n ∷ ns) h = omega (arith, h.0, h.1)

down_to : (a b c : ℕ) (ns : List ℕ) → b ≤ c → GoDown a ns b → GoDown a ns c
down_to a b c [] below h = omega (arith, below, h)
down_to a b c (n ∷ ns) below h = (h.0, omega (arith, below, h.1), down_to n b c ns below h.2)

down_both : (a b c : ℕ) (ns ms : List ℕ) → GoDown a ns b → GoDown b ms c → GoDown a (ns ++ ms) c
down_both a b c [] ms h more = down_from a b c ms h more
down_both a b c (n ∷ ns) ms h more =
    let end : b ≤ c = down_ends b c ms more in
    (h.0, omega (arith, end, h.1), down_both n b c ns ms h.2 more)

down_one : (a n c : ℕ) → a ≤ n → n < c → GoDown a (n ∷ []) c
down_one a n c above below = (above, below, omega (arith, below))

-- what is not told, or told on the line itself
down_option : {A : Type 0} (at : ℕ) (o : Option A) → GoDown at (option_lines at o) (at + 1)
down_option at None = omega arith
down_option at (Some x) = down_one at at (at + 1) (omega arith) (omega arith)

shape_down : (at : ℕ) (shape : tree.Shape) → GoDown at (shape_lines at shape) (at + 1)
shape_down at (tree.variable value) = down_option at value
shape_down at (tree.array n) = omega arith

size_closed : (lines : List (List ℕ)) → length (closed lines) ≡ length lines + 1
size_closed lines =
    let deep : length (deeper lines) ≡ length lines = length-map lines one_deeper in
    let all : length (closed lines) ≡ length (deeper lines) + 1 = length-append (deeper lines) (codes "}" ∷ []) in
    omega (arith, deep, all)

-- those of a body, behind the line that opens it
down_inside : (at to : ℕ) (ns : List ℕ) (lines : List (List ℕ)) → at + 1 + length lines ≤ to → GoDown (at + 1) ns (at + 1 + length lines)
    → GoDown at ns to
down_inside at to ns lines room h = down_from at (at + 1) to ns (omega arith) (down_to (at + 1) (at + 1 + length lines) to ns room h)

-- and an action on the line that closes it
down_closed : (at to : ℕ) (ns : List ℕ) (lines : List (List ℕ)) → at + (length lines + 2) ≤ to → GoDown (at + 1) ns (at + 1 + length lines)
    → GoDown at (ns ++ (at + (length lines + 1)) ∷ []) to
down_closed at to ns lines room h =
    down_both at (at + (length lines + 1)) to ns ((at + (length lines + 1)) ∷ [])
    (down_inside at (at + (length lines + 1)) ns lines (omega arith) h)
    (down_one (at + (length lines + 1)) (at + (length lines + 1)) to (omega arith) (omega (arith, room)))

-- those of two parts, one after the other
down_parts : (at : ℕ) (xs ys : List (List ℕ)) (ns ms : List ℕ) → GoDown at ns (at + length xs) → GoDown (at + length xs) ms (at + length xs + length ys)
    → GoDown at (ns ++ ms) (at + length (xs ++ ys))
down_parts at xs ys ns ms h more =
    let size = length-append xs ys in
    down_to at (at + length xs + length ys) (at + length (xs ++ ys)) (ns ++ ms) (omega (arith, size))
    (down_both at (at + length xs) (at + length xs + length ys) ns ms h more)

-- a part of the header of a `for`, before others of the same line
part_down : {A : Type 0} (at to : ℕ) (what : Option A) (ns : List ℕ) → GoDown at ns to → at < to → GoDown at (option_lines at what ++ ns) to
part_down at to None ns h room = h
part_down at to (Some x) ns h room = (omega arith, room, h)

size_either : (at : ℕ) (test : tree.Expr) (body other : tree.Block)
    → at + length (stmt_lines (tree.either test body other)) ≡ at + (length (block_lines body) + 2) + length (block_lines other) + 1
size_either at test body other =
    let deep = length-map (block_lines body) one_deeper in
    let last = size_closed (block_lines other) in
    let all = length-append (deeper (block_lines body)) (codes "} else {" ∷ closed (block_lines other)) in
    omega (arith, deep, last, all)

mutual
  stmt_down : (at : ℕ) (s : tree.Stmt) → GoDown at (stmt_action_lines at s) (at + length (stmt_lines s))
  stmt_down at (tree.move what) = down_one at at (at + 1) (omega arith) (omega arith)
  stmt_down at (tree.spawn_at place taker callee arguments) = down_one at at (at + 1) (omega arith) (omega arith)
  stmt_down at (tree.print format arguments) = down_one at at (at + 1) (omega arith) (omega arith)
  stmt_down at (tree.locking what name) = down_one at at (at + 1) (omega arith) (omega arith)
  stmt_down at tree.null = down_one at at (at + 1) (omega arith) (omega arith)
  stmt_down at (tree.sync_at place) = down_one at at (at + 1) (omega arith) (omega arith)
  stmt_down at (tree.abort_at place) = down_one at at (at + 1) (omega arith) (omega arith)
  stmt_down at (tree.break_at place) = down_one at at (at + 1) (omega arith) (omega arith)
  stmt_down at (tree.continue_at place) = down_one at at (at + 1) (omega arith) (omega arith)
  stmt_down at (tree.return_at place value) = down_one at at (at + 1) (omega arith) (omega arith)
  stmt_down at (tree.when test body) =
      let size = size_closed (block_lines body) in
      let to : ℕ = at + length (stmt_lines (tree.when test body)) in (
        omega arith,
        omega (arith, size),
        down_inside at to (block_action_lines (at + 1) body) (block_lines body) (omega (arith, size)) (block_down (at + 1) body),
      )
  stmt_down at (tree.either test body other) =
      let k : ℕ = at + (length (block_lines body) + 2) in
      let to : ℕ = at + length (stmt_lines (tree.either test body other)) in
      let size : to ≡ k + length (block_lines other) + 1 = size_either at test body other in (
        omega arith,
        omega (arith, size),
        down_both at k to (block_action_lines (at + 1) body) (block_action_lines k other)
            (down_inside at k (block_action_lines (at + 1) body) (block_lines body) (omega arith) (block_down (at + 1) body))
            (down_to k (k + length (block_lines other)) to (block_action_lines k other) (omega (arith, size)) (block_down k other)),
      )
  stmt_down at (tree.while test body) =
      let size = size_closed (block_lines body) in
      let to : ℕ = at + length (stmt_lines (tree.while test body)) in (
        omega arith,
        omega (arith, size),
        down_inside at to (block_action_lines (at + 1) body) (block_lines body) (omega (arith, size)) (block_down (at + 1) body),
      )
  stmt_down at (tree.repeat body test) =
      let deep = length-map (block_lines body) one_deeper in
      let all = length-append (deeper (block_lines body)) (until_line test ∷ []) in
      down_closed at (at + length (stmt_lines (tree.repeat body test))) (block_action_lines (at + 1) body) (block_lines body) (omega (arith, deep, all))
      (block_down (at + 1) body)
  stmt_down at (tree.loop first test advance body) =
      let size = size_closed (block_lines body) in
      let to : ℕ = at + length (stmt_lines (tree.loop first test advance body)) in
      let room : at < to = omega (arith, size) in
      part_down at to first (at ∷ (option_lines at advance ++ block_action_lines (at + 1) body)) (
        omega arith,
        room,
        part_down at to advance (block_action_lines (at + 1) body)
            (down_inside at to (block_action_lines (at + 1) body) (block_lines body) (omega (arith, size)) (block_down (at + 1) body)) room,
      ) room
  stmt_down at (tree.switch test body) =
      let size = switch_lines-length body in
      let all = length-append (switch_lines body) (codes "}" ∷ []) in
      let to : ℕ = at + length (stmt_lines (tree.switch test body)) in (
        omega arith,
        omega (arith, size, all),
        down_inside at to (block_action_lines (at + 1) body) (block_lines body) (omega (arith, size, all)) (block_down (at + 1) body),
      )
  stmt_down at (tree.labelled label) = omega arith
  stmt_down at (tree.nested inside) =
      let size = size_closed (block_lines inside) in
      down_inside at (at + length (stmt_lines (tree.nested inside))) (block_action_lines (at + 1) inside) (block_lines inside) (omega (arith, size))
      (block_down (at + 1) inside)

  stmts_down : (at : ℕ) (ss : tree.Stmts) → GoDown at (stmts_action_lines at ss) (at + length (stmts_lines ss))
  stmts_down at tree.none = omega arith
  stmts_down at (tree.also s ss) =
      down_parts at (stmt_lines s) (stmts_lines ss) (stmt_action_lines at s) (stmts_action_lines (at + length (stmt_lines s)) ss) (stmt_down at s)
      (stmts_down (at + length (stmt_lines s)) ss)

  local_down : (at : ℕ) (l : tree.Local) → GoDown at (local_action_lines at l) (at + length (local_lines l))
  local_down at (tree.declared d) = shape_down at d.shape
  local_down at (tree.inlet_at place name parameters body) =
      let size = size_closed (block_lines body) in
      down_closed at (at + length (local_lines (tree.inlet_at place name parameters body))) (block_action_lines (at + 1) body) (block_lines body)
      (omega (arith, size)) (block_down (at + 1) body)

  locals_down : (at : ℕ) (ls : tree.Locals) → GoDown at (locals_action_lines at ls) (at + length (locals_lines ls))
  locals_down at tree.no_locals = omega arith
  locals_down at (tree.and_local l ls) =
      down_parts at (local_lines l) (locals_lines ls) (local_action_lines at l) (locals_action_lines (at + length (local_lines l)) ls) (local_down at l)
      (locals_down (at + length (local_lines l)) ls)

  block_down : (at : ℕ) (b : tree.Block) → GoDown at (block_action_lines at b) (at + length (block_lines b))
  block_down at (tree.block ls ss) =
      down_parts at (locals_lines ls) (stmts_lines ss) (locals_action_lines at ls) (stmts_action_lines (at + length (locals_lines ls)) ss) (locals_down at ls)
      (stmts_down (at + length (locals_lines ls)) ss)

item_down : (at : ℕ) (i : tree.Item) → GoDown at (item_action_lines at i) (at + length (item_lines i))
item_down at (tree.global g) = omega arith
item_down at (tree.lock name) = omega arith
item_down at (tree.prototype q) = omega arith
item_down at (tree.procedure p) =
    let size = size_closed (block_lines p.body) in
    down_closed at (at + length (item_lines (tree.procedure p))) (block_action_lines (at + 1) p.body) (block_lines p.body) (omega (arith, size))
    (block_down (at + 1) p.body)

items_down : (at : ℕ) (is : List tree.Item) → GoDown at (items_action_lines at is) (at + length (items_lines is))
items_down at [] = omega arith
items_down at (i ∷ is) =
    down_parts at (item_lines i) (items_lines is) (item_action_lines at i) (items_action_lines (at + length (item_lines i)) is) (item_down at i)
    (items_down (at + length (item_lines i)) is)

pub program_down : LinesGoDown
program_down p =
    let start : ℕ = length p.headers + 1 in
    let size : length (map header_line p.headers) ≡ length p.headers = length-map p.headers header_line in
    let all : length (program_lines p) ≡ length (map header_line p.headers) + length (items_lines p.items)
    = length-append (map header_line p.headers) (items_lines p.items) in
    let ns : List ℕ = items_action_lines start p.items in
    down_from 1 start (length (program_lines p) + 1) ns (omega arith)
    (down_to start (start + length (items_lines p.items)) (length (program_lines p) + 1) ns (omega (arith, size, all)) (items_down start p.items))
