-- The heads of the lists of statements without inlets have the numbers of their actions, one after another.
use Rattle.std.proofs.Common.{◌≡◌, ℕ, ◌+◌, List, [], ◌∷◌, ◌++◌, length, Option, Some, None, refl, sym, subst, arith}
use Rattle.cilk_model.specs.syntax.Tree as tree
use Rattle.cilk_model.specs.labelled.Labelled.{Numbered, Stmts}
use Rattle.cilk_model.specs.labelled.Items.{Round, at_test, at_end, Items, pieces, plain_round, next_mark}
use Rattle.cilk_model.specs.labelled.Names.{Names, with_local, entered}
use Rattle.cilk_model.specs.labelled.Count.{count_option, count_shape, count_stmt, count_stmts, count_locals, count_block}
use Rattle.cilk_model.specs.labelled.Label.{label_part, label_test, label_initialiser, label_locals, label_stmt, label_stmts, label_block}
use Rattle.cilk_model.specs.labelled.Label.{names_behind, stmt_variables, block_variables, locals_variables}
use Rattle.cilk_load_nodes.specs.Table.{number_of, first_lists, advance_lists, round_of, stmt_lists, stmts_lists}
use Rattle.cilk_load_nodes.specs.Plain.{PlainLocals, PlainStmt, PlainStmts, PlainBlock}

-- the heads' numbers go up by one, from the first to before the last
abbrev pub Spans : ℕ → ℕ → List Items → Type 0
Spans n m [] = n ≡ m
Spans n m (x ∷ xs) = (number_of x ≡ Some n) × Spans (n + 1) m xs

pub spans-append : (n m k : ℕ) (xs ys : List Items) → Spans n m xs → Spans m k ys → Spans n k (xs ++ ys)
spans-append n m k [] ys e h = subst (λ i. Spans i k ys) (sym e) h
spans-append n m k (x ∷ xs) ys h g = (h.0, spans-append (n + 1) m k xs ys h.1 g)

pub spans-end : (n m k : ℕ) (xs : List Items) → m ≡ k → Spans n m xs → Spans n k xs
spans-end n m k xs e h = subst (λ i. Spans n i xs) e h

pub spans-at : (n k m : ℕ) (xs : List Items) → n ≡ k → Spans n m xs → Spans k m xs
spans-at n k m xs e h = subst (λ i. Spans i m xs) e h

first-spans : (names : Names) (at : ℕ) (first : Option tree.Move) (round : Round) (items : Items)
    → Spans at (at + count_option first) (first_lists (label_part names at first) round items)
first-spans names at None round items = omega arith
first-spans names at (Some what) round items = (refl, refl)

advance-spans : (names : Names) (at : ℕ) (advance : Option tree.Move) (round : Round) (items : Items)
    → Spans at (at + count_option advance) (advance_lists (label_part names at advance) round items)
advance-spans names at None round items = omega arith
advance-spans names at (Some what) round items = (refl, refl)

initialiser-spans : (names : Names) (at : ℕ) (place : tree.Place) (shape : tree.Shape) (others : Stmts) (m : ℕ) (items : Items)
    → Spans (at + count_shape shape) m (stmts_lists others items)
    → Spans at m (stmts_lists (label_initialiser names at place shape others) items)
initialiser-spans names at place (tree.variable None) others m items h = spans-at _ _ m (stmts_lists others items) (omega arith) h
initialiser-spans names at place (tree.variable (Some value)) others m items h = (refl, h)
initialiser-spans names at place (tree.array length) others m items h = spans-at _ _ m (stmts_lists others items) (omega arith) h

locals-spans : (names : Names) (at n : ℕ) (ls : tree.Locals) (others : Stmts) (m : ℕ) (items : Items) → PlainLocals ls
    → Spans (at + count_locals ls) m (stmts_lists others items) → Spans at m (stmts_lists (label_locals names at n ls others) items)
locals-spans names at n tree.no_locals others m items plain h = spans-at _ _ m (stmts_lists others items) (omega arith) h
locals-spans names at n (tree.and_local (tree.declared d) rest) others m items plain h =
    let inner : Names = with_local names n (tree.declared d) in
    let e : at + (count_shape d.shape + count_locals rest) ≡ at + count_shape d.shape + count_locals rest = omega arith in
    initialiser-spans inner at (record { name = d.name; index = None }) d.shape (label_locals inner (at + count_shape d.shape) (n + 1) rest others) m items
    (locals-spans inner (at + count_shape d.shape) (n + 1) rest others m items plain (spans-at _ _ m (stmts_lists others items) e h))
locals-spans names at n (tree.and_local (tree.inlet_at place name parameters body) rest) others m items plain h = absurd plain

mutual
  pub stmt-spans : (names : Names) (at n : ℕ) (s : tree.Stmt) (items : Items) → PlainStmt s
      → Spans at (at + count_stmt s) (stmt_lists (label_stmt names at n s) items)
  stmt-spans names at n (tree.move what) items plain = (refl, refl)
  stmt-spans names at n (tree.spawn_at place taker callee arguments) items plain = (refl, refl)
  stmt-spans names at n (tree.print format arguments) items plain = (refl, refl)
  stmt-spans names at n (tree.locking what name) items plain = (refl, refl)
  stmt-spans names at n tree.null items plain = (refl, refl)
  stmt-spans names at n (tree.sync_at place) items plain = (refl, refl)
  stmt-spans names at n (tree.abort_at place) items plain = (refl, refl)
  stmt-spans names at n (tree.break_at place) items plain = (refl, refl)
  stmt-spans names at n (tree.continue_at place) items plain = (refl, refl)
  stmt-spans names at n (tree.return_at place value) items plain = (refl, refl)
  stmt-spans names at n (tree.when value body) items plain =
      let lists : List Items = stmts_lists (label_block (entered names) (at + 1) n body) items in
      let h = spans-append (at + 1) (at + 1 + count_block body) _ lists [] (block-spans (entered names) (at + 1) n body items plain) refl in
      (refl, spans-end (at + 1) _ _ (lists ++ []) (omega arith) h)
  stmt-spans names at n (tree.either value body other) items plain =
      let middle : ℕ = at + (1 + count_block body) in
      let first : List Items = stmts_lists (label_block (entered names) (at + 1) n body) items in
      let second : List Items = stmts_lists (label_block (entered names) middle (n + length (block_variables body)) other) items in
      let e : at + 1 + count_block body ≡ middle = omega arith in
      let h = spans-append (at + 1) middle _ first second
      (spans-end (at + 1) _ _ first e (block-spans (entered names) (at + 1) n body items plain.0))
      (block-spans (entered names) middle (n + length (block_variables body)) other items plain.1) in
      (refl, spans-end (at + 1) _ _ (first ++ second) (omega arith) h)
  stmt-spans names at n (tree.while value body) items plain =
      let inside : Stmts = label_block (entered names) (at + 1) n body in
      let mark : Items = plain_round (label_test names at value) inside ∷ items in
      (refl, spans-end (at + 1) _ _ (stmts_lists inside mark) (omega arith) (block-spans (entered names) (at + 1) n body mark plain))
  stmt-spans names at n (tree.repeat body value) items plain =
      let last : ℕ = at + count_block body in
      let inside : Stmts = label_block (entered names) at n body in
      let mark : Items = plain_round (label_test names last value) inside ∷ items in
      spans-append at last _ (stmts_lists inside mark) (mark ∷ []) (block-spans (entered names) at n body mark plain) (refl, omega arith)
  stmt-spans names at n (tree.loop first value advance body) items plain =
      let test : ℕ = at + count_option first in
      let behind : ℕ = at + (count_option first + 1) in
      let within : ℕ = at + (count_option first + (1 + count_option advance)) in
      let inside : Stmts = label_block (entered names) within n body in
      let last : Option Numbered = label_part names behind advance in
      let round : Round = round_of (label_test names test value) last inside in
      let mark : Items = next_mark round last ∷ items in
      let end : within + count_block body ≡ at + (count_option first + (1 + (count_option advance + count_block body))) = omega arith in
      let middle : behind + count_option advance ≡ within = omega arith in
      let body_part = spans-end within _ _ (stmts_lists inside mark) end (block-spans (entered names) within n body mark plain) in
      let advance_part = spans-end behind _ _ (advance_lists last round items) middle (advance-spans names behind advance round items) in
      let rest = spans-append behind within _ (advance_lists last round items) (stmts_lists inside mark) advance_part body_part in
      let e : behind ≡ test + 1 = omega arith in
      let others : List Items = advance_lists last round items ++ stmts_lists inside mark in
      spans-append at test _ (first_lists (label_part names at first) round items) ((at_test round ∷ items) ∷ others)
      (first-spans names at first round items) (refl, spans-at behind (test + 1) _ others e rest)
  stmt-spans names at n (tree.switch value body) items plain =
      let inside : Stmts = label_block (entered names) (at + 1) n body in
      let mark : Items = at_end ∷ items in
      (refl, spans-end (at + 1) _ _ (stmts_lists inside mark) (omega arith) (block-spans (entered names) (at + 1) n body mark plain))
  stmt-spans names at n (tree.labelled label) items plain = omega arith
  stmt-spans names at n (tree.nested inside) items plain = block-spans (entered names) at n inside items plain

  pub block-spans : (names : Names) (at n : ℕ) (b : tree.Block) (items : Items) → PlainBlock b
      → Spans at (at + count_block b) (stmts_lists (label_block names at n b) items)
  block-spans names at n (tree.block ls ss) items plain =
      let inner : Names = names_behind names n ls in
      let m : ℕ = n + length (locals_variables ls) in
      let e : at + count_locals ls + count_stmts ss ≡ at + (count_locals ls + count_stmts ss) = omega arith in
      let others : Stmts = label_stmts inner (at + count_locals ls) m ss in
      locals-spans names at n ls others _ items plain.0
      (spans-end _ _ _ (stmts_lists others items) e (stmts-spans inner (at + count_locals ls) m ss items plain.1))

  pub stmts-spans : (names : Names) (at n : ℕ) (ss : tree.Stmts) (items : Items) → PlainStmts ss
      → Spans at (at + count_stmts ss) (stmts_lists (label_stmts names at n ss) items)
  stmts-spans names at n tree.none items plain = omega arith
  stmts-spans names at n (tree.also s ss) items plain =
      let middle : ℕ = at + count_stmt s in
      let m : ℕ = n + length (stmt_variables s) in
      let e : middle + count_stmts ss ≡ at + (count_stmt s + count_stmts ss) = omega arith in
      let others : Stmts = label_stmts names middle m ss in
      spans-append at middle _ (stmt_lists (label_stmt names at n s) (pieces others items)) (stmts_lists others items)
      (stmt-spans names at n s (pieces others items) plain.0)
      (spans-end middle _ _ (stmts_lists others items) e (stmts-spans names middle m ss items plain.1))
