-- With which action a part of a body begins.
use Rattle.std.proofs.Common.{◌≡◌, ℕ, zero, suc, inl, inr, ◌+◌, ◌<◌, Bool, true, false, cond, nat_eq, ◌∷◌, length, Option, Some, None, refl, sym}
use Rattle.std.proofs.Common.{ap, ◌∙◌, arith}
use Rattle.std.proofs.lemmas.Bool.{false≢true, cases_eq}
use Rattle.std.proofs.lemmas.Bool.Decides.{Decides-eqb}
use Rattle.cilk_tree_syntax.specs.Tree as tree
use Rattle.cilk_load.specs.labelled.Labelled.{Stmts}
use Rattle.cilk_load.specs.labelled.Items.{Items, pieces, plain_round, open_stmt, open_stmts, opened}
use Rattle.cilk_load.specs.labelled.Names.{Names, with_local, entered}
use Rattle.cilk_load.specs.labelled.Count.{count_option, count_shape, count_stmt, count_stmts, count_locals, count_block}
use Rattle.cilk_load.specs.labelled.Label.{label_test, label_initialiser, label_locals, label_stmt, label_stmts, label_block, names_behind}
use Rattle.cilk_load.specs.labelled.Label.{stmt_variables}
use Rattle.cilk_load.specs.labelled.Label.{locals_variables}
use Rattle.cilk_load.specs.nodes.Table.{number_of}
use Rattle.cilk_load.specs.nodes.Plain.{PlainLocals, PlainStmt, PlainStmts, PlainBlock}
use Rattle.cilk_load.proofs.nodes_laws.Opens.{opened-pieces}
use Rattle.cilk_load.specs.Firsts.{first_if, block_first, locals_first}
use Rattle.cilk_load.proofs.Begins.{first_if-some}

positive : (n : ℕ) → nat_eq n 0 ≡ false → 0 < n
positive n e = elim (cases_eq n 0) [ inl z ↦ absurd (false≢true (sym e ∙ (Decides-eqb n 0).1 z)) | inr z ↦ above n z ]
  where
    above : (m : ℕ) → (m ≡ 0 → ⊥) → 0 < m
    above zero z = absurd (z refl)
    above (suc m) z = omega arith

-- two parts, one behind the other
pub first-sum : (a c at : ℕ) (o : Option ℕ) → first_if a at (first_if c (at + a) o) ≡ first_if (a + c) at o
first-sum a c at o = by_test (nat_eq a 0) refl
  where
    by_test : (b : Bool) → nat_eq a 0 ≡ b → cond b (first_if c (at + a) o) (Some at) ≡ first_if (a + c) at o
    by_test true e =
        let z : a ≡ 0 = (Decides-eqb a 0).0 e in
        let here : at + a ≡ at = omega (arith, z) in
        let all : c ≡ a + c = omega (arith, z) in
        ap (λ k. first_if c k o) here ∙ ap (λ k. first_if k at o) all
    by_test false e = sym (first_if-some (a + c) at o (omega (arith, positive a e)))

initialiser-first : (names : Names) (at : ℕ) (place : tree.Place) (shape : tree.Shape) (others : Stmts) (items without : Items)
    → number_of (open_stmts (label_initialiser names at place shape others) items without) ≡ first_if (count_shape shape) at
    (number_of (open_stmts others items without))
initialiser-first names at place (tree.variable None) others items without = refl
initialiser-first names at place (tree.variable (Some value)) others items without = refl
initialiser-first names at place (tree.array n) others items without = refl

-- the first initialiser, or what comes behind the declarations
pub locals-first : (names : Names) (at n : ℕ) (ls : tree.Locals) (others : Stmts) (items without : Items)
    → number_of (open_stmts (label_locals names at n ls others) items without) ≡ locals_first at ls (number_of (open_stmts others items without))
locals-first names at n tree.no_locals others items without = refl
locals-first names at n (tree.and_local (tree.declared d) rest) others items without =
    let inner : Names = with_local names n (tree.declared d) in
    let behind : ℕ = at + count_shape d.shape in
    initialiser-first inner at (record { name = d.name; index = None }) d.shape (label_locals inner behind (n + 1) rest others) items without
    ∙ ap (first_if (count_shape d.shape) at) (locals-first inner behind (n + 1) rest others items without)
locals-first names at n (tree.and_local (tree.inlet_at place name parameters body) rest) others items without =
    locals-first (with_local names n (tree.inlet_at place name parameters body)) (at + (count_block body + 1)) (n + 0) rest others items without

-- without inlets, all actions of the declarations are initialisers
pub plain-first : (at : ℕ) (ls : tree.Locals) (c : ℕ) (o : Option ℕ) → PlainLocals ls
    → locals_first at ls (first_if c (at + count_locals ls) o) ≡ first_if (count_locals ls + c) at o
plain-first at tree.no_locals c o plain =
    let here : at + 0 ≡ at = omega arith in
    let all : c ≡ 0 + c = omega arith in
    ap (λ k. first_if c k o) here ∙ ap (λ k. first_if k at o) all
plain-first at (tree.and_local (tree.declared d) rest) c o plain =
    let own : ℕ = count_shape d.shape in
    let behind : ℕ = at + own in
    let place : at + (own + count_locals rest) ≡ behind + count_locals rest = omega arith in
    let all : own + (count_locals rest + c) ≡ own + count_locals rest + c = omega arith in
    ap (λ k. first_if own at (locals_first behind rest (first_if c k o))) place
    ∙ ap (first_if own at) (plain-first behind rest c o plain)
    ∙ first-sum own (count_locals rest + c) at o
    ∙ ap (λ k. first_if k at o) all
plain-first at (tree.and_local (tree.inlet_at place name parameters body) rest) c o plain = absurd plain

mutual
  pub stmt-first : (names : Names) (at n : ℕ) (s : tree.Stmt) (items without : Items) → PlainStmt s
      → number_of (open_stmt (label_stmt names at n s) items without) ≡ first_if (count_stmt s) at (number_of without)
  stmt-first names at n (tree.move what) items without plain = refl
  stmt-first names at n (tree.spawn_at place taker callee arguments) items without plain = refl
  stmt-first names at n (tree.print format arguments) items without plain = refl
  stmt-first names at n (tree.locking what name) items without plain = refl
  stmt-first names at n tree.null items without plain = refl
  stmt-first names at n (tree.sync_at place) items without plain = refl
  stmt-first names at n (tree.abort_at place) items without plain = refl
  stmt-first names at n (tree.break_at place) items without plain = refl
  stmt-first names at n (tree.continue_at place) items without plain = refl
  stmt-first names at n (tree.return_at place value) items without plain = refl
  stmt-first names at n (tree.when value body) items without plain =
      sym (first_if-some (1 + count_block body) at (number_of without) (omega arith))
  stmt-first names at n (tree.either value body other) items without plain =
      sym (first_if-some (1 + (count_block body + count_block other)) at (number_of without) (omega arith))
  stmt-first names at n (tree.while value body) items without plain =
      sym (first_if-some (1 + count_block body) at (number_of without) (omega arith))
  stmt-first names at n (tree.repeat body value) items without plain =
      let last : ℕ = at + count_block body in
      let mark : Items = plain_round (label_test names last value) (label_block (entered names) at n body) ∷ items in
      block-first (entered names) at n body mark mark plain
      ∙ ap (first_if (count_block body) at) (sym (first_if-some 1 last (number_of without) (omega arith)))
      ∙ first-sum (count_block body) 1 at (number_of without)
  stmt-first names at n (tree.loop None value advance body) items without plain =
      let here : at + 0 ≡ at = omega arith in
      ap (λ k. Some k) here ∙ sym (first_if-some (0 + (1 + (count_option advance + count_block body))) at (number_of without) (omega arith))
  stmt-first names at n (tree.loop (Some what) value advance body) items without plain =
      sym (first_if-some (1 + (1 + (count_option advance + count_block body))) at (number_of without) (omega arith))
  stmt-first names at n (tree.switch value body) items without plain =
      sym (first_if-some (1 + count_block body) at (number_of without) (omega arith))
  stmt-first names at n (tree.labelled label) items without plain = refl
  stmt-first names at n (tree.nested inside) items without plain = block-first (entered names) at n inside items without plain

  pub block-first : (names : Names) (at n : ℕ) (b : tree.Block) (items without : Items) → PlainBlock b
      → number_of (open_stmts (label_block names at n b) items without) ≡ first_if (count_block b) at (number_of without)
  block-first names at n (tree.block ls ss) items without plain =
      let inner : Names = names_behind names n ls in
      let m : ℕ = n + length (locals_variables ls) in
      locals-first names at n ls (label_stmts inner (at + count_locals ls) m ss) items without
      ∙ ap (locals_first at ls) (stmts-first inner (at + count_locals ls) m ss items without plain.1)
      ∙ plain-first at ls (count_stmts ss) (number_of without) plain.0

  pub stmts-first : (names : Names) (at n : ℕ) (ss : tree.Stmts) (items without : Items) → PlainStmts ss
      → number_of (open_stmts (label_stmts names at n ss) items without) ≡ first_if (count_stmts ss) at (number_of without)
  stmts-first names at n tree.none items without plain = refl
  stmts-first names at n (tree.also s ss) items without plain =
      let behind : ℕ = at + count_stmt s in
      let m : ℕ = n + length (stmt_variables s) in
      let others : Stmts = label_stmts names behind m ss in
      stmt-first names at n s (pieces others items) (open_stmts others items without) plain.0
      ∙ ap (first_if (count_stmt s) at) (stmts-first names behind m ss items without plain.1)
      ∙ first-sum (count_stmt s) (count_stmts ss) at (number_of without)

-- before other items
pub block-pieces : (names : Names) (at n : ℕ) (b : tree.Block) (items : Items) → PlainBlock b
    → number_of (opened (pieces (label_block names at n b) items)) ≡ block_first at b (number_of (opened items))
block-pieces names at n b items plain =
    ap number_of (opened-pieces (label_block names at n b) items) ∙ block-first names at n b items (opened items) plain

pub stmts-pieces : (names : Names) (at n : ℕ) (ss : tree.Stmts) (items : Items) → PlainStmts ss
    → number_of (opened (pieces (label_stmts names at n ss) items)) ≡ first_if (count_stmts ss) at (number_of (opened items))
stmts-pieces names at n ss items plain =
    ap number_of (opened-pieces (label_stmts names at n ss) items) ∙ stmts-first names at n ss items (opened items) plain

pub locals-pieces : (names : Names) (at n : ℕ) (ls : tree.Locals) (others : Stmts) (items : Items)
    → number_of (opened (pieces (label_locals names at n ls others) items)) ≡ locals_first at ls (number_of (opened (pieces others items)))
locals-pieces names at n ls others items =
    ap number_of (opened-pieces (label_locals names at n ls others) items)
    ∙ locals-first names at n ls others items (opened items)
    ∙ ap (λ l. locals_first at ls (number_of l)) (sym (opened-pieces others items))
