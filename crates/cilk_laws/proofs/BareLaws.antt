-- Leaving places aside a second time changes nothing.
use Rattle.std.proofs.Common.{◌≡◌, List, [], ◌∷◌, Option, Some, None, map, option_map, refl}
use Rattle.cilk_tree.specs.syntax.Tree.{Word, Expr, number, named, element, synched, binary, unary, choose, Place, Target, Move, assign, adjust, call}
use Rattle.cilk_tree.specs.syntax.Tree.{Taker, nothing, into, through, Shape, variable, array, Decl}
use Rattle.cilk_tree.specs.syntax.Tree.{Stmt, move, spawn_at, print, locking, null, sync_at, abort_at, break_at, continue_at, return_at, when, either}
use Rattle.cilk_tree.specs.syntax.Tree.{while, repeat, loop, switch, labelled, nested, Stmts, none, also, Local, declared, inlet_at, Locals, no_locals}
use Rattle.cilk_tree.specs.syntax.Tree.{and_local}
use Rattle.cilk_tree.specs.syntax.Tree.{Block, block}
use Rattle.cilk_tree.specs.syntax.Tree.{Parameters, ints, command_line, Proc, Item, global, lock, prototype, procedure}
use Rattle.cilk_tree.specs.syntax.Bare.{bare_word, bare_expr, bare_value, bare_exprs, bare_place, bare_target, bare_move, bare_part, bare_taker}
use Rattle.cilk_tree.specs.syntax.Bare.{bare_shape, bare_decl, bare_words, bare_stmt, bare_stmts, bare_local, bare_locals, bare_block}
use Rattle.cilk_tree.specs.syntax.Bare.{bare_literal, bare_parameters, bare_proc, bare_item}

module _ {A : Type 0} (bare : A → A) (twice : (x : A) → bare (bare x) ≡ bare x) where
  map-twice : (xs : List A) → map bare (map bare xs) ≡ map bare xs
  map-twice [] = refl
  map-twice (x ∷ xs) = λ i. twice x i ∷ map-twice xs i

  option_map-twice : (x : Option A) → option_map bare (option_map bare x) ≡ option_map bare x
  option_map-twice None = refl
  option_map-twice (Some x) = λ i. Some (twice x i)

bare_words-twice : (xs : List Word) → bare_words (bare_words xs) ≡ bare_words xs
bare_words-twice = map-twice bare_word (λ w. refl)

pub bare_expr-bare : (e : Expr) → bare_expr (bare_expr e) ≡ bare_expr e
bare_expr-bare (number n) = refl
bare_expr-bare (named name) = refl
bare_expr-bare (element name index) = λ i. element (bare_word name) (bare_expr-bare index i)
bare_expr-bare (synched at) = refl
bare_expr-bare (binary op left right) = λ i. binary op (bare_expr-bare left i) (bare_expr-bare right i)
bare_expr-bare (unary op operand) = λ i. unary op (bare_expr-bare operand i)
bare_expr-bare (choose test first second) = λ i. choose (bare_expr-bare test i) (bare_expr-bare first i) (bare_expr-bare second i)

bare_value-twice : (x : Option Expr) → bare_value (bare_value x) ≡ bare_value x
bare_value-twice = option_map-twice bare_expr bare_expr-bare

bare_exprs-twice : (xs : List Expr) → bare_exprs (bare_exprs xs) ≡ bare_exprs xs
bare_exprs-twice = map-twice bare_expr bare_expr-bare

bare_place-twice : (p : Place) → bare_place (bare_place p) ≡ bare_place p
bare_place-twice p = λ i. record { name = bare_word p.name; index = bare_value-twice p.index i }

bare_target-twice : (t : Target) → bare_target (bare_target t) ≡ bare_target t
bare_target-twice t = λ i. record { place = bare_place-twice t.place i; op = t.op }

pub bare_move-bare : (m : Move) → bare_move (bare_move m) ≡ bare_move m
bare_move-bare (assign target value) = λ i. assign (bare_target-twice target i) (bare_expr-bare value i)
bare_move-bare (adjust place by) = λ i. adjust (bare_place-twice place i) by
bare_move-bare (call target callee arguments) =
    λ i. call (option_map-twice bare_target bare_target-twice target i) (bare_word callee) (bare_exprs-twice arguments i)

bare_part-twice : (x : Option Move) → bare_part (bare_part x) ≡ bare_part x
bare_part-twice = option_map-twice bare_move bare_move-bare

bare_taker-twice : (t : Taker) → bare_taker (bare_taker t) ≡ bare_taker t
bare_taker-twice nothing = refl
bare_taker-twice (into target) = λ i. into (bare_target-twice target i)
bare_taker-twice (through inlet others) = λ i. through (bare_word inlet) (bare_exprs-twice others i)

bare_shape-twice : (s : Shape) → bare_shape (bare_shape s) ≡ bare_shape s
bare_shape-twice (variable value) = λ i. variable (bare_value-twice value i)
bare_shape-twice (array length) = refl

bare_decl-twice : (d : Decl) → bare_decl (bare_decl d) ≡ bare_decl d
bare_decl-twice d = λ i. record { name = bare_word d.name; shape = bare_shape-twice d.shape i }

mutual
  pub bare_stmt-bare : (s : Stmt) → bare_stmt (bare_stmt s) ≡ bare_stmt s
  bare_stmt-bare (move what) = λ i. move (bare_move-bare what i)
  bare_stmt-bare (spawn_at at taker callee arguments) = λ i. spawn_at 0 (bare_taker-twice taker i) (bare_word callee) (bare_exprs-twice arguments i)
  bare_stmt-bare (print format arguments) = λ i. print (bare_literal format) (bare_exprs-twice arguments i)
  bare_stmt-bare (locking action name) = refl
  bare_stmt-bare null = refl
  bare_stmt-bare (sync_at at) = refl
  bare_stmt-bare (abort_at at) = refl
  bare_stmt-bare (break_at at) = refl
  bare_stmt-bare (continue_at at) = refl
  bare_stmt-bare (return_at at value) = λ i. return_at 0 (bare_value-twice value i)
  bare_stmt-bare (when test body) = λ i. when (bare_expr-bare test i) (bare_block-bare body i)
  bare_stmt-bare (either test body other) = λ i. either (bare_expr-bare test i) (bare_block-bare body i) (bare_block-bare other i)
  bare_stmt-bare (while test body) = λ i. while (bare_expr-bare test i) (bare_block-bare body i)
  bare_stmt-bare (repeat body test) = λ i. repeat (bare_block-bare body i) (bare_expr-bare test i)
  bare_stmt-bare (loop first test advance body) =
      λ i. loop (bare_part-twice first i) (bare_expr-bare test i) (bare_part-twice advance i) (bare_block-bare body i)
  bare_stmt-bare (switch test body) = λ i. switch (bare_expr-bare test i) (bare_block-bare body i)
  bare_stmt-bare (labelled label) = refl
  bare_stmt-bare (nested inside) = λ i. nested (bare_block-bare inside i)

  pub bare_stmts-bare : (ss : Stmts) → bare_stmts (bare_stmts ss) ≡ bare_stmts ss
  bare_stmts-bare none = refl
  bare_stmts-bare (also first others) = λ i. also (bare_stmt-bare first i) (bare_stmts-bare others i)

  pub bare_local-bare : (l : Local) → bare_local (bare_local l) ≡ bare_local l
  bare_local-bare (declared decl) = λ i. declared (bare_decl-twice decl i)
  bare_local-bare (inlet_at at name parameters body) = λ i. inlet_at 0 (bare_word name) (bare_words-twice parameters i) (bare_block-bare body i)

  pub bare_locals-bare : (ls : Locals) → bare_locals (bare_locals ls) ≡ bare_locals ls
  bare_locals-bare no_locals = refl
  bare_locals-bare (and_local first others) = λ i. and_local (bare_local-bare first i) (bare_locals-bare others i)

  pub bare_block-bare : (b : Block) → bare_block (bare_block b) ≡ bare_block b
  bare_block-bare (block locals stmts) = λ i. block (bare_locals-bare locals i) (bare_stmts-bare stmts i)

bare_parameters-twice : (ps : Parameters) → bare_parameters (bare_parameters ps) ≡ bare_parameters ps
bare_parameters-twice (ints names) = λ i. ints (bare_words-twice names i)
bare_parameters-twice (command_line count strings) = refl

bare_proc-twice : (p : Proc) → bare_proc (bare_proc p) ≡ bare_proc p
bare_proc-twice p =
    λ i. record {
      is_cilk = p.is_cilk;
      returns = p.returns;
      name = bare_word p.name;
      parameters = bare_parameters-twice p.parameters i;
      body =
          bare_block-bare p.body i;
    }

pub bare_item-bare : (x : Item) → bare_item (bare_item x) ≡ bare_item x
bare_item-bare (global definition) = refl
bare_item-bare (lock name) = refl
bare_item-bare (prototype declaration) = refl
bare_item-bare (procedure definition) = λ i. procedure (bare_proc-twice definition i)
