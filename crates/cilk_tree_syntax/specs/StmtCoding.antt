-- Statements, inlets and blocks as trees of numbers, one to one, which the logic stores.
use Rattle.std.specs.Prelude.{◌≡◌, refl, zero, suc}
use Rattle.std.specs.Coded.{Coded}
use base.Stored.{Gv, gnil, gnum, gcons}
use Rattle.cilk_tree_syntax.specs.Tree.{Stmt, move, spawn_at, print, locking, null, sync_at, abort_at, break_at, continue_at, return_at, when, either}
use Rattle.cilk_tree_syntax.specs.Tree.{while, repeat, loop, switch, labelled, nested, Stmts, none, also, Local, declared, inlet_at, Locals, no_locals}
use Rattle.cilk_tree_syntax.specs.Tree.{and_local}
use Rattle.cilk_tree_syntax.specs.Tree.{Block, block}
use Rattle.cilk_tree_syntax.specs.Coding.{coded_back, word_to, word_from, word_back, literal_to, literal_from, literal_back, list_to, list_from}
use Rattle.cilk_tree_syntax.specs.Coding.{list_back, option_to, option_from, option_back}
use Rattle.cilk_tree_syntax.specs.ChoiceCoding.{lock_to, lock_from, lock_back}
use Rattle.cilk_tree_syntax.specs.Coding.{label_to, label_from, label_back}
use Rattle.cilk_tree_syntax.specs.ExprCoding.{expr_to, expr_from, expr_back}
use Rattle.cilk_tree_syntax.specs.MoveCoding.{move_to, move_from, move_back, taker_to, taker_from, taker_back, decl_to, decl_from, decl_back}

abbrev mutual
  pub stmt_to : Stmt → Gv
  stmt_to (move what) = gcons (gnum 0) (move_to what)
  stmt_to (spawn_at at taker callee arguments) =
      gcons (gnum 1) (gcons (gnum at) (gcons (taker_to taker) (gcons (word_to callee) (list_to expr_to expr_from expr_back arguments))))
  stmt_to (print format arguments) = gcons (gnum 2) (gcons (literal_to format) (list_to expr_to expr_from expr_back arguments))
  stmt_to (locking action name) = gcons (gnum 3) (gcons (lock_to action) (word_to name))
  stmt_to null = gnum 4
  stmt_to (sync_at at) = gcons (gnum 5) (gnum at)
  stmt_to (abort_at at) = gcons (gnum 6) (gnum at)
  stmt_to (break_at at) = gcons (gnum 7) (gnum at)
  stmt_to (continue_at at) = gcons (gnum 8) (gnum at)
  stmt_to (return_at at value) = gcons (gnum 9) (gcons (gnum at) (option_to expr_to expr_from expr_back value))
  stmt_to (when test body) = gcons (gnum 10) (gcons (expr_to test) (block_to body))
  stmt_to (either test body other) = gcons (gnum 11) (gcons (expr_to test) (gcons (block_to body) (block_to other)))
  stmt_to (while test body) = gcons (gnum 12) (gcons (expr_to test) (block_to body))
  stmt_to (repeat body test) = gcons (gnum 13) (gcons (block_to body) (expr_to test))
  stmt_to (loop first test advance body) =
      gcons (gnum 14)
      (gcons (option_to move_to move_from move_back first)
      (gcons (expr_to test) (gcons (option_to move_to move_from move_back advance) (block_to body))))
  stmt_to (switch test body) = gcons (gnum 15) (gcons (expr_to test) (block_to body))
  stmt_to (labelled label) = gcons (gnum 16) (label_to label)
  stmt_to (nested inside) = gcons (gnum 17) (block_to inside)

  pub stmts_to : Stmts → Gv
  stmts_to none = gnil
  stmts_to (also first others) = gcons (stmt_to first) (stmts_to others)

  pub local_to : Local → Gv
  local_to (declared decl) = gcons (gnum 0) (decl_to decl)
  local_to (inlet_at at name parameters body) =
      gcons (gnum 1) (gcons (gnum at) (gcons (word_to name) (gcons (list_to word_to word_from word_back parameters) (block_to body))))

  pub locals_to : Locals → Gv
  locals_to no_locals = gnil
  locals_to (and_local first others) = gcons (local_to first) (locals_to others)

  pub block_to : Block → Gv
  block_to (block locals stmts) = gcons (locals_to locals) (stmts_to stmts)

abbrev mutual
  pub stmt_from : Gv → Stmt
  stmt_from (gcons (gnum zero) what) = move (move_from what)
  stmt_from (gcons (gnum (suc zero)) (gcons (gnum at) (gcons taker (gcons callee arguments)))) =
      spawn_at at (taker_from taker) (word_from callee) (list_from expr_to expr_from expr_back arguments)
  stmt_from (gcons (gnum (suc (suc zero))) (gcons format arguments)) =
      print (literal_from format) (list_from expr_to expr_from expr_back arguments)
  stmt_from (gcons (gnum (suc (suc (suc zero)))) (gcons action name)) = locking (lock_from action) (word_from name)
  stmt_from (gnum (suc (suc (suc (suc zero))))) = null
  stmt_from (gcons (gnum (suc (suc (suc (suc (suc zero)))))) (gnum at)) = sync_at at
  stmt_from (gcons (gnum (suc (suc (suc (suc (suc (suc zero))))))) (gnum at)) = abort_at at
  stmt_from (gcons (gnum (suc (suc (suc (suc (suc (suc (suc zero)))))))) (gnum at)) = break_at at
  stmt_from (gcons (gnum (suc (suc (suc (suc (suc (suc (suc (suc zero))))))))) (gnum at)) = continue_at at
  stmt_from (gcons (gnum (suc (suc (suc (suc (suc (suc (suc (suc (suc zero)))))))))) (gcons (gnum at) value)) =
      return_at at (option_from expr_to expr_from expr_back value)
  stmt_from (gcons (gnum (suc (suc (suc (suc (suc (suc (suc (suc (suc (suc zero))))))))))) (gcons test body)) =
      when (expr_from test) (block_from body)
  stmt_from (gcons (gnum (suc (suc (suc (suc (suc (suc (suc (suc (suc (suc (suc zero)))))))))))) (gcons test (gcons body other))) =
      either (expr_from test) (block_from body) (block_from other)
  stmt_from (gcons (gnum (suc (suc (suc (suc (suc (suc (suc (suc (suc (suc (suc (suc zero))))))))))))) (gcons test body)) =
      while (expr_from test) (block_from body)
  stmt_from (gcons (gnum (suc (suc (suc (suc (suc (suc (suc (suc (suc (suc (suc (suc (suc zero)))))))))))))) (gcons body test)) =
      repeat (block_from body) (expr_from test)
  stmt_from
      (gcons (gnum (suc (suc (suc (suc (suc (suc (suc (suc (suc (suc (suc (suc (suc (suc zero)))))))))))))))
      (gcons first (gcons test (gcons advance body)))) =
      loop (option_from move_to move_from move_back first) (expr_from test) (option_from move_to move_from move_back advance) (block_from body)
  stmt_from
      (gcons (gnum (suc (suc (suc (suc (suc (suc (suc (suc (suc (suc (suc (suc (suc (suc (suc zero))))))))))))))))
      (gcons test body)) =
      switch (expr_from test) (block_from body)
  stmt_from (gcons (gnum (suc (suc (suc (suc (suc (suc (suc (suc (suc (suc (suc (suc (suc (suc (suc (suc zero))))))))))))))))) label) =
      labelled (label_from label)
  stmt_from (gcons (gnum (suc (suc (suc (suc (suc (suc (suc (suc (suc (suc (suc (suc (suc (suc (suc (suc (suc _)))))))))))))))))) inside) =
      nested (block_from inside)
  stmt_from _ = null

  pub stmts_from : Gv → Stmts
  stmts_from (gcons first others) = also (stmt_from first) (stmts_from others)
  stmts_from _ = none

  pub local_from : Gv → Local
  local_from (gcons (gnum zero) decl) = declared (decl_from decl)
  local_from (gcons (gnum (suc _)) (gcons (gnum at) (gcons name (gcons parameters body)))) =
      inlet_at at (word_from name) (list_from word_to word_from word_back parameters) (block_from body)
  local_from _ = declared (decl_from gnil)

  pub locals_from : Gv → Locals
  locals_from (gcons first others) = and_local (local_from first) (locals_from others)
  locals_from _ = no_locals

  pub block_from : Gv → Block
  block_from (gcons locals stmts) = block (locals_from locals) (stmts_from stmts)
  block_from _ = block no_locals none

mutual
  pub stmt_back : (x : Stmt) → stmt_from (stmt_to x) ≡ x
  stmt_back (move what) = λ i. move (move_back what i)
  stmt_back (spawn_at at taker callee arguments) =
      λ i. spawn_at at (taker_back taker i) (word_back callee i) (list_back expr_to expr_from expr_back arguments i)
  stmt_back (print format arguments) = λ i. print (literal_back format i) (list_back expr_to expr_from expr_back arguments i)
  stmt_back (locking action name) = λ i. locking (lock_back action i) (word_back name i)
  stmt_back null = refl
  stmt_back (sync_at at) = refl
  stmt_back (abort_at at) = refl
  stmt_back (break_at at) = refl
  stmt_back (continue_at at) = refl
  stmt_back (return_at at value) = λ i. return_at at (option_back expr_to expr_from expr_back value i)
  stmt_back (when test body) = λ i. when (expr_back test i) (block_back body i)
  stmt_back (either test body other) = λ i. either (expr_back test i) (block_back body i) (block_back other i)
  stmt_back (while test body) = λ i. while (expr_back test i) (block_back body i)
  stmt_back (repeat body test) = λ i. repeat (block_back body i) (expr_back test i)
  stmt_back (loop first test advance body) =
      λ i. loop (option_back move_to move_from move_back first i) (expr_back test i) (option_back move_to move_from move_back advance i) (block_back body i)
  stmt_back (switch test body) = λ i. switch (expr_back test i) (block_back body i)
  stmt_back (labelled label) = λ i. labelled (label_back label i)
  stmt_back (nested inside) = λ i. nested (block_back inside i)

  pub stmts_back : (xs : Stmts) → stmts_from (stmts_to xs) ≡ xs
  stmts_back none = refl
  stmts_back (also first others) = λ i. also (stmt_back first i) (stmts_back others i)

  pub local_back : (x : Local) → local_from (local_to x) ≡ x
  local_back (declared decl) = λ i. declared (decl_back decl i)
  local_back (inlet_at at name parameters body) =
      λ i. inlet_at at (word_back name i) (list_back word_to word_from word_back parameters i) (block_back body i)

  pub locals_back : (xs : Locals) → locals_from (locals_to xs) ≡ xs
  locals_back no_locals = refl
  locals_back (and_local first others) = λ i. and_local (local_back first i) (locals_back others i)

  pub block_back : (x : Block) → block_from (block_to x) ≡ x
  block_back (block locals stmts) = λ i. block (locals_back locals i) (stmts_back stmts i)

abbrev pub coded_Stmt : Coded Stmt
coded_Stmt = coded_back stmt_to stmt_from stmt_back

abbrev pub coded_Local : Coded Local
coded_Local = coded_back local_to local_from local_back

abbrev pub coded_Block : Coded Block
coded_Block = coded_back block_to block_from block_back
