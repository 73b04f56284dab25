-- What holds of all lists in the table holds of those that come next.
use Rattle.std.proofs.Common.{ℤ, List, [], ◌∷◌, ◌++◌, Option, Some, None, Bool, true, false, sym, subst}
use Rattle.cilk_model.specs.labelled.Labelled.{Action, assign, call, spawn, print, locking, null, break_off, go_round, tests, sync, abort}
use Rattle.cilk_model.specs.labelled.Labelled.{return_with, return_nothing, close}
use Rattle.cilk_model.specs.labelled.Labelled.{Numbered, Stmt, action, choose, while, repeat, loop, select, at_label, nested, Stmts, none, also}
use Rattle.cilk_model.specs.labelled.Items.{Round, piece, at_test, at_advance, at_end, Items, pieces, plain_round, open_stmt, open_stmts}
use Rattle.cilk_model.specs.labelled.Items.{opened, past_mark, from_mark, next, next_mark, after_action, is_label, behind_by, behind_label}
use Rattle.cilk_model.specs.labelled.Items.{first_there, chosen, selected, holds, after_choice, after_test}
use Rattle.cilk_load_nodes.specs.Table.{first_lists, round_of, stmt_lists, stmts_lists}
use Rattle.cilk_load_nodes.proofs.Opens.{opened-pieces, past-pieces, from-pieces}

abbrev pub Each : (Items → Type 0) → List Items → Type 0
Each P [] = Unit {0}
Each P (x ∷ xs) = P x × Each P xs

pub each-append : (P : Items → Type 0) (xs ys : List Items) → Each P xs → Each P ys → Each P (xs ++ ys)
each-append P [] ys h k = k
each-append P (x ∷ xs) ys h k = (h.0, each-append P xs ys h.1 k)

pub each-front : (P : Items → Type 0) (xs ys : List Items) → Each P (xs ++ ys) → Each P xs
each-front P [] ys h = tt
each-front P (x ∷ xs) ys h = (h.0, each-front P xs ys h.1)

pub each-back : (P : Items → Type 0) (xs ys : List Items) → Each P (xs ++ ys) → Each P ys
each-back P [] ys h = h
each-back P (x ∷ xs) ys h = each-back P xs ys h.1

module _ (G : Items → Type 0) (g-nil : G []) where
  -- where these items lead is good
  pub record Good (items : Items) : Type 0 where
    pub now : G (opened items)
    pub past : G (opened (past_mark items))
    pub again : G (opened (from_mark items))

  -- what comes after a list is good
  abbrev pub Next : Items → Type 0
  Next items = (z : ℤ) → G (opened (next z items))

  mutual
    open-stmt : (s : Stmt) (items without : Items) → Each G (stmt_lists s items) → G without → G (open_stmt s items without)
    open-stmt (action what) items without h g = h.0
    open-stmt (choose test body other) items without h g = h.0
    open-stmt (while test body) items without h g = h.0
    open-stmt (repeat body test) items without h g =
        let mark : Items = plain_round test body ∷ items in
        let front = each-front G (stmts_lists body mark) (mark ∷ []) h in
        let back = each-back G (stmts_lists body mark) (mark ∷ []) h in
        open-stmts body mark mark front back.0
    open-stmt (loop None test advance body) items without h g = h.0
    open-stmt (loop (Some first) test advance body) items without h g = h.0
    open-stmt (select test body) items without h g = h.0
    open-stmt (at_label value) items without h g = g
    open-stmt (nested inside) items without h g = open-stmts inside items without h g

    open-stmts : (ss : Stmts) (items without : Items) → Each G (stmts_lists ss items) → G without → G (open_stmts ss items without)
    open-stmts none items without h g = g
    open-stmts (also s ss) items without h g =
        let front = each-front G (stmt_lists s (pieces ss items)) (stmts_lists ss items) h in
        let back = each-back G (stmt_lists s (pieces ss items)) (stmts_lists ss items) h in
        open-stmt s (pieces ss items) (open_stmts ss items without) front (open-stmts ss items without back g)

  pub pieces-good : (ss : Stmts) (items : Items) → Each G (stmts_lists ss items) → Good items → Good (pieces ss items)
  pieces-good ss items h good = record {
    now = subst G (sym (opened-pieces ss items)) (open-stmts ss items (opened items) h good.now);
    past = subst (λ l. G (opened l)) (sym (past-pieces ss items)) good.past;
    again = subst (λ l. G (opened l)) (sym (from-pieces ss items)) good.again;
  }

  act-closed : (act : Action) (items : Items) → Good items → G (opened (after_action act items))
  act-closed (assign what value) items good = good.now
  act-closed (call what callee arguments) items good = good.now
  act-closed (spawn taker callee arguments) items good = good.now
  act-closed (print format arguments) items good = good.now
  act-closed (locking what lock) items good = good.now
  act-closed null items good = good.now
  act-closed break_off items good = good.past
  act-closed go_round items good = good.again
  act-closed (tests value) items good = good.now
  act-closed sync items good = good.now
  act-closed abort items good = good.now
  act-closed (return_with value) items good = g-nil
  act-closed return_nothing items good = g-nil
  act-closed close items good = g-nil

  choose-closed : (test : Numbered) (body other : Stmts) (items : Items) → Good (pieces body items) → Good (pieces other items)
      → Next (piece (choose test body other) ∷ items)
  choose-closed test body other items g h z = by (holds z)
    where
      by : (b : Bool) → G (opened (after_choice b body other items))
      by true = g.now
      by false = h.now

  test-closed : (test : Numbered) (advance : Option Numbered) (body : Stmts) (items : Items)
      → Good (pieces body (next_mark (round_of test advance body) advance ∷ items)) → Good items
      → Next (at_test (round_of test advance body) ∷ items)
  test-closed test advance body items g h z = by (holds z)
    where
      by : (b : Bool) → G (opened (after_test b (round_of test advance body) items))
      by true = g.now
      by false = h.now

  -- the lists of the statements behind a label are among those of all
  abbrev SomeEach : Items → Option Stmts → Type 0
  SomeEach items None = Unit {0}
  SomeEach items (Some ss) = Each G (stmts_lists ss items)

  behind-each : (value : Option ℤ) (ss : Stmts) (items : Items) → Each G (stmts_lists ss items) → SomeEach items (behind_label value ss)
  behind-each value none items h = tt
  behind-each value (also s ss) items h =
      let back = each-back G (stmt_lists s (pieces ss items)) (stmts_lists ss items) h in
      by (is_label value s) back (behind-each value ss items back)
    where
      by : (b : Bool) → Each G (stmts_lists ss items) → SomeEach items (behind_label value ss)
          → SomeEach items (behind_by b ss (behind_label value ss))
      by true own later = own
      by false own later = later

  chosen-each : (first other : Option Stmts) (items : Items) → SomeEach items first → SomeEach items other → SomeEach items (first_there first other)
  chosen-each None other items h k = k
  chosen-each (Some ss) other items h k = h

  end-good : (items : Items) → Good items → Good (at_end ∷ items)
  end-good items good = record { now = good.now; past = good.now; again = good.again }

  selected-good : (stmts : Option Stmts) (items : Items) → SomeEach (at_end ∷ items) stmts → Good items → G (opened (selected stmts items))
  selected-good None items h good = good.now
  selected-good (Some ss) items h good = (pieces-good ss (at_end ∷ items) h (end-good items good)).now

  select-closed : (test : Numbered) (body : Stmts) (items : Items) → Each G (stmts_lists body (at_end ∷ items)) → Good items
      → Next (piece (select test body) ∷ items)
  select-closed test body items h good z =
      selected-good (chosen z body) items
      (chosen-each (behind_label (Some z) body) (behind_label None body) (at_end ∷ items) (behind-each (Some z) body (at_end ∷ items) h)
      (behind-each None body (at_end ∷ items) h)) good

  -- a mark that is good, before items that are
  test-good : (round : Round) (items : Items) → G (at_test round ∷ items) → Good items → Good (at_test round ∷ items)
  test-good round items g good = record { now = g; past = good.now; again = g }

  advance-good : (advance : Numbered) (round : Round) (items : Items) → G (at_advance advance round ∷ items) → Good items
      → Good (at_advance advance round ∷ items)
  advance-good advance round items g good = record { now = g; past = good.now; again = g }

  first-closed : (first : Option Numbered) (round : Round) (items : Items) → Each G (first_lists first round items)
      → G (at_test round ∷ items) → Good items → Each Next (first_lists first round items)
  first-closed None round items h g good = tt
  first-closed (Some first) round items h g good = (λ z. act-closed first.act (at_test round ∷ items) (test-good round items g good), tt)

  mutual
    pub stmt-closed : (s : Stmt) (items : Items) → Each G (stmt_lists s items) → Good items → Each Next (stmt_lists s items)
    stmt-closed (action what) items h good = (λ z. act-closed what.act items good, tt)
    stmt-closed (choose test body other) items h good =
        let front = each-front G (stmts_lists body items) (stmts_lists other items) h.1 in
        let back = each-back G (stmts_lists body items) (stmts_lists other items) h.1 in (
          choose-closed test body other items (pieces-good body items front good) (pieces-good other items back good),
          each-append Next
              (stmts_lists body items) (stmts_lists other items) (stmts-closed body items front good) (stmts-closed other items back good),
        )
    stmt-closed (while test body) items h good =
        let round : Round = round_of test None body in
        let mark = test-good round items h.0 good in
        (test-closed test None body items (pieces-good body (at_test round ∷ items) h.1 mark) good, stmts-closed body (at_test round ∷ items) h.1 mark)
    stmt-closed (repeat body test) items h good =
        let round : Round = round_of test None body in
        let front = each-front G (stmts_lists body (at_test round ∷ items)) ((at_test round ∷ items) ∷ []) h in
        let back = each-back G (stmts_lists body (at_test round ∷ items)) ((at_test round ∷ items) ∷ []) h in
        let mark = test-good round items back.0 good in
        each-append Next (stmts_lists body (at_test round ∷ items)) ((at_test round ∷ items) ∷ [])
        (stmts-closed body (at_test round ∷ items) front mark)
        (test-closed test None body items (pieces-good body (at_test round ∷ items) front mark) good, tt)
    stmt-closed (loop first test None body) items h good =
        let round : Round = round_of test None body in
        let rest : List Items = (at_test round ∷ items) ∷ stmts_lists body (at_test round ∷ items) in
        let before = each-front G (first_lists first round items) rest h in
        let behind = each-back G (first_lists first round items) rest h in
        let mark = test-good round items behind.0 good in
        each-append Next (first_lists first round items) rest (first-closed first round items before behind.0 good) (
          test-closed test None body items (pieces-good body (at_test round ∷ items) behind.1 mark) good,
          stmts-closed body
              (at_test round ∷ items) behind.1 mark,
        )
    stmt-closed (loop first test (Some advance) body) items h good =
        let round : Round = round_of test (Some advance) body in
        let lists : List Items = stmts_lists body (at_advance advance round ∷ items) in
        let rest : List Items = (at_test round ∷ items) ∷ (at_advance advance round ∷ items) ∷ lists in
        let before = each-front G (first_lists first round items) rest h in
        let behind = each-back G (first_lists first round items) rest h in
        let mark = advance-good advance round items behind.1.0 good in
        let test_there = test-closed test (Some advance) body items (pieces-good body (at_advance advance round ∷ items) behind.1.1 mark) good in
        let body_there = stmts-closed body (at_advance advance round ∷ items) behind.1.1 mark in
        each-append Next (first_lists first round items) rest (first-closed first round items before behind.0 good) (test_there, (λ z. behind.0, body_there))
    stmt-closed (select test body) items h good = (
      select-closed test body items h.1 good,
      stmts-closed body (at_end ∷ items) h.1 (end-good items good),
    )
    stmt-closed (at_label value) items h good = tt
    stmt-closed (nested inside) items h good = stmts-closed inside items h good

    pub stmts-closed : (ss : Stmts) (items : Items) → Each G (stmts_lists ss items) → Good items → Each Next (stmts_lists ss items)
    stmts-closed none items h good = tt
    stmts-closed (also s ss) items h good =
        let front = each-front G (stmt_lists s (pieces ss items)) (stmts_lists ss items) h in
        let back = each-back G (stmt_lists s (pieces ss items)) (stmts_lists ss items) h in
        each-append Next (stmt_lists s (pieces ss items)) (stmts_lists ss items)
        (stmt-closed s (pieces ss items) front (pieces-good ss items back good)) (stmts-closed ss items back good)
