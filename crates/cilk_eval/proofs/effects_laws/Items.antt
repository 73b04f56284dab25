-- What holds of each action of a body holds of each action in the lists of what remains of it.
use Rattle.std.proofs.Common.{ℤ, ◌≡◌, Bool, true, false, List, [], ◌∷◌, Option, Some, None, refl, sym, subst}
use Rattle.std.specs.Prelude.{⊤}
use Rattle.cilk_eval.specs.labelled.Labelled.{Action, break_off, go_round, return_with, return_nothing, close}
use Rattle.cilk_eval.specs.labelled.Labelled.{Numbered, Stmt, action, choose, while, repeat, loop, select, at_label, nested, Stmts, none, also, Body}
use Rattle.cilk_eval.specs.labelled.Items.{Round, Item, piece, at_test, at_advance, at_end, Items, pieces, plain_round, open_stmt, open_stmts, opened}
use Rattle.cilk_eval.specs.labelled.Items.{head_of, past_mark, from_mark, after_action, next_mark, is_label, behind_by, behind_label, first_there}
use Rattle.cilk_eval.specs.labelled.Items.{chosen, selected, holds, after_choice, after_test, next, start_items, reached}
use Rattle.cilk_eval.specs.effects.Heads.{Inside, in_nothing, in_a_loop, in_a_switch, IfThere, EachOfStmt, EachOf}

-- what is being run: a loop, and a loop or a `switch`
abbrev pub running : Items → Inside
running [] = in_nothing
running (piece stmt ∷ items) = running items
running (at_test round ∷ items) = in_a_loop
running (at_advance advance round ∷ items) = in_a_loop
running (at_end ∷ items) = in_a_switch (running items)

pub mark_behind : (stmts : Stmts) (items : Items) → running (pieces stmts items) ≡ running items
mark_behind none items = refl
mark_behind (also first others) items = mark_behind others items

module _ (P : Inside → Action → Type 0) where
  abbrev pub EachOfRound : Inside → Round → Type 0
  EachOfRound l round = P l round.test.act × IfThere P l round.advance × EachOf P in_a_loop round.body

  abbrev pub EachOfItem : Inside → Item → Type 0
  EachOfItem l (piece stmt) = EachOfStmt P l stmt
  EachOfItem l (at_test round) = EachOfRound l round
  EachOfItem l (at_advance advance round) = P l advance.act × EachOfRound l round
  EachOfItem l at_end = ⊤

  abbrev pub Each : Items → Type 0
  Each [] = ⊤
  Each (item ∷ items) = EachOfItem (running items) item × Each items

  each_piece : (stmts : Stmts) (items : Items) → EachOf P (running items) stmts → Each items → Each (pieces stmts items)
  each_piece none items h k = k
  each_piece (also first others) items h k =
      (subst (λ l. EachOfStmt P l first) (sym (mark_behind others items)) h.0, each_piece others items h.1 k)

  past_each : (items : Items) → Each items → Each (past_mark items)
  past_each [] k = tt
  past_each (piece stmt ∷ items) k = past_each items k.1
  past_each (at_test round ∷ items) k = k.1
  past_each (at_advance advance round ∷ items) k = k.1
  past_each (at_end ∷ items) k = k.1

  from_each : (items : Items) → Each items → Each (from_mark items)
  from_each [] k = tt
  from_each (piece stmt ∷ items) k = from_each items k.1
  from_each (at_test round ∷ items) k = k
  from_each (at_advance advance round ∷ items) k = k
  from_each (at_end ∷ items) k = from_each items k.1

  -- a round begins, whose mark is this
  round_each : (round : Round) (advance : Option Numbered) (items : Items) → IfThere P (running items) advance
      → EachOfRound (running items) round → Each items
      → Each (pieces round.body (next_mark round advance ∷ items))
  round_each round None items there h k = each_piece round.body (at_test round ∷ items) h.2 (h, k)
  round_each round (Some advance) items there h k = each_piece round.body (at_advance advance round ∷ items) h.2 ((there, h), k)

  of_same : (l : Inside) (what head : Numbered) → P l what.act → Some what ≡ Some head → (l : Inside) × P l head.act
  of_same l what head h e =
      let same : what ≡ head = cc in
      (l, subst (λ (x : Numbered). P l x.act) same h)

  acted_each : (act : Action) (items : Items) → Each items → Each (after_action act items)
  acted_each break_off items k = past_each items k
  acted_each go_round items k = from_each items k
  acted_each (return_with value) items k = tt
  acted_each return_nothing items k = tt
  acted_each close items k = tt
  acted_each other items k = k

  -- the head of a list is one of the actions
  pub head_each : (items : Items) (head : Numbered) → Each items → head_of items ≡ Some head → (l : Inside) × P l head.act
  head_each [] head k first = cc
  head_each (piece (action what) ∷ items) head k first = of_same (running items) what head k.0 first
  head_each (piece (choose test body other) ∷ items) head k first = of_same (running items) test head k.0.0 first
  head_each (piece (while test body) ∷ items) head k first = cc
  head_each (piece (repeat body test) ∷ items) head k first = cc
  head_each (piece (loop before test advance body) ∷ items) head k first = cc
  head_each (piece (select test body) ∷ items) head k first = of_same (running items) test head k.0.0 first
  head_each (piece (at_label value) ∷ items) head k first = cc
  head_each (piece (nested inside) ∷ items) head k first = cc
  head_each (at_test round ∷ items) head k first = of_same (running items) round.test head k.0.0 first
  head_each (at_advance advance round ∷ items) head k first = of_same (running items) advance head k.0.0 first
  head_each (at_end ∷ items) head k first = cc

  choice_each : (answer : Bool) (body other : Stmts) (items : Items) → EachOf P (running items) body → EachOf P (running items) other → Each items
      → Each (after_choice answer body other items)
  choice_each true body other items g h k = each_piece body items g k
  choice_each false body other items g h k = each_piece other items h k

  test_each : (answer : Bool) (round : Round) (items : Items) → EachOfRound (running items) round → Each items → Each (after_test answer round items)
  test_each true round items h k = round_each round round.advance items h.1 h k
  test_each false round items h k = k

  -- where a `switch` goes on
  EachOfSome : Inside → Option Stmts → Type 0
  EachOfSome i None = ⊤
  EachOfSome i (Some stmts) = EachOf P i stmts

  behind_each : (value : Option ℤ) (i : Inside) (body : Stmts) → EachOf P i body → EachOfSome i (behind_label value body)
  unfolding EachOfSome
  behind_each value i none h = tt
  behind_each value i (also first others) h = by_label (is_label value first) (behind_each value i others h.1)
    where
      by_label : (answer : Bool) → EachOfSome i (behind_label value others) → EachOfSome i (behind_by answer others (behind_label value others))
      by_label true later = h.1
      by_label false later = later

  chosen_each : (z : ℤ) (i : Inside) (body : Stmts) → EachOf P i body → EachOfSome i (chosen z body)
  unfolding EachOfSome
  chosen_each z i body h = first_each (behind_label (Some z) body) (behind_each (Some z) i body h) (behind_each None i body h)
    where
      first_each : (o : Option Stmts) → EachOfSome i o → EachOfSome i (behind_label None body) → EachOfSome i (first_there o (behind_label None body))
      first_each None g k = k
      first_each (Some stmts) g k = g

  selected_each : (o : Option Stmts) (items : Items) → EachOfSome (in_a_switch (running items)) o → Each items → Each (selected o items)
  unfolding EachOfSome
  selected_each None items h k = k
  selected_each (Some stmts) items h k = each_piece stmts (at_end ∷ items) h (tt, k)

  -- what holds where an action stands holds in a loop too
  module _ (more : (l : Inside) (act : Action) → P l act → P in_a_loop act) where
    mutual
      open_stmt_each : (stmt : Stmt) (items without : Items) → EachOfStmt P (running items) stmt → Each items → Each without
          → Each (open_stmt stmt items without)
      open_stmt_each (action what) items without h k w = (h, k)
      open_stmt_each (choose test body other) items without h k w = (h, k)
      open_stmt_each (while test body) items without h k w = ((h.0, tt, h.1), k)
      open_stmt_each (repeat body test) items without h k w =
          open_stmts_each body (plain_round test body ∷ items) (plain_round test body ∷ items) h.1 ((h.0, tt, h.1), k) ((h.0, tt, h.1), k)
      open_stmt_each (loop None test advance body) items without h k w = ((h.1, h.2, h.3), k)
      open_stmt_each (loop (Some first) test advance body) items without h k w = (more (running items) first.act h.0, ((h.1, h.2, h.3), k))
      open_stmt_each (select test body) items without h k w = (h, k)
      open_stmt_each (at_label value) items without h k w = w
      open_stmt_each (nested inside) items without h k w = open_stmts_each inside items without h k w

      open_stmts_each : (stmts : Stmts) (items without : Items) → EachOf P (running items) stmts → Each items → Each without
          → Each (open_stmts stmts items without)
      open_stmts_each none items without h k w = w
      open_stmts_each (also first others) items without h k w =
          open_stmt_each first (pieces others items) (open_stmts others items without)
          (subst (λ l. EachOfStmt P l first) (sym (mark_behind others items)) h.0) (each_piece others items h.1 k)
          (open_stmts_each others items without h.1 k w)

    opened_each : (items : Items) → Each items → Each (opened items)
    opened_each [] k = tt
    opened_each (piece stmt ∷ items) k = open_stmt_each stmt items (opened items) k.0 k.1 (opened_each items k.1)
    opened_each (at_test round ∷ items) k = k
    opened_each (at_advance advance round ∷ items) k = k
    opened_each (at_end ∷ items) k = opened_each items k.1

    next_each : (z : ℤ) (items : Items) → Each items → Each (next z items)
    next_each z [] k = tt
    next_each z (piece (action what) ∷ items) k = acted_each what.act items k.1
    next_each z (piece (choose test body other) ∷ items) k = choice_each (holds z) body other items k.0.1 k.0.2 k.1
    next_each z (piece (while test body) ∷ items) k = k.1
    next_each z (piece (repeat body test) ∷ items) k = k.1
    next_each z (piece (loop first test advance body) ∷ items) k = k.1
    next_each z (piece (select test body) ∷ items) k =
        selected_each (chosen z body) items (chosen_each z (in_a_switch (running items)) body k.0.1) k.1
    next_each z (piece (at_label value) ∷ items) k = k.1
    next_each z (piece (nested inside) ∷ items) k = k.1
    next_each z (at_test round ∷ items) k = test_each (holds z) round items k.0 k.1
    next_each z (at_advance advance round ∷ items) k = (k.0.1, k.1)
    next_each z (at_end ∷ items) k = k.1

    pub reached_each : (body : Body) (answers : List ℤ) → P in_nothing close → EachOf P in_nothing body.stmts → Each (reached body answers)
    reached_each body [] ends h =
        opened_each (start_items body) (each_piece body.stmts (piece (action (record { number = body.closing; act = close })) ∷ []) h (ends, tt))
    reached_each body (answer ∷ answers) ends h =
        opened_each (next answer (reached body answers)) (next_each answer (reached body answers) (reached_each body answers ends h))

-- what implies another thing of each action
module _ (P Q : Inside → Action → Type 0) (on : (l : Inside) (act : Action) → P l act → Q l act) where
  there_map : (l : Inside) (what : Option Numbered) → IfThere P l what → IfThere Q l what
  there_map l None h = tt
  there_map l (Some what) h = on l what.act h

  mutual
    stmt_map : (l : Inside) (stmt : Stmt) → EachOfStmt P l stmt → EachOfStmt Q l stmt
    stmt_map l (action what) h = on l what.act h
    stmt_map l (choose test body other) h = (on l test.act h.0, each_map l body h.1, each_map l other h.2)
    stmt_map l (while test body) h = (on l test.act h.0, each_map in_a_loop body h.1)
    stmt_map l (repeat body test) h = (on l test.act h.0, each_map in_a_loop body h.1)
    stmt_map l (loop first test advance body) h = (there_map l first h.0, on l test.act h.1, there_map l advance h.2, each_map in_a_loop body h.3)
    stmt_map l (select test body) h = (on l test.act h.0, each_map (in_a_switch l) body h.1)
    stmt_map l (at_label value) h = tt
    stmt_map l (nested inside) h = each_map l inside h

    pub each_map : (l : Inside) (stmts : Stmts) → EachOf P l stmts → EachOf Q l stmts
    each_map l none h = tt
    each_map l (also first others) h = (stmt_map l first h.0, each_map l others h.1)
