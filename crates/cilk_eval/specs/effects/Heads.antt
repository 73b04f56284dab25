-- Where actions stand: in loops and in the blocks of `switch` or not. And which of them leave their body.
use Rattle.std.specs.Prelude.{◌≡◌, Bool, true, false, ⊤, Option, Some, None}
use Rattle.cilk_eval.specs.labelled.Labelled.{Action, break_off, go_round, return_with, return_nothing, close}
use Rattle.cilk_eval.specs.labelled.Labelled.{Numbered, Stmt, action, choose, while, repeat, loop, select, at_label, nested, Stmts, none, also, Body}

-- what surrounds an action in its body: a loop, and a loop or a `switch` (C 1990, 6.6.4.2, 6.6.5)
pub record Inside : Type 0 where
  pub loop : Bool
  pub loop_or_switch : Bool

abbrev pub in_nothing : Inside
in_nothing = record { loop = false; loop_or_switch = false }

abbrev pub in_a_loop : Inside
in_a_loop = record { loop = true; loop_or_switch = true }

-- in the block of a `switch` that stands there
abbrev pub in_a_switch : Inside → Inside
in_a_switch i = record { loop = i.loop; loop_or_switch = true }

abbrev pub IfThere : (Inside → Action → Type 0) → Inside → Option Numbered → Type 0
IfThere P i None = ⊤
IfThere P i (Some what) = P i what.act

abbrev mutual
  -- P holds of each action in a statement, with what surrounds it (C 1990, 6.6.4.2, 6.6.5)
  pub EachOfStmt : (Inside → Action → Type 0) → Inside → Stmt → Type 0
  EachOfStmt P i (action what) = P i what.act
  EachOfStmt P i (choose test body other) = P i test.act × EachOf P i body × EachOf P i other
  EachOfStmt P i (while test body) = P i test.act × EachOf P in_a_loop body
  EachOfStmt P i (repeat body test) = P i test.act × EachOf P in_a_loop body
  EachOfStmt P i (loop first test advance body) = IfThere P i first × P i test.act × IfThere P i advance × EachOf P in_a_loop body
  EachOfStmt P i (select test body) = P i test.act × EachOf P (in_a_switch i) body
  EachOfStmt P i (at_label value) = ⊤
  EachOfStmt P i (nested inside) = EachOf P i inside

  pub EachOf : (Inside → Action → Type 0) → Inside → Stmts → Type 0
  EachOf P i none = ⊤
  EachOf P i (also first others) = EachOfStmt P i first × EachOf P i others

-- `break` stands in a loop or a `switch`, and `continue` in a loop (C 1990, 6.6.6.2, 6.6.6.3)
abbrev pub MayStand : Inside → Action → Type 0
MayStand i break_off = i.loop_or_switch ≡ true
MayStand i go_round = i.loop ≡ true
MayStand i other = ⊤

-- all of a body do
abbrev pub LeavesInLoops : Body → Type 0
LeavesInLoops body = EachOf MayStand in_nothing body.stmts

-- the body goes on behind the action (C 1990, 6.6.6.4)
abbrev pub GoesOn : Action → Type 0
GoesOn (return_with value) = ⊥
GoesOn return_nothing = ⊥
GoesOn close = ⊥
GoesOn other = ⊤
