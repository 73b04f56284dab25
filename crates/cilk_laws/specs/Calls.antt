-- What each body may call and spawn: only a procedure spawns and waits; what is called is a C function, and what takes a child's value an
-- inlet (Cilk 5.4 manual, `cilk`, `inlet`).
use Rattle.std.specs.Prelude.{Bool, true, ◌&&◌, Option, Some, None}
use Rattle.std.specs.List.{list_all}
use Rattle.cilk_laws_model.specs.labelled.Labelled.{Taker, through, Action, call, spawn, sync, Numbered, Stmt, action, choose, while, repeat, loop}
use Rattle.cilk_laws_model.specs.labelled.Labelled.{select, at_label, nested, Stmts, none, also, Body, Labelled}
use Rattle.cilk_laws_model.specs.labelled.Bodies.{is_procedure}
use Rattle.cilk_laws_model.specs.model.Change.{is_function}
use Rattle.cilk_check.specs.FormFinds.{is_inlet}
use Rattle.cilk_machine.specs.plans.effects.Known.{owner_of}

abbrev pub taker_suits : Labelled → Taker → Bool
taker_suits program (through inlet others) = is_inlet (owner_of program inlet)
taker_suits program other = true

-- in a procedure's own body, or in another
abbrev pub action_suits : Labelled → Bool → Action → Bool
action_suits program own (call what callee es) = is_function (owner_of program callee)
action_suits program own (spawn taker callee es) = own && taker_suits program taker
action_suits program own sync = own
action_suits program own other = true

abbrev pub part_suits : Labelled → Bool → Option Numbered → Bool
part_suits program own None = true
part_suits program own (Some what) = action_suits program own what.act

abbrev mutual
  pub stmt_suits : Labelled → Bool → Stmt → Bool
  stmt_suits program own (action what) = action_suits program own what.act
  stmt_suits program own (choose test body other) =
      action_suits program own test.act && (stmts_suit program own body && stmts_suit program own other)
  stmt_suits program own (while test body) = action_suits program own test.act && stmts_suit program own body
  stmt_suits program own (repeat body test) = action_suits program own test.act && stmts_suit program own body
  stmt_suits program own (loop first test advance body) =
      part_suits program own first && (action_suits program own test.act && (part_suits program own advance && stmts_suit program own body))
  stmt_suits program own (select test body) = action_suits program own test.act && stmts_suit program own body
  stmt_suits program own (at_label value) = true
  stmt_suits program own (nested inside) = stmts_suit program own inside

  pub stmts_suit : Labelled → Bool → Stmts → Bool
  stmts_suit program own none = true
  stmts_suit program own (also first others) = stmt_suits program own first && stmts_suit program own others

abbrev pub body_suits : Labelled → Body → Bool
body_suits program body = stmts_suit program (is_procedure body.owner) body.stmts

abbrev pub calls_suit : Labelled → Bool
calls_suit program = list_all (body_suits program) program.bodies
