-- Each `continue` stands in a loop of its body, and each `break` in a loop or a `switch` (C 1990, 6.6.6.2, 6.6.6.3).
use Rattle.std.specs.Prelude.{Bool, true, false, ◌&&◌}
use Rattle.std.specs.List.{list_all}
use Rattle.cilk_model.specs.labelled.Labelled.{Action, break_off, go_round, Stmt, action, choose, while, repeat, loop, select, at_label, nested, Stmts}
use Rattle.cilk_model.specs.labelled.Labelled.{none, also, Body, Labelled}

-- whether an action may stand where a `break` may or may not, and in a loop or outside of all
abbrev pub may_stand : Bool → Bool → Action → Bool
may_stand may_break in_loop break_off = may_break
may_stand may_break in_loop go_round = in_loop
may_stand may_break in_loop other = true

abbrev mutual
  pub stmt_fits : Bool → Bool → Stmt → Bool
  stmt_fits may_break in_loop (action what) = may_stand may_break in_loop what.act
  stmt_fits may_break in_loop (choose test body other) = stmts_fit may_break in_loop body && stmts_fit may_break in_loop other
  stmt_fits may_break in_loop (while test body) = stmts_fit true true body
  stmt_fits may_break in_loop (repeat body test) = stmts_fit true true body
  stmt_fits may_break in_loop (loop first test advance body) = stmts_fit true true body
  stmt_fits may_break in_loop (select test body) = stmts_fit true in_loop body
  stmt_fits may_break in_loop (at_label value) = true
  stmt_fits may_break in_loop (nested inside) = stmts_fit may_break in_loop inside

  pub stmts_fit : Bool → Bool → Stmts → Bool
  stmts_fit may_break in_loop none = true
  stmts_fit may_break in_loop (also first others) = stmt_fits may_break in_loop first && stmts_fit may_break in_loop others

abbrev pub body_fits : Body → Bool
body_fits body = stmts_fit false false body.stmts

abbrev pub breaks_fit : Labelled → Bool
breaks_fit program = list_all body_fits program.bodies
