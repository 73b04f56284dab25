-- Trees with their places, and a program's length, left aside: set to 0. Two trees say the same where their bare ones are equal.
use Rattle.std.specs.Prelude.{List, map, Option, option_map}
use Rattle.cilk_tree_syntax.specs.Tree.{Word, Literal, Expr, number, named, element, synched, binary, unary, choose, Place, Target, Move, assign}
use Rattle.cilk_tree_syntax.specs.Tree.{adjust, call, Taker, nothing, into, through, Shape, variable, array, Decl, Label}
use Rattle.cilk_tree_syntax.specs.Tree.{Stmt, move, spawn_at, print, locking, null, sync_at, abort_at, break_at, continue_at, return_at, when, either}
use Rattle.cilk_tree_syntax.specs.Tree.{while, repeat, loop, switch, labelled, nested, Stmts, none, also, Local, declared, inlet_at, Locals, no_locals}
use Rattle.cilk_tree_syntax.specs.Tree.{and_local}
use Rattle.cilk_tree_syntax.specs.Tree.{Block, block}
use Rattle.cilk_tree_syntax.specs.Tree.{Parameters, ints, command_line, Proc, Prototype, Global, Item, global, lock, prototype, procedure, Program}

abbrev pub bare_word : Word → Word
bare_word w = record { text = w.text; place = 0 }

abbrev pub bare_literal : Literal → Literal
bare_literal l = record { bytes = l.bytes; place = 0 }

abbrev pub bare_expr : Expr → Expr
bare_expr (number n) = number n
bare_expr (named name) = named (bare_word name)
bare_expr (element name index) = element (bare_word name) (bare_expr index)
bare_expr (synched at) = synched 0
bare_expr (binary op left right) = binary op (bare_expr left) (bare_expr right)
bare_expr (unary op operand) = unary op (bare_expr operand)
bare_expr (choose test first second) = choose (bare_expr test) (bare_expr first) (bare_expr second)

abbrev pub bare_value : Option Expr → Option Expr
bare_value value = option_map bare_expr value

abbrev pub bare_exprs : List Expr → List Expr
bare_exprs exprs = map bare_expr exprs

abbrev pub bare_place : Place → Place
bare_place p = record { name = bare_word p.name; index = bare_value p.index }

abbrev pub bare_target : Target → Target
bare_target t = record { place = bare_place t.place; op = t.op }

abbrev pub bare_receiver : Option Target → Option Target
bare_receiver target = option_map bare_target target

abbrev pub bare_move : Move → Move
bare_move (assign target value) = assign (bare_target target) (bare_expr value)
bare_move (adjust place by) = adjust (bare_place place) by
bare_move (call target callee arguments) = call (bare_receiver target) (bare_word callee) (bare_exprs arguments)

abbrev pub bare_part : Option Move → Option Move
bare_part part = option_map bare_move part

abbrev pub bare_taker : Taker → Taker
bare_taker nothing = nothing
bare_taker (into target) = into (bare_target target)
bare_taker (through inlet others) = through (bare_word inlet) (bare_exprs others)

abbrev pub bare_shape : Shape → Shape
bare_shape (variable value) = variable (bare_value value)
bare_shape (array length) = array length

abbrev pub bare_decl : Decl → Decl
bare_decl d = record { name = bare_word d.name; shape = bare_shape d.shape }

abbrev pub bare_label : Label → Label
bare_label l = record { at = 0; value = l.value }

abbrev pub bare_words : List Word → List Word
bare_words words = map bare_word words

abbrev mutual
  pub bare_stmt : Stmt → Stmt
  bare_stmt (move what) = move (bare_move what)
  bare_stmt (spawn_at at taker callee arguments) = spawn_at 0 (bare_taker taker) (bare_word callee) (bare_exprs arguments)
  bare_stmt (print format arguments) = print (bare_literal format) (bare_exprs arguments)
  bare_stmt (locking action name) = locking action (bare_word name)
  bare_stmt null = null
  bare_stmt (sync_at at) = sync_at 0
  bare_stmt (abort_at at) = abort_at 0
  bare_stmt (break_at at) = break_at 0
  bare_stmt (continue_at at) = continue_at 0
  bare_stmt (return_at at value) = return_at 0 (bare_value value)
  bare_stmt (when test body) = when (bare_expr test) (bare_block body)
  bare_stmt (either test body other) = either (bare_expr test) (bare_block body) (bare_block other)
  bare_stmt (while test body) = while (bare_expr test) (bare_block body)
  bare_stmt (repeat body test) = repeat (bare_block body) (bare_expr test)
  bare_stmt (loop first test advance body) = loop (bare_part first) (bare_expr test) (bare_part advance) (bare_block body)
  bare_stmt (switch test body) = switch (bare_expr test) (bare_block body)
  bare_stmt (labelled label) = labelled (bare_label label)
  bare_stmt (nested inside) = nested (bare_block inside)

  pub bare_stmts : Stmts → Stmts
  bare_stmts none = none
  bare_stmts (also first others) = also (bare_stmt first) (bare_stmts others)

  pub bare_local : Local → Local
  bare_local (declared decl) = declared (bare_decl decl)
  bare_local (inlet_at at name parameters body) = inlet_at 0 (bare_word name) (bare_words parameters) (bare_block body)

  pub bare_locals : Locals → Locals
  bare_locals no_locals = no_locals
  bare_locals (and_local first others) = and_local (bare_local first) (bare_locals others)

  pub bare_block : Block → Block
  bare_block (block locals stmts) = block (bare_locals locals) (bare_stmts stmts)

abbrev pub bare_parameters : Parameters → Parameters
bare_parameters (ints names) = ints (bare_words names)
bare_parameters (command_line count strings) = command_line (bare_word count) (bare_word strings)

abbrev pub bare_proc : Proc → Proc
bare_proc p = record { is_cilk = p.is_cilk; returns = p.returns; name = bare_word p.name; parameters = bare_parameters p.parameters; body = bare_block p.body }

abbrev pub bare_prototype : Prototype → Prototype
bare_prototype p = record { is_cilk = p.is_cilk; returns = p.returns; name = bare_word p.name; count = p.count }

abbrev pub bare_global : Global → Global
bare_global g = record { name = bare_word g.name; shape = g.shape }

abbrev pub bare_item : Item → Item
bare_item (global definition) = global (bare_global definition)
bare_item (lock name) = lock (bare_word name)
bare_item (prototype declaration) = prototype (bare_prototype declaration)
bare_item (procedure definition) = procedure (bare_proc definition)

abbrev pub bare_program : Program → Program
bare_program p = record { headers = p.headers; items = map bare_item p.items; length = 0 }
