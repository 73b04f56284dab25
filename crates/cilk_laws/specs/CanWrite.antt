-- Trees that can be written: each name is one (C 1990, 6.1.2), each number an int (C 1990, 6.1.3.2), each text literal holds what one can say
-- (C 1990, 6.1.4), and each operator before a `=` is one that C writes there (C 1990, 6.3.16).
use Rattle.std.specs.Prelude.{◌≡◌, ◌≤◌, ℤ, unsigned_abs, List, [], ◌∷◌, ◌++◌, codes, IsTrue, Option, Some, None}
use Rattle.std.specs.List.{list_all}
use Rattle.cilk_check.specs.lexeme.Good.{is_sayable}
use Rattle.cilk_check.specs.lexeme.Spelling.{IsName, int_max, mark_spelling}
use Rattle.cilk_check.specs.syntax.OperatorMark.{mark_of}
use Rattle.cilk_check.specs.syntax.declared.operator.BinOp.{BinOp}
use Rattle.cilk_check.specs.syntax.Tree as tree
use Rattle.cilk_laws.specs.StmtLexemes.{assign_mark}

abbrev pub CanWriteExpr : tree.Expr → Type 0
CanWriteExpr (tree.number n) = n ≤ int_max
CanWriteExpr (tree.named x) = IsName x.text
CanWriteExpr (tree.element x index) = IsName x.text × CanWriteExpr index
CanWriteExpr (tree.synched at) = Unit {0}
CanWriteExpr (tree.binary o a b) = CanWriteExpr a × CanWriteExpr b
CanWriteExpr (tree.unary o a) = CanWriteExpr a
CanWriteExpr (tree.choose c a b) = CanWriteExpr c × CanWriteExpr a × CanWriteExpr b

abbrev pub CanWriteExprs : List tree.Expr → Type 0
CanWriteExprs [] = Unit {0}
CanWriteExprs (e ∷ es) = CanWriteExpr e × CanWriteExprs es

abbrev pub CanWriteValue : Option tree.Expr → Type 0
CanWriteValue None = Unit {0}
CanWriteValue (Some e) = CanWriteExpr e

-- the operator and `=` are the text of one mark
abbrev pub CanAssign : Option BinOp → Type 0
CanAssign None = Unit {0}
CanAssign (Some o) = mark_of o ++ codes "=" ≡ mark_spelling (assign_mark (Some o))

abbrev pub CanWritePlace : tree.Place → Type 0
CanWritePlace p = IsName p.name.text × CanWriteValue p.index

abbrev pub CanWriteTarget : tree.Target → Type 0
CanWriteTarget t = CanWritePlace t.place × CanAssign t.op

abbrev pub CanWriteReceiver : Option tree.Target → Type 0
CanWriteReceiver None = Unit {0}
CanWriteReceiver (Some t) = CanWriteTarget t

abbrev pub CanWriteMove : tree.Move → Type 0
CanWriteMove (tree.assign target value) = CanWriteTarget target × CanWriteExpr value
CanWriteMove (tree.adjust place by) = CanWritePlace place
CanWriteMove (tree.call target callee arguments) = CanWriteReceiver target × IsName callee.text × CanWriteExprs arguments

abbrev pub CanWritePart : Option tree.Move → Type 0
CanWritePart None = Unit {0}
CanWritePart (Some m) = CanWriteMove m

abbrev pub CanWriteTaker : tree.Taker → Type 0
CanWriteTaker tree.nothing = Unit {0}
CanWriteTaker (tree.into target) = CanWriteTarget target
CanWriteTaker (tree.through inlet others) = IsName inlet.text × CanWriteExprs others

abbrev pub CanWriteShape : tree.Shape → Type 0
CanWriteShape (tree.variable value) = CanWriteValue value
CanWriteShape (tree.array length) = length ≤ int_max

abbrev pub CanWriteWords : List tree.Word → Type 0
CanWriteWords [] = Unit {0}
CanWriteWords (x ∷ xs) = IsName x.text × CanWriteWords xs

abbrev pub CanWriteInteger : Option ℤ → Type 0
CanWriteInteger None = Unit {0}
CanWriteInteger (Some z) = unsigned_abs z ≤ int_max

abbrev mutual
  pub CanWriteStmt : tree.Stmt → Type 0
  CanWriteStmt (tree.move m) = CanWriteMove m
  CanWriteStmt (tree.spawn_at at taker callee arguments) = CanWriteTaker taker × IsName callee.text × CanWriteExprs arguments
  CanWriteStmt (tree.print format arguments) = IsTrue (list_all is_sayable format.bytes) × CanWriteExprs arguments
  CanWriteStmt (tree.locking action x) = IsName x.text
  CanWriteStmt tree.null = Unit {0}
  CanWriteStmt (tree.sync_at at) = Unit {0}
  CanWriteStmt (tree.abort_at at) = Unit {0}
  CanWriteStmt (tree.break_at at) = Unit {0}
  CanWriteStmt (tree.continue_at at) = Unit {0}
  CanWriteStmt (tree.return_at at value) = CanWriteValue value
  CanWriteStmt (tree.when e b) = CanWriteExpr e × CanWriteBlock b
  CanWriteStmt (tree.either e b o) = CanWriteExpr e × CanWriteBlock b × CanWriteBlock o
  CanWriteStmt (tree.while e b) = CanWriteExpr e × CanWriteBlock b
  CanWriteStmt (tree.repeat b e) = CanWriteBlock b × CanWriteExpr e
  CanWriteStmt (tree.loop first e advance b) = CanWritePart first × CanWriteExpr e × CanWritePart advance × CanWriteBlock b
  CanWriteStmt (tree.switch e b) = CanWriteExpr e × CanWriteBlock b
  CanWriteStmt (tree.labelled l) = CanWriteInteger l.value
  CanWriteStmt (tree.nested b) = CanWriteBlock b

  pub CanWriteStmts : tree.Stmts → Type 0
  CanWriteStmts tree.none = Unit {0}
  CanWriteStmts (tree.also s ss) = CanWriteStmt s × CanWriteStmts ss

  pub CanWriteLocal : tree.Local → Type 0
  CanWriteLocal (tree.declared d) = IsName d.name.text × CanWriteShape d.shape
  CanWriteLocal (tree.inlet_at at x parameters b) = IsName x.text × CanWriteWords parameters × CanWriteBlock b

  pub CanWriteLocals : tree.Locals → Type 0
  CanWriteLocals tree.no_locals = Unit {0}
  CanWriteLocals (tree.and_local x xs) = CanWriteLocal x × CanWriteLocals xs

  pub CanWriteBlock : tree.Block → Type 0
  CanWriteBlock (tree.block xs ss) = CanWriteLocals xs × CanWriteStmts ss

abbrev pub CanWriteParameters : tree.Parameters → Type 0
CanWriteParameters (tree.ints xs) = CanWriteWords xs
CanWriteParameters (tree.command_line count strings) = IsName count.text × IsName strings.text

abbrev pub CanWriteGlobalShape : tree.GlobalShape → Type 0
CanWriteGlobalShape (tree.global_variable value) = CanWriteInteger value
CanWriteGlobalShape (tree.global_array length) = length ≤ int_max

abbrev pub CanWriteItem : tree.Item → Type 0
CanWriteItem (tree.global g) = IsName g.name.text × CanWriteGlobalShape g.shape
CanWriteItem (tree.lock x) = IsName x.text
CanWriteItem (tree.prototype p) = IsName p.name.text
CanWriteItem (tree.procedure p) = IsName p.name.text × CanWriteParameters p.parameters × CanWriteBlock p.body

abbrev pub CanWriteItems : List tree.Item → Type 0
CanWriteItems [] = Unit {0}
CanWriteItems (i ∷ is) = CanWriteItem i × CanWriteItems is

-- every program that tokens spell can be written
abbrev pub CanWrite : tree.Program → Type 0
CanWrite p = CanWriteItems p.items
