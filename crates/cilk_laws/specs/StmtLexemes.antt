-- The lexemes of the canonical text of statements and blocks (C 1990, 6.6; Cilk 5.4 manual).
use Rattle.std.specs.Prelude.{suc, ℤ, pos, negsuc, List, [], ◌∷◌, ◌++◌, codes, Option, Some, None}
use Rattle.cilk_check.specs.lexeme.Lexeme.{Lexeme, word, name, number, mark, literal}
use Rattle.cilk_check.specs.lexeme.declared.keyword.Keyword.TheVariants as key
use Rattle.cilk_check.specs.lexeme.declared.mark.Mark.{Mark}
use Rattle.cilk_check.specs.lexeme.declared.mark.Mark.TheVariants as sign
use Rattle.cilk_check.specs.syntax.declared.adjustment.Adjustment.{Adjustment}
use Rattle.cilk_check.specs.syntax.declared.adjustment.Adjustment.TheVariants as by
use Rattle.cilk_check.specs.syntax.declared.operator.BinOp.{BinOp}
use Rattle.cilk_check.specs.syntax.declared.operator.BinOp.TheVariants as ops
use Rattle.cilk_check.specs.syntax.LockWord.{lock_word}
use Rattle.cilk_check.specs.syntax.Tree as tree
use Rattle.cilk_check.specs.syntax.Tree.{Word, Expr}
use Rattle.cilk_laws.specs.ExprLexemes.{each, in_parentheses, in_brackets, expr_lexemes}

abbrev pub ended : List Lexeme → List Lexeme
ended ls = ls ++ mark sign.Semicolon ∷ []

abbrev pub in_braces : List Lexeme → List Lexeme
in_braces ls = mark sign.OpenBrace ∷ (ls ++ mark sign.CloseBrace ∷ [])

-- expressions, a comma before each
abbrev pub next_exprs_lexemes : List Expr → List Lexeme
next_exprs_lexemes es = each (λ e. mark sign.Comma ∷ expr_lexemes e) es

-- expressions, a comma between two
abbrev pub exprs_lexemes : List Expr → List Lexeme
exprs_lexemes [] = []
exprs_lexemes (e ∷ es) = expr_lexemes e ++ next_exprs_lexemes es

-- a call (C 1990, 6.3.2.2)
abbrev pub call_lexemes : Word → List Expr → List Lexeme
call_lexemes callee arguments = name callee.text ∷ in_parentheses (exprs_lexemes arguments)

-- the subscript, if there is one (C 1990, 6.3.2.1)
abbrev pub index_lexemes : Option Expr → List Lexeme
index_lexemes None = []
index_lexemes (Some e) = in_brackets (expr_lexemes e)

-- the mark of an assignment, with the operator before its `=` or with none (C 1990, 6.3.16)
abbrev pub assign_mark : Option BinOp → Mark
assign_mark None = sign.Assign
assign_mark (Some ops.Multiply) = sign.MultiplyAssign
assign_mark (Some ops.Divide) = sign.DivideAssign
assign_mark (Some ops.Remainder) = sign.RemainderAssign
assign_mark (Some ops.Add) = sign.AddAssign
assign_mark (Some ops.Subtract) = sign.SubtractAssign
assign_mark (Some ops.ShiftLeft) = sign.ShiftLeftAssign
assign_mark (Some ops.ShiftRight) = sign.ShiftRightAssign
assign_mark (Some ops.BitAnd) = sign.BitAndAssign
assign_mark (Some ops.BitXor) = sign.BitXorAssign
assign_mark (Some ops.BitOr) = sign.BitOrAssign
assign_mark _ = sign.Assign

abbrev pub adjust_mark : Adjustment → Mark
adjust_mark by.Increment = sign.Increment
adjust_mark by.Decrement = sign.Decrement

-- what is written to, and what is written
abbrev pub into_lexemes : tree.Target → List Lexeme → List Lexeme
into_lexemes t value = name t.place.name.text ∷ (index_lexemes t.place.index ++ mark (assign_mark t.op) ∷ value)

abbrev pub move_lexemes : tree.Move → List Lexeme
move_lexemes (tree.assign target value) = into_lexemes target (expr_lexemes value)
move_lexemes (tree.adjust place a) = name place.name.text ∷ (index_lexemes place.index ++ mark (adjust_mark a) ∷ [])
move_lexemes (tree.call None callee arguments) = call_lexemes callee arguments
move_lexemes (tree.call (Some target) callee arguments) = into_lexemes target (call_lexemes callee arguments)

-- a part of the header of a `for`, if there is one
abbrev pub part_lexemes : Option tree.Move → List Lexeme
part_lexemes None = []
part_lexemes (Some m) = move_lexemes m

abbrev pub child_lexemes : Word → List Expr → List Lexeme
child_lexemes callee arguments = word key.Spawn ∷ call_lexemes callee arguments

-- a spawn, with what takes the child's value
abbrev pub spawn_lexemes : tree.Taker → List Lexeme → List Lexeme
spawn_lexemes tree.nothing child = child
spawn_lexemes (tree.into target) child = into_lexemes target child
spawn_lexemes (tree.through inlet others) child = name inlet.text ∷ in_parentheses (child ++ next_exprs_lexemes others)

abbrev pub value_lexemes : Option Expr → List Lexeme
value_lexemes None = []
value_lexemes (Some e) = expr_lexemes e

abbrev pub shape_lexemes : tree.Shape → List Lexeme
shape_lexemes (tree.variable None) = []
shape_lexemes (tree.variable (Some e)) = mark sign.Assign ∷ expr_lexemes e
shape_lexemes (tree.array n) = in_brackets (number n ∷ [])

abbrev pub decl_lexemes : tree.Decl → List Lexeme
decl_lexemes d = name d.name.text ∷ shape_lexemes d.shape

-- parameters, a comma before each
abbrev pub next_names_lexemes : List Word → List Lexeme
next_names_lexemes xs = each (λ x. mark sign.Comma ∷ word key.Int ∷ name x.text ∷ []) xs

-- parameters, a comma between two, or `void`
abbrev pub names_lexemes : List Word → List Lexeme
names_lexemes [] = word key.Void ∷ []
names_lexemes (x ∷ xs) = word key.Int ∷ name x.text ∷ next_names_lexemes xs

abbrev pub integer_lexemes : ℤ → List Lexeme
integer_lexemes (pos n) = number n ∷ []
integer_lexemes (negsuc n) = mark sign.Minus ∷ number (suc n) ∷ []

-- what a label compares with, or none for `default` (C 1990, 6.6.1)
abbrev pub label_lexemes : Option ℤ → List Lexeme
label_lexemes None = word key.Default ∷ mark sign.Colon ∷ []
label_lexemes (Some z) = word key.Case ∷ (integer_lexemes z ++ mark sign.Colon ∷ [])

abbrev mutual
  pub stmt_lexemes : tree.Stmt → List Lexeme
  stmt_lexemes (tree.move m) = ended (move_lexemes m)
  stmt_lexemes (tree.spawn_at at taker callee arguments) = ended (spawn_lexemes taker (child_lexemes callee arguments))
  stmt_lexemes (tree.print format arguments) = name (codes "printf") ∷ ended (in_parentheses (literal format.bytes ∷ next_exprs_lexemes arguments))
  stmt_lexemes (tree.locking action x) = name (lock_word action) ∷ ended (in_parentheses (name x.text ∷ []))
  stmt_lexemes tree.null = mark sign.Semicolon ∷ []
  stmt_lexemes (tree.sync_at at) = ended (word key.Sync ∷ [])
  stmt_lexemes (tree.abort_at at) = ended (word key.Abort ∷ [])
  stmt_lexemes (tree.break_at at) = ended (word key.Break ∷ [])
  stmt_lexemes (tree.continue_at at) = ended (word key.Continue ∷ [])
  stmt_lexemes (tree.return_at at value) = ended (word key.Return ∷ value_lexemes value)
  stmt_lexemes (tree.when e b) = word key.If ∷ (in_parentheses (expr_lexemes e) ++ block_lexemes b)
  stmt_lexemes (tree.either e b o) = word key.If ∷ (in_parentheses (expr_lexemes e) ++ (block_lexemes b ++ word key.Else ∷ block_lexemes o))
  stmt_lexemes (tree.while e b) = word key.While ∷ (in_parentheses (expr_lexemes e) ++ block_lexemes b)
  stmt_lexemes (tree.repeat b e) = word key.Do ∷ (block_lexemes b ++ word key.While ∷ ended (in_parentheses (expr_lexemes e)))
  stmt_lexemes (tree.loop first e advance b) =
      word key.For ∷ mark sign.OpenParenthesis
      ∷ (ended (part_lexemes first) ++ (ended (expr_lexemes e) ++ ((part_lexemes advance ++ mark sign.CloseParenthesis ∷ []) ++ block_lexemes b)))
  stmt_lexemes (tree.switch e b) = word key.Switch ∷ (in_parentheses (expr_lexemes e) ++ block_lexemes b)
  stmt_lexemes (tree.labelled l) = label_lexemes l.value
  stmt_lexemes (tree.nested b) = block_lexemes b

  pub stmts_lexemes : tree.Stmts → List Lexeme
  stmts_lexemes tree.none = []
  stmts_lexemes (tree.also s ss) = stmt_lexemes s ++ stmts_lexemes ss

  pub local_lexemes : tree.Local → List Lexeme
  local_lexemes (tree.declared d) = word key.Int ∷ ended (decl_lexemes d)
  local_lexemes (tree.inlet_at at x parameters b) =
      word key.Inlet ∷ word key.Void ∷ name x.text ∷ (in_parentheses (names_lexemes parameters) ++ block_lexemes b)

  pub locals_lexemes : tree.Locals → List Lexeme
  locals_lexemes tree.no_locals = []
  locals_lexemes (tree.and_local x xs) = local_lexemes x ++ locals_lexemes xs

  pub block_lexemes : tree.Block → List Lexeme
  block_lexemes (tree.block xs ss) = in_braces (locals_lexemes xs ++ stmts_lexemes ss)
