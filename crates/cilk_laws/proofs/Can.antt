-- Trees of which each name, number and text literal is a good lexeme, whatever is good, and of which C has each assignment.
use Rattle.std.specs.Prelude.{suc, ℤ, pos, negsuc, List, [], ◌∷◌, ◌++◌, Option, Some, None}
use Rattle.cilk_check.specs.lexeme.Lexeme.{Lexeme, name, number, literal}
use Rattle.cilk_check.specs.syntax.declared.operator.BinOp.{BinOp}
use Rattle.cilk_check.specs.syntax.declared.operator.BinOp.TheVariants as ops
use Rattle.cilk_check.specs.syntax.Tree as tree
use Rattle.cilk_check.specs.syntax.Tree.{Word, Expr}
use Rattle.cilk_parse_grammar.specs.Forms.{joined}
use Rattle.cilk_laws.proofs.Made.{EachMade, no_more, one_more}
use Rattle.cilk_laws.proofs.Given.{AtLeastOne}

-- C has `=`, and this operator with `=` behind it (C 1990, 6.3.16)
abbrev pub IsAssigned : Option BinOp → Type 0
IsAssigned None = Unit {0}
IsAssigned (Some ops.Multiply) = Unit {0}
IsAssigned (Some ops.Divide) = Unit {0}
IsAssigned (Some ops.Remainder) = Unit {0}
IsAssigned (Some ops.Add) = Unit {0}
IsAssigned (Some ops.Subtract) = Unit {0}
IsAssigned (Some ops.ShiftLeft) = Unit {0}
IsAssigned (Some ops.ShiftRight) = Unit {0}
IsAssigned (Some ops.BitAnd) = Unit {0}
IsAssigned (Some ops.BitXor) = Unit {0}
IsAssigned (Some ops.BitOr) = Unit {0}
IsAssigned _ = ⊥

-- it holds of each
abbrev pub Each : {A : Type 0} → (A → Type 0) → List A → Type 0
Each R [] = Unit {0}
Each R (x ∷ xs) = R x × Each R xs

-- it holds, where there is one
abbrev pub Where : {A : Type 0} → (A → Type 0) → Option A → Type 0
Where R None = Unit {0}
Where R (Some x) = R x

module _ (good : Lexeme → Type 0) where
  abbrev pub CanWord : Word → Type 0
  CanWord x = good (name x.text)

  abbrev pub CanWords : List Word → Type 0
  CanWords xs = Each (λ x. CanWord x) xs

  abbrev pub CanExpr : Expr → Type 0
  CanExpr (tree.number n) = good (number n)
  CanExpr (tree.named x) = CanWord x
  CanExpr (tree.element x e) = CanWord x × CanExpr e
  CanExpr (tree.synched at) = Unit {0}
  CanExpr (tree.binary o a b) = CanExpr a × CanExpr b
  CanExpr (tree.unary o a) = CanExpr a
  CanExpr (tree.choose c a b) = CanExpr c × CanExpr a × CanExpr b

  abbrev pub CanExprs : List Expr → Type 0
  CanExprs es = Each (λ e. CanExpr e) es

  abbrev pub CanValue : Option Expr → Type 0
  CanValue v = Where (λ e. CanExpr e) v

  abbrev pub CanPlace : tree.Place → Type 0
  CanPlace p = CanWord p.name × CanValue p.index

  abbrev pub CanTarget : tree.Target → Type 0
  CanTarget t = CanPlace t.place × IsAssigned t.op

  abbrev pub CanMove : tree.Move → Type 0
  CanMove (tree.assign target value) = CanTarget target × CanExpr value
  CanMove (tree.adjust place by) = CanPlace place
  CanMove (tree.call target callee arguments) = Where (λ t. CanTarget t) target × CanWord callee × CanExprs arguments

  abbrev pub CanTaker : tree.Taker → Type 0
  CanTaker tree.nothing = Unit {0}
  CanTaker (tree.into target) = CanTarget target
  CanTaker (tree.through inlet others) = CanWord inlet × CanExprs others

  abbrev pub CanShape : tree.Shape → Type 0
  CanShape (tree.variable value) = CanValue value
  CanShape (tree.array n) = good (number n)

  abbrev pub CanDecl : tree.Decl → Type 0
  CanDecl d = CanWord d.name × CanShape d.shape

  -- a number and its sign, which is a mark of its own
  abbrev pub CanInteger : ℤ → Type 0
  CanInteger (pos n) = good (number n)
  CanInteger (negsuc n) = good (number (suc n))

  abbrev mutual
    pub CanStmt : tree.Stmt → Type 0
    CanStmt (tree.move m) = CanMove m
    CanStmt (tree.spawn_at at taker callee arguments) = CanTaker taker × CanWord callee × CanExprs arguments
    CanStmt (tree.print format arguments) = good (literal format.bytes) × CanExprs arguments
    CanStmt (tree.locking action x) = CanWord x
    CanStmt (tree.return_at at value) = CanValue value
    CanStmt (tree.when e b) = CanExpr e × CanBlock b
    CanStmt (tree.either e b o) = CanExpr e × CanBlock b × CanBlock o
    CanStmt (tree.while e b) = CanExpr e × CanBlock b
    CanStmt (tree.repeat b e) = CanBlock b × CanExpr e
    CanStmt (tree.loop first e advance b) = Where (λ m. CanMove m) first × CanExpr e × Where (λ m. CanMove m) advance × CanBlock b
    CanStmt (tree.switch e b) = CanExpr e × CanBlock b
    CanStmt (tree.labelled l) = Where (λ z. CanInteger z) l.value
    CanStmt (tree.nested b) = CanBlock b
    CanStmt s = Unit {0}

    pub CanStmts : tree.Stmts → Type 0
    CanStmts tree.none = Unit {0}
    CanStmts (tree.also s ss) = CanStmt s × CanStmts ss

    pub CanLocal : tree.Local → Type 0
    CanLocal (tree.declared d) = CanDecl d
    CanLocal (tree.inlet_at at x parameters b) = CanWord x × CanWords parameters × CanBlock b

    pub CanLocals : tree.Locals → Type 0
    CanLocals tree.no_locals = Unit {0}
    CanLocals (tree.and_local x xs) = CanLocal x × CanLocals xs

    pub CanBlock : tree.Block → Type 0
    CanBlock (tree.block xs ss) = CanLocals xs × CanStmts ss

  abbrev pub CanParameters : tree.Parameters → Type 0
  CanParameters (tree.ints xs) = CanWords xs
  CanParameters (tree.command_line count strings) = CanWord count × CanWord strings

  abbrev pub CanGlobalShape : tree.GlobalShape → Type 0
  CanGlobalShape (tree.global_variable value) = Where (λ z. CanInteger z) value
  CanGlobalShape (tree.global_array n) = good (number n)

  abbrev pub CanItem : tree.Item → Type 0
  CanItem (tree.global g) = CanWord g.name × CanGlobalShape g.shape
  CanItem (tree.lock x) = CanWord x
  CanItem (tree.prototype p) = CanWord p.name
  CanItem (tree.procedure p) = CanWord p.name × CanParameters p.parameters × CanBlock p.body

  abbrev pub CanItems : List tree.Item → Type 0
  CanItems is = Each (λ i. CanItem i) is

-- ---- lists

pub each_can : {A : Type 0} {R : A → Type 0} (xs : List A) → EachMade R xs → Each R xs
each_can xs no_more = tt
each_can xs (one_more {xs = ys} h t) = (h, each_can ys t)

pub some_can : {A : Type 0} (R : A → Type 0) (xs : List A) → AtLeastOne R xs → Each R xs
some_can R [] h = elim h [ ]
some_can R (x ∷ xs) h = (h.0, each_can xs h.1)

pub can_append : {A : Type 0} (R : A → Type 0) (xs ys : List A) → Each R xs → Each R ys → Each R (xs ++ ys)
can_append R [] ys h k = k
can_append R (x ∷ xs) ys h k = (h.0, can_append R xs ys h.1 k)

pub can_joined : {A : Type 0} (R : A → Type 0) (xss : List (List A)) → EachMade (λ xs. Each R xs) xss → Each R (joined xss)
can_joined R xss no_more = tt
can_joined R xss (one_more {x = xs} {xs = yss} h t) = can_append R xs (joined yss) h (can_joined R yss t)
