-- The syntax tree of a program: what it says, without where it lies in memory. Words keep the places of their first
-- bytes, which the checks tell; two trees that differ in places alone say the same.
use Rattle.std.specs.Prelude.{ℕ, ℤ, List, [], ◌∷◌, Bool, Option}
use Rattle.cilk_lex_tokens.specs.declared.header.Header.{Header}
use Rattle.cilk_tree_syntax.specs.declared.adjustment.Adjustment.{Adjustment}
use Rattle.cilk_tree_syntax.specs.declared.lock_action.LockAction.{LockAction}
use Rattle.cilk_tree_syntax.specs.declared.operator.BinOp.{BinOp}
use Rattle.cilk_tree_syntax.specs.declared.return_type.ReturnType.{ReturnType}
use Rattle.cilk_tree_syntax.specs.declared.un_op.UnOp.{UnOp}

-- a name of the text, and the place of its first byte
pub record Word : Type 0 where
  pub text : List ℕ
  pub place : ℕ

-- what a text literal says, and the place of its opening quote (C 1990, 6.1.4)
pub record Literal : Type 0 where
  pub bytes : List ℕ
  pub place : ℕ

-- an expression (C 1990, 6.3)
pub data Expr : Type 0 where
  number : (n : ℕ) → Expr
  named : (name : Word) → Expr
  -- an element of an array (C 1990, 6.3.2.1)
  element : (name : Word) (index : Expr) → Expr
  -- the place of the word `SYNCHED` (Cilk 5.4 manual, `SYNCHED`)
  synched : (at : ℕ) → Expr
  binary : (op : BinOp) (left right : Expr) → Expr
  unary : (op : UnOp) (operand : Expr) → Expr
  choose : (test first second : Expr) → Expr

-- a variable, or an element of an array (C 1990, 6.3.2.1)
pub record Place : Type 0 where
  pub name : Word
  pub index : Option Expr

-- what an assignment writes to, and the operator that C writes before its `=`, if there is one (C 1990, 6.3.16)
pub record Target : Type 0 where
  pub place : Place
  pub op : Option BinOp

-- one of the statements that a `for` may have in its header (C 1990, 6.6.5.3)
pub data Move : Type 0 where
  assign : (target : Target) (value : Expr) → Move
  -- `++` or `--`, before or behind the place (C 1990, 6.3.2.4, 6.3.3.1)
  adjust : (place : Place) (by : Adjustment) → Move
  -- a call of a C function, and what takes its value, if anything does (C 1990, 6.3.2.2)
  call : (target : Option Target) (callee : Word) (arguments : List Expr) → Move

-- what takes the value of a child (Cilk 5.4 manual, `spawn`, `inlet`)
pub data Taker : Type 0 where
  -- nothing does
  nothing : Taker
  -- an implicit inlet
  into : (target : Target) → Taker
  -- an inlet, and what it is given behind the value
  through : (inlet : Word) (others : List Expr) → Taker

-- an `int` variable and its initialiser, if there is one, or an array of a length (C 1990, 6.5.4.2, 6.5.7)
pub data Shape : Type 0 where
  variable : (value : Option Expr) → Shape
  array : (length : ℕ) → Shape

pub record Decl : Type 0 where
  pub name : Word
  pub shape : Shape

-- a label of a `switch`: the value of a `case`, or none for `default`, and the place of that word (C 1990, 6.6.1)
pub record Label : Type 0 where
  pub at : ℕ
  pub value : Option ℤ

mutual
  -- a statement (C 1990, 6.6; Cilk 5.4 manual). A number `at` is the place of its word.
  pub data Stmt : Type 0 where
    move : (what : Move) → Stmt
    spawn_at : (at : ℕ) (taker : Taker) (callee : Word) (arguments : List Expr) → Stmt
    -- `printf` (C 1990, 7.9.6.3)
    print : (format : Literal) (arguments : List Expr) → Stmt
    -- one of the three calls of a lock (Cilk 5.4 manual, locks)
    locking : (action : LockAction) (name : Word) → Stmt
    -- a semicolon alone (C 1990, 6.6.3)
    null : Stmt
    sync_at : (at : ℕ) → Stmt
    abort_at : (at : ℕ) → Stmt
    break_at : (at : ℕ) → Stmt
    continue_at : (at : ℕ) → Stmt
    return_at : (at : ℕ) (value : Option Expr) → Stmt
    -- `if` without and with an `else` (C 1990, 6.6.4.1)
    when : (test : Expr) (body : Block) → Stmt
    either : (test : Expr) (body other : Block) → Stmt
    while : (test : Expr) (body : Block) → Stmt
    -- `do` (C 1990, 6.6.5.2)
    repeat : (body : Block) (test : Expr) → Stmt
    -- `for`: what comes first, the test, and what each round ends with (C 1990, 6.6.5.3)
    loop : (first : Option Move) (test : Expr) (advance : Option Move) (body : Block) → Stmt
    -- `switch`, in whose body labels stand between the statements (C 1990, 6.6.4.2)
    switch : (test : Expr) (body : Block) → Stmt
    -- a label of what follows it in the body of a `switch` (C 1990, 6.6.1)
    labelled : (label : Label) → Stmt
    -- a block that is no body of another statement
    nested : (inside : Block) → Stmt

  -- statements in order
  pub data Stmts : Type 0 where
    none : Stmts
    also : (first : Stmt) (others : Stmts) → Stmts

  -- what is declared at the head of a block: a variable or array, or an inlet, with the place of the word `inlet`
  -- (C 1990, 6.6.2; Cilk 5.4 manual, `inlet`)
  pub data Local : Type 0 where
    declared : (decl : Decl) → Local
    inlet_at : (at : ℕ) (name : Word) (parameters : List Word) (body : Block) → Local

  -- these in order
  pub data Locals : Type 0 where
    no_locals : Locals
    and_local : (first : Local) (others : Locals) → Locals

  pub data Block : Type 0 where
    block : (locals : Locals) (stmts : Stmts) → Block

-- the `int` parameters, or the two of the form of `main` that is told of the command line (C 1990, 5.1.2.2.1)
pub data Parameters : Type 0 where
  ints : (names : List Word) → Parameters
  command_line : (count strings : Word) → Parameters

-- a definition of a C function or of a Cilk procedure (C 1990, 6.7.1; Cilk 5.4 manual, `cilk`)
pub record Proc : Type 0 where
  pub is_cilk : Bool
  pub returns : ReturnType
  pub name : Word
  pub parameters : Parameters
  pub body : Block

-- a declaration of one, with how many parameters it has (C 1990, 6.5.4.3)
pub record Prototype : Type 0 where
  pub is_cilk : Bool
  pub returns : ReturnType
  pub name : Word
  pub count : ℕ

-- an `int` variable of the top level and the number that it starts with, if one is written, or an array (C 1990, 6.7.2)
pub data GlobalShape : Type 0 where
  global_variable : (value : Option ℤ) → GlobalShape
  global_array : (length : ℕ) → GlobalShape

pub record Global : Type 0 where
  pub name : Word
  pub shape : GlobalShape

-- what stands at the top level (C 1990, 6.7)
pub data Item : Type 0 where
  global : (definition : Global) → Item
  lock : (name : Word) → Item
  prototype : (declaration : Prototype) → Item
  procedure : (definition : Proc) → Item

-- the headers that are included and the items, in order, and the length of the text in bytes
pub record Program : Type 0 where
  pub headers : List Header
  pub items : List Item
  pub length : ℕ

-- what is read one after another, as the tree has it
abbrev pub stmts_of : List Stmt → Stmts
stmts_of [] = none
stmts_of (first ∷ others) = also first (stmts_of others)

abbrev pub locals_of : List Local → Locals
locals_of [] = no_locals
locals_of (first ∷ others) = and_local first (locals_of others)
