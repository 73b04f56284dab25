-- The labelled program: a declaration in place of each use of a name, and a number at each action.
use Rattle.std.specs.Prelude.{ℕ, ℤ, List, Option}
use Rattle.cilk_check_scopes.specs.syntax.declared.operator.BinOp.{BinOp}
use Rattle.cilk_check_scopes.specs.syntax.declared.lock_action.LockAction.{LockAction}
use Rattle.cilk_check_scopes.specs.declared.owner.Owner.{Owner}
use Rattle.cilk_model.specs.labelled.Term.{Term}

-- what a name means (C 1990, 6.1.2.1), by its number among those of its kind, from 0 on
pub data Declaration : Type 0 where
  -- a variable of the activation
  local : (n : ℕ) → Declaration
  -- a variable of the procedure, seen from its inlet (Cilk 5.4 manual, `inlet`)
  outer : (n : ℕ) → Declaration
  -- a variable of the top level
  global : (n : ℕ) → Declaration
  -- a lock (Cilk 5.4 manual, locks)
  of_lock : (n : ℕ) → Declaration
  -- the body of a function, procedure or inlet
  of_body : (n : ℕ) → Declaration
  -- no declaration is visible, or one that no expression may use
  unknown : Declaration

-- a variable, or an element of an array (C 1990, 6.3.2.1)
pub data Target : Type 0 where
  variable : (place : Declaration) → Target
  element : (place : Declaration) (subscript : Term Declaration) → Target

-- what is written to, and the operator before the `=`, if there is one (C 1990, 6.3.16)
pub record Into : Type 0 where
  pub op : Option BinOp
  pub target : Target

-- what takes the value of a child (Cilk 5.4 manual, `spawn`, `inlet`)
pub data Taker : Type 0 where
  nothing : Taker
  -- an implicit inlet, as in `x = spawn f();` and `x += spawn f();`
  into : (place : Into) → Taker
  -- an inlet, and what it is given behind the value
  through : (inlet : ℕ) (others : List (Term Declaration)) → Taker

-- what an action does
pub data Action : Type 0 where
  -- an assignment; an initialiser is one each time that it is reached; `x++` is `x += 1` (C 1990, 6.3.16, 6.5.7, 6.3.2.4)
  assign : (place : Into) (value : Term Declaration) → Action
  -- of a C function, and what takes its value, if anything does (C 1990, 6.3.2.2)
  call : (place : Option Into) (callee : ℕ) (arguments : List (Term Declaration)) → Action
  -- of a child (Cilk 5.4 manual, `spawn`)
  spawn : (taker : Taker) (callee : ℕ) (arguments : List (Term Declaration)) → Action
  -- C 1990, 7.9.6.3
  print : (format : List ℕ) (arguments : List (Term Declaration)) → Action
  -- Cilk 5.4 manual, locks
  locking : (what : LockAction) (lock : ℕ) → Action
  -- C 1990, 6.6.3
  null : Action
  -- C 1990, 6.6.6.3, 6.6.6.2
  break_off : Action
  go_round : Action
  -- of `if`, `switch`, `while`, `do` and `for` (C 1990, 6.6.4, 6.6.5)
  tests : (value : Term Declaration) → Action
  -- Cilk 5.4 manual, `sync`, `abort`
  sync : Action
  abort : Action
  -- C 1990, 6.6.6.4
  return_with : (value : Term Declaration) → Action
  return_nothing : Action
  -- the closing brace of a body
  close : Action

-- an action and its number
pub record Numbered : Type 0 where
  pub number : ℕ
  pub act : Action

mutual
  -- a statement (C 1990, 6.6), whose tests are actions
  pub data Stmt : Type 0 where
    action : (what : Numbered) → Stmt
    -- an `if` without an `else` has no statement behind it
    choose : (test : Numbered) (body other : Stmts) → Stmt
    while : (test : Numbered) (body : Stmts) → Stmt
    repeat : (body : Stmts) (test : Numbered) → Stmt
    loop : (first : Option Numbered) (test : Numbered) (advance : Option Numbered) (body : Stmts) → Stmt
    -- a `switch`, in whose body labels stand (C 1990, 6.6.4.2)
    select : (test : Numbered) (body : Stmts) → Stmt
    -- a label of what follows it: the value of a `case`, or none for `default` (C 1990, 6.6.1)
    at_label : (value : Option ℤ) → Stmt
    nested : (inside : Stmts) → Stmt

  -- statements in order
  pub data Stmts : Type 0 where
    none : Stmts
    also : (first : Stmt) (others : Stmts) → Stmts

-- an `int` variable: 0 as the length of one that is no array, and what its cells hold at first
pub record Variable : Type 0 where
  pub name : List ℕ
  pub length : ℕ
  pub initial : ℤ

pub record Body : Type 0 where
  pub name : List ℕ
  pub owner : Owner
  -- how many parameters it has, which come first among its variables
  pub parameters : ℕ
  -- those of its inner blocks too, in the order of the text
  pub variables : List Variable
  pub stmts : Stmts
  -- the number of its closing brace
  pub closing : ℕ

pub record Labelled : Type 0 where
  -- an inlet's body stands behind that of its procedure; each list is in the order of the text
  pub bodies : List Body
  pub globals : List Variable
  pub locks : List (List ℕ)
  -- the place of `main` among the bodies
  pub main : Option ℕ
  -- the line of each action in the canonical text, in the order of their numbers
  pub lines : List ℕ
