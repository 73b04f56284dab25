-- Expressions whose variables are places of any kind P, as declarations of the text or slots in memory (C 1990, 6.3).
use Rattle.std.specs.Prelude.{ℕ}
use Rattle.cilk_check_scopes.specs.syntax.declared.operator.BinOp.{BinOp}
use Rattle.cilk_check_scopes.specs.syntax.declared.un_op.UnOp.{UnOp}

pub data Term (P : Type 0) : Type 0 where
  number : (n : ℕ) → Term P
  variable : (place : P) → Term P
  element : (place : P) (subscript : Term P) → Term P
  synched : Term P
  unary : (op : UnOp) (operand : Term P) → Term P
  binary : (op : BinOp) (left right : Term P) → Term P
  choose : (test first second : Term P) → Term P

-- the expression with the place f p for each place p
abbrev pub rename : {P Q : Type 0} → (P → Q) → Term P → Term Q
rename f (number n) = number n
rename f (variable p) = variable (f p)
rename f (element p t) = element (f p) (rename f t)
rename f synched = synched
rename f (unary op t) = unary op (rename f t)
rename f (binary op a b) = binary op (rename f a) (rename f b)
rename f (choose t a b) = choose (rename f t) (rename f a) (rename f b)
