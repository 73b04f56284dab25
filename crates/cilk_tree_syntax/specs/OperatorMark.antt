-- How C writes each operator (C 1990, 6.1.5).
use Rattle.std.specs.Prelude.{ℕ, List, codes}
use Rattle.cilk_tree_syntax.specs.declared.operator.BinOp.{BinOp}
use Rattle.cilk_tree_syntax.specs.declared.operator.BinOp.TheVariants.{Multiply, Divide, Remainder, Add, Subtract, ShiftLeft, ShiftRight, Less}
use Rattle.cilk_tree_syntax.specs.declared.operator.BinOp.TheVariants.{LessOrEqual, Greater, GreaterOrEqual, Equal, NotEqual, BitAnd, BitXor, BitOr}
use Rattle.cilk_tree_syntax.specs.declared.operator.BinOp.TheVariants.{And, Or}
use Rattle.cilk_tree_syntax.specs.declared.un_op.UnOp.{UnOp}
use Rattle.cilk_tree_syntax.specs.declared.un_op.UnOp.TheVariants.{Minus, Plus, Not, Complement}

abbrev pub mark_of : BinOp → List ℕ
mark_of Multiply = codes "*"
mark_of Divide = codes "/"
mark_of Remainder = codes "%"
mark_of Add = codes "+"
mark_of Subtract = codes "-"
mark_of ShiftLeft = codes "<<"
mark_of ShiftRight = codes ">>"
mark_of Less = codes "<"
mark_of LessOrEqual = codes "<="
mark_of Greater = codes ">"
mark_of GreaterOrEqual = codes ">="
mark_of Equal = codes "=="
mark_of NotEqual = codes "!="
mark_of BitAnd = codes "&"
mark_of BitXor = codes "^"
mark_of BitOr = codes "|"
mark_of And = codes "&&"
mark_of Or = codes "||"

abbrev pub sign_of : UnOp → List ℕ
sign_of Minus = codes "-"
sign_of Plus = codes "+"
sign_of Not = codes "!"
sign_of Complement = codes "~"
