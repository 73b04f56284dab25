-- How C writes an increment and a decrement, and what they do (C 1990, 6.1.5, 6.3.2.4, 6.3.3.1).
use Rattle.std.specs.Prelude.{ℕ, List, codes}
use Rattle.cilk_tree_syntax.specs.declared.adjustment.Adjustment.{Adjustment}
use Rattle.cilk_tree_syntax.specs.declared.adjustment.Adjustment.TheVariants.{Increment, Decrement}
use Rattle.cilk_tree_syntax.specs.declared.operator.BinOp.{BinOp}
use Rattle.cilk_tree_syntax.specs.declared.operator.BinOp.TheVariants.{Add, Subtract}

abbrev pub adjustment_mark : Adjustment → List ℕ
adjustment_mark Increment = codes "++"
adjustment_mark Decrement = codes "--"

-- the operator between the old value and 1
abbrev pub operator_of : Adjustment → BinOp
operator_of Increment = Add
operator_of Decrement = Subtract
