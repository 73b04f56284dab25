-- Operators as numbers, one to one, which the logic stores.
use Rattle.std.specs.Prelude.{◌≡◌, refl, ℕ, zero, suc}
use base.Stored.{Gv, gnum}
use Rattle.cilk_tree_syntax.specs.declared.operator.BinOp.{BinOp}
use Rattle.cilk_tree_syntax.specs.declared.operator.BinOp.TheVariants.{Multiply, Divide, Remainder, Add, Subtract, ShiftLeft, ShiftRight, Less}
use Rattle.cilk_tree_syntax.specs.declared.operator.BinOp.TheVariants.{LessOrEqual, Greater, GreaterOrEqual, Equal, NotEqual, BitAnd, BitXor, BitOr}
use Rattle.cilk_tree_syntax.specs.declared.operator.BinOp.TheVariants.{And, Or}
use Rattle.cilk_tree_syntax.specs.declared.un_op.UnOp.{UnOp}
use Rattle.cilk_tree_syntax.specs.declared.un_op.UnOp.TheVariants.{Minus, Plus, Not, Complement}

abbrev pub operator_to : BinOp → Gv
operator_to Multiply = gnum 0
operator_to Divide = gnum 1
operator_to Remainder = gnum 2
operator_to Add = gnum 3
operator_to Subtract = gnum 4
operator_to ShiftLeft = gnum 5
operator_to ShiftRight = gnum 6
operator_to Less = gnum 7
operator_to LessOrEqual = gnum 8
operator_to Greater = gnum 9
operator_to GreaterOrEqual = gnum 10
operator_to Equal = gnum 11
operator_to NotEqual = gnum 12
operator_to BitAnd = gnum 13
operator_to BitXor = gnum 14
operator_to BitOr = gnum 15
operator_to And = gnum 16
operator_to Or = gnum 17

abbrev operator_at : ℕ → BinOp
operator_at zero = Multiply
operator_at (suc zero) = Divide
operator_at (suc (suc zero)) = Remainder
operator_at (suc (suc (suc zero))) = Add
operator_at (suc (suc (suc (suc zero)))) = Subtract
operator_at (suc (suc (suc (suc (suc zero))))) = ShiftLeft
operator_at (suc (suc (suc (suc (suc (suc zero)))))) = ShiftRight
operator_at (suc (suc (suc (suc (suc (suc (suc zero))))))) = Less
operator_at (suc (suc (suc (suc (suc (suc (suc (suc zero)))))))) = LessOrEqual
operator_at (suc (suc (suc (suc (suc (suc (suc (suc (suc zero))))))))) = Greater
operator_at (suc (suc (suc (suc (suc (suc (suc (suc (suc (suc zero)))))))))) = GreaterOrEqual
operator_at (suc (suc (suc (suc (suc (suc (suc (suc (suc (suc (suc zero))))))))))) = Equal
operator_at (suc (suc (suc (suc (suc (suc (suc (suc (suc (suc (suc (suc zero)))))))))))) = NotEqual
operator_at (suc (suc (suc (suc (suc (suc (suc (suc (suc (suc (suc (suc (suc zero))))))))))))) = BitAnd
operator_at (suc (suc (suc (suc (suc (suc (suc (suc (suc (suc (suc (suc (suc (suc zero)))))))))))))) = BitXor
operator_at (suc (suc (suc (suc (suc (suc (suc (suc (suc (suc (suc (suc (suc (suc (suc zero))))))))))))))) = BitOr
operator_at (suc (suc (suc (suc (suc (suc (suc (suc (suc (suc (suc (suc (suc (suc (suc (suc zero)))))))))))))))) = And
operator_at _ = Or

abbrev pub operator_from : Gv → BinOp
operator_from (gnum n) = operator_at n
operator_from _ = Or

pub operator_back : (op : BinOp) → operator_from (operator_to op) ≡ op
operator_back Multiply = refl
operator_back Divide = refl
operator_back Remainder = refl
operator_back Add = refl
operator_back Subtract = refl
operator_back ShiftLeft = refl
operator_back ShiftRight = refl
operator_back Less = refl
operator_back LessOrEqual = refl
operator_back Greater = refl
operator_back GreaterOrEqual = refl
operator_back Equal = refl
operator_back NotEqual = refl
operator_back BitAnd = refl
operator_back BitXor = refl
operator_back BitOr = refl
operator_back And = refl
operator_back Or = refl

abbrev pub sign_to : UnOp → Gv
sign_to Minus = gnum 0
sign_to Plus = gnum 1
sign_to Not = gnum 2
sign_to Complement = gnum 3

abbrev sign_at : ℕ → UnOp
sign_at zero = Minus
sign_at (suc zero) = Plus
sign_at (suc (suc zero)) = Not
sign_at _ = Complement

abbrev pub sign_from : Gv → UnOp
sign_from (gnum n) = sign_at n
sign_from _ = Complement

pub sign_back : (op : UnOp) → sign_from (sign_to op) ≡ op
sign_back Minus = refl
sign_back Plus = refl
sign_back Not = refl
sign_back Complement = refl
