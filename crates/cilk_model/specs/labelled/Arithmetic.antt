-- The operators on the integers of the language: what they give over the whole numbers, and when they trap.
use Rattle.std.specs.Prelude.{◌^◌, ℤ, pos, negsuc, ◌+ℤ◌, ◌-ℤ◌, ◌*ℤ◌, neg_ℤ, Bool, true, false, not, ◌&&◌, ◌||◌, if◌then◌else◌, int_lt, int_le}
use Rattle.std.specs.Prelude.{int_div, int_rem, unsigned_abs, Result, Ok, Err}
use Rattle.std.specs.Int.{w32, int_div_euclid, int_bit_and, int_bit_or, int_bit_xor, int_bit_not}
use Rattle.std.specs.Ordering.{int_eq}
use Rattle.cilk_check_scopes.specs.syntax.declared.operator.BinOp.{BinOp}
use Rattle.cilk_check_scopes.specs.syntax.declared.operator.BinOp.TheVariants.{Multiply, Divide, Remainder, Add, Subtract, ShiftLeft, ShiftRight}
use Rattle.cilk_check_scopes.specs.syntax.declared.operator.BinOp.TheVariants.{Less, LessOrEqual, Greater, GreaterOrEqual, Equal, NotEqual, BitAnd}
use Rattle.cilk_check_scopes.specs.syntax.declared.operator.BinOp.TheVariants.{BitXor, BitOr, And, Or}
use Rattle.cilk_check_scopes.specs.syntax.declared.un_op.UnOp.{UnOp}
use Rattle.cilk_check_scopes.specs.syntax.declared.un_op.UnOp.TheVariants.{Minus, Plus, Not, Complement}
use Rattle.cilk_model.specs.declared.trap.Trap.{Trap}
use Rattle.cilk_model.specs.declared.trap.Trap.TheVariants.{Overflow, ZeroDivide, Shift}

-- an `int` holds the number: it lies from -2147483648 to 2147483647, `negsuc n` being -(n + 1) (C 1990, 5.2.4.2.1, 6.1.2.5)
abbrev pub fits : ℤ → Bool
fits z = int_le (negsuc 2147483647) z && int_le z (pos 2147483647)

-- the exact result, if an `int` holds it (C 1990, 6.2.1, 6.3)
abbrev pub exact : ℤ → Result ℤ Trap
exact z = if fits z then Ok z else Err Overflow

-- `z == 0`
abbrev pub is_zero : ℤ → Bool
is_zero z = int_eq z (pos 0)

-- what a test gives: 1 where it holds, else 0 (C 1990, 6.3.8)
abbrev pub truth : Bool → ℤ
truth true = pos 1
truth false = pos 0

-- the exact quotient without its fraction: `int_div` truncates toward zero (C 1990, 6.3.5)
abbrev pub quotient : ℤ → ℤ → Result ℤ Trap
quotient a b = if is_zero b then Err ZeroDivide else exact (int_div a b)

-- what that quotient leaves of a, `int_div a b * b + int_rem a b` being a, if an `int` holds the quotient (C 1990, 6.3.5)
abbrev pub remainder : ℤ → ℤ → Result ℤ Trap
remainder a b = if is_zero b then Err ZeroDivide else (if fits (int_div a b) then Ok (int_rem a b) else Err Overflow)

-- a shift's count: it lies from 0 to 31, as an `int` has 32 bits (C 1990, 6.3.7)
abbrev pub is_count : ℤ → Bool
is_count k = int_le (pos 0) k && int_lt k (pos 32)

-- 2 to the power of a count
abbrev pub power : ℤ → ℤ
power k = pos (2 ^ unsigned_abs k)

-- a times 2 to the power k, where a is not negative (C 1990, 6.3.7)
abbrev pub shifted_left : ℤ → ℤ → Result ℤ Trap
shifted_left a k = if is_count k && int_le (pos 0) a then exact (a *ℤ power k) else Err Shift

-- a divided by 2 to the power k, rounded down: `int_div_euclid` rounds down, the divisor being positive (C 1990, 6.3.7)
abbrev pub shifted_right : ℤ → ℤ → Result ℤ Trap
shifted_right a k = if is_count k then Ok (int_div_euclid a (power k)) else Err Shift

-- an operator between two operands
abbrev pub binary_result : BinOp → ℤ → ℤ → Result ℤ Trap
-- C 1990, 6.3.5
binary_result Multiply a b = exact (a *ℤ b)
binary_result Divide a b = quotient a b
binary_result Remainder a b = remainder a b
-- C 1990, 6.3.6
binary_result Add a b = exact (a +ℤ b)
binary_result Subtract a b = exact (a -ℤ b)
-- C 1990, 6.3.7
binary_result ShiftLeft a b = shifted_left a b
binary_result ShiftRight a b = shifted_right a b
-- C 1990, 6.3.8 and 6.3.9
binary_result Less a b = Ok (truth (int_lt a b))
binary_result LessOrEqual a b = Ok (truth (int_le a b))
binary_result Greater a b = Ok (truth (int_lt b a))
binary_result GreaterOrEqual a b = Ok (truth (int_le b a))
binary_result Equal a b = Ok (truth (int_eq a b))
binary_result NotEqual a b = Ok (truth (not (int_eq a b)))
-- C 1990, 6.3.10 to 6.3.12, bit by bit in two's complement of 32 bits
binary_result BitAnd a b = Ok (int_bit_and w32 a b)
binary_result BitXor a b = Ok (int_bit_xor w32 a b)
binary_result BitOr a b = Ok (int_bit_or w32 a b)
-- C 1990, 6.3.13 and 6.3.14, of operands that are both evaluated
binary_result And a b = Ok (truth (not (is_zero a) && not (is_zero b)))
binary_result Or a b = Ok (truth (not (is_zero a) || not (is_zero b)))

-- an operator before its operand (C 1990, 6.3.3.3); `~` turns over each bit of two's complement
abbrev pub unary_result : UnOp → ℤ → Result ℤ Trap
unary_result Minus a = exact (neg_ℤ a)
unary_result Plus a = Ok a
unary_result Not a = Ok (truth (is_zero a))
unary_result Complement a = Ok (int_bit_not w32 a)
