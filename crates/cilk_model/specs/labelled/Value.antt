-- The value of an expression: a number, or the first trap from the left (C 1990, 6.3).
use Rattle.std.specs.Prelude.{ℕ, ℤ, pos, negsuc, Bool, if◌then◌else◌, nat_lt, List, [], ◌∷◌, Option, Some, None, Result, Ok, Err}
use Rattle.cilk_check_scopes.specs.syntax.declared.operator.BinOp.{BinOp}
use Rattle.cilk_check_scopes.specs.syntax.declared.operator.BinOp.TheVariants.{And, Or}
use Rattle.cilk_model.specs.declared.trap.Trap.{Trap}
use Rattle.cilk_model.specs.declared.trap.Trap.TheVariants.{Index}
use Rattle.cilk_model.specs.labelled.Arithmetic.{exact, truth, is_zero, binary_result, unary_result}
use Rattle.cilk_model.specs.labelled.Term.{Term, number, variable, element, synched, unary, binary, choose}

-- what the places hold: the value of a variable, the length of an array and its cells; and whether the instance has nothing to wait for (Cilk 5.4, `SYNCHED`)
pub record Environment (P : Type 0) : Type 0 where
  pub value : P → ℤ
  pub length : P → ℕ
  pub cell : P → ℕ → ℤ
  pub synched : Bool

-- what comes first, and then what is made of its value: the first trap ends the evaluation
infixl 10 ◌>>=◌
abbrev pub ◌>>=◌ : {A B : Type 0} → Result A Trap → (A → Result B Trap) → Result B Trap
(Ok x) >>= f = f x
(Err e) >>= f = Err e

-- element k of an array, which is numbered from 0 (C 1990, 6.3.2.1)
abbrev pub element_at : {P : Type 0} → Environment P → P → ℤ → Result ℤ Trap
element_at env p (pos k) = if nat_lt k (env.length p) then Ok (env.cell p k) else Err Index
element_at env p (negsuc k) = Err Index

-- the value that the left operand alone settles: 0 of `0 && ..`, 1 of `n || ..` where n is not 0 (C 1990, 6.3.13, 6.3.14)
abbrev pub settled_by_left : BinOp → ℤ → Option ℤ
settled_by_left And a = if is_zero a then Some (pos 0) else None
settled_by_left Or a = if is_zero a then None else Some (pos 1)
settled_by_left _ a = None

-- the value so settled, or else that of both operands, the right one's being r
abbrev pub joined : BinOp → ℤ → Result ℤ Trap → Option ℤ → Result ℤ Trap
joined op a r (Some z) = Ok z
joined op a r None = r >>= binary_result op a

-- operands from left to right, and of `test ? first : second` only the one that the test picks (C 1990, 6.3.1 to 6.3.15)
abbrev pub value_of : {P : Type 0} → Environment P → Term P → Result ℤ Trap
value_of env (number n) = exact (pos n)
value_of env (variable p) = Ok (env.value p)
value_of env (element p t) = value_of env t >>= element_at env p
value_of env synched = Ok (truth env.synched)
value_of env (unary op t) = value_of env t >>= unary_result op
value_of env (binary op a b) = value_of env a >>= λ z. joined op z (value_of env b) (settled_by_left op z)
value_of env (choose t a b) = value_of env t >>= λ z. if is_zero z then value_of env b else value_of env a

-- the environment at places of another kind, each p of which stands for the place f p
abbrev pub seen_through : {P Q : Type 0} → (P → Q) → Environment Q → Environment P
seen_through f env = record {
  value = λ p. env.value (f p);
  length = λ p. env.length (f p);
  cell = λ p. env.cell (f p);
  synched = env.synched;
}

-- what expressions are, from left to right (C 1990, 6.3.2.2)
abbrev pub values_of : {P : Type 0} → Environment P → List (Term P) → Result (List ℤ) Trap
values_of env [] = Ok []
values_of env (first ∷ others) = value_of env first >>= λ z. values_of env others >>= λ zs. Ok (z ∷ zs)
