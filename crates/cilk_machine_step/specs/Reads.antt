-- Which cells an expression reads, as far as it is evaluated (C 1990, 6.3).
use Rattle.std.specs.Prelude.{ℕ, ℤ, pos, negsuc, if◌then◌else◌, nat_lt, is_some, List, [], ◌∷◌, ◌++◌, Result, Ok, Err}
use Rattle.cilk_machine_plan.specs.syntax.declared.operator.BinOp.{BinOp}
use Rattle.cilk_machine_plan.specs.model.declared.trap.Trap.{Trap}
use Rattle.cilk_machine_plan.specs.labelled.Arithmetic.{is_zero}
use Rattle.cilk_machine_plan.specs.labelled.Term.{Term, number, variable, element, synched, unary, binary, choose}
use Rattle.cilk_machine_plan.specs.labelled.Value.{Environment, value_of, settled_by_left}

-- cell k of a place, or whether the instance has nothing to wait for (Cilk 5.4 manual, `SYNCHED`)
pub data Read (P : Type 0) : Type 0 where
  cell : (place : P) (k : ℕ) → Read P
  whether : Read P

-- an element that the array has
abbrev pub element_reads : {P : Type 0} → Environment P → P → Result ℤ Trap → List (Read P)
element_reads env p (Ok (pos k)) = if nat_lt k (env.length p) then cell p k ∷ [] else []
element_reads env p (Ok (negsuc k)) = []
element_reads env p (Err trap) = []

-- the right operand is evaluated only where the left one has a value that does not settle it (C 1990, 6.3.13, 6.3.14)
abbrev pub right_reads : {P : Type 0} → BinOp → Result ℤ Trap → List (Read P) → List (Read P)
right_reads op (Ok z) reads = if is_some (settled_by_left op z) then [] else reads
right_reads op (Err trap) reads = []

abbrev pub picked_reads : {P : Type 0} → Result ℤ Trap → List (Read P) → List (Read P) → List (Read P)
picked_reads (Ok z) first second = if is_zero z then second else first
picked_reads (Err trap) first second = []

abbrev pub reads_in : {P : Type 0} → Environment P → Term P → List (Read P)
reads_in env (number n) = []
reads_in env (variable p) = cell p 0 ∷ []
reads_in env (element p t) = reads_in env t ++ element_reads env p (value_of env t)
reads_in env synched = whether ∷ []
reads_in env (unary op t) = reads_in env t
reads_in env (binary op a b) = reads_in env a ++ right_reads op (value_of env a) (reads_in env b)
reads_in env (choose t a b) = reads_in env t ++ picked_reads (value_of env t) (reads_in env a) (reads_in env b)

abbrev pub behind : {P : Type 0} → Result ℤ Trap → List (Read P) → List (Read P)
behind (Ok z) reads = reads
behind (Err trap) reads = []

-- from left to right, up to the first trap
abbrev pub reads_in_all : {P : Type 0} → Environment P → List (Term P) → List (Read P)
reads_in_all env [] = []
reads_in_all env (t ∷ ts) = reads_in env t ++ behind (value_of env t) (reads_in_all env ts)
