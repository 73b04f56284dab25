-- The value of an expression in two environments, and under other names for its places.
use Rattle.std.proofs.Common.{◌≡◌, ℕ, ℤ, pos, negsuc, Bool, true, false, cond, nat_lt, Ok, Err, Result, refl, ap, ◌∙◌}
use Rattle.cilk_model.specs.declared.trap.Trap.{Trap}
use Rattle.cilk_model.specs.declared.trap.Trap.TheVariants.{Index}
use borrow.Author.Tests.{ltb-true}
use Rattle.cilk_model.specs.labelled.Arithmetic.{truth, is_zero, unary_result}
use Rattle.cilk_model.specs.labelled.Term.{Term, number, variable, element, synched, unary, binary, choose, rename}
use Rattle.cilk_model.specs.labelled.Value.{Environment, ◌>>=◌, element_at, settled_by_left, joined, value_of, seen_through}
use Rattle.cilk_load_nodes.specs.Reads.{SameArray, ReadsSame}

-- an expression under other names for its places has the value that it has where those names are seen through
pub value_of-rename : {P Q : Type 0} (f : P → Q) (env : Environment Q) (t : Term P) → value_of env (rename f t) ≡ value_of (seen_through f env) t
value_of-rename f env (number n) = refl
value_of-rename f env (variable p) = refl
value_of-rename f env (element p t) = ap (λ r. r >>= element_at env (f p)) (value_of-rename f env t)
value_of-rename f env synched = refl
value_of-rename f env (unary op t) = ap (λ r. r >>= unary_result op) (value_of-rename f env t)
value_of-rename f env (binary op a b) =
    λ i. value_of-rename f env a i >>= λ z. joined op z (value_of-rename f env b i) (settled_by_left op z)
value_of-rename f env (choose t a b) =
    λ i. value_of-rename f env t i >>= λ z. cond (is_zero z) (value_of-rename f env b i) (value_of-rename f env a i)

cell-same : {P : Type 0} (env other : Environment P) (p : P) (k : ℕ) (inside : Bool) → nat_lt k (env.length p) ≡ inside
    → SameArray env other p
    → cond {A = Result ℤ Trap} inside (Ok (env.cell p k)) (Err Index) ≡ cond inside (Ok (other.cell p k)) (Err Index)
cell-same env other p k true inside h = ap Ok (h.cells k (ltb-true k (env.length p) inside))
cell-same env other p k false inside h = refl

element_at-same : {P : Type 0} (env other : Environment P) (p : P) (k : ℤ) → SameArray env other p → element_at env p k ≡ element_at other p k
element_at-same env other p (pos k) h =
    cell-same env other p k _ refl h ∙ ap (λ n. cond (nat_lt k n) (Ok (other.cell p k)) (Err Index)) h.length
element_at-same env other p (negsuc k) h = refl

-- a value or a trap that goes on by two functions which are the same
then-same : {A B : Type 0} (r : Result A Trap) (f g : A → Result B Trap) → ((x : A) → f x ≡ g x) → (r >>= f) ≡ (r >>= g)
then-same (Ok x) f g h = h x
then-same (Err e) f g h = refl

-- an expression has one value in environments that have the same at each place that it may read
pub value_of-same : {P : Type 0} (env other : Environment P) (t : Term P) → ReadsSame env other t → value_of env t ≡ value_of other t
value_of-same env other (number n) h = refl
value_of-same env other (variable p) h = ap Ok h
value_of-same env other (element p t) (array, h) =
    ap (λ r. r >>= element_at env p) (value_of-same env other t h)
    ∙ then-same (value_of other t) (element_at env p) (element_at other p) (λ k. element_at-same env other p k array)
value_of-same env other synched h = ap (λ s. Ok (truth s)) h
value_of-same env other (unary op t) h = ap (λ r. r >>= unary_result op) (value_of-same env other t h)
value_of-same env other (binary op a b) (h, k) =
    λ i. value_of-same env other a h i >>= λ z. joined op z (value_of-same env other b k i) (settled_by_left op z)
value_of-same env other (choose t a b) (h, k, l) =
    λ i. value_of-same env other t h i >>= λ z. cond (is_zero z) (value_of-same env other b l i) (value_of-same env other a k i)
