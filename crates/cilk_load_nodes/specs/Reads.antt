-- What an expression may read.
use Rattle.std.specs.Prelude.{◌≡◌, ◌<◌, ◌&&◌, ℕ, ⊤, Bool, true, false}
use Rattle.cilk_model.specs.labelled.Term.{Term, number, variable, element, synched, unary, binary, choose}
use Rattle.cilk_model.specs.labelled.Value.{Environment}

-- what an expression may read, evaluated or not: V holds of each of its variables, A of each of its arrays, and S where `SYNCHED` stands in it
abbrev pub AllReads : {P : Type 0} → (P → Type 0) → (P → Type 0) → Type 0 → Term P → Type 0
AllReads V A S (number n) = ⊤
AllReads V A S (variable p) = V p
AllReads V A S (element p t) = A p × AllReads V A S t
AllReads V A S synched = S
AllReads V A S (unary op t) = AllReads V A S t
AllReads V A S (binary op a b) = AllReads V A S a × AllReads V A S b
AllReads V A S (choose t a b) = AllReads V A S t × AllReads V A S a × AllReads V A S b

-- two environments have the same array at a place
pub record SameArray {P : Type 0} (env other : Environment P) (p : P) : Type 0 where
  pub length : env.length p ≡ other.length p
  pub cells : (k : ℕ) → k < env.length p → env.cell p k ≡ other.cell p k

-- two environments have the same at each place that the expression may read
abbrev pub ReadsSame : {P : Type 0} → Environment P → Environment P → Term P → Type 0
ReadsSame env other t =
    AllReads (λ p. env.value p ≡ other.value p) (SameArray env other) (env.synched ≡ other.synched) t

-- no element and no `SYNCHED` stand in the expression
abbrev pub is_plain : {P : Type 0} → Term P → Bool
is_plain (number n) = true
is_plain (variable p) = true
is_plain (element p subscript) = false
is_plain synched = false
is_plain (unary op t) = is_plain t
is_plain (binary op a b) = is_plain a && is_plain b
is_plain (choose t a b) = is_plain t && (is_plain a && is_plain b)
