-- What the effect of an action looks like, by the action.
use Rattle.std.proofs.Common.{◌≡◌, ℕ, suc, ℤ, pos, negsuc, Bool, true, false, nat_lt, List, [], ◌∷◌, length, Option, Some, None, Result, Ok, Err}
use Rattle.std.proofs.Common.{refl, sym, ap, ◌∙◌, if◌then◌else◌}
use Rattle.cilk_eval.specs.model.declared.trap.Trap.{Trap}
use Rattle.cilk_eval.specs.model.declared.trap.Trap.TheVariants.{Index}
use Rattle.cilk_eval.specs.labelled.Term.{Term}
use Rattle.cilk_eval.specs.labelled.Value.{Environment, value_of, values_of, ◌>>=◌}
use Rattle.cilk_eval.specs.labelled.Labelled.{Declaration, Target, variable, element, Into, Taker, nothing, into, through, Action, assign, call}
use Rattle.cilk_eval.specs.labelled.Labelled.{spawn, print, locking, null, break_off, go_round, tests, sync, abort, return_with, return_nothing}
use Rattle.cilk_eval.specs.labelled.Labelled.{close}
use Rattle.cilk_eval.specs.model.Values.{Cell, Reached, element_cell, cell_at, reached_at, reached_if, combined}
use Rattle.cilk_eval.specs.model.Instance as model
use Rattle.cilk_eval.specs.model.Effect as effect
use Rattle.cilk_eval.specs.model.Effect.{Effect, writes, answers, enters, gives, starts, writes_out, turns_lock, marks, effect_of, start_of}
use Rattle.cilk_eval.specs.model.Printing.{printed}

-- what a target names
abbrev pub named_by : Target → Declaration
named_by (variable d) = d
named_by (element d t) = d

-- what was reached is of this place
pub record IsOf (what : Into) (r : Reached) : Type 0 where
  pub op : r.op ≡ what.op
  pub place : r.cell.place ≡ named_by what.target

is-of : (what : Into) (cell : Cell) (r : Reached) → cell.place ≡ named_by what.target → record { op = what.op; cell = cell } ≡ r → IsOf what r
is-of what cell r h e = record { op = ap (λ (x : Reached). x.op) (sym e); place = ap (λ (x : Reached). x.cell.place) (sym e) ∙ h }

-- the cell that a target is, where it is one
cell-of : (env : Environment Declaration) (t : Target) (cell : Cell) → cell_at env t ≡ Ok cell → cell.place ≡ named_by t
cell-of env (variable d) cell h = let same : cell ≡ record { place = d; index = 0 } = cc in ap (λ (x : Cell). x.place) same
cell-of env (element d t) cell h = by_value (value_of env t) h
  where
    by_test : (k : ℕ) (inside : Bool) → (if inside then Ok (record { place = d; index = k }) else Err Index) ≡ Ok cell → cell.place ≡ d
    by_test k true e = let same : cell ≡ record { place = d; index = k } = cc in ap (λ (x : Cell). x.place) same
    by_test k false e = cc

    by_value : (r : Result ℤ Trap) → (r >>= element_cell env d) ≡ Ok cell → cell.place ≡ d
    by_value (Ok (pos k)) e = by_test k (nat_lt k (env.length d)) e
    by_value (Ok (negsuc k)) e = cc
    by_value (Err trap) e = cc

pub reached-of : (env : Environment Declaration) (what : Into) (r : Reached) → reached_at env what ≡ Ok r → IsOf what r
reached-of env what r h = by_cell (cell_at env what.target) refl h
  where
    by_cell : (c : Result Cell Trap) → cell_at env what.target ≡ c → (c >>= λ cell. Ok (record { op = what.op; cell = cell })) ≡ Ok r → IsOf what r
    by_cell (Ok cell) e k = is-of what cell r (cell-of env what.target cell e) cc
    by_cell (Err trap) e k = cc

pub record Written (x : Effect) : Type 0 where
  pub cell : Cell
  pub value : ℤ
  pub is : x ≡ writes cell value

-- what awaits the value of a call
abbrev pub Awaits : Environment Declaration → Option Into → Option Reached → Type 0
Awaits env None r = r ≡ None
Awaits env (Some what) r = (reached : Reached) × (r ≡ Some reached) × IsOf what reached

pub record Entered (env : Environment Declaration) (what : Option Into) (callee : ℕ) (es : List (Term Declaration)) (x : Effect) : Type 0 where
  pub awaits : Option Reached
  pub values : List ℤ
  pub is : x ≡ enters awaits callee values
  pub awaits_is : Awaits env what awaits
  pub values_are : values_of env es ≡ Ok values

-- what takes the value of the child of spawn n
abbrev pub Takes : Environment Declaration → ℕ → Taker → Option model.Receiver → Type 0
Takes env n nothing r = r ≡ None
Takes env n (into what) r = (reached : Reached) × (r ≡ Some (model.place reached n)) × IsOf what reached
Takes env n (through inlet others) r = (ys : List ℤ) × (r ≡ Some (model.through inlet ys n)) × (values_of env others ≡ Ok ys)

pub record Started (env : Environment Declaration) (n : ℕ) (taker : Taker) (callee : ℕ) (es : List (Term Declaration)) (x : Effect) : Type 0 where
  pub receiver : Option model.Receiver
  pub values : List ℤ
  pub is : x ≡ starts receiver callee values
  pub takes : Takes env n taker receiver
  pub values_are : values_of env es ≡ Ok values

pub record Printed (x : Effect) : Type 0 where
  pub bytes : List ℕ
  pub is : x ≡ writes_out bytes

pub record Answered (x : Effect) : Type 0 where
  pub answer : ℤ
  pub is : x ≡ answers answer

pub record Given (x : Effect) : Type 0 where
  pub value : ℤ
  pub is : x ≡ gives value

abbrev pub ShapeOf : Environment Declaration → ℕ → Action → Effect → Type 0
ShapeOf env n (assign what e) x = Written x
ShapeOf env n (call what callee es) x = Entered env what callee es x
ShapeOf env n (spawn taker callee es) x = Started env n taker callee es x
ShapeOf env n (print format es) x = Printed x
ShapeOf env n (locking what lock) x = x ≡ turns_lock what lock
ShapeOf env n null x = Answered x
ShapeOf env n break_off x = Answered x
ShapeOf env n go_round x = Answered x
ShapeOf env n (tests e) x = Answered x
ShapeOf env n sync x = Answered x
ShapeOf env n abort x = x ≡ marks
ShapeOf env n (return_with e) x = Given x
ShapeOf env n return_nothing x = Given x
ShapeOf env n close x = Given x

values-then : (values : Result (List ℤ) Trap) (f : List ℤ → Effect) (x : Effect) → (values >>= λ zs. Ok (f zs)) ≡ Ok x → (zs : List ℤ)
    × (x ≡ f zs) × (values ≡ Ok zs)
values-then (Ok zs) f x h = (zs, cc, refl)
values-then (Err trap) f x h = cc

write-shape : (env : Environment Declaration) (r : Result Reached Trap) (value : Result ℤ Trap) (x : Effect)
    → (r >>= λ what. value >>= λ z. combined what.op (env.cell what.cell.place what.cell.index) z >>= λ y. Ok (writes what.cell y)) ≡ Ok x → Written x
write-shape env (Err trap) value x h = cc
write-shape env (Ok r) (Err trap) x h = cc
write-shape env (Ok r) (Ok z) x h = by_sum (combined r.op (env.cell r.cell.place r.cell.index) z) h
  where
    by_sum : (sum : Result ℤ Trap) → (sum >>= λ y. Ok (writes r.cell y)) ≡ Ok x → Written x
    by_sum (Ok y) e = record { cell = r.cell; value = y; is = cc }
    by_sum (Err trap) e = cc

call-shape : (env : Environment Declaration) (what : Option Into) (callee : ℕ) (es : List (Term Declaration)) (x : Effect)
    → (reached_if env what >>= λ r. values_of env es >>= λ zs. Ok (enters r callee zs)) ≡ Ok x → Entered env what callee es x
call-shape env None callee es x h =
    let v = values-then (values_of env es) (λ zs. enters None callee zs) x h in
    record { awaits = None; values = v.0; is = v.1; awaits_is = refl; values_are = v.2 }
call-shape env (Some what) callee es x h = by_reached (reached_at env what) refl h
  where
    by_reached : (r : Result Reached Trap) → reached_at env what ≡ r
        → ((r >>= λ y. Ok (Some y)) >>= λ y. values_of env es >>= λ zs. Ok (enters y callee zs)) ≡ Ok x
        → Entered env (Some what) callee es x
    by_reached (Ok r) e k =
        let v = values-then (values_of env es) (λ zs. enters (Some r) callee zs) x k in
        record { awaits = Some r; values = v.0; is = v.1; awaits_is = (r, refl, reached-of env what r e); values_are = v.2 }
    by_reached (Err trap) e k = cc

spawn-shape : (env : Environment Declaration) (n : ℕ) (taker : Taker) (callee : ℕ) (es : List (Term Declaration)) (x : Effect)
    → start_of env n taker callee es ≡ Ok x → Started env n taker callee es x
spawn-shape env n nothing callee es x h =
    let v = values-then (values_of env es) (λ zs. starts None callee zs) x h in
    record { receiver = None; values = v.0; is = v.1; takes = refl; values_are = v.2 }
spawn-shape env n (into what) callee es x h = by_reached (reached_at env what) refl h
  where
    by_reached : (r : Result Reached Trap) → reached_at env what ≡ r
        → (r >>= λ y. values_of env es >>= λ zs. Ok (starts (Some (model.place y n)) callee zs)) ≡ Ok x
        → Started env n (into what) callee es x
    by_reached (Ok r) e k =
        let v = values-then (values_of env es) (λ zs. starts (Some (model.place r n)) callee zs) x k in
        record { receiver = Some (model.place r n); values = v.0; is = v.1; takes = (r, refl, reached-of env what r e); values_are = v.2 }
    by_reached (Err trap) e k = cc
spawn-shape env n (through inlet others) callee es x h = by_values (values_of env es) refl h
  where
    by_values : (values : Result (List ℤ) Trap) → values_of env es ≡ values
        → (values >>= λ zs. values_of env others >>= λ ys. Ok (starts (Some (model.through inlet ys n)) callee zs)) ≡ Ok x
        → Started env n (through inlet others) callee es x
    by_values (Ok zs) e k =
        let v = values-then (values_of env others) (λ ys. starts (Some (model.through inlet ys n)) callee zs) x k in
        record { receiver = Some (model.through inlet v.0 n); values = zs; is = v.1; takes = (v.0, refl, v.2); values_are = e }
    by_values (Err trap) e k = cc

value-then : (value : Result ℤ Trap) (f : ℤ → Effect) (x : Effect) → (value >>= λ z. Ok (f z)) ≡ Ok x → (z : ℤ) × (x ≡ f z)
value-then (Ok z) f x h = (z, cc)
value-then (Err trap) f x h = cc

pub shape : (env : Environment Declaration) (n : ℕ) (act : Action) (x : Effect) → effect_of env n act ≡ Ok x → ShapeOf env n act x
shape env n (assign what e) x h = write-shape env (reached_at env what) (value_of env e) x h
shape env n (call what callee es) x h = call-shape env what callee es x h
shape env n (spawn taker callee es) x h = spawn-shape env n taker callee es x h
shape env n (print format es) x h =
    let v = values-then (values_of env es) (λ zs. writes_out (printed format zs)) x h in record { bytes = printed format v.0; is = v.1 }
shape env n (locking what lock) x h = cc
shape env n null x h = record { answer = pos 1; is = cc }
shape env n break_off x h = record { answer = pos 1; is = cc }
shape env n go_round x h = record { answer = pos 1; is = cc }
shape env n (tests e) x h =
    let v = value-then (value_of env e) (λ z. answers z) x h in record { answer = v.0; is = v.1 }
shape env n sync x h = record { answer = pos 1; is = cc }
shape env n abort x h = cc
shape env n (return_with e) x h = let v = value-then (value_of env e) (λ z. gives z) x h in record { value = v.0; is = v.1 }
shape env n return_nothing x h = record { value = pos 0; is = cc }
shape env n close x h = record { value = pos 0; is = cc }

-- there are as many values as expressions
pub values-count : (env : Environment Declaration) (es : List (Term Declaration)) (zs : List ℤ) → values_of env es ≡ Ok zs → length zs ≡ length es
values-count env [] zs h = let none : zs ≡ [] = cc in ap length none
values-count env (e ∷ es) zs h = by_first (value_of env e) (values_of env es) (values-count env es) h
  where
    by_first : (first : Result ℤ Trap) (others : Result (List ℤ) Trap) → ((ys : List ℤ) → others ≡ Ok ys → length ys ≡ length es)
        → (first >>= λ z. others >>= λ ys. Ok (z ∷ ys)) ≡ Ok zs → length zs ≡ suc (length es)
    by_first (Err trap) others count h = cc
    by_first (Ok z) (Err trap) count h = cc
    by_first (Ok z) (Ok ys) count h = let all : zs ≡ z ∷ ys = cc in ap length all ∙ ap suc (count ys refl)
