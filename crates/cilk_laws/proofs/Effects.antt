-- What an effect tells of its action.
use Rattle.std.proofs.Common.{◌≡◌, ℕ, List, Option, Some, Result, Ok, Err, refl}
use Rattle.cilk_laws_model.specs.model.declared.trap.Trap.{Trap}
use Rattle.cilk_laws_model.specs.labelled.Term.{Term}
use Rattle.cilk_laws_model.specs.labelled.Value.{Environment, value_of, values_of, ◌>>=◌}
use Rattle.cilk_laws_model.specs.labelled.Labelled.{Declaration, Taker, nothing, into, through, Action, assign, call, spawn, print, locking, null}
use Rattle.cilk_laws_model.specs.labelled.Labelled.{break_off, go_round, tests, sync, abort, return_with, return_nothing, close}
use Rattle.cilk_laws_model.specs.model.Values.{combined, reached_at, reached_if}
use Rattle.cilk_laws_model.specs.model.Effect.{Effect, enters, gives, starts, marks, start_of, effect_of}
use Rattle.cilk_laws_model.specs.model.Instance as instance
use Rattle.cilk_laws_model.specs.model.Instance.{Receiver, place}

-- what an action may come to, beside a trap
pub data Sort : Type 0 where
  plain : Sort
  calling : (callee : ℕ) → Sort
  spawning : (taker : Taker) → Sort
  marking : Sort
  leaving : Sort

abbrev pub sort_of : Action → Sort
sort_of (call what callee es) = calling callee
sort_of (spawn taker callee es) = spawning taker
sort_of abort = marking
sort_of (return_with e) = leaving
sort_of return_nothing = leaving
sort_of close = leaving
sort_of other = plain

-- what takes the value of a child, by what is written
abbrev pub Fits : Taker → Option Receiver → Type 0
Fits (through inlet others) (Some (instance.through b ys n)) = b ≡ inlet
Fits (through inlet others) other = ⊥
Fits taker (Some (instance.through b ys n)) = ⊥
Fits taker other = Unit {0}

pub record Spawns (act : Action) (receiver : Option Receiver) : Type 0 where
  pub taker : Taker
  pub is : sort_of act ≡ spawning taker
  pub fits : Fits taker receiver

abbrev pub TellsSort : Action → Result Effect Trap → Type 0
TellsSort act (Ok (gives z)) = sort_of act ≡ leaving
TellsSort act (Ok (enters awaits callee zs)) = sort_of act ≡ calling callee
TellsSort act (Ok (starts receiver callee zs)) = Spawns act receiver
TellsSort act (Ok marks) = sort_of act ≡ marking
TellsSort act (Ok other) = sort_of act ≡ plain
TellsSort act (Err trap) = Unit {0}

told_after : {A : Type 0} (act : Action) (r : Result A Trap) (f : A → Result Effect Trap) → ((x : A) → TellsSort act (f x)) → TellsSort act (r >>= f)
told_after act (Ok x) f h = h x
told_after act (Err trap) f h = tt

start_told : (env : Environment Declaration) (n : ℕ) (taker : Taker) (callee : ℕ) (es : List (Term Declaration))
    → TellsSort (spawn taker callee es) (start_of env n taker callee es)
start_told env n nothing callee es =
    told_after (spawn nothing callee es) (values_of env es) _ (λ zs. record { taker = nothing; is = refl; fits = tt })
start_told env n (into what) callee es =
    let act = spawn (into what) callee es in
    told_after act (reached_at env what) _ (λ reached. told_after act (values_of env es) _ (λ zs. record { taker = into what; is = refl; fits = tt }))
start_told env n (through inlet others) callee es =
    let act = spawn (through inlet others) callee es in
    told_after act (values_of env es) _ (λ zs. told_after act (values_of env others) _ (λ ys. record { taker = through inlet others; is = refl; fits = refl }))

pub told : (env : Environment Declaration) (n : ℕ) (act : Action) → TellsSort act (effect_of env n act)
told env n (assign what e) =
    let act = assign what e in
    told_after act (reached_at env what) _
    (λ r. told_after act (value_of env e) _ (λ z. told_after act (combined r.op (env.cell r.cell.place r.cell.index) z) _ (λ y. refl)))
told env n (call what callee es) =
    let act = call what callee es in
    told_after act (reached_if env what) _ (λ reached. told_after act (values_of env es) _ (λ zs. refl))
told env n (spawn taker callee es) = start_told env n taker callee es
told env n (print format es) = told_after (print format es) (values_of env es) _ (λ zs. refl)
told env n (locking what lock) = refl
told env n null = refl
told env n break_off = refl
told env n go_round = refl
told env n (tests e) = told_after (tests e) (value_of env e) _ (λ z. refl)
told env n sync = refl
told env n abort = refl
told env n (return_with e) = told_after (return_with e) (value_of env e) _ (λ z. refl)
told env n return_nothing = refl
told env n close = refl
