-- What an action comes to, once its expressions have their values, or the first trap from the left.
use Rattle.std.specs.Prelude.{ℕ, ℤ, pos, List, Option, Some, None, Result, Ok}
use Rattle.cilk_check_scopes.specs.syntax.declared.lock_action.LockAction.{LockAction}
use Rattle.cilk_model.specs.declared.trap.Trap.{Trap}
use Rattle.cilk_model.specs.labelled.Term.{Term}
use Rattle.cilk_model.specs.labelled.Value.{Environment, value_of, values_of, ◌>>=◌}
use Rattle.cilk_model.specs.labelled.Labelled.{Declaration, Taker, nothing, into, through, Action, assign, call, spawn, print, locking, null, break_off}
use Rattle.cilk_model.specs.labelled.Labelled.{go_round, tests, sync, abort, return_with, return_nothing, close}
use Rattle.cilk_model.specs.Values.{Cell, Reached, reached_at, reached_if, combined}
use Rattle.cilk_model.specs.Instance as instance
use Rattle.cilk_model.specs.Instance.{Receiver, place}
use Rattle.cilk_model.specs.Printing.{printed}

pub data Effect : Type 0 where
  -- a cell takes a value
  writes : (cell : Cell) (value : ℤ) → Effect
  -- what comes next is reached, where a test has this value
  answers : (value : ℤ) → Effect
  -- a C function is to start
  enters : (awaits : Option Reached) (callee : ℕ) (arguments : List ℤ) → Effect
  -- the body is left with a value
  gives : (value : ℤ) → Effect
  -- a child is to start
  starts : (receiver : Option Receiver) (callee : ℕ) (arguments : List ℤ) → Effect
  writes_out : (bytes : List ℕ) → Effect
  turns_lock : (what : LockAction) (lock : ℕ) → Effect
  marks : Effect

-- the place that takes a child's value, what takes it once its place is reached, and what an inlet is given (Cilk 5.4 manual, `spawn`, `inlet`)
abbrev pub start_of : Environment Declaration → ℕ → Taker → ℕ → List (Term Declaration) → Result Effect Trap
start_of env n nothing callee es = values_of env es >>= λ zs. Ok (starts None callee zs)
start_of env n (into what) callee es =
    reached_at env what >>= λ reached. values_of env es >>= λ zs. Ok (starts (Some (place reached n)) callee zs)
start_of env n (through inlet others) callee es =
    values_of env es >>= λ zs. values_of env others >>= λ ys. Ok (starts (Some (instance.through inlet ys n)) callee zs)

-- the effect of action n
abbrev pub effect_of : Environment Declaration → ℕ → Action → Result Effect Trap
-- C 1990, 6.3.16: the place, then the value, and only then what the place holds
effect_of env n (assign what e) =
    reached_at env what >>= λ r. value_of env e >>= λ z. combined r.op (env.cell r.cell.place r.cell.index) z >>= λ y. Ok (writes r.cell y)
-- C 1990, 6.3.2.2
effect_of env n (call what callee es) =
    reached_if env what >>= λ reached. values_of env es >>= λ zs. Ok (enters reached callee zs)
effect_of env n (spawn taker callee es) = start_of env n taker callee es
-- C 1990, 7.9.6.3
effect_of env n (print format es) = values_of env es >>= λ zs. Ok (writes_out (printed format zs))
effect_of env n (locking what lock) = Ok (turns_lock what lock)
effect_of env n null = Ok (answers (pos 1))
effect_of env n break_off = Ok (answers (pos 1))
effect_of env n go_round = Ok (answers (pos 1))
-- C 1990, 6.6.4, 6.6.5
effect_of env n (tests e) = value_of env e >>= λ z. Ok (answers z)
effect_of env n sync = Ok (answers (pos 1))
effect_of env n abort = Ok marks
-- C 1990, 6.6.6.4: where C leaves the value open, it is 0
effect_of env n (return_with e) = value_of env e >>= λ z. Ok (gives z)
effect_of env n return_nothing = Ok (gives (pos 0))
effect_of env n close = Ok (gives (pos 0))
