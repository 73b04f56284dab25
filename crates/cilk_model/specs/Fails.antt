-- Why an action has no meaning: the first trap from the left, or what is not allowed or has no room.
use Rattle.std.specs.Prelude.{◌≡◌, ◌≢◌, ℕ, ◌+◌, ◌<◌, ◌≤◌, ℤ, ◌⊎◌, List, [], ◌∷◌, length, Option, Some, Ok, Err}
use Rattle.cilk_check_scopes.specs.syntax.declared.lock_action.LockAction.{LockAction}
use Rattle.cilk_check_scopes.specs.syntax.declared.lock_action.LockAction.TheVariants.{Init, Lock, Unlock}
use Rattle.cilk_check_scopes.specs.declared.owner.Owner.TheVariants.{Function}
use Rattle.cilk_check_scopes.specs.syntax.declared.return_type.ReturnType.{ReturnType}
use Rattle.cilk_model.specs.declared.trap.Trap.{Trap}
use Rattle.cilk_model.specs.labelled.Term.{Term}
use Rattle.cilk_model.specs.labelled.Value.{Environment, value_of, values_of}
use Rattle.cilk_model.specs.labelled.Labelled.{Labelled, Declaration, Into, Taker, Action, assign, call, spawn, print, locking, tests, sync, return_with}
use Rattle.cilk_model.specs.Values.{Reached, environment, read_at, reached_at, reached_if, combined}
use Rattle.cilk_model.specs.Path.{Path}
use Rattle.cilk_model.specs.Instance.{Activation, Instance, owner_at}
use Rattle.cilk_model.specs.State.{TrapKind, of_value, lock, held_lock, depth, instances, output, State, unset, held, store_of, lock_at}
use Rattle.cilk_model.specs.Printing.{printed}
use Rattle.cilk_model.specs.Written.{Holds, HoldsNone, Free, Leaves, LeavesWith, taker_place, others_of}

module _ (program : Labelled) (s : State) (p : Path) (i : Instance) where
  -- what its expressions are evaluated in
  abbrev pub here : Environment Declaration
  here = environment (store_of s p i)

  -- the instance's activation is that of its procedure, or else one of these bodies
  pub record InFunction : Type 0 where
    pub returns : ReturnType
    pub above : i.below ≢ []
    pub function : owner_at program i ≡ Function returns

  -- a body above the procedure's that is no C function's is an inlet's (Cilk 5.4 manual, `inlet`)
  pub record InInlet : Type 0 where
    pub above : i.below ≢ []
    pub no_function : (returns : ReturnType) → owner_at program i ≢ Function returns

  -- what may leave its body now: a procedure that need not wait, an inlet without a lock, a C function
  pub data MayLeave : Type 0 where
    of_procedure : i.below ≡ [] → Free s p i → MayLeave
    of_inlet : InInlet → HoldsNone s p → MayLeave
    of_function : InFunction → MayLeave

  -- what may pass a `sync` now: a procedure that need not wait; no other body has one (Cilk 5.4 manual, `sync`)
  pub data MayPass : Type 0 where
    in_procedure : i.below ≡ [] → Free s p i → MayPass
    elsewhere : i.below ≢ [] → HoldsNone s p → MayPass

  -- the instance may be left with a lock nowhere else than in a C function
  pub data EndsThread : Action → Type 0 where
    at_sync : EndsThread sync
    at_procedure_end : (act : Action) → Leaves act → i.below ≡ [] → EndsThread act
    at_inlet_end : (act : Action) → Leaves act → InInlet → EndsThread act
    at_spawn : (taker : Taker) (callee : ℕ) (es : List (Term Declaration)) → EndsThread (spawn taker callee es)

  -- no value (C 1990, 6.3): of places, right sides, operators, arguments, tests, results
  pub data HasNoValue (trap : Trap) : Action → Type 0 where
    of_place : (place : Into) (e : Term Declaration) → reached_at here place ≡ Err trap → HasNoValue trap (assign place e)
    of_right_side : (place : Into) (e : Term Declaration) (reached : Reached)
        → reached_at here place ≡ Ok reached → value_of here e ≡ Err trap → HasNoValue trap (assign place e)
    of_operator : (place : Into) (e : Term Declaration) (reached : Reached) (z : ℤ)
        → reached_at here place ≡ Ok reached → value_of here e ≡ Ok z
        → combined reached.op (read_at (store_of s p i) reached.cell) z ≡ Err trap → HasNoValue trap (assign place e)
    of_call_place : (place : Option Into) (callee : ℕ) (es : List (Term Declaration))
        → reached_if here place ≡ Err trap → HasNoValue trap (call place callee es)
    of_call_argument : (place : Option Into) (callee : ℕ) (es : List (Term Declaration)) (reached : Option Reached)
        → reached_if here place ≡ Ok reached → values_of here es ≡ Err trap → HasNoValue trap (call place callee es)
    of_spawn_place : (taker : Taker) (callee : ℕ) (es : List (Term Declaration)) → HoldsNone s p
        → reached_if here (taker_place taker) ≡ Err trap → HasNoValue trap (spawn taker callee es)
    of_spawn_argument : (taker : Taker) (callee : ℕ) (es : List (Term Declaration)) (reached : Option Reached) → HoldsNone s p
        → reached_if here (taker_place taker) ≡ Ok reached → values_of here es ≡ Err trap → HasNoValue trap (spawn taker callee es)
    of_inlet_argument : (taker : Taker) (callee : ℕ) (es : List (Term Declaration)) (reached : Option Reached) (zs : List ℤ) → HoldsNone s p
        → reached_if here (taker_place taker) ≡ Ok reached → values_of here es ≡ Ok zs → values_of here (others_of taker) ≡ Err trap
        → HasNoValue trap (spawn taker callee es)
    of_print_argument : (format : List ℕ) (es : List (Term Declaration)) → values_of here es ≡ Err trap → HasNoValue trap (print format es)
    of_test : (e : Term Declaration) → value_of here e ≡ Err trap → HasNoValue trap (tests e)
    of_result : (e : Term Declaration) → MayLeave → value_of here e ≡ Err trap → HasNoValue trap (return_with e)

  -- a lock that may not be made, taken or let go (Cilk 5.4 manual, `Cilk_lock_init`, `Cilk_lock`, `Cilk_unlock`)
  pub data MayNot (k : ℕ) : LockAction → Type 0 where
    init_held : (q : Path) → lock_at s k ≡ held q → MayNot k Init
    lock_unset : lock_at s k ≡ unset → MayNot k Lock
    lock_own : lock_at s k ≡ held p → MayNot k Lock
    unlock_other : lock_at s k ≢ held p → MayNot k Unlock

  pub data Fails : Action → TrapKind → Type 0 where
    has_no_value : (act : Action) (trap : Trap) → HasNoValue trap act → Fails act (of_value trap)
    holds_lock : (act : Action) → EndsThread act → Holds s p → Fails act held_lock
    may_not : (what : LockAction) (k : ℕ) → MayNot k what → Fails (locking what k) lock
    -- 256 activations are the most
    too_deep : (place : Option Into) (callee : ℕ) (es : List (Term Declaration)) (reached : Option Reached) (zs : List ℤ)
        → reached_if here place ≡ Ok reached → values_of here es ≡ Ok zs → 255 ≤ length i.below → Fails (call place callee es) depth
    -- 65,536 live instances are the most, and 4,294,967,295 children of one
    too_many : (taker : Taker) (callee : ℕ) (es : List (Term Declaration)) (reached : Option Reached) (zs ys : List ℤ) → HoldsNone s p
        → reached_if here (taker_place taker) ≡ Ok reached → values_of here es ≡ Ok zs → values_of here (others_of taker) ≡ Ok ys
        → (65536 ≤ length s.instances) ⊎ (4294967295 ≤ i.children) → Fails (spawn taker callee es) instances
    -- 1,048,576 bytes of output are the most
    too_long : (format : List ℕ) (es : List (Term Declaration)) (zs : List ℤ) → values_of here es ≡ Ok zs
        → 1048576 < length s.output + length (printed format zs) → Fails (print format es) output
    -- as a C function is left, its caller's place is read now, and the operator traps
    of_caller : (act : Action) (z : ℤ) (trap : Trap) (caller : Activation) (below : List Activation) (reached : Reached)
        → InFunction → LeavesWith here act z → i.below ≡ caller ∷ below → i.top.awaits ≡ Some reached
        → combined reached.op (read_at (store_of s p (record i { top = caller; below = below })) reached.cell) z ≡ Err trap
        → Fails act (of_value trap)
