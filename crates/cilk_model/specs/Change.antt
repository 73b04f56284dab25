-- What one step of an instance does to the state.
use Rattle.std.specs.Prelude.{ℕ, ◌+◌, ℤ, pos, Bool, true, false, not, ◌&&◌, ◌||◌, if◌then◌else◌, List, [], ◌∷◌, ◌++◌, map, Option, Some, None}
use Rattle.std.specs.Prelude.{slice_index_or, slice_set}
use Rattle.std.specs.List.{list_any}
use Rattle.cilk_check_scopes.specs.syntax.declared.lock_action.LockAction.{LockAction}
use Rattle.cilk_check_scopes.specs.syntax.declared.lock_action.LockAction.TheVariants.{Init, Unlock}
use Rattle.cilk_check_scopes.specs.syntax.declared.lock_action.LockAction.TheVariants as action
use Rattle.cilk_check_scopes.specs.declared.owner.Owner.{Owner}
use Rattle.cilk_check_scopes.specs.declared.owner.Owner.TheVariants.{Function, Procedure, Inlet}
use Rattle.cilk_model.specs.labelled.Labelled.{Labelled, Declaration, local, outer, global, Action, sync, spawn, return_with, return_nothing, close, Numbered}
use Rattle.cilk_model.specs.labelled.Items.{head_of, opened, next}
use Rattle.cilk_model.specs.Values.{Values, Cell, Reached}
use Rattle.cilk_model.specs.Path.{Path, same_path, child_path, parent_of, is_below}
use Rattle.cilk_model.specs.Instance.{Activation, Receiver, Delivery, Instance, entered, started, owner_at}
use Rattle.cilk_model.specs.State.{TrapKind, Lock, unset, free, held, Entry, finished, trapped, State, changed, without, is_empty, lock_at}

-- the actions that leave a body
abbrev pub leaves : Action → Bool
leaves (return_with value) = true
leaves return_nothing = true
leaves close = true
leaves other = false

abbrev pub is_sync : Action → Bool
is_sync sync = true
is_sync other = false

abbrev pub is_spawn : Action → Bool
is_spawn (spawn taker callee arguments) = true
is_spawn other = false

-- the procedure's own activation waits for all children before it passes a `sync` or returns (Cilk 5.4 manual, `sync`, `return`)
abbrev pub waits_here : Instance → Action → Bool
waits_here i act = is_empty i.below && (is_sync act || leaves act)

abbrev pub head_waits : Instance → Option Numbered → Bool
head_waits i None = false
head_waits i (Some head) = waits_here i head.act

-- between two threads of the procedure, where an inlet may run (Cilk 5.4 manual, `inlet`)
abbrev pub at_boundary : Instance → Bool
at_boundary i = is_empty i.below && (i.spawned || head_waits i (head_of i.top.items))

abbrev pub is_function : Owner → Bool
is_function (Function returns) = true
is_function (Procedure returns) = false
is_function Inlet = false

-- whether a C function is left, rather than an inlet, as the top activation is left
abbrev pub leaves_function : Labelled → Instance → Bool
leaves_function program i = is_function (owner_at program i)

-- whether a thread or an inlet ends with the action
abbrev pub ends_thread : Labelled → Instance → Action → Bool
ends_thread program i act = is_sync act || (is_spawn act || (leaves act && (is_empty i.below || not (leaves_function program i))))

abbrev pub is_held_by : Path → Lock → Bool
is_held_by p unset = false
is_held_by p free = false
is_held_by p (held q) = same_path q p

abbrev pub holds_lock : State → Path → Bool
holds_lock s p = list_any (is_held_by p) s.locks

-- a trap changes the outcome alone
abbrev pub stopped : State → Path → ℕ → TrapKind → State
stopped s p n kind = record s { outcome = trapped kind p n }

-- the instance past its head, where a test had this value; an action of the procedure's own takes the mark of a spawn away
abbrev pub gone_on : ℤ → Instance → Instance
gone_on value i = record i {
  top = record i.top { items = opened (next value i.top.items) };
  spawned = i.spawned && not (is_empty i.below);
}

-- z in cell k of variable n
abbrev pub with_value : ℕ → ℕ → ℤ → Values → Values
with_value n k z values = slice_set values n (slice_set (slice_index_or values n []) k z)

abbrev pub own_with : Declaration → ℕ → ℤ → Values → Values
own_with (local n) k z values = with_value n k z values
own_with other k z values = values

abbrev pub outer_with : Declaration → ℕ → ℤ → Values → Values
outer_with (outer n) k z values = with_value n k z values
outer_with other k z values = values

abbrev pub globals_with : Declaration → ℕ → ℤ → Values → Values
globals_with (global n) k z values = with_value n k z values
globals_with other k z values = values

-- of the lowest activation, which is the procedure's
abbrev pub on_lowest : (Values → Values) → List Activation → List Activation
on_lowest f [] = []
on_lowest f (a ∷ []) = record a { values = f a.values } ∷ []
on_lowest f (a ∷ b ∷ below) = a ∷ on_lowest f (b ∷ below)

-- the instance with z in a cell that its top activation sees
abbrev pub put : Cell → ℤ → Instance → Instance
put cell z i = record i {
  top = record i.top { values = own_with cell.place cell.index z i.top.values };
  below = on_lowest (outer_with cell.place cell.index z) i.below;
}

-- the instance at p is this one now
abbrev pub with_instance : State → Path → Instance → State
with_instance s p i = record s { instances = changed p (λ _. i) s.instances }

abbrev pub with_put : State → Path → Instance → Cell → ℤ → State
with_put s p i cell z =
    record (with_instance s p (put cell z i)) { globals = globals_with cell.place cell.index z s.globals }

-- an action that is no test goes on as by 1
abbrev pub after_going : State → Path → Instance → ℤ → State
after_going s p i value = with_instance s p (gone_on value i)

abbrev pub after_write : State → Path → Instance → Cell → ℤ → State
after_write s p i cell z = with_put s p (gone_on (pos 1) i) cell z

-- a C function above the caller, which stands at what follows its call (C 1990, 6.3.2.2)
abbrev pub above : Activation → Instance → Instance
above a i = record i { top = a; below = i.top ∷ i.below }

abbrev pub after_call : Labelled → State → Path → Instance → Option Reached → ℕ → List ℤ → State
after_call program s p i awaits callee zs = with_instance s p (above (entered program callee zs awaits) (gone_on (pos 1) i))

abbrev pub resumed_to : Instance → List Activation → Instance
resumed_to i [] = i
resumed_to i (caller ∷ below) = record i { top = caller; below = below }

-- the activation below goes on
abbrev pub resumed : Instance → Instance
resumed i = resumed_to i i.below

abbrev pub after_leaving : State → Path → Instance → State
after_leaving s p i = with_instance s p (resumed i)

abbrev pub after_answer : State → Path → Instance → Cell → ℤ → State
after_answer s p i cell z = with_put s p (resumed i) cell z

-- the child is the youngest of the live instances: one of an aborted instance is aborted from its birth (Cilk 5.4 manual, `spawn`, `abort`)
abbrev pub after_start : Labelled → State → Path → Instance → Option Receiver → ℕ → List ℤ → State
after_start program s p i receiver callee zs = record s {
  instances = changed p (λ _. record (gone_on (pos 1) i) { spawned = true; children = i.children + 1 }) s.instances
      ++ record {
        path = child_path p (i.children + 1);
        instance = record (started program callee zs) { aborted = i.aborted; receiver = receiver };
      } ∷ [];
}

abbrev pub after_print : State → Path → Instance → List ℕ → State
after_print s p i bytes = record (with_instance s p (gone_on (pos 1) i)) { output = s.output ++ bytes }

-- what a call of a lock makes of it: it is turned, or that is not allowed, or it has to wait (Cilk 5.4 manual, locks)
pub data LockTurn : Type 0 where
  lock_turned : (now : Lock) → LockTurn
  refused : LockTurn
  blocked : LockTurn

abbrev pub lock_turn_by : Path → LockAction → Lock → LockTurn
lock_turn_by p Init unset = lock_turned free
lock_turn_by p Init free = lock_turned free
lock_turn_by p Init (held q) = refused
lock_turn_by p action.Lock unset = refused
lock_turn_by p action.Lock free = lock_turned (held p)
lock_turn_by p action.Lock (held q) = if same_path q p then refused else blocked
lock_turn_by p Unlock unset = refused
lock_turn_by p Unlock free = refused
lock_turn_by p Unlock (held q) = if same_path q p then lock_turned free else refused

abbrev pub lock_turn_of : State → Path → LockAction → ℕ → LockTurn
lock_turn_of s p what k = lock_turn_by p what (lock_at s k)

abbrev pub after_lock : State → Path → Instance → ℕ → Lock → State
after_lock s p i k now = record (with_instance s p (gone_on (pos 1) i)) { locks = slice_set s.locks k now }

-- each live descendant of p is marked (Cilk 5.4 manual, `abort`)
abbrev pub mark : Path → Entry → Entry
mark p e = if is_below p e.path then record e { instance = record e.instance { aborted = true } } else e

abbrev pub after_marks : State → Path → Instance → State
after_marks s p i = record s { instances = map (mark p) (changed p (λ _. gone_on (pos 1) i) s.instances) }

-- a child's value waits for the parent where something takes it; an aborted child delivers nothing
abbrev pub deliveries : Path → ℤ → Option Receiver → Bool → List Delivery
deliveries p z None aborted = []
deliveries p z (Some receiver) true = []
deliveries p z (Some receiver) false = record { child = p; value = z; receiver = receiver } ∷ []

abbrev pub with_deliveries : List Delivery → Instance → Instance
with_deliveries new i = record i { waiting = i.waiting ++ new }

-- an instance is no more: the root's value is the program's, and a child's goes to its parent (Cilk 5.4 manual, `return`)
abbrev pub after_return_to : Option Path → State → Path → Instance → ℤ → State
after_return_to None s p i z = record s { outcome = finished z; instances = without p s.instances }
after_return_to (Some q) s p i z =
    record s { instances = changed q (with_deliveries (deliveries p z i.receiver i.aborted)) (without p s.instances) }

abbrev pub after_return : State → Path → Instance → ℤ → State
after_return s p i z = after_return_to (parent_of p) s p i z

-- after an implicit inlet, where the others still wait (Cilk 5.4 manual, `spawn`)
abbrev pub after_place : State → Path → Instance → List Delivery → Cell → ℤ → State
after_place s p i others cell z = with_put s p (record i { waiting = others }) cell z

-- an inlet is entered (Cilk 5.4 manual, `inlet`)
abbrev pub after_inlet : Labelled → State → Path → Instance → List Delivery → ℕ → List ℤ → State
after_inlet program s p i others inlet zs =
    with_instance s p (above (entered program inlet zs None) (record i { waiting = others }))

-- a lock that p held is free
abbrev pub released : Path → Lock → Lock
released p lock = if is_held_by p lock then free else lock

-- an aborted instance is no more (Cilk 5.4 manual, `abort`)
abbrev pub after_abort : State → Path → State
after_abort s p = record s { locks = map (released p) s.locks; instances = without p s.instances }
