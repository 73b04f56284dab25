-- The one step of an instance that is taken, of those that the written rule allows.
use Rattle.std.specs.Prelude.{ℕ, ◌+◌, ◌-◌, ◌^◌, ℤ, Bool, true, false, not, ◌&&◌, nat_lt, nat_le, if◌then◌else◌, List, [], ◌∷◌, length, Option, Some}
use Rattle.std.specs.Prelude.{None, Result, Ok, Err}
use Rattle.cilk_model.specs.declared.trap.Trap.{Trap}
use Rattle.cilk_model.specs.labelled.Labelled.{Labelled, Numbered}
use Rattle.cilk_model.specs.labelled.Items.{head_of}
use Rattle.cilk_model.specs.Values.{Cell, Reached, environment, read_at, combined}
use Rattle.cilk_model.specs.Effect.{Effect, writes, answers, enters, gives, starts, writes_out, turns_lock, marks, effect_of}
use Rattle.cilk_model.specs.Path.{Path, child_path}
use Rattle.cilk_model.specs.Instance.{Receiver, place, through, Delivery, Instance}
use Rattle.cilk_model.specs.State.{TrapKind, of_value, lock, held_lock, depth, instances, output, State, instance_at, has_live_child, is_synched}
use Rattle.cilk_model.specs.State.{store_of, is_empty}
use Rattle.cilk_model.specs.Change.{LockTurn, lock_turned, refused, blocked, lock_turn_of, at_boundary, ends_thread, waits_here, holds_lock, leaves_function}
use Rattle.cilk_model.specs.Change.{stopped, after_write, after_going, after_call, after_leaving, after_answer, after_start, after_print, after_lock}
use Rattle.cilk_model.specs.Change.{after_marks, after_return, after_place, after_inlet, after_abort, resumed}
use Rattle.cilk_model.specs.Event as event
use Rattle.cilk_model.specs.Event.{Event}

pub data Step : Type 0 where
  -- it cannot go on as things stand
  waits : Step
  -- it waits for its children, and nothing is changed
  parks : Step
  -- it is live after the step
  goes_on : (state : State) (did : Event) → Step
  -- it is no more
  ends : (state : State) (did : Event) → Step
  -- it is live after the step, and so is this new child
  spawns : (child : Path) (state : State) (did : Event) → Step

abbrev pub traps : State → Path → ℕ → TrapKind → Step
traps s p n kind = goes_on (stopped s p n kind) (event.trapped kind p n)

-- where there is room, this; else the trap
abbrev pub if_room : State → Path → ℕ → TrapKind → Bool → Step → Step
if_room s p n kind true step = step
if_room s p n kind false step = traps s p n kind

-- a C function is left with z, for its caller's place (C 1990, 6.6.6.4)
abbrev pub step_by_combined : State → Path → Instance → ℕ → Cell → Result ℤ Trap → Step
step_by_combined s p i n cell (Ok y) = goes_on (after_answer s p i cell y) (event.acted p n)
step_by_combined s p i n cell (Err trap) = traps s p n (of_value trap)

abbrev pub step_by_answer : State → Path → Instance → ℕ → Option Reached → ℤ → Step
step_by_answer s p i n None z = goes_on (after_leaving s p i) (event.acted p n)
step_by_answer s p i n (Some reached) z =
    step_by_combined s p i n reached.cell (combined reached.op (read_at (store_of s p (resumed i)) reached.cell) z)

-- a body is left: of the procedure, of a C function, of an inlet
abbrev pub step_by_leaving : Labelled → State → Path → Instance → ℕ → ℤ → Step
step_by_leaving program s p i n z =
    if is_empty i.below then ends (after_return s p i z) (event.returned p n)
    else (if leaves_function program i then step_by_answer s p i n i.top.awaits z
    else goes_on (after_leaving s p i) (event.acted p n))

abbrev pub step_by_lock_turn : State → Path → Instance → ℕ → ℕ → LockTurn → Step
step_by_lock_turn s p i n k blocked = waits
step_by_lock_turn s p i n k refused = traps s p n lock
step_by_lock_turn s p i n k (lock_turned now) = goes_on (after_lock s p i k now) (event.acted p n)

-- action n came to this; 256 activations, 65,536 live instances, 4,294,967,295 children of one and 1,048,576 bytes of output are the most
abbrev pub step_by_effect : Labelled → State → Path → Instance → ℕ → Result Effect Trap → Step
step_by_effect program s p i n (Err trap) = traps s p n (of_value trap)
step_by_effect program s p i n (Ok (writes cell z)) = goes_on (after_write s p i cell z) (event.acted p n)
step_by_effect program s p i n (Ok (answers value)) = goes_on (after_going s p i value) (event.acted p n)
step_by_effect program s p i n (Ok (enters awaits callee zs)) =
    if_room s p n depth (nat_lt (length i.below) 255) (goes_on (after_call program s p i awaits callee zs) (event.acted p n))
step_by_effect program s p i n (Ok (gives z)) = step_by_leaving program s p i n z
step_by_effect program s p i n (Ok (starts receiver callee zs)) =
    if_room s p n instances (nat_lt (length s.instances) 65536 && nat_lt i.children (2 ^ 32 - 1))
    (spawns (child_path p (i.children + 1)) (after_start program s p i receiver callee zs) (event.spawned (child_path p (i.children + 1)) n))
step_by_effect program s p i n (Ok (writes_out bytes)) =
    if_room s p n output (nat_le (length s.output + length bytes) 1048576) (goes_on (after_print s p i bytes) (event.acted p n))
step_by_effect program s p i n (Ok (turns_lock what k)) = step_by_lock_turn s p i n k (lock_turn_of s p what k)
step_by_effect program s p i n (Ok marks) = goes_on (after_marks s p i) (event.acted p n)

-- a lock may not be held where a thread ends; the procedure may have to wait for its children (Cilk 5.4 manual, `sync`, locks)
abbrev pub step_by_head : Labelled → State → Path → Instance → Option Numbered → Step
step_by_head program s p i None = waits
step_by_head program s p i (Some head) =
    if ends_thread program i head.act && holds_lock s p then traps s p head.number held_lock
    else (if waits_here i head.act && not (is_synched s p i) then parks
    else step_by_effect program s p i head.number (effect_of (environment (store_of s p i)) head.number head.act))

abbrev pub step_by_place : State → Path → Instance → List Delivery → Path → Reached → ℕ → Result ℤ Trap → Step
step_by_place s p i others c reached n (Err trap) = traps s p n (of_value trap)
step_by_place s p i others c reached n (Ok y) = goes_on (after_place s p i others reached.cell y) (event.delivered c n)

-- a delivery is taken, and the others still wait
abbrev pub step_by_receiver : Labelled → State → Path → Instance → List Delivery → Path → ℤ → Receiver → Step
step_by_receiver program s p i others c z (place reached n) =
    step_by_place s p i others c reached n (combined reached.op (read_at (store_of s p i) reached.cell) z)
step_by_receiver program s p i others c z (through inlet ys n) =
    goes_on (after_inlet program s p i others inlet (z ∷ ys)) (event.delivered c n)

-- at a boundary the oldest delivery comes first, and before the head
abbrev pub step_at_boundary : Labelled → State → Path → Instance → List Delivery → Step
step_at_boundary program s p i [] = step_by_head program s p i (head_of i.top.items)
step_at_boundary program s p i (oldest ∷ others) = step_by_receiver program s p i others oldest.child oldest.value oldest.receiver

-- an aborted instance only ends, after its children
abbrev pub step_of_aborted : State → Path → Step
step_of_aborted s p = if has_live_child s.instances p then parks else ends (after_abort s p) (event.ended p)

abbrev pub step_of_instance : Labelled → State → Path → Instance → Step
step_of_instance program s p i =
    if i.aborted then step_of_aborted s p
    else (if at_boundary i then step_at_boundary program s p i i.waiting
    else step_by_head program s p i (head_of i.top.items))

abbrev pub step_of_live : Labelled → State → Path → Option Instance → Step
step_of_live program s p None = waits
step_of_live program s p (Some i) = step_of_instance program s p i

abbrev pub step_of : Labelled → State → Path → Step
step_of program s p = step_of_live program s p (instance_at s.instances p)
