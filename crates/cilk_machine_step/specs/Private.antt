-- Which step of a worker touches nothing that others see: it reads and writes no variable of the top level, does not read `SYNCHED`, and stands
-- between no two threads of its procedure.
use Rattle.std.specs.Prelude.{ℕ, Bool, true, false, not, ◌&&◌, ◌||◌, Option, Some, None, is_none}
use Rattle.cilk_load.specs.labelled.Term.{Term, number, variable, element, synched, unary, binary, choose}
use Rattle.cilk_load.specs.labelled.Labelled as labelled
use Rattle.cilk_load.specs.labelled.Labelled.{Labelled, Declaration, local, outer, global, of_lock, of_body, unknown, Numbered}
use Rattle.cilk_load.specs.labelled.Labelled.{Action, assign, call, spawn, print, locking, null, break_off, go_round, tests, sync, abort}
use Rattle.cilk_load.specs.labelled.Labelled.{return_with, return_nothing, close}
use Rattle.cilk_load.specs.labelled.Items.{head_of}
use Rattle.cilk_machine_plan.specs.model.Values.{Reached}
use Rattle.cilk_machine_plan.specs.model.Path.{Path}
use Rattle.cilk_machine_plan.specs.model.Instance.{Instance}
use Rattle.cilk_machine_plan.specs.model.State.{Instances, instance_at}
use Rattle.cilk_machine_plan.specs.model.Change.{leaves, at_boundary}
use Rattle.cilk_machine_plan.specs.model.Event.{Event, acted, spawned, delivered, returned, ended, trapped, moved}
use Rattle.cilk_machine_plan.specs.model.Choice.{Choice, step}
use Rattle.cilk_machine_plan.specs.model.Scheduler.{hand_of}
use Rattle.cilk_machine_plan.specs.model.Run.{Standing, refusal_of, event_of}

-- each place in the expression is an own one, and `SYNCHED` does not stand in it
abbrev pub owns : {P : Type 0} → (P → Bool) → Term P → Bool
owns own (number n) = true
owns own (variable p) = own p
owns own (element p t) = own p && owns own t
owns own synched = false
owns own (unary op t) = owns own t
owns own (binary op a b) = owns own a && owns own b
owns own (choose t a b) = owns own t && (owns own a && owns own b)

-- a variable of the activation, or of the procedure around an inlet
abbrev pub is_own : Declaration → Bool
is_own (local n) = true
is_own (outer n) = true
is_own (global n) = false
is_own (of_lock n) = false
is_own (of_body n) = false
is_own unknown = false

abbrev pub owns_target : labelled.Target → Bool
owns_target (labelled.variable d) = is_own d
owns_target (labelled.element d subscript) = is_own d && owns is_own subscript

-- an assignment, a test, a jump or the end of a body, whose place and expression are so
abbrev pub owns_act : Action → Bool
owns_act (assign place value) = owns_target place.target && owns is_own value
owns_act (call place callee arguments) = false
owns_act (spawn taker callee arguments) = false
owns_act (print format arguments) = false
owns_act (locking what lock) = false
owns_act null = true
owns_act break_off = true
owns_act go_round = true
owns_act (tests value) = owns is_own value
owns_act sync = false
owns_act abort = false
owns_act (return_with value) = owns is_own value
owns_act return_nothing = true
owns_act close = true

-- what takes the value of the C function that is left, if anything does, is an own place of its caller
abbrev pub owns_awaited : Option Reached → Bool
owns_awaited None = true
owns_awaited (Some reached) = is_own reached.cell.place

abbrev pub owns_head : Instance → Option Numbered → Bool
owns_head i None = false
owns_head i (Some head) = owns_act head.act && (not (leaves head.act) || owns_awaited i.top.awaits)

abbrev pub owns_live : Option Instance → Bool
owns_live None = false
owns_live (Some i) = not (at_boundary i) && owns_head i (head_of i.top.items)

-- the action with which the instance in a hand goes on is so, and no inlet may run before it
abbrev pub owns_next : Instances → Option Path → Bool
owns_next instances None = false
owns_next instances (Some p) = owns_live (instance_at instances p)

-- an action was acted: no delivery was taken, nothing was spawned or ended, and nothing was trapped
abbrev pub is_acted : Event → Bool
is_acted (acted p n) = true
is_acted (spawned p n) = false
is_acted (delivered p n) = false
is_acted (returned p n) = false
is_acted (ended p) = false
is_acted (trapped kind p n) = false
is_acted moved = false

abbrev pub stepping : ℕ → Choice
stepping w = record { worker = w; act = step }

-- worker w can step, and its step is private
abbrev pub is_private : Labelled → Standing → ℕ → Bool
is_private program at w =
    is_none (refusal_of program at (stepping w))
    && (owns_next at.state.instances (hand_of at.scheduler.places w) && is_acted (event_of program at (stepping w)))
