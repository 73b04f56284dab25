-- Which choices are possible, what they do, and where a list of them leads.
use Rattle.std.specs.Prelude.{ℕ, Bool, true, false, not, ◌&&◌, ◌||◌, ◌==◌, nat_le, if◌then◌else◌, List, [], ◌∷◌, ◌++◌, length, Option, Some, None}
use Rattle.std.specs.Prelude.{is_some, is_none}
use Rattle.cilk_model.specs.labelled.Labelled.{Labelled}
use Rattle.cilk_model.specs.Path.{Path}
use Rattle.cilk_model.specs.State.{Outcome, running, finished, trapped, State, opening_state}
use Rattle.cilk_model.specs.Event.{Event, moved}
use Rattle.cilk_model.specs.State.{is_empty}
use Rattle.cilk_model.specs.Pick.{Step, waits, parks, goes_on, ends, spawns, step_of}
use Rattle.cilk_model.specs.Scheduler.{Worker, Scheduler, hand_of, deque_of, popped, stolen, after_step, opening_scheduler}
use Rattle.cilk_model.specs.Choice.{Act, step, pop, steal, Choice, Refusal, over, no_worker, hand_empty, busy, deque_empty, waiting}

-- the state of the program, and where its instances are
pub record Standing : Type 0 where
  pub state : State
  pub scheduler : Scheduler

abbrev pub is_running : Outcome → Bool
is_running running = true
is_running (finished z) = false
is_running (trapped kind path n) = false

-- whether there is a worker of this number
abbrev pub is_worker : List Worker → ℕ → Bool
is_worker places w = nat_le 1 w && nat_le w (length places)

abbrev pub waits_now : Step → Option Refusal
waits_now waits = Some waiting
waits_now parks = None
waits_now (goes_on state did) = None
waits_now (ends state did) = None
waits_now (spawns child state did) = None

abbrev pub step_refusal : Labelled → State → Option Path → Option Refusal
step_refusal program s None = Some hand_empty
step_refusal program s (Some p) = waits_now (step_of program s p)

abbrev pub pop_refusal : List Worker → ℕ → Option Refusal
pop_refusal places w =
    if is_some (hand_of places w) then Some busy
    else (if is_empty (deque_of places w) then Some deque_empty
    else None)

abbrev pub steal_refusal : List Worker → ℕ → ℕ → Option Refusal
steal_refusal places w v =
    if not (is_worker places v) || (v == w) then Some no_worker
    else (if is_some (hand_of places w) || not (is_empty (deque_of places w)) then Some busy
    else (if is_empty (deque_of places v) then Some deque_empty
    else None))

abbrev pub act_refusal : Labelled → Standing → ℕ → Act → Option Refusal
act_refusal program at w step = step_refusal program at.state (hand_of at.scheduler.places w)
act_refusal program at w pop = pop_refusal at.scheduler.places w
act_refusal program at w (steal v) = steal_refusal at.scheduler.places w v

-- the first reason why the choice is not possible
abbrev pub refusal_of : Labelled → Standing → Choice → Option Refusal
refusal_of program at choice =
    if not (is_running at.state.outcome) then Some over
    else (if not (is_worker at.scheduler.places choice.worker) then Some no_worker
    else act_refusal program at choice.worker choice.act)

-- the state and the event after a step that was taken
abbrev pub state_after : State → Step → State
state_after s waits = s
state_after s parks = s
state_after s (goes_on state did) = state
state_after s (ends state did) = state
state_after s (spawns child state did) = state

abbrev pub event_of_step : Step → Event
event_of_step waits = moved
event_of_step parks = moved
event_of_step (goes_on state did) = did
event_of_step (ends state did) = did
event_of_step (spawns child state did) = did

abbrev pub stepped : Standing → ℕ → Path → Step → Standing
stepped at w p taken = record {
  state = state_after at.state taken;
  scheduler = after_step at.scheduler w p taken;
}

abbrev pub next_by_hand : Labelled → Standing → ℕ → Option Path → Standing
next_by_hand program at w None = at
next_by_hand program at w (Some p) = stepped at w p (step_of program at.state p)

abbrev pub next_by : Labelled → Standing → ℕ → Act → Standing
next_by program at w step = next_by_hand program at w (hand_of at.scheduler.places w)
next_by program at w pop = record at { scheduler = popped at.scheduler w }
next_by program at w (steal v) = record at { scheduler = stolen at.scheduler w v }

-- where a possible choice leads
abbrev pub next_of : Labelled → Standing → Choice → Standing
next_of program at choice = next_by program at choice.worker choice.act

abbrev pub event_by_hand : Labelled → State → Option Path → Event
event_by_hand program s None = moved
event_by_hand program s (Some p) = event_of_step (step_of program s p)

abbrev pub event_by : Labelled → Standing → ℕ → Act → Event
event_by program at w step = event_by_hand program at.state (hand_of at.scheduler.places w)
event_by program at w pop = moved
event_by program at w (steal v) = moved

-- what it did
abbrev pub event_of : Labelled → Standing → Choice → Event
event_of program at choice = event_by program at choice.worker choice.act

-- where choices led, and what each of them did
pub record Position : Type 0 where
  pub standing : Standing
  pub events : List Event

-- after these choices, if each is possible where it is made; the events before them are given
abbrev pub after_from : Labelled → Standing → List Event → List Choice → Option Position
after_from program at events [] = Some (record { standing = at; events = events })
after_from program at events (choice ∷ choices) =
    if is_none (refusal_of program at choice)
    then after_from program (next_of program at choice) (events ++ event_of program at choice ∷ []) choices
    else None

abbrev pub opening : Labelled → ℕ → ℕ → Standing
opening program main n =
    record { state = opening_state program main; scheduler = opening_scheduler n }

-- 1 to 64 workers
abbrev pub is_crew : ℕ → Bool
is_crew n = nat_le 1 n && nat_le n 64

abbrev pub after_main : Labelled → ℕ → Option ℕ → List Choice → Option Position
after_main program n None choices = None
after_main program n (Some main) choices =
    if is_crew n then after_from program (opening program main n) [] choices else None

-- after these choices of n workers, from the start of the program
abbrev pub after : Labelled → ℕ → List Choice → Option Position
after program n choices = after_main program n program.main choices

-- one choice more
abbrev pub position_after : Labelled → Position → Choice → Position
position_after program at choice = record {
  standing = next_of program at.standing choice;
  events = at.events ++ event_of program at.standing choice ∷ [];
}

abbrev pub one_more : Labelled → Choice → Option Position → Option Position
one_more program choice None = None
one_more program choice (Some at) =
    if is_none (refusal_of program at.standing choice) then Some (position_after program at choice) else None
