-- What the choices, refusals, events and ends of the code mean.
use Rattle.std.specs.Prelude.{ℕ, List, ◌++◌, codes, decimal, Option, Some, None}
use Rattle.cilk_frame.specs.model.Path.{Path, path_text}
use Rattle.cilk_frame.specs.model.State as state
use Rattle.cilk_frame.specs.model.Choice as model
use Rattle.cilk_frame.specs.model.Event as event
use Rattle.cilk_frame.specs.model.End as end
use Rattle.cilk_sched.specs.declared.act.Act.{Act}
use Rattle.cilk_sched.specs.declared.act.Act.TheVariants.{Step, Pop, Steal}
use Rattle.cilk_sched.specs.declared.choice.Choice.{Choice}
use Rattle.cilk_frame.specs.Kinds.{kind_of}
use Rattle.cilk_sched.specs.declared.outcome.Outcome.{Outcome}
use Rattle.cilk_sched.specs.declared.outcome.Outcome.TheVariants as outcome
use Rattle.cilk_sched.specs.declared.event.Event.{Event}
use Rattle.cilk_sched.specs.declared.event.Event.TheVariants.{Acted, Spawned, Delivered, Returned, Ended, Trapped, Moved}
use Rattle.cilk_sched.specs.declared.end.End.{End}
use Rattle.cilk_sched.specs.declared.end.End.TheVariants as ends
use Rattle.cilk_sched.specs.declared.refusal.Refusal.{Refusal}
use Rattle.cilk_sched.specs.declared.refusal.Refusal.TheVariants.{Over, NoWorker, HandEmpty, Busy, DequeEmpty, Waiting, Memory, Stale}

abbrev pub act_of : Act → model.Act
act_of Step = model.step
act_of Pop = model.pop
act_of (Steal victim) = model.steal victim

abbrev pub choice_of : Choice → model.Choice
choice_of choice = record { worker = choice.worker; act = act_of choice.act }

-- what a refusal says of the choice: want of memory is no reason of the program's
abbrev pub reason_of : Refusal → Option model.Refusal
reason_of Over = Some model.over
reason_of NoWorker = Some model.no_worker
reason_of HandEmpty = Some model.hand_empty
reason_of Busy = Some model.busy
reason_of DequeEmpty = Some model.deque_empty
reason_of Waiting = Some model.waiting
reason_of Memory = None
reason_of Stale = Some model.stale

abbrev pub outcome_of : Outcome → state.Outcome
outcome_of outcome.Running = state.running
outcome_of (outcome.Finished value) = state.finished value
outcome_of (outcome.Trapped kind path n) = state.trapped (kind_of kind) path n

abbrev pub event_of : Event → event.Event
event_of (Acted path n) = event.acted path n
event_of (Spawned child n) = event.spawned child n
event_of (Delivered child n) = event.delivered child n
event_of (Returned path n) = event.returned path n
event_of (Ended path) = event.ended path
event_of (Trapped kind path n) = event.trapped (kind_of kind) path n
event_of Moved = event.moved

abbrev pub end_of : End → end.End
end_of (ends.Finished value) = end.finished value
end_of (ends.Trapped kind path n line) = end.trapped (kind_of kind) path n line
end_of ends.Stuck = end.stuck
end_of ends.Limit = end.limit

-- how a trap is told, at action n on a line, as the closing text and the line of a position tell it
abbrev pub trapped_text : state.TrapKind → Path → ℕ → ℕ → List ℕ
trapped_text kind path n line =
    codes "trapped " ++ (end.kind_text kind ++ (codes " in " ++ (path_text path ++ (codes " at " ++ (decimal n ++ (codes ", line " ++ decimal line))))))
