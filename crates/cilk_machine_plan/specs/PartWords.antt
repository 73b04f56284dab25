-- What the words of the code mean.
use Rattle.std.specs.Prelude.{ℕ}
use Rattle.cilk_machine_agree.specs.model.Path.{Path}
use Rattle.cilk_machine_agree.specs.model.Event as event
use Rattle.cilk_machine_agree.specs.model.Event.{Event}
use Rattle.cilk_machine_agree.specs.Outside as outside
use Rattle.cilk_machine_agree.specs.Agrees.{MachineParts}
use Rattle.cilk_machine_agree.specs.frame.Kinds.{kind_of}
use Rattle.cilk_machine_plan.specs.declared.did.Did.{Did}
use Rattle.cilk_machine_plan.specs.declared.did.Did.TheVariants.{Moved, Acted, Spawned, Delivered, Returned, Ended}
use Rattle.cilk_machine_plan.specs.declared.did.Did.TheVariants as did
use Rattle.cilk_machine_plan.specs.declared.did.Outcome.{Outcome}
use Rattle.cilk_machine_plan.specs.declared.did.Outcome.TheVariants.{Running, Finished, Trapped}
use Rattle.cilk_machine_plan.specs.declared.parts.Parts.{Parts}

abbrev pub outcome_of : Outcome → outside.Outcome
outcome_of Running = outside.running
outcome_of (Finished z) = outside.finished z
outcome_of (Trapped kind id n) = outside.trapped (kind_of kind) id n

-- the machine of these parts
abbrev pub machine_of : Parts → outside.Outcome → MachineParts
machine_of parts outcome = record {
  outside = record { cells = parts.globals.items; locks = parts.locks.items; output = parts.output.items; outcome = outcome };
  nodes = parts.tree.nodes;
  places = parts.hands;
}

-- where each id goes by its path, before the step and after it
abbrev pub event_by : (ℕ → Path) → (ℕ → Path) → Did → Event
event_by up now Moved = event.moved
event_by up now (Acted id n) = event.acted (up id) n
event_by up now (Spawned id n) = event.spawned (now id) n
event_by up now (Delivered id n) = event.delivered (up id) n
event_by up now (Returned id n) = event.returned (up id) n
event_by up now (Ended id) = event.ended (up id)
event_by up now (did.Trapped kind id n) = event.trapped (kind_of kind) (up id) n
