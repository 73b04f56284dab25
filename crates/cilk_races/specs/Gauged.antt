-- A machine that makes the choices of a tape again, with what is kept of them, and the numbers that are told of the tape.
use Rattle.std.specs.Prelude.{◌≡◌, ℕ, List, [], length, Option, Some, None, slice_get}
use Rattle.cilk_log_replay.specs.machine.labelled.Bodies.{label}
use Rattle.cilk_log_replay.specs.machine.model.Event.{Event}
use Rattle.cilk_log_replay.specs.machine.model.Run.{Position}
use Rattle.cilk_log_replay.specs.machine.sched.declared.choice.Choice.{Choice}
use Rattle.cilk_log_replay.specs.machine.spawn.Nodes.{path_at}
use Rattle.cilk_log_replay.specs.machine.plans.declared.did.Did.{Did}
use Rattle.cilk_log_replay.specs.machine.plans.PartWords.{event_by}
use Rattle.cilk_log_replay.specs.Tape.{Tape, position_at, did_at}
use Rattle.cilk_races.specs.Measure.{Measure, measure_of}
use Rattle.cilk_races.specs.declared.gauge.Gauge.{Gauge}
use Rattle.cilk_races.specs.Tallies.{noted}
use Rattle.cilk_races.specs.Seats.{counts_after}

-- one choice more was made, and what it did was noted
pub record Advances (t : Tape) (choices : List Choice) (made : ℕ) (old new : Gauge) : Type 0 where
  pub did : Did
  pub choice : Choice
  pub chosen : slice_get choices made ≡ Some choice
  pub is : did_at t made ≡ Some (event_by (path_at old.machine.machine.nodes) (path_at new.machine.machine.nodes) did)
  pub tally : new.tally ≡ noted new.machine.program new.machine.machine.nodes did old.tally
  pub counts : new.counts ≡ counts_after choice did old.counts

-- the events of the first k choices
abbrev pub events_in : Option Position → List Event
events_in None = []
events_in (Some at) = at.events

abbrev pub events_at : Tape → ℕ → List Event
events_at t k = events_in (position_at t k)

-- the numbers of all choices of a tape
pub record IsMeasureOf (t : Tape) (m : Measure) : Type 0 where
  pub at : Position
  pub led : position_at t (length t.choices) ≡ Some at
  pub is : m ≡ measure_of (label t.program) t.workers t.choices at.events
