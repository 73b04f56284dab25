-- The steps of a run, as the events tell them.
use Rattle.std.specs.Prelude.{ℕ, Bool, true, false, List, [], ◌∷◌, ◌++◌, Option, Some, None}
use Rattle.cilk_log_replay.specs.machine.nodes.model.labelled.Labelled.{Labelled}
use Rattle.cilk_log_replay.specs.machine.nodes.model.Path.{Path}
use Rattle.cilk_log_replay.specs.machine.nodes.model.Change.{is_sync}
use Rattle.cilk_log_replay.specs.machine.nodes.model.Event.{Event, acted, spawned, delivered, returned, ended, trapped, moved}
use Rattle.cilk_races.specs.Acts.{act_of, is_so}
use Rattle.cilk_races.specs.Inside.{inside_of, parent_path}

pub record Step : Type 0 where
  -- its instance
  pub path : Path
  -- the child whose value it takes, or whose inlet it is of; a thread's step has none
  pub taking : Option Path
  -- the child that it spawns
  pub child : Option Path
  -- whether it waited for all children: it passes a `sync`, or its instance ends (Cilk 5.4 manual, `sync`, `return`)
  pub joins : Bool
  -- how many bodies its instance runs behind it, above the procedure's own
  pub above : ℕ

-- the step of an event, behind these events
abbrev pub step_at : Labelled → List Event → Event → Path → Option Path → Option Path → Bool → Step
step_at program before e p taking child joins = record {
  path = p;
  taking = taking;
  child = child;
  joins = joins;
  above = (inside_of program (before ++ e ∷ []) p).above;
}

-- one that the thread or the inlet takes that its instance is in
abbrev pub step_within : Labelled → List Event → Event → Path → Bool → Step
step_within program before e p joins = step_at program before e p (inside_of program before p).taking None joins

abbrev pub step_of : Labelled → List Event → Event → Option Step
step_of program before (acted p n) = Some (step_within program before (acted p n) p (is_so is_sync (act_of program n)))
step_of program before (spawned c n) = Some (step_at program before (spawned c n) (parent_path c) None (Some c) false)
step_of program before (delivered c n) = Some (step_at program before (delivered c n) (parent_path c) (Some c) None false)
step_of program before (returned p n) = Some (step_at program before (returned p n) p None None true)
step_of program before (ended p) = Some (step_at program before (ended p) p None None true)
step_of program before (trapped kind p n) = Some (step_within program before (trapped kind p n) p false)
step_of program before moved = None

abbrev pub listed : Option Step → List Step
listed None = []
listed (Some s) = s ∷ []

-- those of events, behind others
abbrev pub steps_from : Labelled → List Event → List Event → List Step
steps_from program before [] = []
steps_from program before (e ∷ events) = listed (step_of program before e) ++ steps_from program (before ++ e ∷ []) events

abbrev pub steps_of : Labelled → List Event → List Step
steps_of program events = steps_from program [] events
