-- What the next choice of a machine touches, and that it was made.
use Rattle.std.specs.Prelude.{◌≡◌, ◌⊎◌, ℕ, suc, List, [], None, Some, slice_get}
use Rattle.cilk_log_replay.specs.Tape.{Tape, did_at}
use Rattle.cilk_log_replay.specs.machine.Ahead.{IsAhead}
use Rattle.cilk_log_replay.specs.machine.Situation.{Situation}
use Rattle.cilk_log_replay.specs.machine.plans.PartWords.{event_by}
use Rattle.cilk_log_replay.specs.machine.plans.declared.did.Did.{Did}
use Rattle.cilk_log_replay.specs.machine.sched.declared.act.Act.{Act}
use Rattle.cilk_log_replay.specs.machine.sched.declared.act.Act.TheVariants.{Step, Pop, Steal}
use Rattle.cilk_log_replay.specs.machine.sched.declared.choice.Choice.{Choice}
use Rattle.cilk_log_replay.specs.machine.model.Hands.{IsWorker, hand_of}
use Rattle.cilk_log_replay.specs.machine.spawn.Nodes.{path_at}
use Rattle.cilk_log_replay.specs.machine.step.plan.StepInput.{StepInput, id_of, own_node}
use Rattle.cilk_log_replay.specs.machine.step.Shown.{held, touched}
use Rattle.cilk_log_replay.specs.machine.step.CellWords.{told}
use Rattle.cilk_races.specs.Noted.{IsNoted}
use Rattle.cilk_races.specs.declared.look.Look.{Look}
use Rattle.cilk_races.specs.declared.watch.Watch.{Watch}

-- it is that of the step of a worker
pub record Looks (m : Situation) (w : ℕ) (look : Look) : Type 0 where
  pub input : StepInput
  pub ahead : IsAhead m w input
  pub own : look.own ≡ id_of input
  pub cells : told input look.accesses.items ≡ touched input
  pub locks : look.locks.items ≡ held input
  pub procedure : look.procedure ≡ (own_node input).procedure

pub record IsNothing (look : Look) : Type 0 where
  pub own : look.own ≡ 0
  pub cells : look.accesses.items ≡ []

-- no worker of this number has a frame in its hand
pub record SeesNone (m : Situation) (w : ℕ) (look : Look) : Type 0 where
  pub empty : IsWorker m.machine.places w → hand_of m.machine.places w ≡ None
  pub nothing : IsNothing look

abbrev pub LooksBy : Situation → ℕ → Act → Look → Type 0
LooksBy m w Step look = Looks m w look ⊎ SeesNone m w look
LooksBy m w Pop look = IsNothing look
LooksBy m w (Steal victim) look = IsNothing look

abbrev pub LooksAt : Situation → Choice → Look → Type 0
LooksAt m choice look = LooksBy m choice.worker choice.act look

-- one choice more was made, and what it touched was kept
pub record AdvancesWatch (t : Tape) (choices : List Choice) (made : ℕ) (old new : Watch) : Type 0 where
  pub did : Did
  pub choice : Choice
  pub look : Look
  pub chosen : slice_get choices made ≡ Some choice
  pub is : did_at t made ≡ Some (event_by (path_at old.machine.machine.nodes) (path_at new.machine.machine.nodes) did)
  pub looks : LooksAt old.machine choice look
  pub noted : IsNoted new.machine.program new.machine.machine.nodes look (suc made) did old new
