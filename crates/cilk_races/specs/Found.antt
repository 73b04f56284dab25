-- What is found of a run.
use Rattle.std.specs.Prelude.{◌≡◌, ℕ, List, Some}
use Rattle.cilk_log_replay.specs.Tape.{Tape}
use Rattle.cilk_log_replay.specs.machine.Situation.{Situation}
use Rattle.cilk_log_replay.specs.machine.Stands.{StandsAt}
use Rattle.cilk_log_replay.specs.machine.sched.Words.{end_of}
use Rattle.cilk_log_replay.specs.machine.sched.declared.end.End.{End}
use Rattle.cilk_log_replay.specs.machine.labelled.Bodies.{label}
use Rattle.cilk_log_replay.specs.machine.model.End as model
use Rattle.cilk_log_replay.specs.machine.labelled.Labelled.{Labelled}
use Rattle.cilk_log_replay.specs.machine.model.Event.{Event}
use Rattle.cilk_log_replay.specs.machine.model.Run.{Standing}
use Rattle.cilk_races.specs.Kept.{Blocked}
use Rattle.cilk_races.specs.Paired as paired
use Rattle.cilk_races.specs.Paired.{pairs_told}
use Rattle.cilk_races.specs.Races.{Pair, entries_of, pairs_of, touches_of}
use Rattle.cilk_races.specs.Reversals.{AreReversed}
use Rattle.cilk_races.specs.declared.races.Races.{Races}
use Rattle.cilk_races.specs.declared.reversal.Reversal as kept
use Rattle.cilk_races.specs.declared.watch.Watch.{Watch}

-- the first pair of each entry
abbrev pub told_in : Races → List Pair
told_in r = pairs_told r.rows r.touches.items r.entries.items

-- the accesses are those of all choices of a tape
pub record HoldsRun (t : Tape) (r : Races) : Type 0 where
  pub program : r.machine.program ≡ t.program
  pub main : ℕ
  pub start : (label t.program).main ≡ Some main
  pub touches : paired.touches_of r.rows r.touches.items ≡ touches_of (label t.program) main t.workers t.choices

-- how a machine stands
abbrev pub EndsAs : Situation → End → Type 0
EndsAs m end = (at : Standing) → StandsAt m at → end_of end ≡ model.end_now (label m.program) at

-- they are those that a watch kept, with the entries of their pairs
pub record KeepsOf (w : Watch) (r : Races) : Type 0 where
  pub machine : r.machine ≡ w.machine
  pub rows : r.rows ≡ w.rows
  pub touches : r.touches ≡ w.touches
  pub entries : (program : Labelled) (events : List Event) → Blocked program events w.rows
      → told_in r ≡ entries_of (pairs_of program events (paired.touches_of w.rows w.touches.items))

-- the accesses of a watch, behind so many choices of so many workers, are those of the run in the other order, and it ends so
pub record IsReversalOf (races : Races) (w : Watch) (p : Pair) (choices workers : ℕ) (r : kept.Reversal) : Type 0 where
  pub choices_is : r.choices ≡ choices
  pub workers_is : r.workers ≡ workers
  pub ends : EndsAs w.machine r.end
  pub are : AreReversed (paired.touches_of races.rows races.touches.items) (paired.touches_of w.rows w.touches.items) p
