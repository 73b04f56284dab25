-- What contracts see of a debugger.
use Rattle.std.specs.Prelude.{◌≡◌, ◌≤◌, ℕ, Bool, List, length}
use Rattle.cilk_log_replay.specs.machine.labelled.Count.{count_program}
use Rattle.cilk_log_replay.specs.Tape.{Tape, IsPlayable}

pub record Debugging : Type 0 where
  -- what is replayed
  pub tape : Tape
  -- how many choices led to where it stands
  pub position : ℕ
  -- for each action whether a breakpoint is set there
  pub marks : List Bool

-- what is always true of a debugger that stands there
pub record IsSound (t : Tape) (position : ℕ) (marks : List Bool) : Type 0 where
  pub whole : IsPlayable t
  pub within : position ≤ length t.choices
  pub marked : length marks ≡ count_program t.program
