-- What `measure` writes.
use Rattle.std.specs.Prelude.{◌≡◌, ℕ, List}
use Rattle.cilk_program_runs.specs.commands.declared.status.Status.{Status}
use Rattle.cilk_program_runs.specs.commands.declared.status.Status.TheVariants.{Done}
use Rattle.cilk_races.specs.replay.Tape.{Tape}
use Rattle.cilk_races.specs.Gauged.{IsMeasureOf}
use Rattle.cilk_races.specs.Measure.{Measure}
use Rattle.cilk_races.specs.Text.{measure_text}

-- the text of the numbers of all choices of a tape
pub record AreNumbers (tape : Tape) (answer : List ℕ) : Type 0 where
  pub numbers : Measure
  pub are : IsMeasureOf tape numbers
  pub is : answer ≡ measure_text numbers

-- and all is done
pub record IsMeasured (tape : Tape) (status : Status) (answer : List ℕ) : Type 0 where
  pub are : AreNumbers tape answer
  pub told : status ≡ Done
