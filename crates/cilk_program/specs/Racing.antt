-- What `races` writes.
use Rattle.std.specs.Prelude.{◌≡◌, ℕ, zero, suc, List}
use Rattle.cilk_program_runs.specs.commands.declared.status.Status.{Status}
use Rattle.cilk_program_runs.specs.commands.declared.status.Status.TheVariants.{Done, Several}
use Rattle.cilk_races.specs.replay.Tape.{Tape}
use Rattle.cilk_races.specs.RacesText.{IsRacesText}

-- the status tells whether there is a race
abbrev pub status_of_races : ℕ → Status
status_of_races zero = Done
status_of_races (suc n) = Several

-- the text of the races of all choices of a tape
pub record AreRaces (tape : Tape) (status : Status) (answer : List ℕ) : Type 0 where
  pub count : ℕ
  pub are : IsRacesText tape count answer
  pub told : status ≡ status_of_races count
