-- The races of all choices of a tape.
use Rattle.std.specs.Prelude.{◌≡◌, ℕ, List, length, Some}
use Rattle.cilk_log_replay.specs.Tape.{Tape, position_at}
use Rattle.cilk_log_replay.specs.machine.labelled.Bodies.{label}
use Rattle.cilk_log_replay.specs.machine.model.Run.{Position}
use Rattle.cilk_races.specs.Races.{Pair, touches_of, pairs_of, entries_of}

-- the body of `main` is the one that the root runs
pub record AreRacesOf (t : Tape) (entries : List Pair) : Type 0 where
  pub at : Position
  pub led : position_at t (length t.choices) ≡ Some at
  pub main : ℕ
  pub start : (label t.program).main ≡ Some main
  pub are : entries ≡ entries_of (pairs_of (label t.program) at.events (touches_of (label t.program) main t.workers t.choices))
