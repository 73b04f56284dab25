-- How a machine gets from one log that was found to another, and a standing that was found before.
use Rattle.std.specs.Prelude.{◌≡◌, ◌<◌, ℕ, List, [], ◌∷◌, ◌++◌, length, Some, slice_get}
use Rattle.cilk_machine.specs.labelled.Bodies.{label}
use Rattle.cilk_machine.specs.model.Choice.{Choice}
use Rattle.cilk_machine.specs.model.Run.{Position, after}
use Rattle.cilk_explore.specs.explore.Names.{SameButNames}
use Rattle.cilk_explore.specs.Walks.{Walk, position_of}

-- the log of this number leads to the same as the walk, but for the names of the workers
pub record LeadsToSame (walk : Walk) (logs : List (List Choice)) (number : ℕ) : Type 0 where
  pub log : List Choice
  pub found : slice_get logs number ≡ Some log
  pub same : (a b : Position) → after (label walk.program) walk.workers log ≡ Some a → position_of walk ≡ Some b → SameButNames a.standing b.standing

-- once so many choices of one log were taken back, these lead on to the other
pub record IsWay (logs : List (List Choice)) (from to back : ℕ) (tail : List Choice) : Type 0 where
  pub front : List Choice
  pub rest : List Choice
  pub size : length rest ≡ back
  pub here : slice_get logs from ≡ Some (front ++ rest)
  pub there : slice_get logs to ≡ Some (front ++ tail)

-- the walk is along the log of this number
abbrev pub StandsAtLog : List (List Choice) → ℕ → Walk → Type 0
StandsAtLog logs number walk = slice_get logs number ≡ Some walk.log

-- a log has a choice more than that of the other number
pub record IsLongerBy (logs : List (List Choice)) (number parent : ℕ) : Type 0 where
  pub front : List Choice
  pub last : Choice
  pub below : parent < number
  pub here : slice_get logs number ≡ Some (front ++ last ∷ [])
  pub there : slice_get logs parent ≡ Some front
