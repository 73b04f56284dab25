-- What is told of a log: how the program ends behind it, where no choice is possible, if that was not told before.
use Rattle.std.specs.Prelude.{◌≡◌, ℕ, List, [], ◌∷◌, ◌++◌, map, Some}
use Rattle.cilk_machine.specs.labelled.Bodies.{label}
use Rattle.cilk_machine.specs.model.Run.{Position}
use Rattle.cilk_machine.specs.model.End as model
use Rattle.cilk_machine.specs.sched.declared.end.End.{End}
use Rattle.cilk_machine.specs.sched.Words.{choice_of, end_of}
use Rattle.cilk_explore.specs.explore.Ending.{Ending, IsOver}
use Rattle.cilk_explore.specs.explore.Search.{Told}
use Rattle.cilk_explore.specs.Walks.{Walk, position_of}
use Rattle.cilk_explore.specs.declared.told.Told as code

-- what an end of the code means, with what was printed
abbrev pub ending_by : End → List ℕ → Ending
ending_by end output = record { end = end_of end; output = output }

abbrev pub told_by : code.Told → Told
told_by t = record { ending = ending_by t.end t.output.items; log = map choice_of t.log.items }

-- no choice is possible behind the log, and this is how it ends
pub record EndsBy (walk : Walk) (end : End) : Type 0 where
  pub over : (at : Position) → position_of walk ≡ Some at → IsOver (label walk.program) at.standing
  pub end_is : (at : Position) → position_of walk ≡ Some at → end_of end ≡ model.end_now (label walk.program) at.standing

-- that end is told with the log
pub record TellsFirst (walk : Walk) (end : End) (told now : List Told) : Type 0 where
  pub output : List ℕ
  pub printed : (at : Position) → position_of walk ≡ Some at → output ≡ at.standing.state.output
  pub is : now ≡ told ++ record { ending = ending_by end output; log = walk.log } ∷ []
