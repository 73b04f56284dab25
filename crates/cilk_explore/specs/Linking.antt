-- Links between the logs of a search: where the choices behind each lead. They tell which logs can be marked as such behind which the program can end.
use Rattle.std.specs.Prelude.{◌≡◌, ◌≤◌, ◌+◌, ℕ, Bool, List, [], ◌∷◌, ◌++◌, length, Some, slice_get}
use Rattle.cilk_machine.specs.labelled.Labelled.{Labelled}
use Rattle.cilk_machine.specs.model.Choice.{Act, Choice}
use Rattle.cilk_machine.specs.model.Run.{Standing, Position, after}
use Rattle.cilk_machine.specs.explore.Search.{Known, Search, IsSearch}
use Rattle.cilk_machine.specs.explore.Endless.{AreMarked}
use Rattle.cilk_explore.specs.Marking.{mark_of, AreMarks}

-- some choice behind the log leads to the same as the log of this number
pub record IsLink (program : Labelled) (n : ℕ) (logs : List (List Choice)) (log : List Choice) (number : ℕ) : Type 0 where
  pub choice : Choice
  pub at : Position
  pub leads : after program n (log ++ choice ∷ []) ≡ Some at
  pub known : Known program n logs at.standing (length log + 1)
  pub is : known.number ≡ number

-- one of these is the number of a log that leads to the same, in at most so many choices
pub record HasLink (program : Labelled) (n : ℕ) (logs : List (List Choice)) (links : List ℕ) (at : Standing) (most : ℕ) : Type 0 where
  pub known : Known program n logs at most
  pub place : ℕ
  pub there : slice_get links place ≡ Some known.number

-- where one choice behind a log leads there is a link to, if it is possible
abbrev pub IsLinked : Labelled → ℕ → List (List Choice) → List ℕ → List Choice → Choice → Type 0
IsLinked program n logs links log choice =
    (at : Position) → after program n (log ++ choice ∷ []) ≡ Some at → HasLink program n logs links at.standing (length log + 1)

-- so for each choice of a worker
abbrev pub AreLinkedBy : Labelled → ℕ → List (List Choice) → List ℕ → List Choice → ℕ → Type 0
AreLinkedBy program n logs links log worker = (act : Act) → IsLinked program n logs links log (record { worker = worker; act = act })

-- just these are the links of a log
pub record AreLinks (program : Labelled) (n : ℕ) (logs : List (List Choice)) (links : List ℕ) (log : List Choice) : Type 0 where
  pub each : (place number : ℕ) → slice_get links place ≡ Some number → IsLink program n logs log number
  pub all : (choice : Choice) → IsLinked program n logs links log choice

-- the first logs, so many, have their links
pub record AreLinked (program : Labelled) (n : ℕ) (logs : List (List Choice)) (links : List (List ℕ)) (looked : ℕ) : Type 0 where
  pub size : length links ≡ looked
  pub within : looked ≤ length logs
  pub own : (k : ℕ) (log : List Choice) (mine : List ℕ) → slice_get logs k ≡ Some log → slice_get links k ≡ Some mine → AreLinks program n logs mine log

-- where all that was found was looked at, marks by links are marks of the logs behind which the program can end
abbrev pub MarksAreByLinks : Type 0
MarksAreByLinks = (program : Labelled) (n : ℕ) (search : Search) (links : List (List ℕ)) (marks : List Bool) → IsSearch program n search
    → length search.logs ≤ search.looked → AreLinked program n search.logs links search.looked → AreMarks links marks
    → AreMarked program n search.logs (mark_of marks)
