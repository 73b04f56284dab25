-- A search between two logs, and what is found and told while it looks at one.
use Rattle.std.specs.Prelude.{◌≡◌, ◌≢◌, ◌≤◌, ◌+◌, ◌⊎◌, ℕ, List, [], ◌∷◌, ◌++◌, length, Some, slice_get}
use Rattle.cilk_machine.specs.labelled.Labelled.{Labelled}
use Rattle.cilk_machine.specs.model.Choice.{Act, Choice}
use Rattle.cilk_machine.specs.model.Run.{Position, after}
use Rattle.cilk_machine.specs.explore.Ending.{Ending}
use Rattle.cilk_machine.specs.explore.Names.{SameButNames}
use Rattle.cilk_machine.specs.explore.Search.{Known, Search, IsSearch, Told, LeadsTo, Tells}

abbrev pub search_of : List (List Choice) → ℕ → Search
search_of logs looked = record { logs = logs; looked = looked }

-- so many logs were looked at
pub record IsLooking (program : Labelled) (n : ℕ) (logs : List (List Choice)) (looked : ℕ) (told : List Told) : Type 0 where
  pub search : IsSearch program n (search_of logs looked)
  -- none is longer than one choice behind the next
  pub near : (j : ℕ) (log next : List Choice) → slice_get logs j ≡ Some log → slice_get logs looked ≡ Some next → length log ≤ length next + 1
  pub tells : Tells program n (search_of logs looked) told

-- a log of that length, which leads somewhere
pub record IsFound (program : Labelled) (n depth : ℕ) (log : List Choice) : Type 0 where
  pub size : length log ≡ depth
  pub to : Position
  pub leads : after program n log ≡ Some to

-- another log of that length leads to the same, but for the names of the workers
pub record IsOtherWay (program : Labelled) (n depth : ℕ) (log other : List Choice) : Type 0 where
  pub size : length log ≡ depth
  pub at : Position
  pub leads : after program n log ≡ Some at
  pub found : IsFound program n depth other
  pub same : SameButNames at.standing found.to.standing

-- a log is there still, or in its place one that is another way to the same
pub record IsKept (program : Labelled) (n depth : ℕ) (now : List (List Choice)) (k : ℕ) (log : List Choice) : Type 0 where
  pub other : List Choice
  pub there : slice_get now k ≡ Some other
  pub is : (other ≡ log) ⊎ IsOtherWay program n depth log other

-- more were found, each so long, and some that are so long are other ways now
pub record Extends (program : Labelled) (n depth : ℕ) (logs now : List (List Choice)) : Type 0 where
  pub kept : (k : ℕ) (log : List Choice) → slice_get logs k ≡ Some log → IsKept program n depth now k log
  pub new : (k : ℕ) (log : List Choice) → slice_get now k ≡ Some log → length logs ≤ k → IsFound program n depth log

-- where one choice behind a log leads is known, if it is possible
abbrev pub IsClosed : Labelled → ℕ → List (List Choice) → List Choice → Choice → Type 0
IsClosed program n logs log choice = (at : Position) → after program n (log ++ choice ∷ []) ≡ Some at → Known program n logs at.standing (length log + 1)

-- so for each choice of a worker, and for each choice
abbrev pub AreClosedBy : Labelled → ℕ → List (List Choice) → List Choice → ℕ → Type 0
AreClosedBy program n logs log worker = (act : Act) → IsClosed program n logs log (record { worker = worker; act = act })

abbrev pub AreClosed : Labelled → ℕ → List (List Choice) → List Choice → Type 0
AreClosed program n logs log = (choice : Choice) → IsClosed program n logs log choice

-- one more is told, which was not
pub record TellsMore (program : Labelled) (n : ℕ) (log : List Choice) (told now : List Told) : Type 0 where
  pub entry : Told
  pub is : now ≡ told ++ entry ∷ []
  pub log_is : entry.log ≡ log
  pub leads : LeadsTo program n log entry.ending
  pub other : (j : ℕ) (one : Told) → slice_get told j ≡ Some one → one.ending ≢ entry.ending

-- it is told somewhere
pub record IsAmong (told : List Told) (ending : Ending) : Type 0 where
  pub number : ℕ
  pub entry : Told
  pub there : slice_get told number ≡ Some entry
  pub ends : entry.ending ≡ ending

-- what is told once a log was looked at
pub record TellsOf (program : Labelled) (n : ℕ) (log : List Choice) (told now : List Told) : Type 0 where
  pub more : (now ≡ told) ⊎ TellsMore program n log told now
  pub known : (ending : Ending) → LeadsTo program n log ending → IsAmong now ending
