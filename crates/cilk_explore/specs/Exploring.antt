-- What is always true of a search between two logs, and while it looks at one; and what an exploration tells of a program.
use Rattle.std.specs.Prelude.{◌≡◌, ◌<◌, ◌≤◌, ◌+◌, ◌⊎◌, ℕ, true, false, List, [], ◌∷◌, ◌++◌, length, map, Option, Some, None, IfSome, slice_get}
use Rattle.std.specs.Prelude.{option_map}
use Rattle.cilk_machine.specs.syntax.Tree.{Program}
use Rattle.cilk_machine.specs.labelled.Labelled.{Labelled}
use Rattle.cilk_machine.specs.labelled.Bodies.{label}
use Rattle.cilk_machine.specs.model.Choice.{Choice}
use Rattle.cilk_machine.specs.model.Run.{Position, after}
use Rattle.cilk_machine.specs.sched.Words.{choice_of}
use Rattle.cilk_explore.specs.explore.Endless.{CanEnd}
use Rattle.cilk_explore.specs.explore.OrMore.{HasIdle, EachHasIdle}
use Rattle.cilk_explore.specs.explore.Search.{Known, Once, Sound, Whole, First}
use Rattle.cilk_explore.specs.declared.exploration.Exploration.{Exploration}
use Rattle.cilk_explore.specs.declared.explorer.Explorer.{Explorer}
use Rattle.cilk_explore.specs.Walks.{position_of}
use Rattle.cilk_explore.specs.Telling.{told_by}
use Rattle.cilk_explore.specs.Looking.{StandsAtLog}
use Rattle.cilk_explore.specs.LogLooking.{search_of, IsLooking, Extends}
use Rattle.cilk_explore.specs.Linking.{IsLink, AreLinked}

-- the program, and how many workers there are
abbrev pub program_of : Explorer → Labelled
program_of e = label e.walker.program

abbrev pub workers_of : Explorer → ℕ
workers_of e = e.walker.workers

-- both machines are of one program, by as many workers, and the second stands behind a log that was found
pub record IsPaired (e : Explorer) : Type 0 where
  pub program : e.probe.walker.program ≡ e.walker.program
  pub workers : e.probe.walker.workers ≡ e.walker.workers
  pub stands : StandsAtLog e.store e.probe.number e.probe.walker

-- it has looked at so many logs
pub record IsBetween (e : Explorer) (looked : ℕ) : Type 0 where
  pub paired : IsPaired e
  pub looking : IsLooking (program_of e) (workers_of e) e.store looked (map told_by e.told.items)
  pub room : length e.store ≤ e.limit
  pub idle : e.idle ≡ true → EachHasIdle (program_of e) (workers_of e) (search_of e.store looked)

-- the logs that it has looked at have their links, and no other has any
pub record HasLinks (e : Explorer) (looked : ℕ) : Type 0 where
  pub past : AreLinked (program_of e) (workers_of e) e.store e.links.past looked
  pub none : e.links.here ≡ []

-- it has looked at all that it has found
pub record IsThrough (e : Explorer) : Type 0 where
  pub looked : ℕ
  pub between : IsBetween e looked
  pub links : HasLinks e looked
  pub all : length e.store ≤ looked

-- there may be more workers, where one was idle wherever it has looked
pub record IsOfMore (e : Explorer) (n : ℕ) : Type 0 where
  pub idle : e.idle ≡ true
  pub least : workers_of e ≤ n
  pub most : n ≤ 64

-- what it has found is so of as many workers as it has, and of more, where there may be
abbrev pub IsOf : Explorer → ℕ → Type 0
IsOf e n = (n ≡ workers_of e) ⊎ IsOfMore e n

-- some worker is idle where it stands, if it says so
abbrev pub SaysIdle : Explorer → Type 0
SaysIdle e = e.idle ≡ true → (at : Position) → position_of e.walker ≡ Some at → HasIdle at.standing

-- each log that was found leads somewhere, by no more choices than this
pub record AreFound (program : Labelled) (n most : ℕ) (logs : List (List Choice)) : Type 0 where
  pub size : (k : ℕ) (log : List Choice) → slice_get logs k ≡ Some log → length log ≤ most
  pub leads : (k : ℕ) (log : List Choice) → slice_get logs k ≡ Some log → (to : Position) × (after program n log ≡ Some to)

-- it stands at the log of this number, at which it looks
pub record IsAt (e : Explorer) (number : ℕ) : Type 0 where
  pub paired : IsPaired e
  pub there : slice_get e.store number ≡ Some e.walker.log
  pub found : AreFound (program_of e) (workers_of e) (length e.walker.log + 1) e.store
  pub room : length e.store ≤ e.limit

-- or one choice behind it
pub record IsBehind (e : Explorer) (number : ℕ) (choice : Choice) : Type 0 where
  pub paired : IsPaired e
  pub front : List Choice
  pub there : slice_get e.store number ≡ Some front
  pub behind : e.walker.log ≡ front ++ choice ∷ []
  pub found : AreFound (program_of e) (workers_of e) (length e.walker.log) e.store
  pub room : length e.store ≤ e.limit

-- the log of this number leads to the same as where it stands
pub record IsKnownBy (e : Explorer) (number : ℕ) : Type 0 where
  pub at : Position
  pub here : position_of e.walker ≡ Some at
  pub known : Known (program_of e) (workers_of e) e.store at.standing (length e.walker.log)
  pub is : known.number ≡ number

-- it goes on with the same program and the same limit
pub record GoesOn (e f : Explorer) : Type 0 where
  pub program : f.walker.program ≡ e.walker.program
  pub workers : f.walker.workers ≡ e.walker.workers
  pub limit : f.limit ≡ e.limit

-- nothing has changed but the probe and the logs that were found, of which some are new, of that length
pub record KeepsBut (depth : ℕ) (e f : Explorer) : Type 0 where
  pub walker : f.walker ≡ e.walker
  pub program : f.probe.walker.program ≡ e.probe.walker.program
  pub workers : f.probe.walker.workers ≡ e.probe.walker.workers
  pub stands : StandsAtLog f.store f.probe.number f.probe.walker
  pub told : f.told ≡ e.told
  pub limit : f.limit ≡ e.limit
  pub idle : f.idle ≡ e.idle
  pub extends : Extends (program_of e) (workers_of e) depth e.store f.store
  pub room : length f.store ≤ f.limit

abbrev pub KeepsAs : Explorer → Explorer → Type 0
KeepsAs e f = KeepsBut (length e.walker.log) e f

abbrev pub Grows : Explorer → Explorer → Type 0
Grows e f = KeepsBut (length e.walker.log + 1) e f

-- links of the log at which it looks were put down, and no other links
pub record Gathers (e f : Explorer) : Type 0 where
  pub past : f.links.past ≡ e.links.past
  pub more : List ℕ
  pub is : f.links.here ≡ e.links.here ++ more
  pub each : (place number : ℕ) → slice_get more place ≡ Some number → IsLink (program_of e) (workers_of e) f.store e.walker.log number

-- whatever choices follow the log, the program goes on, and so it is behind no shorter one
pub record NeverEnds (program : Labelled) (n : ℕ) (log : List Choice) : Type 0 where
  pub at : Position
  pub leads : after program n log ≡ Some at
  pub never : ¬ CanEnd program at.standing
  pub first : (choices : List Choice) (to : Position) → after program n choices ≡ Some to → ¬ CanEnd program to.standing → length log ≤ length choices

-- behind each list of possible choices some choices end the program
abbrev pub EachCanEnd : Labelled → ℕ → Type 0
EachCanEnd program n = (choices : List Choice) (at : Position) → after program n choices ≡ Some at → CanEnd program at.standing

-- the log that is told as one without an end
abbrev pub endless_of : Exploration → Option (List Choice)
endless_of e = option_map (λ log. map choice_of log.items) e.endless

-- all that is told is so of n workers: each ending has a log of possible choices, and none in fewer, and these are all; and a log behind which the program
-- never ends is told, unless there is none
pub record IsWholeOf (program : Labelled) (n : ℕ) (e : Exploration) : Type 0 where
  pub sound : Sound program n (map told_by e.told.items)
  pub first : First program n (map told_by e.told.items)
  pub whole : Whole program n (map told_by e.told.items)
  pub endless : IfSome (endless_of e) (NeverEnds program n)
  pub none : e.endless ≡ None → EachCanEnd program n

-- it is whole, there may be more than n workers, and it is so of each larger number too
pub record IsOrMore (program : Labelled) (n : ℕ) (e : Exploration) : Type 0 where
  pub whole : e.whole ≡ true
  pub fewer : n < 64
  pub each : (m : ℕ) → n ≤ m → m ≤ 64 → IsWholeOf program m e

-- each ending that is told has a log of possible choices, and none in fewer choices, and is told once; where it is whole, these are all; and where it
-- is not, the limit was met. A log behind which the program never ends is told where it is whole, unless there is none, and not else
pub record IsExploration (program : Program) (n limit : ℕ) (e : Exploration) : Type 0 where
  pub sound : Sound (label program) n (map told_by e.told.items)
  pub first : First (label program) n (map told_by e.told.items)
  pub whole : e.whole ≡ true → Whole (label program) n (map told_by e.told.items)
  pub once : Once (map told_by e.told.items)
  pub endless : IfSome (endless_of e) (NeverEnds (label program) n)
  pub only : e.whole ≡ false → e.endless ≡ None
  pub none : e.whole ≡ true → e.endless ≡ None → EachCanEnd (label program) n
  pub within : e.standings ≤ limit
  pub met : e.whole ≡ false → limit ≤ e.standings
  pub more : e.or_more ≡ true → IsOrMore (label program) n e
