-- How a search begins, goes on by one log, and is halted.
use Rattle.std.specs.Prelude.{◌≡◌, ◌≤◌, ◌+◌, ℕ, List, [], ◌∷◌, length, Some, slice_get}
use Rattle.cilk_machine.specs.labelled.Labelled.{Labelled}
use Rattle.cilk_machine.specs.model.Choice.{step, pop, steal, Choice}
use Rattle.cilk_machine.specs.model.Run.{Position, after}
use Rattle.cilk_machine.specs.explore.Search.{Told}
use Rattle.cilk_machine.specs.explore.OrMore.{IsIdle, HasIdle, EachHasIdle}
use Rattle.cilk_explore.specs.LogLooking.{search_of, IsLooking, Extends, IsClosed, AreClosedBy, AreClosed, TellsOf}
use Rattle.cilk_explore.specs.Linking.{AreLinkedBy}

-- at first the log without choices alone is found
abbrev pub SearchBegins : Type 0
SearchBegins = (program : Labelled) (n : ℕ) (at : Position) → after program n [] ≡ Some at → IsLooking program n ([] ∷ []) 0 []

-- logs that are one choice longer were found, each choice behind the next one is known, and its ending is told: it was looked at
abbrev pub SearchGoesOn : Type 0
SearchGoesOn = (program : Labelled) (n : ℕ) (logs now : List (List Choice)) (looked : ℕ) (told after_it : List Told) (log : List Choice)
    → IsLooking program n logs looked told → slice_get logs looked ≡ Some log → Extends program n (length log + 1) logs now
    → AreClosed program n now log → TellsOf program n log told after_it → IsLooking program n now (looked + 1) after_it

-- some were found, but not all: it was not looked at
abbrev pub SearchIsHalted : Type 0
SearchIsHalted = (program : Labelled) (n : ℕ) (logs now : List (List Choice)) (looked : ℕ) (told : List Told) (log : List Choice)
    → IsLooking program n logs looked told → slice_get logs looked ≡ Some log → Extends program n (length log + 1) logs now
    → IsLooking program n now looked told

-- only those who are workers choose, and steal from such
pub record OnlyWorkersChoose (program : Labelled) (n : ℕ) (logs : List (List Choice)) (log : List Choice) : Type 0 where
  pub all : ((w : ℕ) → 1 ≤ w → w ≤ n → AreClosedBy program n logs log w) → AreClosed program n logs log
  pub acts : (w : ℕ) → IsClosed program n logs log (record { worker = w; act = step }) → IsClosed program n logs log (record { worker = w; act = pop })
      → ((v : ℕ) → 1 ≤ v → v ≤ n → IsClosed program n logs log (record { worker = w; act = steal v })) → AreClosedBy program n logs log w

-- some worker is idle behind each log that was looked at: behind none at first, and behind one more where one is behind the next log too
pub record IdleAtEach (program : Labelled) (n : ℕ) (logs : List (List Choice)) : Type 0 where
  pub begins : EachHasIdle program n (search_of logs 0)
  pub goes_on : (now : List (List Choice)) (looked depth : ℕ) (log : List Choice) (at : Position) → Extends program n depth logs now
      → slice_get logs looked ≡ Some log → after program n log ≡ Some at → HasIdle at.standing → EachHasIdle program n (search_of logs looked)
      → EachHasIdle program n (search_of now (looked + 1))
  pub halted : (now : List (List Choice)) (looked depth : ℕ) → Extends program n depth logs now → looked ≤ length logs
      → EachHasIdle program n (search_of logs looked) → EachHasIdle program n (search_of now looked)

-- where one idle worker's choices behind a log lead those of each other lead, but for names
abbrev pub IdleAreLinkedAlike : Type 0
IdleAreLinkedAlike = (program : Labelled) (n : ℕ) (logs : List (List Choice)) (links : List ℕ) (log : List Choice) (at : Position) (worker other : ℕ)
    → after program n log ≡ Some at → IsIdle at.standing worker → IsIdle at.standing other → AreLinkedBy program n logs links log worker
    → AreLinkedBy program n logs links log other
