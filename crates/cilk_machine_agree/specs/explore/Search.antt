-- A search for the endings of a program, from its start on, a shorter log before a longer one: what has been found and looked at, and what is told.
use Rattle.std.specs.Prelude.{◌≡◌, ◌<◌, ◌≤◌, ◌+◌, ℕ, List, [], ◌∷◌, ◌++◌, length, Some, slice_get}
use Rattle.cilk_machine_agree.specs.labelled.Labelled.{Labelled}
use Rattle.cilk_machine_agree.specs.model.Choice.{Choice}
use Rattle.cilk_machine_agree.specs.model.Run.{Standing, Position, after}
use Rattle.cilk_machine_agree.specs.explore.Ending.{Ending, ending_at, IsOver}
use Rattle.cilk_machine_agree.specs.explore.Names.{SameButNames}

-- a log that was found leads to what is taken for that, in at most so many choices
pub record KnownBy (alike : Standing → Standing → Type 0) (program : Labelled) (n : ℕ) (logs : List (List Choice)) (at : Standing) (most : ℕ) : Type 0 where
  pub number : ℕ
  pub log : List Choice
  pub found : slice_get logs number ≡ Some log
  pub short : length log ≤ most
  pub to : Position
  pub leads : after program n log ≡ Some to
  pub same : alike to.standing at

-- where what is the same but for names is taken for one
abbrev pub Known : Labelled → ℕ → List (List Choice) → Standing → ℕ → Type 0
Known = KnownBy SameButNames

-- the logs that were found, in the order of their finding, and how many of them were looked at
pub record Search : Type 0 where
  pub logs : List (List Choice)
  pub looked : ℕ

-- it starts where no choice was made, and each choice behind a log that was looked at leads to what is known
pub record IsSearchBy (alike : Standing → Standing → Type 0) (program : Labelled) (n : ℕ) (search : Search) : Type 0 where
  pub first : slice_get search.logs 0 ≡ Some []
  pub leads : (k : ℕ) (log : List Choice) → slice_get search.logs k ≡ Some log → (to : Position) × (after program n log ≡ Some to)
  pub in_order : (j k : ℕ) (short long : List Choice) → j ≤ k → slice_get search.logs j ≡ Some short → slice_get search.logs k ≡ Some long
      → length short ≤ length long
  pub closed : (k : ℕ) (log : List Choice) (choice : Choice) (at : Position) → k < search.looked → slice_get search.logs k ≡ Some log
      → after program n (log ++ choice ∷ []) ≡ Some at → KnownBy alike program n search.logs at.standing (length log + 1)

abbrev pub IsSearch : Labelled → ℕ → Search → Type 0
IsSearch = IsSearchBy SameButNames

-- an ending, and a log that leads to it
pub record Told : Type 0 where
  pub ending : Ending
  pub log : List Choice

-- the log leads to that ending
pub record LeadsTo (program : Labelled) (n : ℕ) (log : List Choice) (ending : Ending) : Type 0 where
  pub at : Position
  pub leads : after program n log ≡ Some at
  pub over : IsOver program at.standing
  pub ends : ending_at program at.standing ≡ ending

-- it is told, with a log of at most so many choices
pub record IsTold (told : List Told) (ending : Ending) (most : ℕ) : Type 0 where
  pub number : ℕ
  pub entry : Told
  pub there : slice_get told number ≡ Some entry
  pub ends : entry.ending ≡ ending
  pub short : length entry.log ≤ most

-- no ending is told twice
abbrev pub Once : List Told → Type 0
Once told = (i j : ℕ) (one other : Told) → slice_get told i ≡ Some one → slice_get told j ≡ Some other → one.ending ≡ other.ending → i ≡ j

-- what is told are the endings of what was looked at
pub record Tells (program : Labelled) (n : ℕ) (search : Search) (told : List Told) : Type 0 where
  -- each with a log that was looked at
  pub looked : (j : ℕ) (entry : Told) → slice_get told j ≡ Some entry
      → (k : ℕ) × (k < search.looked) × (slice_get search.logs k ≡ Some entry.log) × LeadsTo program n entry.log entry.ending
  -- and each of them, with no longer log than any that was looked at
  pub each : (k : ℕ) (log : List Choice) (ending : Ending) → k < search.looked → slice_get search.logs k ≡ Some log → LeadsTo program n log ending
      → IsTold told ending (length log)
  pub once : Once told

-- each ending that is told has a log of possible choices
abbrev pub Sound : Labelled → ℕ → List Told → Type 0
Sound program n told = (j : ℕ) (entry : Told) → slice_get told j ≡ Some entry → LeadsTo program n entry.log entry.ending

-- each list of possible choices behind which none is possible has an ending that is told
abbrev pub Whole : Labelled → ℕ → List Told → Type 0
Whole program n told = (choices : List Choice) (ending : Ending) → LeadsTo program n choices ending → IsTold told ending (length choices)

-- no list of possible choices leads to an ending that is told in fewer choices than its log
abbrev pub First : Labelled → ℕ → List Told → Type 0
First program n told = (j : ℕ) (entry : Told) → slice_get told j ≡ Some entry
    → (choices : List Choice) → LeadsTo program n choices entry.ending → length entry.log ≤ length choices
