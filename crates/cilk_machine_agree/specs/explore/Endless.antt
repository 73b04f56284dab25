-- Standings from which no list of choices ends the program: what a search that has looked at all it found may mark.
use Rattle.std.specs.Prelude.{◌≡◌, ◌≤◌, ℕ, Bool, true, false, List, [], ◌∷◌, ◌++◌, length, Some, slice_get}
use Rattle.cilk_machine_agree.specs.labelled.Labelled.{Labelled}
use Rattle.cilk_machine_agree.specs.model.Choice.{Choice}
use Rattle.cilk_machine_agree.specs.model.Run.{Standing, Position, after_from, after}
use Rattle.cilk_machine_agree.specs.explore.Ending.{IsOver}
use Rattle.cilk_machine_agree.specs.explore.Names.{SameButNames}
use Rattle.cilk_machine_agree.specs.explore.Search.{KnownBy, Search, IsSearchBy}

-- some possible choices lead on to where none is possible
pub record CanEnd (program : Labelled) (at : Standing) : Type 0 where
  pub choices : List Choice
  pub to : Position
  pub leads : after_from program at [] choices ≡ Some to
  pub over : IsOver program to.standing

-- a log without a mark leads to what is taken for that
pub record UnmarkedBy (alike : Standing → Standing → Type 0) (program : Labelled) (n : ℕ) (logs : List (List Choice)) (marks : ℕ → Bool)
    (at : Standing) : Type 0 where
  pub number : ℕ
  pub log : List Choice
  pub found : slice_get logs number ≡ Some log
  pub none : marks number ≡ false
  pub to : Position
  pub leads : after program n log ≡ Some to
  pub same : alike to.standing at

abbrev pub Unmarked : Labelled → ℕ → List (List Choice) → (ℕ → Bool) → Standing → Type 0
Unmarked = UnmarkedBy SameButNames

-- those logs are marked behind which the program can end
pub record AreMarkedBy (alike : Standing → Standing → Type 0) (program : Labelled) (n : ℕ) (logs : List (List Choice)) (marks : ℕ → Bool) : Type 0 where
  pub ends : (k : ℕ) (log : List Choice) (at : Position) → slice_get logs k ≡ Some log → after program n log ≡ Some at → marks k ≡ true
      → CanEnd program at.standing
  pub over : (k : ℕ) (log : List Choice) (at : Position) → slice_get logs k ≡ Some log → after program n log ≡ Some at → IsOver program at.standing
      → marks k ≡ true
  -- and where there is no mark each choice leads to none
  pub closed : (k : ℕ) (log : List Choice) (choice : Choice) (at : Position) → slice_get logs k ≡ Some log → marks k ≡ false
      → after program n (log ++ choice ∷ []) ≡ Some at → UnmarkedBy alike program n logs marks at.standing

abbrev pub AreMarked : Labelled → ℕ → List (List Choice) → (ℕ → Bool) → Type 0
AreMarked = AreMarkedBy SameButNames

-- the marks tell rightly: where there is none the program never ends, and each standing from which it never ends has a log without one
pub record MarksTellRightlyBy (alike : Standing → Standing → Type 0) (program : Labelled) (n : ℕ) (search : Search) (marks : ℕ → Bool) : Type 0 where
  pub sound : (k : ℕ) (log : List Choice) (at : Position) → slice_get search.logs k ≡ Some log → after program n log ≡ Some at → marks k ≡ false
      → ¬ CanEnd program at.standing
  pub whole : (choices : List Choice) (at : Position) → after program n choices ≡ Some at → ¬ CanEnd program at.standing
      → (known : KnownBy alike program n search.logs at.standing (length choices)) × (marks known.number ≡ false)

abbrev pub MarksTellRightly : Labelled → ℕ → Search → (ℕ → Bool) → Type 0
MarksTellRightly = MarksTellRightlyBy SameButNames

-- of a search that has looked at all it found
abbrev pub TheEndlessAreUnmarkedBy : (Standing → Standing → Type 0) → Type 0
TheEndlessAreUnmarkedBy alike = (program : Labelled) (n : ℕ) (search : Search) (marks : ℕ → Bool) → IsSearchBy alike program n search
    → length search.logs ≤ search.looked → AreMarkedBy alike program n search.logs marks → MarksTellRightlyBy alike program n search marks

abbrev pub TheEndlessAreUnmarked : Type 0
TheEndlessAreUnmarked = TheEndlessAreUnmarkedBy SameButNames
