-- What becomes of each path that was ever made, over every list of possible choices.
use Rattle.std.specs.Prelude.{◌≡◌, ◌↔◌, ℕ, suc, true, List, [], ◌∷◌, ◌++◌, length, Some}
use Rattle.cilk_model.specs.labelled.Labelled.{Labelled}
use Rattle.cilk_model.specs.Path.{Path}
use Rattle.cilk_model.specs.State.{is_live}
use Rattle.cilk_model.specs.Choice.{Choice}
use Rattle.cilk_model.specs.Fate.{Fate, lives, has_returned, was_delivered, was_aborted, fate_of}
use Rattle.cilk_model.specs.Run.{Position, after}

-- each choice is one event
abbrev pub EachChoiceIsAnEvent : Type 0
EachChoiceIsAnEvent = (program : Labelled) (n : ℕ) (choices : List Choice) (at : Position) → after program n choices ≡ Some at
    → length at.events ≡ length choices

-- the fate is `lives` exactly where an instance lives
abbrev pub TheLivingLive : Type 0
TheLivingLive = (program : Labelled) (n : ℕ) (choices : List Choice) (at : Position) → after program n choices ≡ Some at
    → (p : Path) → (fate_of at.events p ≡ Some lives) ↔ (is_live at.standing.state.instances p ≡ true)

-- how choice k may change a fate
pub data Moves (k : ℕ) : Fate → Fate → Type 0 where
  stays : (fate : Fate) → Moves k fate fate
  returns : Moves k lives has_returned
  is_delivered : Moves k has_returned (was_delivered k)
  is_aborted : Moves k lives (was_aborted k)

-- one choice more
abbrev pub FatesMoveOn : Type 0
FatesMoveOn = (program : Labelled) (n : ℕ) (choices : List Choice) (choice : Choice) (at next : Position)
    → after program n choices ≡ Some at → after program n (choices ++ choice ∷ []) ≡ Some next
    → (p : Path) (fate : Fate) → fate_of at.events p ≡ Some fate
    → (later : Fate) × (fate_of next.events p ≡ Some later) × Moves (suc (length choices)) fate later
